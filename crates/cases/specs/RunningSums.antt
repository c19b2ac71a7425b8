-- The byte sum that pack carries, as one table of inputs and expected answers.
use Rattle.std.specs.Prelude.{ℕ, ◌+◌, List, [], ◌∷◌, ◌++◌, replicate}
use Rattle.digits.specs.UpTo.{up_to}
use Rattle.refusals.specs.Refusals.{outcome_number}
use Rattle.carried.specs.Carried.{carried_sum}
use Rattle.fabric.specs.Calls.{packed, packed_into}
use Rattle.cases.specs.Rows.{row₂}
use Rattle.cases.specs.CreditLoop.{credit_file}
use Rattle.cases.specs.Table.{Case, ◌gives◌}

-- C=2, M=2: a source of colour 0 to 0; a queue 0 to 1, capacity 1, one packet of colour 1 in it; sink 1. The queue's record ends in a byte other than 0.
unfoldable pub filled_table : List ℕ
filled_table =
    row₂ 0 0 0 0 0 0 0 0 128 0 0 0
    ++ row₂ 2 0 1 0 0 0 0 0 0 1 1 1
    ++ row₂ 1 1 0 0 0 0 0 0 0 0 0 0

-- its file, by hand
unfoldable pub filled_file : List ℕ
filled_file =
    (18 ∷ 3 ∷ 2 ∷ 119 ∷ [])
    ++ (replicate 9 0 ++ 16 ∷ 0 ∷ 0 ∷ 0 ∷ [])
    ++ (64 ∷ 0 ∷ 32 ∷ replicate 8 0 ++ 130 ∷ 64 ∷ [])
    ++ (32 ∷ 32 ∷ replicate 11 0)

-- the sums carried in a file after none to so many records; pack of the table above, with this M, into so many bytes of 255
pub data Input : Type 0 where
  carried : List ℕ → ℕ → Input
  pack : ℕ → ℕ → Input

-- the sums; pack's number, and the memory after it
pub data Answer : Type 0 where
  sums : List ℕ → Answer
  memory : ℕ → List ℕ → Answer

abbrev pub answer_to : Input → Answer
answer_to (carried file n) = sums (up_to (n + 1) (carried_sum file))
answer_to (pack channels space) = memory (outcome_number (packed 2 channels filled_table space)) (packed_into 2 channels filled_table (replicate space 255))

unfoldable pub running : List (Case Input Answer)
running =
    -- header 10 06 06: 28. Then 10: 44. A0 20 40 wrap to nothing. 40 40 60 01: 13. 80 60 80 A0 wrap to nothing. 20 80: 173. 40 A0 20 01 04: 178; the check byte is 78, 4E.
    (carried credit_file 6 gives sums (28 ∷ 44 ∷ 44 ∷ 13 ∷ 13 ∷ 173 ∷ 178 ∷ []))
    -- header 12 03 02: 23. 10: 39. 40 20 82 40, its last byte among them: 73. 20 20: 137; the check byte is 119.
    ∷ (carried filled_file 3 gives sums (23 ∷ 39 ∷ 73 ∷ 137 ∷ []))
    -- 255 stood in the check byte's place, and is in no sum; two bytes behind the file stay
    ∷ (pack 2 45 gives memory 0 (filled_file ++ 255 ∷ 255 ∷ []))
    ∷ (pack 2 43 gives memory 0 filled_file)
    -- refused: nothing is laid
    ∷ (pack 2 42 gives memory 23 (replicate 42 255))
    ∷ (pack 3 43 gives memory 7 (replicate 43 255))
    ∷ []
