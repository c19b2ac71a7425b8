-- Ceilings, as one table of inputs and expected answers.
use Rattle.std.specs.Prelude.{List, [], ◌∷◌, ◌++◌, ℕ, ◌+◌}
use Rattle.refusals.specs.Refusals.{outcome_number, outcome_place}
use Rattle.fabric.specs.PackedFile.{packed_file}
use Rattle.ceiling.specs.Ceiling.{ceiling_verdict, ceiling_value}
use Rattle.cases.specs.Rows.{line, term}
use Rattle.cases.specs.Table.{Case, ◌gives◌}
use Rattle.cases.specs.CreditLoop.{credit_file}
use Rattle.cases.specs.EightKinds.{eight_file}
use Rattle.cases.specs.ColourSets.{through_file}

-- -1 in two's complement of 21 bits
abbrev minus_one : ℕ
minus_one = 2097151

-- the sum of a credit loop whose first component is k, m times
abbrev loop_sum : ℕ → ℕ → List ℕ
loop_sum k m = term (k + 2) 0 m ++ term (k + 5) 0 m ++ term (k + 1) 0 m ++ term (k + 1) 8 m ++ term (k + 3) 8 m

-- two credit loops: capacity 5 in queue 2, filling 2 in queue 5; capacity 2 in queue 8, filling 1 in queue 11
unfoldable pub two_loops : List ℕ
two_loops =
    line 0 0 0 0 128 0 0 ++ line 5 0 1 2 0 0 0 ++ line 2 2 3 0 0 5 0 ++ line 4 3 4 5 0 0 0 ++ line 1 4 0 0 0 0 0 ++ line 2 5 1 0 0 2 2
    ++ line 0 6 0 0 128 0 0 ++ line 5 6 7 8 0 0 0 ++ line 2 8 9 0 0 2 0 ++ line 4 9 10 11 0 0 0 ++ line 1 10 0 0 0 0 0 ++ line 2 11 7 0 0 2 1

unfoldable pub two_file : List ℕ
two_file = packed_file 1 12 two_loops 12

-- all of queue 5 less all of queue 6, in the fabric of all eight kinds
abbrev difference : List ℕ
difference =
    term 5 0 1 ++ term 5 1 1 ++ term 6 0 minus_one ++ term 6 1 minus_one ++ term 7 8 minus_one ++ term 4 0 1 ++ term 4 1 1 ++ term 4 8 minus_one ++ term 4 9 minus_one

-- file, proposal, queue and colour; number, place and ceiling
pub data Input : Type 0 where
  place : List ℕ → List ℕ → ℕ → ℕ → Input

pub data Answer : Type 0 where
  answer : ℕ → ℕ → ℕ → Answer

abbrev pub answer_to : Input → Answer
answer_to (place file p q d) = answer (outcome_number (ceiling_verdict file p q d)) (outcome_place (ceiling_verdict file p q d)) (ceiling_value file p q d)

unfoldable pub ceilings : List (Case Input Answer)
ceilings =
    -- K is 2, the weight 1, the capacity 2
    (place credit_file (loop_sum 0 1) 2 0 gives answer 0 0 2)
    -- below the capacity of 5
    ∷ (place two_file (loop_sum 0 1) 2 0 gives answer 0 0 2)
    -- K is 2 times 2 plus 1, the weight 2: 5 by 2, rounded down
    ∷ (place two_file (loop_sum 0 2 ++ loop_sum 6 1) 2 0 gives answer 0 0 2)
    -- K is -1; two weights of -1 in a queue of capacity 2 add 4
    ∷ (place eight_file difference 5 1 gives answer 0 0 3)
    -- no packet of colour 1 comes that way: K is 0, the weight 7
    ∷ (place (through_file 128 0) (term 1 1 7) 1 1 gives answer 0 0 0)
    -- 13 and 14 come first
    ∷ (place credit_file (term 2 0 1) 0 0 gives answer 13 16 0)
    ∷ (place credit_file [] 0 0 gives answer 14 0 0)
    -- 31: a source, a component from N on, a colour from C on
    ∷ (place credit_file (loop_sum 0 1) 0 0 gives answer 31 0 0)
    ∷ (place credit_file (loop_sum 0 1) 258 0 gives answer 31 0 0)
    ∷ (place credit_file (loop_sum 0 minus_one) 2 1 gives answer 31 0 0)
    -- 32: a weight of 0, a weight below 0
    ∷ (place two_file (loop_sum 0 1) 8 0 gives answer 32 0 0)
    ∷ (place eight_file difference 6 1 gives answer 32 0 0)
    ∷ []
