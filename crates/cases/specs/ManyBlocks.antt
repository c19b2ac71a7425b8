-- Files of blocks for the credit loop, as one table of inputs and expected answers.
use Rattle.std.specs.Prelude.{List, [], ◌∷◌, ◌++◌, ℕ, ◌/◌, replicate, ℤ, pos}
use Rattle.refusals.specs.Refusals.{outcome_number, outcome_place}
use Rattle.many.specs.Many.{many_verdict, table_after_many, bytes_after_many}
use Rattle.cases.specs.Table.{Case, ◌gives◌}
use Rattle.cases.specs.CreditLoop.{credit_file}
use Rattle.cases.specs.Starred.{four, five}

-- a file of blocks, and so many entries of 7, or bytes of 7, lent for the results
pub data Input : Type 0 where
  entries : List ℕ → ℕ → Input
  bytes : List ℕ → ℕ → Input

-- number and place of the call, and the lent memory after it
pub data Answer : Type 0 where
  table : ℕ → ℕ → List ℤ → Answer
  memory : ℕ → ℕ → List ℕ → Answer

abbrev pub answer_to : Input → Answer
answer_to (entries file n) = table (outcome_number (many_verdict credit_file file n)) (outcome_place (many_verdict credit_file file n)) (table_after_many credit_file file (replicate n (pos 7)))
answer_to (bytes file n) = memory (outcome_number (many_verdict credit_file file (n / 8))) (outcome_place (many_verdict credit_file file (n / 8))) (bytes_after_many credit_file file (replicate n 7))

-- a block of n terms, n below 256
abbrev block : ℕ → List ℕ → List ℕ
block n p = 0 ∷ n ∷ p

-- the result of a refused block: number, place, K and 48 weights of 0
abbrev refused : ℕ → ℕ → List ℤ
refused number place = pos number ∷ pos place ∷ replicate 49 (pos 0)

-- the result of the five terms: Q 2 0 1, Q 5 0 1, SUM 2
abbrev sum : List ℤ
sum = pos 0 ∷ pos 0 ∷ pos 2 ∷ replicate 16 (pos 0) ++ (pos 1 ∷ replicate 23 (pos 0) ++ (pos 1 ∷ replicate 7 (pos 0)))

unfoldable pub many_blocks : List (Case Input Answer)
many_blocks =
    -- no blocks: accepted, nothing written
    (entries [] 1 gives table 0 0 (pos 7 ∷ []))
    -- refused blocks between accepted ones: without terms 14, the first four terms 13 at 24, a term (0,0,1) behind a good one 12 at 1; an entry past the results is kept
    ∷ (entries (block 5 five ++ block 0 [] ++ block 4 four ++ block 2 (4 ∷ 0 ∷ 0 ∷ 1 ∷ 0 ∷ 0 ∷ 0 ∷ 1 ∷ []) ++ block 5 five) 256
    gives table 0 0 (sum ++ (refused 14 0 ++ (refused 13 24 ++ (refused 12 1 ++ (sum ++ (pos 7 ∷ [])))))))
    -- high byte first: 256 terms (0,0,0), which name no equation
    ∷ (entries (1 ∷ 0 ∷ replicate 1024 0) 51 gives table 0 0 (refused 12 0))
    -- 23: an entry less than all results; 64 blocks are not too many, 65 are
    ∷ (entries (block 5 five) 50 gives table 23 0 (replicate 50 (pos 7)))
    ∷ (entries (replicate 128 0) 1 gives table 23 0 (pos 7 ∷ []))
    ∷ (entries (replicate 130 0) 1 gives table 33 0 (pos 7 ∷ []))
    -- 33: a byte short, a byte too many, half a count; it comes before 23
    ∷ (entries (0 ∷ 5 ∷ four ++ (7 ∷ 0 ∷ 0 ∷ [])) 51 gives table 33 0 (replicate 51 (pos 7)))
    ∷ (entries (block 5 five ++ (0 ∷ [])) 0 gives table 33 0 [])
    -- 33: a count of 4,097, whatever follows
    ∷ (entries (16 ∷ 1 ∷ []) 51 gives table 33 0 (replicate 51 (pos 7)))
    -- through C, 8 bytes an entry: a byte less than all of them is 23
    ∷ (bytes (block 0 []) 409 gives memory 0 0 (14 ∷ replicate 407 0 ++ (7 ∷ [])))
    ∷ (bytes (block 0 []) 407 gives memory 23 0 (replicate 407 7))
    ∷ []
