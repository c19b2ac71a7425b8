-- The cases marked * under 'The credit loop', as one table of inputs and expected answers.
use Rattle.std.specs.Prelude.{List, [], ◌∷◌, ◌++◌, ℕ, get_or, replicate, set, ℤ, pos}
use Rattle.refusals.specs.Refusals.{outcome_number, outcome_place}
use Rattle.std.specs.Prelude.{Result}
use Rattle.refusals.specs.declared.Refusal.{Refusal}
use Rattle.fabric.specs.Calls.{packed}
use Rattle.cells.specs.Counts.{counts}
use Rattle.stepping.specs.Calls.{state_after_start, step_verdict, state_after_step, moves_after_step}
use Rattle.checking.specs.Check.{check_verdict, check_constant, weights_after_check}
use Rattle.lines.specs.Decimal.{digit}
use Rattle.lines.specs.Listing.{listing}
use Rattle.cases.specs.Table.{Case, ◌gives◌}
use Rattle.cases.specs.CreditLoop.{credit_file, fork_into_join}

-- check with these terms; the listing with them; steps with these choices, from start; a step without any, from start with a byte of the state set; pack of a table
pub data Input : Type 0 where
  terms : List ℕ → Input
  lists : List ℕ → Input
  steps : List (List ℕ) → Input
  changed : ℕ → ℕ → Input
  table : ℕ → List ℕ → Input

-- number and place of the last call; of check K, then the weights; of a step what moved, then the counts of queues 2 and 5, then the first
-- bytes of the source and of the sink; or the text of a listing
pub data Answer : Type 0 where
  answer : ℕ → ℕ → List ℤ → List ℕ → List ℕ → Answer
  prints : List ℕ → Answer

abbrev saying : (Result Unit Refusal) → List ℤ → List ℕ → List ℕ → Answer
saying v = answer (outcome_number v) (outcome_place v)

-- what check leaves in 48 entries, and in front of them K
abbrev checked : List ℕ → Answer
checked p = saying (check_verdict credit_file p 48) (check_constant credit_file p 48 ∷ weights_after_check credit_file p (replicate 48 (pos 0))) [] []

abbrev seen : List ℕ → List ℕ
seen state = counts state 2 0 ∷ counts state 5 0 ∷ get_or state 0 0 ∷ get_or state 256 0 ∷ []

abbrev stepped : List ℕ → List ℕ → Answer
stepped state choices =
    saying (step_verdict credit_file state choices 6) [] (moves_after_step credit_file state choices (replicate 6 9)) (seen (state_after_step credit_file state choices 6))

abbrev stepped_all : List ℕ → List (List ℕ) → Answer
stepped_all state [] = stepped state []
stepped_all state (c ∷ []) = stepped state c
stepped_all state (c ∷ d ∷ cs) = stepped_all (state_after_step credit_file state c 6) (d ∷ cs)

abbrev at_start : List ℕ
at_start = state_after_start credit_file (replicate 384 7)

abbrev pub answer_to : Input → Answer
answer_to (terms p) = checked p
answer_to (lists p) = prints (listing credit_file p)
answer_to (steps choices) = stepped_all at_start choices
answer_to (changed at byte) = stepped (set at_start at byte) (replicate 6 0)
answer_to (table channels rows) = saying (packed 1 channels rows 1000) [] [] []

-- Terms hex 04000001, 0A000001, 02000001, 03000001, 07000001.
abbrev pub four : List ℕ
four = 4 ∷ 0 ∷ 0 ∷ 1 ∷ 10 ∷ 0 ∷ 0 ∷ 1 ∷ 2 ∷ 0 ∷ 0 ∷ 1 ∷ 3 ∷ 0 ∷ 0 ∷ 1 ∷ []

abbrev source_on : List ℕ
source_on = 1 ∷ 0 ∷ 0 ∷ 0 ∷ 0 ∷ 0 ∷ []

abbrev pub five : List ℕ
five = four ++ 7 ∷ 0 ∷ 0 ∷ 1 ∷ []

abbrev zeros : ℕ → List ℤ
zeros n = replicate n (pos 0)

-- `Q q 0 1` and a newline, for q below 10
abbrev line : ℕ → List ℕ
line q = 81 ∷ 32 ∷ digit q ∷ 32 ∷ digit 0 ∷ 32 ∷ digit 1 ∷ 10 ∷ []

-- `SUM k` and a newline, for k below 10
abbrev sum : ℕ → List ℕ
sum k = 83 ∷ 85 ∷ 77 ∷ 32 ∷ digit k ∷ 10 ∷ []

unfoldable pub starred : List (Case Input Answer)
starred =
    -- The listing prints Q 2 0 1, Q 5 0 1, SUM 2.
    (lists five gives prints (line 2 ++ line 5 ++ sum 2))
    ∷ (terms five gives answer 0 0 (pos 2 ∷ zeros 16 ++ (pos 1 ∷ zeros 23 ++ (pos 1 ∷ zeros 7))) [] [])
    -- Without the last term: 13, place 24. No terms: 14. Term (0,0,1) alone: 12, place 0.
    ∷ (terms four gives answer 13 24 (zeros 49) [] [])
    ∷ (terms [] gives answer 14 0 (zeros 49) [] [])
    ∷ (terms (0 ∷ 0 ∷ 0 ∷ 1 ∷ []) gives answer 12 0 (zeros 49) [] [])
    -- From start, choices 1 0 0 0 0 0: moved 1 1 1 0 0 0, counts 1 and 1. Again, the same move: counts 2 and 0. A third time: nothing moves, the source holds.
    ∷ (steps (source_on ∷ []) gives answer 0 0 [] (1 ∷ 1 ∷ 1 ∷ 0 ∷ 0 ∷ 0 ∷ []) (1 ∷ 1 ∷ 0 ∷ 0 ∷ []))
    ∷ (steps (source_on ∷ source_on ∷ []) gives answer 0 0 [] (1 ∷ 1 ∷ 1 ∷ 0 ∷ 0 ∷ 0 ∷ []) (2 ∷ 0 ∷ 0 ∷ 0 ∷ []))
    ∷ (steps (source_on ∷ source_on ∷ source_on ∷ []) gives answer 0 0 [] (replicate 6 0) (2 ∷ 0 ∷ 1 ∷ 0 ∷ []))
    -- From start, 0 0 0 0 1 0: nothing moves, the sink holds. Choice 2 for the source: 10, place 0.
    ∷ (steps ((0 ∷ 0 ∷ 0 ∷ 0 ∷ 1 ∷ 0 ∷ []) ∷ []) gives answer 0 0 [] (replicate 6 0) (0 ∷ 2 ∷ 0 ∷ 1 ∷ []))
    ∷ (steps ((2 ∷ 0 ∷ 0 ∷ 0 ∷ 0 ∷ 0 ∷ []) ∷ []) gives answer 10 0 [] (replicate 6 9) (0 ∷ 2 ∷ 0 ∷ 0 ∷ []))
    -- Count 3 in component 2: 22, place 2.
    ∷ (changed 128 3 gives answer 22 2 [] (replicate 6 9) (3 ∷ 2 ∷ 0 ∷ 0 ∷ []))
    -- A fork whose outputs are the two inputs of one join: 8.
    ∷ (table 4 fork_into_join gives answer 8 0 [] [] [])
    ∷ []
