-- Merges that hold their pick, as one table of inputs and expected answers.
use Rattle.std.specs.Prelude.{List, [], ◌∷◌, ◌++◌, ℕ, get_or, replicate, set}
use Rattle.refusals.specs.Refusals.{outcome_number, outcome_place}
use Rattle.fabric.specs.PackedFile.{packed_file}
use Rattle.stepping.specs.Calls.{state_after_start, step_verdict, state_after_step, moves_after_step}
use Rattle.cases.specs.Rows.{row₂}
use Rattle.cases.specs.Table.{Case, ◌gives◌}

-- a source of colour 0 to 0 and one of colour 1 to 1; merge 0, 1 to 2; sink 2
unfoldable pub merged_table : List ℕ
merged_table =
    row₂ 0 0 0 0 0 0 0 0 128 0 0 0
    ++ row₂ 0 1 0 0 0 0 0 0 64 0 0 0
    ++ row₂ 7 0 1 2 0 0 0 0 0 0 0 0
    ++ row₂ 1 2 0 0 0 0 0 0 0 0 0 0

unfoldable pub merged_file : List ℕ
merged_file = packed_file 2 3 merged_table 4

-- steps with these choices, from start; one step, from start with a byte of the state set
pub data Input : Type 0 where
  steps : List (List ℕ) → Input
  changed : ℕ → ℕ → List ℕ → Input

-- number and place of the last step, what moved, then byte 0 of the two sources, of the merge and of the sink
pub data Answer : Type 0 where
  answer : ℕ → ℕ → List ℕ → List ℕ → Answer

abbrev pub at_start : List ℕ
at_start = state_after_start merged_file (replicate 256 7)

abbrev held : List ℕ → List ℕ
held state = get_or state 0 0 ∷ get_or state 64 0 ∷ get_or state 128 0 ∷ get_or state 192 0 ∷ []

abbrev stepped : List ℕ → List ℕ → Answer
stepped state choices =
    answer (outcome_number (step_verdict merged_file state choices 3)) (outcome_place (step_verdict merged_file state choices 3)) (moves_after_step merged_file state choices (replicate 3 9)) (held (state_after_step merged_file state choices 3))

abbrev stepped_all : List ℕ → List (List ℕ) → Answer
stepped_all state [] = stepped state []
stepped_all state (c ∷ []) = stepped state c
stepped_all state (c ∷ d ∷ cs) = stepped_all (state_after_step merged_file state c 3) (d ∷ cs)

abbrev pub answer_to : Input → Answer
answer_to (steps choices) = stepped_all at_start choices
answer_to (changed at byte choices) = stepped (set at_start at byte) choices

-- choices: what the sources emit, the merge's (0 A, 1 B), the sink's
abbrev pub chosen : ℕ → ℕ → ℕ → ℕ → List ℕ
chosen a b choice take = a ∷ b ∷ choice ∷ take ∷ []

abbrev nothing : List ℕ
nothing = replicate 3 0

unfoldable pub holding : List (Case Input Answer)
holding =
    -- both inputs offered, B chosen, the output not taken: B is held, and stays so over choice A until it is taken; then A's turn comes
    (steps (chosen 1 2 1 0 ∷ []) gives answer 0 0 nothing (1 ∷ 2 ∷ 2 ∷ 0 ∷ []))
    ∷ (steps (chosen 1 2 1 0 ∷ chosen 0 0 0 0 ∷ []) gives answer 0 0 nothing (1 ∷ 2 ∷ 2 ∷ 0 ∷ []))
    ∷ (steps (chosen 1 2 1 0 ∷ chosen 0 0 0 0 ∷ chosen 0 0 0 1 ∷ []) gives answer 0 0 (0 ∷ 2 ∷ 2 ∷ []) (1 ∷ 0 ∷ 0 ∷ 0 ∷ []))
    ∷ (steps (chosen 1 2 1 0 ∷ chosen 0 0 0 1 ∷ chosen 0 0 1 1 ∷ []) gives answer 0 0 (1 ∷ 0 ∷ 1 ∷ []) (0 ∷ 0 ∷ 0 ∷ 0 ∷ []))
    -- A chosen and not taken: A is held over choice B
    ∷ (steps (chosen 1 2 0 0 ∷ []) gives answer 0 0 nothing (1 ∷ 2 ∷ 1 ∷ 0 ∷ []))
    ∷ (steps (chosen 1 2 0 0 ∷ chosen 0 0 1 1 ∷ []) gives answer 0 0 (1 ∷ 0 ∷ 1 ∷ []) (0 ∷ 2 ∷ 0 ∷ 0 ∷ []))
    -- A the only one offered: its pick too is held, when B comes and is chosen
    ∷ (steps (chosen 1 0 1 0 ∷ []) gives answer 0 0 nothing (1 ∷ 0 ∷ 1 ∷ 0 ∷ []))
    ∷ (steps (chosen 1 0 1 0 ∷ chosen 0 2 1 1 ∷ []) gives answer 0 0 (1 ∷ 0 ∷ 1 ∷ []) (0 ∷ 2 ∷ 0 ∷ 0 ∷ []))
    -- taken at once: nothing is held
    ∷ (steps (chosen 1 2 1 1 ∷ []) gives answer 0 0 (0 ∷ 2 ∷ 2 ∷ []) (1 ∷ 0 ∷ 0 ∷ 0 ∷ []))
    -- A held but not offered: the one offered is picked, and byte 0 goes by this step alone
    ∷ (changed 128 1 (chosen 0 2 0 1) gives answer 0 0 (0 ∷ 2 ∷ 2 ∷ []) (0 ∷ 0 ∷ 0 ∷ 0 ∷ []))
    ∷ (changed 128 1 (chosen 0 2 0 0) gives answer 0 0 nothing (0 ∷ 2 ∷ 2 ∷ 0 ∷ []))
    ∷ (changed 128 2 (chosen 0 0 1 0) gives answer 0 0 nothing (0 ∷ 0 ∷ 0 ∷ 0 ∷ []))
    -- byte 0 above 2, another byte of the merge: 22, place 2. The choice of a holding merge is still 0 or 1: 10, place 2.
    ∷ (changed 128 3 (chosen 0 0 0 0) gives answer 22 2 (replicate 3 9) (0 ∷ 0 ∷ 3 ∷ 0 ∷ []))
    ∷ (changed 129 1 (chosen 0 0 0 0) gives answer 22 2 (replicate 3 9) (0 ∷ 0 ∷ 0 ∷ 0 ∷ []))
    ∷ (changed 128 2 (chosen 0 0 2 0) gives answer 10 2 (replicate 3 9) (0 ∷ 0 ∷ 2 ∷ 0 ∷ []))
    ∷ []
