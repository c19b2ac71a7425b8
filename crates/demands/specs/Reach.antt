-- What is promised of the colour sets: the theorems that proofs/Reach.antt proves.
use Rattle.std.specs.Prelude.{◌≡◌, ◌↔◌, Bool, true, List, ℕ, suc, ◌/◌, ◌<◌, length, get_or}
use Rattle.refusals.specs.Refusals.{first_refusal}
use Rattle.std.specs.Prelude.{Ok}
use Rattle.component.specs.Row.{has_colour}
use Rattle.reach.specs.Reaches.{Reaches}
use Rattle.reach.specs.Rounds.{reachable, Closed}
use Rattle.reader.specs.File.{netlist_in, file_tests}
use Rattle.cells.specs.Choices.{step_choices}
use Rattle.signals.specs.Signals.{moved}
use Rattle.steps.specs.Steps.{after_steps}
use Rattle.stepping.specs.Calls.{start_verdict, state_after_start, step_verdict, moves_after_step, run_verdict}
use Rattle.reaching.specs.Reach.{reach_verdict, sets_after_reach}
use Rattle.calls.specs.Calls.{Call, state_after_all}

-- The smallest colour sets closed under the sentences (reach/specs/Reaches.antt): of every accepted file, colour d is in the set of channel x exactly if the
-- rounds come to it; what they come to is closed, and lies inside all sets that are.
abbrev pub SmallestSets : Type 0
SmallestSets = (file : List ℕ) → first_refusal (file_tests file) ≡ Ok tt
    → ((x d : ℕ) → x < (netlist_in file).channels → Reaches (netlist_in file) x d ↔ (reachable (netlist_in file) x d ≡ true))
    × Closed (netlist_in file) (reachable (netlist_in file))
    × ((s : ℕ → ℕ → Bool) → Closed (netlist_in file) s → (x d : ℕ) → x < (netlist_in file).channels → reachable (netlist_in file) x d ≡ true → s x d ≡ true)

-- The list is M mask bytes, colour 0 the highest bit: so they are read from what reach wrote, and no bit is of a colour from C on.
abbrev pub SetsRead : Type 0
SetsRead = (file bytes : List ℕ) → reach_verdict file (length bytes) ≡ Ok tt → (x d : ℕ) → x < (netlist_in file).channels → d < 8
    → (has_colour (get_or (sets_after_reach file bytes) x 0) d ≡ true) ↔ ((d < (netlist_in file).colours) × Reaches (netlist_in file) x d)

-- No run from start moves a colour outside its set: after every list of start, step and run calls after an accepted start, refused ones included, a further
-- step that is accepted writes 1 + d as the byte of a channel only if d is in its set;
abbrev pub MovesInside : Type 0
MovesInside = (file state : List ℕ) → start_verdict file (length state) ≡ Ok tt
    → (calls : List Call) (choices out : List ℕ) → step_verdict file (state_after_all file calls (state_after_start file state)) choices (length out) ≡ Ok tt
    → (x d : ℕ) → x < (netlist_in file).channels → get_or (moves_after_step file (state_after_all file calls (state_after_start file state)) choices out) x 0 ≡ suc d → Reaches (netlist_in file) x d

-- and each step inside an accepted run after such a list moves d on a channel only if d is in its set: step m of the run, from 0, is made in the state in which m of
-- its steps are done
abbrev pub MovesInsideRun : Type 0
MovesInsideRun = (file state : List ℕ) → start_verdict file (length state) ≡ Ok tt
    → (calls : List Call) (choices : List ℕ) → run_verdict file (state_after_all file calls (state_after_start file state)) choices ≡ Ok tt
    → (m : ℕ) → m < length choices / (netlist_in file).components → (x d : ℕ) → x < (netlist_in file).channels
    → moved (netlist_in file) (after_steps (netlist_in file) m choices (state_after_all file calls (state_after_start file state))) (step_choices (netlist_in file) choices m) x ≡ suc d → Reaches (netlist_in file) x d
