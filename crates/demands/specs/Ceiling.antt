-- What is promised of a ceiling: the theorems that proofs/Ceiling.antt proves.
use Rattle.std.specs.Prelude.{◌≡◌, List, ℕ, ◌*◌, ◌≤◌, length}
use Rattle.std.specs.Prelude.{Ok}
use Rattle.cells.specs.Counts.{counts}
use Rattle.reader.specs.File.{netlist_in}
use Rattle.steps.specs.Steps.{after_steps}
use Rattle.stepping.specs.Calls.{start_verdict, state_after_start, run_verdict}
use Rattle.ceiling.specs.Ceiling.{ceiling_verdict, ceiling_value}
use Rattle.calls.specs.Calls.{Call, state_after_all}

-- No run from start puts more of that colour there: n(q,d) is at most the ceiling in the state after every list of start, step and run calls after an
-- accepted start, refused ones included, whatever is chosen;
abbrev pub CeilingHolds : Type 0
CeilingHolds = (file p : List ℕ) (q d : ℕ) → ceiling_verdict file p q d ≡ Ok tt
    → (state : List ℕ) → start_verdict file (length state) ≡ Ok tt
    → (calls : List Call) → counts (state_after_all file calls (state_after_start file state)) q d ≤ ceiling_value file p q d

-- and in each state inside an accepted run after such a list, when m of its steps are done
abbrev pub CeilingInside : Type 0
CeilingInside = (file p : List ℕ) (q d : ℕ) → ceiling_verdict file p q d ≡ Ok tt
    → (state : List ℕ) → start_verdict file (length state) ≡ Ok tt
    → (calls : List Call) (choices : List ℕ) → run_verdict file (state_after_all file calls (state_after_start file state)) choices ≡ Ok tt
    → (m : ℕ) → (netlist_in file).components * m ≤ length choices
    → counts (after_steps (netlist_in file) m choices (state_after_all file calls (state_after_start file state))) q d ≤ ceiling_value file p q d
