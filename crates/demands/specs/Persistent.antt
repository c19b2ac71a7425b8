-- What is promised of merges that hold their pick: the theorems that proofs/Persistent.antt proves.
use Rattle.std.specs.Prelude.{◌≡◌, List, ℕ, ◌<◌, length}
use Rattle.refusals.specs.Refusals.{first_refusal}
use Rattle.std.specs.Prelude.{Ok}
use Rattle.reader.specs.File.{netlist_in, file_tests}
use Rattle.cells.specs.Good.{Good}
use Rattle.cells.specs.Choices.{Allowed}
use Rattle.signals.specs.Signals.{value}
use Rattle.state.specs.Step.{next}
use Rattle.persistence.specs.Persistent.{Stays}
use Rattle.persistence.specs.Held.{HeldOffered}
use Rattle.stepping.specs.Calls.{start_verdict, state_after_start}
use Rattle.calls.specs.Calls.{Call, state_after_all}

-- Channels are persistent, for every accepted fabric, good state and any two allowed lists of choices in a row: on each channel an offer that was not
-- taken is offered with the same colour in the next step, and a take without an offer is there in the next step. Of the second list nothing is asked.
abbrev pub Persistent : Type 0
Persistent = (file state choices later : List ℕ) → first_refusal (file_tests file) ≡ Ok tt → Good (netlist_in file) state → Allowed (netlist_in file) choices
    → (x : ℕ) → x < (netlist_in file).channels → Stays (value (netlist_in file) state choices) (value (netlist_in file) (next (netlist_in file) state choices) later) x

-- So the input that a merge holds is always offered, from start on: after every list of calls after an accepted start, whatever is chosen then.
abbrev pub HeldAlwaysOffered : Type 0
HeldAlwaysOffered = (file state : List ℕ) → start_verdict file (length state) ≡ Ok tt → (calls : List Call)
    → HeldOffered (netlist_in file) (state_after_all file calls (state_after_start file state))
