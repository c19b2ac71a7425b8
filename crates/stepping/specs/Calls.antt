-- start, step and run as functions of the bytes lent to them.
use Rattle.std.specs.Prelude.{Result}
use Rattle.refusals.specs.declared.Refusal.{Refusal}
use Rattle.std.specs.Prelude.{List, ◌++◌, ℕ, ◌/◌, length, drop}
use Rattle.refusals.specs.Refusals.{first_refusal, kept}
use Rattle.netlist.specs.Netlist.{Netlist}
use Rattle.reader.specs.File.{netlist_in, file_tests}
use Rattle.cells.specs.Start.{started}
use Rattle.signals.specs.Signals.{moves}
use Rattle.state.specs.Step.{next}
use Rattle.verdicts.specs.Tests.{start_tests, step_tests, run_tests}
use Rattle.steps.specs.Steps.{after_steps}

-- The tests of each call follow those of its file, 1-8.
-- ---- start 1-8, 21
unfoldable pub start_verdict : List ℕ → ℕ → Result Unit Refusal
start_verdict file space = first_refusal (file_tests file ++ start_tests (netlist_in file) space)

unfoldable pub state_after_start : List ℕ → List ℕ → List ℕ
state_after_start file state = kept (start_verdict file (length state)) (started (netlist_in file) state) state

-- ---- step 1-8, 21, 22, 9, 10, 23
unfoldable pub step_verdict : List ℕ → List ℕ → List ℕ → ℕ → Result Unit Refusal
step_verdict file state choices space = first_refusal (file_tests file ++ step_tests (netlist_in file) state choices space)

unfoldable pub state_after_step : List ℕ → List ℕ → List ℕ → ℕ → List ℕ
state_after_step file state choices space = kept (step_verdict file state choices space) (next (netlist_in file) state choices) state

-- Step writes M bytes.
unfoldable pub moves_after_step : List ℕ → List ℕ → List ℕ → List ℕ → List ℕ
moves_after_step file state choices out =
    let f : Netlist = netlist_in file in
    kept (step_verdict file state choices (length out)) (moves f state choices ++ drop f.channels out) out

-- ---- run the same without 23
unfoldable pub run_verdict : List ℕ → List ℕ → List ℕ → Result Unit Refusal
run_verdict file state choices = first_refusal (file_tests file ++ run_tests (netlist_in file) state choices)

-- Run takes whole steps' choices in a row, none included, checks all first, and writes only the state.
unfoldable pub state_after_run : List ℕ → List ℕ → List ℕ → List ℕ
state_after_run file state choices =
    let f : Netlist = netlist_in file in
    kept (run_verdict file state choices) (after_steps f (length choices / f.components) choices state) state
