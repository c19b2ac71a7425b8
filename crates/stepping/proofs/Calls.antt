-- What each call leaves in lent memory, refused or not; what an accepted one shows. Assumes nothing.
use Rattle.std.proofs.Common.{Result, Ok}
use Rattle.refusals.specs.declared.Refusal.{Refusal}
use mathlib.Core.Path.{◌≡◌, ap}
use mathlib.Core.List.{List}
use Prim.Native.Nat.{ℕ, ◌*◌, ◌≤◌}
use lib.ListN.{length}
use Rattle.refusals.specs.Refusals.{first_refusal, kept}
use Rattle.reader.specs.File.{netlist_in, file_tests}
use Rattle.reader.proofs.Opened.{after-file}
use Rattle.cells.specs.Choices.{Allowed, bad_choice}
use Rattle.cells.specs.Start.{started}
use Rattle.cells.specs.Cells.{cell_size}
use Rattle.verdicts.specs.Tests.{start_tests, step_tests, run_tests}
use Rattle.verdicts.proofs.Tests.{start-space, step-facts, run-facts}
use Rattle.stepping.specs.Calls.{start_verdict, state_after_start, step_verdict, run_verdict}

-- ---- what an accepted call shows
pub started-file : (file : List ℕ) (space : ℕ) → start_verdict file space ≡ (Ok tt) → (first_refusal (file_tests file) ≡ (Ok tt)) × (cell_size * (netlist_in file).components ≤ space)
unfolding start_verdict
started-file file space e =
    let q = after-file file (start_tests (netlist_in file) space) e in
    (q.0, start-space space (cell_size * (netlist_in file).components) q.1)

pub start-writes : (file state : List ℕ) → start_verdict file (length state) ≡ (Ok tt) → state_after_start file state ≡ started (netlist_in file) state
unfolding state_after_start
start-writes file state e = ap (λ (v : Result Unit Refusal). kept v (started (netlist_in file) state) state) e

module _ (file state choices : List ℕ) where
  pub step-allowed : (space : ℕ) → step_verdict file state choices space ≡ (Ok tt) → Allowed (netlist_in file) choices
  unfolding step_verdict
  step-allowed space e = (step-facts (netlist_in file) state choices space (after-file file (step_tests (netlist_in file) state choices space) e).1).1

  pub run-allowed : run_verdict file state choices ≡ (Ok tt) → bad_choice (netlist_in file) choices ≡ length choices
  unfolding run_verdict
  run-allowed e = (run-facts (netlist_in file) state choices (after-file file (run_tests (netlist_in file) state choices) e).1).2
