-- What a step and a run stand on, given where no test is met. Assumes nothing.
use Rattle.std.proofs.Common.{Result, Ok}
use Rattle.refusals.specs.declared.Refusal.{Refusal}
use mathlib.Core.Path.{◌≡◌, sym, ◌∙◌}
use mathlib.Core.List.{List}
use Prim.Native.Nat.{ℕ, ◌≤◌}
use Rattle.refusals.specs.Refusals.{first_refusal}
use Rattle.netlist.specs.Netlist.{Netlist}
use Rattle.netlist.specs.Accepted.{AcceptedFabric}
use Rattle.state.specs.Step.{CanStep}
use Rattle.verdicts.specs.Tests.{step_tests, run_tests}
use Rattle.verdicts.proofs.Tests.{step-facts, run-facts}
use Rattle.steps.specs.Stages.{Runs}

module _ {f : Netlist} {ends order : List ℕ} (state choices : List ℕ) (a : AcceptedFabric f ends order) {v : Result Unit Refusal} where
  pub can-step : (space : ℕ) → v ≡ first_refusal (step_tests f state choices space) → v ≡ (Ok tt) → CanStep f ends order state choices × (f.channels ≤ space)
  can-step space is e = let s = step-facts f state choices space (sym is ∙ e) in (record { accepted = a; good = s.0; allowed = s.1 }, s.2)

  pub can-run : v ≡ first_refusal (run_tests f state choices) → v ≡ (Ok tt) → Runs f ends order state choices
  can-run is e = let s = run-facts f state choices (sym is ∙ e) in record { accepted = a; good = s.0; whole = s.1; allowed = s.2 }
