-- What the tests of start, step and run come to, met or not. Assumes nothing.
use Rattle.std.proofs.Common.{Ok}
use mathlib.Core.Path.{◌≡◌, refl}
use mathlib.Core.Bool.{Bool, false, not}
use mathlib.Core.List.{List, [], ◌∷◌}
use Prim.Native.Nat.{ℕ, ◌*◌, ◌%◌, ◌≤◌}
use native.Mathlib.Omega.{arith}
use lib.Dec.{ltb, eqb}
use lib.ListN.{length}
use borrow.Author.Tests.{ltb-false, eqb-true, not-false}
use Rattle.digits.proofs.Least.{least-le}
use Rattle.refusals.specs.Refusals.{test, first_refusal}
use Rattle.refusals.specs.declared.Refusal.TheVariants.{StateShort, BadState, ChoiceCount, BadChoice}
use Rattle.refusals.proofs.Refusals.{cond-accepted}
use Rattle.refusals.proofs.Room.{last-accepted}
use Rattle.netlist.specs.declared.Size.{Size}
use Rattle.netlist.specs.Netlist.{Netlist, netlist_of, row_of}
use Rattle.netlist.specs.Accepted.{AcceptedFabric}
use Rattle.cells.specs.Cells.{cell, cell_size}
use Rattle.cells.specs.Good.{good_cell, bad_component, Good}
use Rattle.cells.specs.Choices.{Allowed, choice_at, bad_choice}
use Rattle.cells.proofs.Good.{no-bad-component}
use Rattle.cells.proofs.Choices.{no-bad-choice}
use Rattle.verdicts.specs.Tests.{start_tests, step_tests, run_tests}
use Rattle.verdicts.specs.Stages.{ready_tests, Testable}

-- 21
pub start-space : (space need : ℕ) → first_refusal (test StateShort (ltb space need) ∷ []) ≡ (Ok tt) → need ≤ space
start-space space need e = ltb-false space need (cond-accepted StateShort (ltb space need) (Ok tt) e).0

-- the same of every table, so what start_verdict promises of an empty one it promises of each
pub start_any_table : (size : Size) (t : List ℕ) (space : ℕ) → first_refusal (start_tests (netlist_of size t) space) ≡ first_refusal (start_tests (netlist_of size []) space)
start_any_table size t space = refl

-- ---- 21, 22, 9 and 10
-- what none of them met gives
pub record ReadyFacts (f : Netlist) (state choices : List ℕ) (uneven : Bool) : Type 0 where
  pub good : Good f state
  pub even : uneven ≡ false
  pub allowed : bad_choice f choices ≡ length choices

pub ready-facts : (f : Netlist) (state choices : List ℕ) (uneven : Bool) → first_refusal (ready_tests f state choices uneven) ≡ (Ok tt) → ReadyFacts f state choices uneven
unfolding bad_component bad_choice
ready-facts f state choices uneven e =
    let s₁ = cond-accepted StateShort (ltb (length state) (cell_size * f.components)) _ e in
    let s₂ = cond-accepted (BadState (bad_component f state)) (ltb (bad_component f state) f.components) _ s₁.1 in
    let s₃ = cond-accepted ChoiceCount uneven _ s₂.1 in
    let s₄ = cond-accepted (BadChoice (bad_choice f choices)) (ltb (bad_choice f choices) (length choices)) (Ok tt) s₃.1 in
    let b : bad_component f state ≡ f.components = omega (arith, ltb-false (bad_component f state) f.components s₂.0, least-le (λ k. not (good_cell f.colours (row_of f k) (cell state k))) f.components) in
    let w : bad_choice f choices ≡ length choices = omega (arith, ltb-false (bad_choice f choices) (length choices) s₄.0, least-le (λ o. not (choice_at f choices o)) (length choices)) in
    record { good = no-bad-component f state (ltb-false (length state) (cell_size * f.components) s₁.0) b; even = s₃.0; allowed = w }

-- an accepted step: the state is good, the choices are allowed, and there is room for what moved
even-length : (a b : ℕ) → not (eqb a b) ≡ false → a ≡ b
even-length a b e = eqb-true a b (not-false (eqb a b) e)

module _ (f : Netlist) (state choices : List ℕ) (space : ℕ) where
  abbrev uneven : Bool
  uneven = not (eqb (length choices) f.components)

  pub step-facts : first_refusal (step_tests f state choices space) ≡ (Ok tt) → Good f state × Allowed f choices × (f.channels ≤ space)
  step-facts e =
      let q = last-accepted (ready_tests f state choices uneven) space f.channels e in
      let r = ready-facts f state choices uneven q.0 in
      (r.good, no-bad-choice f choices (even-length (length choices) f.components r.even) r.allowed, q.1)

-- an accepted run: the state is good, the choices are of whole steps, and all are allowed
pub run-facts : (f : Netlist) (state choices : List ℕ) → first_refusal (run_tests f state choices) ≡ (Ok tt)
    → Good f state × (length choices % f.components ≡ 0) × (bad_choice f choices ≡ length choices)
run-facts f state choices e =
    let r = ready-facts f state choices (not (eqb (length choices % f.components) 0)) e in
    (r.good, even-length (length choices % f.components) 0 r.even, r.allowed)

-- what a test of a state stands on, of an accepted fabric
pub testable : {f : Netlist} {ends order : List ℕ} → AcceptedFabric f ends order → Testable f
testable a = record { some = a.some_rows; few = a.few_rows; few_colours = a.few_colours }
