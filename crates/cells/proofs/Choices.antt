-- What allowed choices say of a component, and which choices have no bad one. Assumes nothing.
use mathlib.Core.Path.{◌≡◌, ap, ◌∙◌}
use mathlib.Core.Bool.{true, not}
use mathlib.Core.List.{List}
use Prim.Native.Nat.{ℕ, suc, ◌+◌, ◌*◌, ◌/◌, ◌%◌, ◌≤◌, ◌<◌}
use native.Mathlib.Omega.{arith}
use native.Mathlib.Nat.{mod-eq_of_lt, mod-lt, mul-add-mod_self_left, mul-suc, mul-le-mul, div-add-mod, lt_of_mul-lt-mul_left}
use lib.ListN.{length, get_or, drop, length-take, length-drop}
use lib.Seq.{get_or-drop, get_or-take}
use borrow.Author.Tests.{not-false}
use Rattle.digits.proofs.Least.{least-none, least-before}
use Rattle.component.specs.declared.kinds.Kind.TheVariants.{Source}
use Rattle.component.specs.Row.{kind}
use Rattle.netlist.specs.Netlist.{Netlist, row_of}
use Rattle.cells.specs.Choices.{good_choice, Allowed, step_choices, choice_at, bad_choice}
use Rattle.cells.specs.Good.{emitted}

pub source-choice : (f : Netlist) (choices : List ℕ) → Allowed f choices → (k : ℕ) → k < f.components → kind (row_of f k) ≡ Source → emitted (row_of f k) (get_or choices k 0) ≡ true
unfolding good_choice
source-choice f choices o k h e = rw e at (o.each k h)

module _ (f : Netlist) (choices : List ℕ) where
  -- the choices of all steps are allowed exactly if none of them is bad
  all-allowed : bad_choice f choices ≡ length choices → (o : ℕ) → o < length choices → choice_at f choices o ≡ true
  unfolding bad_choice
  all-allowed e o h = not-false _ (least-before (λ o. not (choice_at f choices o)) (length choices) o (rw e h))

  none-bad : ((o : ℕ) → o < length choices → choice_at f choices o ≡ true) → bad_choice f choices ≡ length choices
  unfolding bad_choice
  none-bad each = least-none (λ o. not (choice_at f choices o)) (length choices) (λ o h. ap not (each o h))

  -- one step's
  pub no-bad-choice : length choices ≡ f.components → bad_choice f choices ≡ length choices → Allowed f choices
  unfolding choice_at
  no-bad-choice l e = record {
    long = l;
    each = λ k h.
        let m : k % f.components ≡ k = mod-eq_of_lt h in
        rw m at (all-allowed e k (omega arith));
  }

  pub allowed-no-bad : Allowed f choices → bad_choice f choices ≡ length choices
  unfolding choice_at
  allowed-no-bad a = none-bad (λ o h.
      let k : o < f.components = omega (arith, a.long) in
      let m : o % f.components ≡ o = mod-eq_of_lt k in
      rw m (a.each o k))

  -- whole steps'
  step_fits : (j : ℕ) → j < length choices / f.components → f.components * j + f.components ≤ length choices
  step_fits j h =
      let k : f.components ≤ f.components = omega arith in
      let m : f.components * suc j ≤ f.components * (length choices / f.components) = mul-le-mul k h in
      omega (arith, m, mul-suc f.components j, div-add-mod (length choices) f.components)

  step-at : (j k : ℕ) → k < f.components → get_or (step_choices f choices j) k 0 ≡ get_or choices (f.components * j + k) 0
  step-at j k l = get_or-take f.components (drop (f.components * j) choices) k 0 l ∙ get_or-drop (f.components * j) choices k 0

  pub no-bad-step : bad_choice f choices ≡ length choices → (j : ℕ) → j < length choices / f.components → Allowed f (step_choices f choices j)
  unfolding choice_at
  no-bad-step e j h = record {
    long = simp (length-take, length-drop) (omega (arith, step_fits j h));
    each = λ k l.
        let o : f.components * j + k < length choices = omega (arith, step_fits j h) in
        let m : (f.components * j + k) % f.components ≡ k = mul-add-mod_self_left f.components j k ∙ mod-eq_of_lt l in
        rw (step-at j k l) (rw m at (all-allowed e (f.components * j + k) o));
  }

  pub steps-no-bad : 0 < f.components → length choices % f.components ≡ 0 →
      ((j : ℕ) → j < length choices / f.components → Allowed f (step_choices f choices j)) → bad_choice f choices ≡ length choices
  unfolding choice_at
  steps-no-bad some whole each = none-bad (λ o h.
      let n : ℕ = f.components in
      let k : o % n < n = mod-lt o some in
      let e : n * (o / n) + o % n ≡ o = div-add-mod o n in
      let d : n * (length choices / n) ≡ length choices = omega (arith, div-add-mod (length choices) n) in
      let j : o / n < length choices / n = lt_of_mul-lt-mul_left n (omega (arith, d, e)) in
      rw (step-at (o / n) (o % n) k, e) at ((each (o / n) j).each (o % n) k))
