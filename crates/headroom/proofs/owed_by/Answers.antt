use mathlib.Core.Path.{◌≡◌, sym, ap, ap₂, ◌∙◌}
use Prim.Native.Nat.{ℕ, ◌+◌, ◌*◌, ◌^◌, ◌≤◌}
use native.Mathlib.Nat.{mul-le-mul}
use native.Mathlib.Omega.{arith}
use lib.ListN.{get_or}
use lib.IntN.{ℤ, pos, nat_abs}
use mir.Syntax.{w64}
use mir.ValLaws.{to_z-of_z}
use Rattle.integers.specs.Sign.{below_zero}
use Rattle.integers.proofs.Sign.{below-nat_abs}
use Rattle.integers.proofs.Total.{total-none, total-more}
use Rattle.headroom.proofs.owed_by.Goals as goal
use Rattle.headroom.proofs.owed_by.Goals.{After-below_zero}

-- one summand
module _ (c : After-below_zero) where
  abbrev weight : ℤ
  weight = get_or c.args.weights.now.entries.now (8 * c.args.q + c.loop-d.d) (pos 0)

  near : nat_abs weight ≤ 2 ^ 40
  near = omega (arith, c.of.ensures.near, ap nat_abs c.of.ensures.value)

  below : c.below_zero.result ≡ below_zero weight
  below = c.below_zero.ensures ∙ ap below_zero (to_z-of_z w64 c.of.result (record { sfits = c.of.type_inv }) ∙ c.of.ensures.value)

  one-le : c.below_zero.result * c.args.capacity ≤ 2 ^ 48
  one-le =
      let l : c.below_zero.result ≤ 2 ^ 40 = omega (arith, below, below-nat_abs weight, near) in
      let m : c.args.capacity ≤ 2 ^ 8 = omega (arith, c.requires) in
      omega (arith, mul-le-mul l m)

pub loop-d-init : goal.loop-d-init
loop-d-init c = (sym (total-none _), omega arith)

pub loop-d-preserved : goal.loop-d-preserved
loop-d-preserved c =
    let later = (goal.at.loop-d-preserved c).After-below_zero in
    let i = c.loop-d.invariant in
    let d = c.loop-d.d in
    let g : ℕ → ℕ = λ d. below_zero (get_or c.args.weights.now.entries.now (8 * c.args.q + d) (pos 0)) * c.args.capacity in (
      ap₂ (λ (x y : ℕ). x + y * c.args.capacity) i.0 (below later) ∙ sym (total-more d g),
      omega (arith, one-le later, i),
    )
