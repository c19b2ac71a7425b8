use mathlib.Core.Path.{◌≡◌, ap}
use mathlib.Core.Bool.{true}
use Prim.Native.Nat.{ℕ, ◌+◌, ◌^◌}
use mir.Syntax.{w64}
use mir.ValLaws.{to_z-of_z}
use native.Mathlib.Omega.{arith}
use Rattle.integers.specs.Sum.{sum_to, same}
use Rattle.integers.proofs.Near.{near-back}
use Rattle.integers.proofs.Tables.{grown-is, grown-none, grown-more, near-grown}
use Rattle.equations.specs.Numbers.{all_factor}
use Rattle.sums.proofs.Bounds.{some_near}
use Rattle.sums.proofs.add_all.Goals as goal

pub loop-d-init : goal.loop-d-init
loop-d-init c = grown-none _ _ _ c.requires.near.long

pub add_flow-requires-clause-near : goal.add_flow-requires-clause-near
add_flow-requires-clause-near c =
    near-grown (2 ^ 61) (2 ^ 34) 8 (2 ^ 62) c.requires.near (near-back c.args.m (2 ^ 34) c.ranges.m c.requires.small) (λ v. some_near (λ d. true) c.args.from c.loop-d.d v (omega arith)) (omega arith) c.loop-d.invariant

pub loop-d-preserved : goal.loop-d-preserved
loop-d-preserved c = grown-more _ _ c.loop-d.invariant c.add_flow.ensures

pub returns : goal.returns
unfolding all_factor
returns c =
    let e : c.loop-d.d ≡ c.args.colours = omega arith in
    grown-is (to_z-of_z w64 c.args.m c.ranges.m) (λ v l. ap (λ (k : ℕ). sum_to k (λ d. same (c.args.from + d) v)) e) c.loop-d.invariant
