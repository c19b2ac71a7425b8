use mathlib.Core.Path.{◌≡◌, refl, ap, sym, ◌∙◌}
use mathlib.Core.Bool.{cond}
use Prim.Native.Nat.{ℕ, ◌+◌, ◌^◌}
use lib.IntN.{pos}
use mir.Syntax.{w64}
use mir.Val.{to_z, of_z}
use mir.ValLaws.{to_z-of_z}
use lib.Dec.{eqb}
use borrow.Author.Tests.{eq-eqb, ne_eqb}
use native.Mathlib.Omega.{arith}
use Rattle.integers.specs.Sum.{sum_to, same}
use Rattle.integers.proofs.Near.{near-back}
use Rattle.integers.proofs.Tables.{grown-is, grown-none, grown-more, near-grown, grown-if}
use Rattle.record.specs.Table.{row}
use Rattle.component.specs.Row.{map_of}
use Rattle.equations.specs.Numbers.{mapped_factor}
use Rattle.sums.proofs.Bounds.{some_near}
use Rattle.sums.proofs.add_mapped.Goals as goal
use Rattle.sums.proofs.add_mapped.Goals.{then-map_of-to, else-map_of-to}

pub loop-d-init : goal.loop-d-init
loop-d-init c = grown-none _ _ _ c.requires.near.long

pub add_flow-requires-clause-near : goal.add_flow-requires-clause-near
add_flow-requires-clause-near c =
    near-grown (2 ^ 61) (2 ^ 34) 8 (2 ^ 62) c.requires.near (near-back c.args.m (2 ^ 34) c.ranges.m c.requires.small) (λ v. some_near (λ d. eqb (map_of c.args.map (row c.args.table.now.bytes.now c.args.q) d) c.args.to) c.args.from c.loop-d.d v (omega arith)) (omega arith) c.loop-d.invariant

pub add_flow-requires-clause-small : goal.add_flow-requires-clause-small
add_flow-requires-clause-small c = elim c.if-map_of-to.branch [
  | then-map_of-to w ↦ rw w.step-is (near-back c.args.m (2 ^ 34) c.ranges.m c.requires.small)
  | else-map_of-to w ↦ rw w.step-is (omega arith)
]

pub loop-d-preserved : goal.loop-d-preserved
loop-d-preserved c =
    let e : to_z w64 c.if-map_of-to.step-bits ≡ cond (eqb (map_of c.args.map (row c.args.table.now.bytes.now c.args.q) c.loop-d.d) c.args.to) (to_z w64 (of_z w64 c.args.m)) (pos 0) = elim c.if-map_of-to.branch [
      | then-map_of-to w ↦ rw (w.step-is, eq-eqb _ _ (sym c.map_of.ensures ∙ w.if-map_of-to.true))
      | else-map_of-to w ↦ rw (w.step-is, ne_eqb _ _ (λ x. w.if-map_of-to.false (c.map_of.ensures ∙ x)))
    ] in
    grown-more _ (λ v e. cond (eqb (map_of c.args.map (row c.args.table.now.bytes.now c.args.q) e) c.args.to) (same (c.args.from + e) v) (pos 0)) c.loop-d.invariant
    (grown-if (eqb (map_of c.args.map (row c.args.table.now.bytes.now c.args.q) c.loop-d.d) c.args.to) _ (grown-is e (λ v l. refl) c.add_flow.ensures))

pub returns : goal.returns
unfolding mapped_factor
returns c =
    let e : c.loop-d.d ≡ c.args.colours = omega arith in
    grown-is (to_z-of_z w64 c.args.m c.ranges.m) (λ v l. ap (λ (k : ℕ). sum_to k (λ d. cond (eqb (map_of c.args.map (row c.args.table.now.bytes.now c.args.q) d) c.args.to) (same (c.args.from + d) v) (pos 0))) e) c.loop-d.invariant
