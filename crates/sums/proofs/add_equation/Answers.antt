use mathlib.Core.Path.{◌≡◌, refl, sym, ap, subst}
use mathlib.Core.List.{List}
use Prim.Native.Nat.{ℕ, ◌+◌, ◌*◌, ◌^◌, ◌≤◌}
use lib.IntN.{ℤ, pos, nat_abs, neg_ℤ, ◌+ℤ◌, ◌-ℤ◌}
use mir.Syntax.{w64}
use mir.Val.{to_z, of_z}
use mir.ValLaws.{to_z-of_z}
use native.Mathlib.Omega.{arith}
use Rattle.integers.specs.Sum.{same}
use Rattle.integers.specs.Tables.{Near, Grown}
use Rattle.integers.proofs.Near.{near-back, negated, negated-near}
use Rattle.integers.proofs.Tables.{near-wider, near-grown, grown-is, grown-add, grown-neg}
use Rattle.component.specs.Limits.{most_flows}
use Rattle.equations.specs.Numbers.{mapped_factor, all_factor, factor_of, InTable}
use Rattle.equations.specs.declared.Equation.{Equation}
use Rattle.sums.proofs.Bounds.{same-near, all_near}
use Rattle.sums.proofs.add_equation.Goals as goal
use Rattle.sums.proofs.add_equation.Goals.{Start}

-- from the start: the equation's flows are the table's, and what the steps by m and by 0 - m may take and come to
module _ (b : Start) where
  abbrev up : ℤ
  up = to_z w64 (of_z w64 b.args.m)

  abbrev down : ℤ
  down = to_z w64 (of_z w64 (pos 0 -ℤ up))

  within : {e : Equation} → b.args.equation ≡ e → InTable b.args.table.now.rows e
  within g = subst (InTable b.args.table.now.rows) g b.requires.in_table.1

  up-near : nat_abs up ≤ 2 ^ 34
  up-near = near-back b.args.m (2 ^ 34) b.ranges.m b.requires.small

  down-near : nat_abs down ≤ 2 ^ 34
  down-near = negated-near b.args.m b.requires.small

  first : (B : ℕ) → 2 ^ 60 ≤ B → Near most_flows B b.args.sums.now
  first B h = near-wider (2 ^ 60) B h b.requires.near

  second : (c B : ℕ) → 2 ^ 60 + 2 ^ 34 * c ≤ B → {f : ℕ → ℤ} {t : List ℤ} → ((v : ℕ) → nat_abs (f v) ≤ c) → Grown most_flows b.args.sums.now up f t → Near most_flows B t
  second c B h near r = near-grown (2 ^ 60) (2 ^ 34) c B b.requires.near up-near near h r

  -- the equation's factors, as the steps give them
  equation-grown : {e : Equation} {t : List ℤ} → b.args.equation ≡ e → Grown most_flows b.args.sums.now b.args.m (factor_of b.args.table.now.bytes.now b.args.colours e) t
      → Grown most_flows b.args.sums.now b.args.m (factor_of b.args.table.now.bytes.now b.args.colours b.args.equation) t
  equation-grown g = grown-is refl (λ v l. ap (λ (x : Equation). factor_of b.args.table.now.bytes.now b.args.colours x v) (sym g))

  module _ {s t : List ℤ} {f : ℕ → ℤ} where
    up-grown : Grown most_flows s up f t → Grown most_flows s b.args.m f t
    up-grown = grown-is (to_z-of_z w64 b.args.m b.ranges.m) (λ v l. refl)

    down-grown : {u : List ℤ} (g : ℕ → ℤ) → Grown most_flows s b.args.m f t → Grown most_flows t down g u → Grown most_flows s b.args.m (λ v. f v +ℤ neg_ℤ (g v)) u
    down-grown g p q = grown-add p (grown-neg b.args.m g (grown-is (negated b.args.m b.requires.small) (λ v l. refl) q))

pub add_flow-requires-in-Two-2 : goal.add_flow-requires-in-Two-2
add_flow-requires-in-Two-2 c =
    let start = (goal.at.add_flow-requires-in-Two-2 c).Start in
    record { in_sums = (within start c.in-Two.is).within.1; near = second start 1 (2 ^ 62) (omega arith) (same-near c.in-Two.plus) c.add_flow-in-Two.ensures; small = down-near start }

pub add_flow-requires-in-Three-2 : goal.add_flow-requires-in-Three-2
add_flow-requires-in-Three-2 c =
    let start = (goal.at.add_flow-requires-in-Three-2 c).Start in
    record { in_sums = (within start c.in-Three.is).within.1; near = second start 1 (2 ^ 62) (omega arith) (same-near c.in-Three.plus) c.add_flow-in-Three.ensures; small = down-near start }

pub add_flow-requires-in-Three-3 : goal.add_flow-requires-in-Three-3
add_flow-requires-in-Three-3 c =
    let start = (goal.at.add_flow-requires-in-Three-3 c).Start in
    let near = second start 1 (2 ^ 60 + 2 ^ 34) (omega arith) (same-near c.in-Three.plus) c.add_flow-in-Three.ensures in
    record { in_sums = (within start c.in-Three.is).within.2; near = near-grown (2 ^ 60 + 2 ^ 34) (2 ^ 34) 1 (2 ^ 62) near (down-near start) (same-near c.in-Three.minus) (omega arith) c.add_flow-in-Three-2.ensures; small = down-near start }

pub add_mapped-requires : goal.add_mapped-requires
add_mapped-requires c =
    let start = (goal.at.add_mapped-requires c).Start in
    let w = (within start c.in-Mapped.is).within in
    record { in_table = (c.requires.in_table.0, w.1, w.2); near = second start 1 (2 ^ 61) (omega arith) (same-near c.in-Mapped.plus) c.add_flow-in-Mapped.ensures; small = down-near start }

pub add_all-requires-in-All : goal.add_all-requires-in-All
add_all-requires-in-All c =
    let start = (goal.at.add_all-requires-in-All c).Start in
    record { in_table = (c.requires.in_table.0, (within start c.in-All.is).within.1); near = second start 8 (2 ^ 61) (omega arith) (λ v. all_near c.args.colours c.in-All.plus v c.requires.in_table.0) c.add_all.ensures; small = down-near start }

pub returns-in-One : goal.returns-in-One
unfolding factor_of
returns-in-One c =
    let start = (goal.at.returns-in-One c).Start in
    equation-grown start c.in-One.is (up-grown start c.add_flow.ensures)

pub returns-in-Two : goal.returns-in-Two
unfolding factor_of
returns-in-Two c =
    let start = (goal.at.returns-in-Two c).Start in
    equation-grown start c.in-Two.is (down-grown start (same c.in-Two.minus) (up-grown start c.add_flow-in-Two.ensures) c.add_flow-in-Two-2.ensures)

pub returns-in-Three : goal.returns-in-Three
unfolding factor_of
returns-in-Three c =
    let start = (goal.at.returns-in-Three c).Start in
    equation-grown start c.in-Three.is (down-grown start (same c.in-Three.also) (down-grown start (same c.in-Three.minus) (up-grown start c.add_flow-in-Three.ensures) c.add_flow-in-Three-2.ensures) c.add_flow-in-Three-3.ensures)

pub returns-in-Mapped : goal.returns-in-Mapped
unfolding factor_of
returns-in-Mapped c =
    let start = (goal.at.returns-in-Mapped c).Start in
    equation-grown start c.in-Mapped.is (down-grown start (mapped_factor c.args.table.now.bytes.now c.args.colours c.in-Mapped.from c.in-Mapped.component c.in-Mapped.map c.in-Mapped.to) (up-grown start c.add_flow-in-Mapped.ensures) c.add_mapped.ensures)

pub returns-in-All : goal.returns-in-All
unfolding factor_of
returns-in-All c =
    let start = (goal.at.returns-in-All c).Start in
    equation-grown start c.in-All.is (down-grown start (all_factor c.args.colours c.in-All.minus) (up-grown start c.add_all.ensures) c.add_all-in-All.ensures)
