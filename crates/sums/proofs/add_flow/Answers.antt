use mathlib.Core.Path.{sym, subst}
use Prim.Native.Nat.{◌^◌}
use lib.ListN.{get_or, set}
use lib.IntN.{ℤ, pos}
use native.Mathlib.Omega.{arith}
use Rattle.integers.specs.Sum.{same}
use Rattle.integers.specs.Tables.{Grown}
use Rattle.integers.proofs.Near.{added}
use Rattle.integers.proofs.Tables.{grown-at}
use Rattle.component.specs.Limits.{most_flows}
use Rattle.sums.proofs.add_flow.Goals as goal

pub returns : goal.returns
returns c =
    subst (λ (z : ℤ). Grown most_flows c.args.sums.now c.args.m (same c.args.v) (set c.args.sums.now c.args.v z)) (sym (added (get_or c.args.sums.now c.args.v (pos 0)) c.args.m (2 ^ 62) (2 ^ 34) (c.requires.near.near c.args.v c.requires.in_sums) c.requires.small (omega arith)))
    (grown-at c.args.sums.now c.args.v c.args.m c.requires.near.long c.requires.in_sums)
