use mathlib.Core.Path.{sym, subst}
use Prim.Native.Nat.{◌^◌}
use lib.ListN.{get_or, set}
use lib.IntN.{ℤ, pos}
use native.Mathlib.Omega.{arith}
use Rattle.integers.specs.Sum.{same}
use Rattle.integers.specs.Tables.{Grown}
use Rattle.integers.proofs.Near.{added}
use Rattle.integers.proofs.Tables.{grown-at}
use Rattle.component.specs.Limits.{most_entries}
use Rattle.sums.proofs.add_weight.Goals as goal

pub returns : goal.returns
returns c =
    subst (λ (z : ℤ). Grown most_entries c.args.weights.now c.args.m (same c.args.u) (set c.args.weights.now c.args.u z)) (sym (added (get_or c.args.weights.now c.args.u (pos 0)) c.args.m (2 ^ 62) (2 ^ 34) (c.requires.near.near c.args.u c.requires.in_weights) c.requires.small (omega arith)))
    (grown-at c.args.weights.now c.args.u c.args.m c.requires.near.long c.requires.in_weights)
