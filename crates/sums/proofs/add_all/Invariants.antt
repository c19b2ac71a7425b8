use mathlib.Core.Bool.{true, cond}
use Prim.Native.Nat.{◌+◌}
use lib.IntN.{pos}
use Rattle.integers.specs.Sum.{sum_to, same}
use Rattle.integers.specs.Tables.{Grown}
use Rattle.component.specs.Limits.{most_flows}
use Rattle.sums.proofs.add_all.Given as goal

abbrev pub invariant-loop-d : goal.invariant-loop-d
invariant-loop-d l = Grown most_flows l.initial.sums l.m (λ v. sum_to l.d (λ e. cond (true) (same (l.from + e) v) (pos 0))) l.sums
