use mathlib.Core.Bool.{cond}
use Prim.Native.Nat.{◌+◌}
use lib.IntN.{pos}
use lib.Dec.{eqb}
use Rattle.integers.specs.Sum.{sum_to, same}
use Rattle.integers.specs.Tables.{Grown}
use Rattle.record.specs.Table.{row}
use Rattle.component.specs.Row.{map_of}
use Rattle.component.specs.Limits.{most_flows}
use Rattle.sums.proofs.add_mapped.Given as goal

abbrev pub invariant-loop-d : goal.invariant-loop-d
invariant-loop-d l = Grown most_flows l.initial.sums l.m (λ v. sum_to l.d (λ e. cond (eqb (map_of l.map (row l.table.bytes.now l.q) e) l.to) (same (l.from + e) v) (pos 0))) l.sums
