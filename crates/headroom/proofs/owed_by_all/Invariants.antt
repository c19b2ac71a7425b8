use mathlib.Core.Path.{◌≡◌}
use Prim.Native.Nat.{◌+◌, ◌*◌, ◌^◌, ◌≤◌}
use lib.ListN.{get_or}
use lib.IntN.{pos}
use Rattle.integers.specs.Sign.{below_zero}
use Rattle.integers.specs.Total.{total}
use Rattle.record.specs.Table.{row}
use Rattle.component.specs.Row.{capacity}
use Rattle.headroom.proofs.owed_by_all.Given as goal

abbrev pub invariant-loop-q : goal.invariant-loop-q
invariant-loop-q l = (l.owed ≡ total l.q (λ q. total l.netlist.size.colours (λ d. below_zero (get_or l.weights.entries.now (8 * q + d) (pos 0)) * capacity (row l.netlist.table.bytes.now q)))) × (l.owed ≤ 2 ^ 51 * l.q)
