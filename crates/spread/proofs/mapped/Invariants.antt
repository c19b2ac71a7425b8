use Prim.Native.Nat.{◌≤◌}
use Rattle.record.specs.Table.{row}
use Rattle.component.specs.Row.{has_colour, map_of}
use Rattle.reach.specs.Rounds.{image}
use Rattle.spread.specs.Spread.{IsSet}
use Rattle.spread.proofs.mapped.Given as goal

abbrev pub invariant-loop-d : goal.invariant-loop-d
invariant-loop-d l = (l.d ≤ l.colours) × IsSet l.made (image l.d (map_of l.map (row l.table.bytes.now l.k)) (has_colour l.set))
