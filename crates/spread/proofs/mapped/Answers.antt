use native.Mathlib.Omega.{arith}
use Rattle.record.specs.Table.{row}
use Rattle.component.specs.Row.{has_colour, map_of}
use Rattle.spread.proofs.Sets.{image-more}
use Rattle.spread.proofs.mapped.Goals as goal

pub loop-d-preserved : goal.loop-d-preserved
loop-d-preserved c =
    let l = c.loop-d in
    let a = c.args in
    (omega arith, image-more l.d (map_of a.map (row a.table.now.bytes.now a.k)) (has_colour a.set) l.invariant.1 c.map_of.ensures c.one_if-made.ensures)
