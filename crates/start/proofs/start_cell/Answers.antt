use Rattle.std.proofs.Common.{rules, ◌≡◌, arith}
use Rattle.component.specs.declared.kinds.Kind.TheVariants.{Queue}
use Rattle.record.specs.Table.{row}
use Rattle.component.specs.Row.{kind}
use Rattle.cells.specs.Start.{start_cell}
use Rattle.start.proofs.Filled.{filled}
use Rattle.start.proofs.start_cell.Goals as goal

pub returns-then-eq : goal.returns-then-eq
unfolding start_cell
returns-then-eq c =
    let queue : kind (row c.args.table.now.bytes.now c.args.k) ≡ Queue = search rules in
    rw (queue, ← c.filling-n.ensures, ← c.fill_colour.ensures)
    (filled _ _ _ _ c.filling-n.result c.fill_colour.result (c.fill.ensures.after (λ y e. e)) (omega (arith, c.requires.long)) (omega arith) (omega (arith, c.requires.filling queue)) (c.fill-then-eq.ensures.after (λ y e. e)))
