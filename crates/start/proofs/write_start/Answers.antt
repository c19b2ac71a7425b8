use Rattle.std.proofs.Common.{◌≡◌, ◌+◌, ◌-◌, ◌*◌, length, ◌∙◌, arith}
use Rattle.cells.specs.Start.{started, start_at}
use Rattle.cells.specs.Cells.{cell_size}
use Rattle.cells.proofs.Cells.{none-laid, all_laid, lent-long, laid_more}
use Rattle.start.proofs.write_start.Goals as goal

pub loop-k-init : goal.loop-k-init
loop-k-init c = none-laid _ _ _

pub loop-k-preserved : goal.loop-k-preserved
unfolding start_at
loop-k-preserved c =
    let l = c.loop-k in
    let w : cell_size * l.k + cell_size - cell_size * l.k ≡ cell_size = omega arith in
    let t = c.loop-k-test.true in
    let new = c.start_cell.new.cell in
    let long : length new ≡ cell_size = rw w at c.start_cell.auto.cell ∙ lent-long l.invariant t c.requires.start.states in
    rw w (laid_more l.invariant t c.requires.start.states new long c.start_cell.ensures)

pub returns : goal.returns
unfolding started
returns c = all_laid c.loop-k.invariant (omega arith)
