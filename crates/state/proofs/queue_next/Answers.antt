use mathlib.Core.Path.{◌≡◌}
use native.Mathlib.Omega.{arith}
use Rattle.cells.specs.Cells.{queue_colours}
use Rattle.cells.proofs.Cells.{colours-of-cell, cell-queue}
use Rattle.state.specs.Step.{dropped}
use Rattle.state.proofs.queue_next.Goals as goal

pub let_in-requires : goal.let_in-requires
let_in-requires c = let cs = dropped c.args.mb (queue_colours c.args.queue.now) in
    rw c.let_out.ensures (record { queue = cell-queue cs (omega (arith, c.requires.room)); room = rw colours-of-cell c.requires.room })

pub returns : goal.returns
returns c = let cs = dropped c.args.mb (queue_colours c.args.queue.now) in
    let e : queue_colours c.let_out.new.queue ≡ cs = rw c.let_out.ensures (colours-of-cell cs) in
    rw (← e) c.let_in.ensures
