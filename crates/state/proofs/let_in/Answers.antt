use Rattle.std.proofs.Common.{length-set, arith}
use Rattle.cells.proofs.Cells.{queue-length, queue-count}
use Rattle.held.proofs.Values.{came_byte}
use Rattle.state.proofs.Queues.{cell-came}
use Rattle.state.proofs.let_in.Goals as goal

pub bounds-queue-0-2 : goal.bounds-queue-0-2
bounds-queue-0-2 c = simp length-set (omega (arith, queue-length c.args.queue.now c.requires.queue, queue-count c.args.queue.now c.requires.queue, c.requires.room))

pub returns : goal.returns
returns c = rw (c.colour_or.ensures, c.from.ensures, came_byte) (cell-came c.args.queue.now c.args.ma c.requires.queue c.requires.room)
