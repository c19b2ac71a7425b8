use Rattle.cells.proofs.Cells.{queue-length}
use Rattle.state.proofs.Queues.{cell-dropped}
use Rattle.state.proofs.drop_front.Goals as goal

pub returns : goal.returns
returns c = rw (c.copy_within.ensures.after, queue-length c.args.queue.now c.requires.queue) (cell-dropped c.args.queue.now c.requires.queue c.requires.not_empty)
