use Rattle.wiring.proofs.Ends.{ends-none}
use Rattle.wiring.proofs.find_ends.Goals as goal

pub loop-k-init : goal.loop-k-init
loop-k-init c = rw c.requires.clear (ends-none c.args.table.now.bytes.now)
