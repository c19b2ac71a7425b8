use Rattle.std.proofs.Common.{arith}
use Rattle.digits.proofs.UpTo.{filled_more}
use Rattle.signals.specs.Channels.{moved_in}
use Rattle.signals.proofs.write_moves.Goals as goal

pub loop-x-preserved : goal.loop-x-preserved
loop-x-preserved c =
    let h = c.loop-x-test.true in
    rw (c.loop-x.invariant, c.moved_on.ensures) (filled_more (moved_in c.args.channels.now) _ 0 _ (omega (arith, h, c.requires.room)))
