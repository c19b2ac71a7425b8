use Rattle.std.proofs.Common.{◌≡◌, ◌++◌, drop}
use Rattle.digits.specs.UpTo.{up_to}
use Rattle.signals.specs.Channels.{moved_in}
use Rattle.signals.proofs.write_moves.Given as goal

abbrev pub invariant-loop-x : goal.invariant-loop-x
invariant-loop-x l = l.moves ≡ up_to l.x (moved_in l.channels) ++ drop l.x l.initial.moves
