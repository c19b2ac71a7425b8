use mathlib.Core.Path.{◌≡◌}
use lib.ListN.{length}
use Rattle.blocks.specs.Blocks.{behind}
use Rattle.blocks.proofs.Blocks.{Walked}
use Rattle.blocks.proofs.blocks_in.Given as goal

abbrev pub invariant-loop-rest : goal.invariant-loop-rest
invariant-loop-rest l = Walked l.file l.blocks × (l.rest ≡ behind l.file l.blocks)

abbrev pub decreases-loop-rest : goal.decreases-loop-rest
decreases-loop-rest l = length l.rest
