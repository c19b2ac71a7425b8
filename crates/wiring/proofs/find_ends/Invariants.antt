use Rattle.std.proofs.Common.{◌*◌}
use Rattle.wiring.specs.Stages.{FoundEnds}
use Rattle.wiring.proofs.find_ends.Given as goal

abbrev pub invariant-loop-k : goal.invariant-loop-k
invariant-loop-k l = FoundEnds l.table.bytes.now (3 * l.k) l.ends
