use Rattle.std.proofs.Common.{◌≡◌, replicate}
use Rattle.digits.specs.Packed.{joined}
use Rattle.record.proofs.map_number.Given as goal

abbrev pub invariant-loop-entry : goal.invariant-loop-entry
invariant-loop-entry l = l.number ≡ joined (replicate l.entry-index 3) l.map 0
