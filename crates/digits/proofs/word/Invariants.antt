use Rattle.std.proofs.Common.{◌≡◌}
use Rattle.digits.specs.Packed.{joined, bytes}
use Rattle.digits.proofs.word.Given as goal

-- `digits::word` meets its contract. Assumes nothing.
abbrev pub invariant-loop-byte : goal.invariant-loop-byte
invariant-loop-byte l = l.number ≡ joined (bytes l.byte-index) l.s l.at
