use Rattle.std.proofs.Common.{◌≡◌, ◌+◌, ◌%◌, take}
use Rattle.digits.specs.Sum.{sum}
use Rattle.digits.proofs.add_bytes.Given as goal

abbrev pub invariant-loop-byte : goal.invariant-loop-byte
invariant-loop-byte l = l.total ≡ (l.carried + sum (take l.byte-index l.s)) % 256
