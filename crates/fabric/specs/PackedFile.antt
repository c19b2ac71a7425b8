-- What pack writes.
use Rattle.std.specs.Prelude.{ℕ, ◌-◌, List, [], ◌∷◌, ◌++◌}
use Rattle.digits.specs.Packed.{joined, fields, bytes}
use Rattle.digits.specs.Sum.{sum, negated}
use Rattle.record.specs.Table.{records}
use Rattle.record.specs.Sizes.{header_size}
use Rattle.reader.specs.File.{header_widths}

unfoldable pub header_bytes : ℕ → ℕ → ℕ → ℕ → List ℕ
header_bytes colours n channels check = fields (bytes header_size) (joined header_widths (1 ∷ (colours - 1) ∷ 0 ∷ n ∷ channels ∷ check ∷ []) 0)

-- All bytes of the file add up to 0, wrapping at 256.
unfoldable pub packed_file : ℕ → ℕ → List ℕ → ℕ → List ℕ
packed_file colours channels table n = header_bytes colours n channels (negated (sum (header_bytes colours n channels 0 ++ records table n))) ++ records table n
