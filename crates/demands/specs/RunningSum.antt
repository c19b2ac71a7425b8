-- What is promised of the byte sum that pack carries: the theorem that proofs/RunningSum.antt proves.
use Rattle.std.specs.Prelude.{◌≡◌, ℕ, ◌/◌, ◌%◌, ◌≤◌, List, ◌++◌, length, get_or, take}
use Rattle.digits.specs.Sum.{sum, negated}
use Rattle.std.specs.Prelude.{Ok}
use Rattle.record.specs.Sizes.{row_size}
use Rattle.record.specs.Table.{records}
use Rattle.carried.specs.Carried.{check_place, carried_sum}
use Rattle.fabric.specs.PackedFile.{header_bytes}
use Rattle.fabric.specs.Calls.{packed, packed_into}

-- In a file of n rows the sum carried after k records is that of header bytes 0 to 2 and the records of the first k rows, wrapping at 256, and the check byte is the
-- negation of the sum carried after the last one.
abbrev pub CarriedIn : List ℕ → ℕ → ℕ → List ℕ → ℕ → Type 0
CarriedIn file colours channels table n =
    ((k : ℕ) → k ≤ n → carried_sum file k ≡ sum (take check_place (header_bytes colours n channels 0) ++ records table k) % 256) × (get_or file check_place 0 ≡ negated (carried_sum file n))

-- So it is in the memory that pack leaves, for every accepted table.
abbrev pub RunningSum : Type 0
RunningSum = (colours channels : ℕ) (table memory : List ℕ) → packed colours channels table (length memory) ≡ Ok tt
    → CarriedIn (packed_into colours channels table memory) colours channels table (length table / row_size)
