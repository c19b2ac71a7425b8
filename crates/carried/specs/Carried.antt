-- The byte sum that pack carries as it lays a file down: header bytes 0 to 2, the records in order, and last the check byte.
use Rattle.std.specs.Prelude.{ℕ, ◌%◌, List, ◌++◌, take, drop}
use Rattle.digits.specs.Sum.{sum}
use Rattle.record.specs.Sizes.{header_size, file_size}

-- the check byte ends the header
abbrev pub check_place : ℕ
check_place = 3

-- all bytes laid so far, the check byte left out, where k records stand behind the header
abbrev pub laid : List ℕ → ℕ → List ℕ
laid out k = take check_place out ++ drop header_size (take (file_size k) out)

-- After each record the sum carried is that of all bytes laid so far, the check byte left out, wrapping at 256.
unfoldable pub carried_sum : List ℕ → ℕ → ℕ
carried_sum out k = sum (laid out k) % 256
