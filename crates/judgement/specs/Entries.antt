-- Memory in which the first n entries are g 0, g 1, ..: as entries, and as bytes.
use Rattle.std.specs.Prelude.{ℕ, ℤ, List, ◌++◌, ◌*◌, drop}
use Rattle.digits.specs.UpTo.{up_to}
use Rattle.flows.specs.Verdict.{weight_byte}

unfoldable pub entries_filled : ℕ → (ℕ → ℤ) → List ℤ → List ℤ
entries_filled n g s = up_to n g ++ drop n s

unfoldable pub bytes_filled : ℕ → (ℕ → ℤ) → List ℕ → List ℕ
bytes_filled n g s = up_to (8 * n) (weight_byte g) ++ drop (8 * n) s
