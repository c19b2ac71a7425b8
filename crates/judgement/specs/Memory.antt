-- Entries through C: an entry is 8 bytes, lowest first.
use Rattle.std.specs.Prelude.{List, [], ◌∷◌, ◌++◌, ℕ, ℤ}
use Rattle.std.specs.Int.{w64, to_le_bytes, cast_unsigned}

-- the bytes of one entry
abbrev pub entry_bytes : ℤ → List ℕ
entry_bytes v = to_le_bytes w64 (cast_unsigned w64 v)

-- and of entries one after the other
unfoldable pub bytes_of : List ℤ → List ℕ
bytes_of [] = []
bytes_of (v ∷ vs) = entry_bytes v ++ bytes_of vs
