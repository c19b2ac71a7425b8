-- A proposal is at most 4,096 terms of 32 bits: component 7, index 4, multiplier 21 in two's complement, packed as the fabric is.
use Rattle.std.specs.Prelude.{cond, List, [], ◌∷◌, ℕ, ◌*◌, ◌-◌, ◌/◌, ◌^◌, ltb, length, get_or, ℤ, pos, ◌-ℤ◌}
use Rattle.digits.specs.Packed.{joined, fields, bytes}

abbrev pub most_terms : ℕ
most_terms = 4096

abbrev pub terms : List ℕ → ℕ
terms p = length p / 4

-- the three fields of term k
abbrev pub term_fields : List ℕ → ℕ → List ℕ
term_fields p k = fields (7 ∷ 4 ∷ 21 ∷ []) (joined (bytes 4) p (4 * k))

-- a number of w bits in two's complement
abbrev pub signed : ℕ → ℕ → ℤ
signed w n = cond (ltb n (2 ^ (w - 1))) (pos n) (pos n -ℤ pos (2 ^ w))

unfoldable pub component_of : List ℕ → ℕ → ℕ
component_of p k = get_or (term_fields p k) 0 0

unfoldable pub index : List ℕ → ℕ → ℕ
index p k = get_or (term_fields p k) 1 0

unfoldable pub multiplier : List ℕ → ℕ → ℤ
multiplier p k = signed 21 (get_or (term_fields p k) 2 0)
