-- Rows of the fabrics of the cases, and terms of their proposals.
use Rattle.std.specs.Prelude.{ℕ, ◌+◌, ◌*◌, ◌-◌, ◌^◌, List, [], ◌∷◌, ◌++◌, length, replicate}
use Rattle.digits.specs.Packed.{fields, bytes}
use Rattle.record.specs.Sizes.{row_size}

-- these bytes, and zeros up to the row's end
abbrev filled_up : List ℕ → List ℕ
filled_up bytes = bytes ++ replicate (row_size - length bytes) 0

-- a row of a fabric of two colours: kind; ports A, B, C; what the first and the second map take 0 and 1 to; mask, capacity, filling, fill colour
abbrev pub row₂ : ℕ → ℕ → ℕ → ℕ → ℕ → ℕ → ℕ → ℕ → ℕ → ℕ → ℕ → ℕ → List ℕ
row₂ kind a b c f₀ f₁ s₀ s₁ mask capacity filling colour =
    filled_up ((kind ∷ a ∷ b ∷ c ∷ f₀ ∷ f₁ ∷ replicate 6 0) ++ (s₀ ∷ s₁ ∷ replicate 6 0) ++ (mask ∷ capacity ∷ filling ∷ colour ∷ []))

-- a row of a fabric of one colour, its maps 0: kind; ports A, B, C; mask, capacity, filling
abbrev pub line : ℕ → ℕ → ℕ → ℕ → ℕ → ℕ → ℕ → List ℕ
line kind a b c mask capacity filling = row₂ kind a b c 0 0 0 0 mask capacity filling 0

-- a term of component, index and multiplier, the last in two's complement of 21 bits
abbrev pub term : ℕ → ℕ → ℕ → List ℕ
term k i m = fields (bytes 4) (k * 2 ^ 25 + i * 2 ^ 21 + m)
