-- How many entries of a list are 0.
use Rattle.std.specs.Prelude.{List, [], ◌∷◌, ℕ, zero, suc}

unfoldable pub zeros : List ℕ → ℕ
zeros [] = 0
zeros (zero ∷ l) = suc (zeros l)
zeros (suc v ∷ l) = zeros l
