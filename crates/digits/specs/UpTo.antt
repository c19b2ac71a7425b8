-- A list by a function of the place.
use Rattle.std.specs.Prelude.{ℕ, zero, suc, List, [], ◌∷◌, ◌++◌}

-- g 0, g 1, .., g (n - 1)
unfoldable pub up_to : {X : Type 0} → ℕ → (ℕ → X) → List X
up_to zero g = []
up_to (suc n) g = up_to n g ++ (g n ∷ [])
