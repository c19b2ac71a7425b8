-- A number of ℤ by the side of 0 on which it lies.
use Rattle.std.specs.Prelude.{ℕ, suc, ℤ, pos, negsuc}

-- how far it is above 0, else 0
abbrev pub above_zero : ℤ → ℕ
above_zero (pos n) = n
above_zero (negsuc n) = 0

-- how far it is below 0, else 0: its sign is dropped
abbrev pub below_zero : ℤ → ℕ
below_zero (pos n) = 0
below_zero (negsuc n) = suc n
