-- Finite sums in ℤ over the numbers below a bound.
use Rattle.std.specs.Prelude.{Bool, true, false, cond, ℕ, zero, suc, eqb, ℤ, pos, negsuc, ◌+ℤ◌}

-- f 0 + f 1 + .. + f (n - 1)
unfoldable pub sum_to : ℕ → (ℕ → ℤ) → ℤ
sum_to zero f = pos 0
sum_to (suc n) f = sum_to n f +ℤ f n

-- 1 where the two numbers are equal, else 0
unfoldable pub same : ℕ → ℕ → ℤ
same a b = cond (eqb a b) (pos 1) (pos 0)

unfoldable pub is_zero : ℤ → Bool
is_zero (pos zero) = true
is_zero (pos (suc n)) = false
is_zero (negsuc n) = false
