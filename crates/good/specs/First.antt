-- The lowest number that passes a test, where n stands for none.
use Rattle.std.specs.Prelude.{ℕ, Option, Some, None, cond, ltb}

abbrev pub first_below : ℕ → ℕ → Option ℕ
first_below k n = cond (ltb k n) (Some k) None
