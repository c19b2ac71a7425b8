-- The lowest number that passes a test, if there is one.
use Rattle.std.specs.Prelude.{ℕ, Bool, Option, Some, None, cond}
use Rattle.digits.specs.Least.{least, some}

-- the least number below n that passes the test, or none where no number below n passes it
abbrev pub first : (ℕ → Bool) → ℕ → Option ℕ
first test n = cond (some n test) (Some (least test n)) None
