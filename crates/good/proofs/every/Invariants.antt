use Rattle.std.proofs.Common.{◌≡◌, ℕ, Bool, ◌<◌}
use Rattle.cells.specs.Good.{all}
use Rattle.good.proofs.every.Given as goal

abbrev pub invariant-loop-k : goal.invariant-loop-k
invariant-loop-k g l = (test : ℕ → Bool) → ((k : ℕ) (b : Bool) → k < l.n → goal.F-post g l.passes k b → b ≡ test k) → l.good ≡ all l.k test
