use Rattle.std.proofs.Common.{ℕ, false, ◌<◌}
use Rattle.search.proofs.first.Given as goal

abbrev pub invariant-loop-k : goal.invariant-loop-k
invariant-loop-k g l = (j : ℕ) → j < l.k → goal.F-post g l.passes j false
