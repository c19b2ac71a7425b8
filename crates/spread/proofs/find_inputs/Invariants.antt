use mathlib.Core.Path.{◌≡◌}
use Prim.Native.Nat.{ℕ, ◌≤◌, ◌<◌}
use lib.ListN.{length, get_or}
use Rattle.component.specs.Limits.{most_components}
use Rattle.spread.proofs.find_inputs.Given as goal

abbrev pub invariant-loop-k : goal.invariant-loop-k
invariant-loop-k l = (l.k ≤ l.k-end) × (length l.inputs ≡ most_components) × ((j : ℕ) → j < l.k → 0 < get_or l.inputs j 0)
