use mathlib.Core.Path.{◌≡◌}
use Prim.Native.Nat.{◌+◌, ◌*◌, ◌^◌, ◌≤◌}
use lib.ListN.{get_or}
use lib.IntN.{pos}
use Rattle.integers.specs.Sign.{below_zero}
use Rattle.integers.specs.Total.{total}
use Rattle.headroom.proofs.owed_by.Given as goal

abbrev pub invariant-loop-d : goal.invariant-loop-d
invariant-loop-d l = (l.owed ≡ total l.d (λ d. below_zero (get_or l.weights.entries.now (8 * l.q + d) (pos 0)) * l.capacity)) × (l.owed ≤ 2 ^ 48 * l.d)
