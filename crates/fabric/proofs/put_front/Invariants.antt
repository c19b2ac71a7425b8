use mathlib.Core.Path.{◌≡◌}
use mathlib.Core.List.{◌++◌}
use Prim.Native.Nat.{◌≤◌}
use lib.ListN.{get_or, drop}
use Rattle.digits.specs.UpTo.{up_to}
use Rattle.fabric.proofs.put_front.Given as goal

abbrev pub invariant-loop-i : goal.invariant-loop-i
invariant-loop-i l = (l.i ≤ l.i-end) × (l.to ≡ up_to l.i (λ i. get_or l.from i 0) ++ drop l.i l.initial.to)
