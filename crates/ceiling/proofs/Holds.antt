-- Counts within the capacities that keep the sum at its constant are at most the ceiling. Assumes nothing.
use mathlib.Core.Path.{◌≡◌}
use mathlib.Core.Bool.{true}
use mathlib.Core.List.{List}
use Prim.Native.Nat.{ℕ, ◌≤◌, ◌<◌}
use native.Mathlib.Nat.{mul_comm, le-min, le-div_iff_mul-le}
use native.Mathlib.Omega.{arith}
use Rattle.integers.specs.Sign.{above_zero}
use Rattle.component.specs.Kind.{is_queue}
use Rattle.component.specs.Row.{kind}
use Rattle.netlist.specs.Netlist.{Netlist, row_of}
use Rattle.flows.specs.Flows.{weight, accepted_sum, constant}
use Rattle.headroom.proofs.Headroom.{Within, place-le}
use Rattle.ceiling.specs.Ceiling.{ceiling}

pub ceiling-holds : (f : Netlist) (p : List ℕ) (n : ℕ → ℕ → ℕ) → Within f n → accepted_sum f p n ≡ constant f p
    → (q d : ℕ) → q < f.components → is_queue (kind (row_of f q)) ≡ true → d < f.colours → 0 < above_zero (weight f p q d) → n q d ≤ ceiling f p q d
unfolding ceiling
ceiling-holds f p n within same q d l e m k =
    le-min ((le-div_iff_mul-le k).1 (omega (arith, place-le f p n within same q d l m, mul_comm (n q d) (above_zero (weight f p q d))))) (within.most q l e d)
