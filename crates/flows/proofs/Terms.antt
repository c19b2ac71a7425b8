-- A multiplier is near 0. Assumes nothing.
use mathlib.Core.Bool.{Bool, true, false, cond}
use mathlib.Core.List.{List}
use Prim.Native.Nat.{ℕ, ◌*◌, ◌/◌, ◌%◌, ◌^◌, ◌≤◌, ◌<◌}
use native.Mathlib.Omega.{arith}
use lib.Dec.{ltb}
use lib.IntN.{pos, neg_ℤ, nat_abs, ◌-ℤ◌}
use Rattle.digits.specs.Packed.{joined, bytes}
use Rattle.integers.proofs.Near.{nat_abs-add}
use Rattle.flows.specs.Terms.{multiplier}

pub multiplier-near : (p : List ℕ) (k : ℕ) → nat_abs (multiplier p k) ≤ 2 ^ 22
unfolding multiplier
multiplier-near p k = go (joined (bytes 4) p (4 * k) / 1 % 2097152) (omega arith) (ltb (joined (bytes 4) p (4 * k) / 1 % 2097152) 1048576)
  where
    go : (n : ℕ) → n < 2097152 → (t : Bool) → nat_abs (cond t (pos n) (pos n -ℤ pos 2097152)) ≤ 2 ^ 22
    go n l true = omega arith
    go n l false = omega (arith, nat_abs-add (pos n) (neg_ℤ (pos 2097152)))
