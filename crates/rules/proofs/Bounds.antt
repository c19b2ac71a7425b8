-- What a mapped offer is at most. Assumes nothing.
use Prim.Native.Nat.{ℕ, zero, suc, ◌≤◌, ◌<◌}
use native.Mathlib.Omega.{arith}
use Rattle.rules.specs.Rules.{mapped}

pub mapped-le : (map : ℕ → ℕ) (o b : ℕ) → ((d : ℕ) → d < b → map d < b) → o ≤ b → mapped map o ≤ b
mapped-le map zero b h l = omega arith
mapped-le map (suc d) b h l = h d l
