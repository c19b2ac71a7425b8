-- What the parts of a rule are at most. Assumes nothing.
use mathlib.Core.Bool.{Bool, true, false}
use Prim.Native.Nat.{ℕ, zero, suc, ◌≤◌}
use native.Mathlib.Omega.{arith}
use Rattle.held.specs.Values.{bit, when, unless, offered, or_else, either}

pub when-le : (g v b : ℕ) → v ≤ b → when g v ≤ b
when-le zero v b h = omega arith
when-le (suc g) v b h = h

pub unless-le : (g v b : ℕ) → v ≤ b → unless g v ≤ b
unless-le zero v b h = h
unless-le (suc g) v b h = omega arith

pub either-le : (g v w b : ℕ) → v ≤ b → w ≤ b → either g v w ≤ b
either-le zero v w b h k = h
either-le (suc g) v w b h k = k

pub or_else-le : (v w b : ℕ) → v ≤ b → w ≤ b → or_else v w ≤ b
or_else-le zero w b h k = k
or_else-le (suc v) w b h k = h

pub offered-le : (v b : ℕ) → 1 ≤ b → offered v ≤ b
offered-le zero b h = omega arith
offered-le (suc v) b h = h

pub bit_le : (t : Bool) (b : ℕ) → 1 ≤ b → bit t ≤ b
bit_le true b h = h
bit_le false b h = omega arith
