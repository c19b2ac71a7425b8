-- What loops over a table of L sums say of it: hypotheses and invariants of the code, no part of what a reader must believe.
use Rattle.std.specs.Prelude.{◌≡◌, List, ℕ, ◌≤◌, ◌<◌, length, get_or, ℤ, pos, nat_abs, ◌+ℤ◌, ◌*ℤ◌}

-- a whole table whose entries are near 0, so that sums fit
pub record Near (L B : ℕ) (s : List ℤ) : Type 0 where
  pub long : length s ≡ L
  pub near : (v : ℕ) → v < L → nat_abs (get_or s v (pos 0)) ≤ B

-- t is s with m times f v added at each v
pub record Grown (L : ℕ) (s : List ℤ) (m : ℤ) (f : ℕ → ℤ) (t : List ℤ) : Type 0 where
  pub long : length t ≡ L
  pub at : (v : ℕ) → v < L → get_or t v (pos 0) ≡ get_or s v (pos 0) +ℤ m *ℤ f v

-- the table holds f
pub record Summed (L : ℕ) (f : ℕ → ℤ) (s : List ℤ) : Type 0 where
  pub long : length s ≡ L
  pub at : (v : ℕ) → v < L → get_or s v (pos 0) ≡ f v
