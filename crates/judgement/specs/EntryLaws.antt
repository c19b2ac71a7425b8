-- Laws of memory that holds entries. Assumes nothing.
use mathlib.Core.Path.{◌≡◌, refl, sym, ap}
use mathlib.Core.List.{List, ◌++◌}
use Prim.Native.Nat.{ℕ, ◌+◌, ◌*◌, ◌/◌, ◌%◌, ◌≤◌, ◌<◌}
use native.Mathlib.Omega.{arith}
use lib.ListN.{length, set, drop}
use lib.IntN.{ℤ, pos}
use Rattle.digits.proofs.UpTo.{filled_none, filled_more, length-filled, up_to-cong}
use Rattle.flows.specs.Verdict.{byte_of, weight_byte}
use Rattle.judgement.specs.Entries.{entries_filled, bytes_filled}
use Rattle.judgement.specs.Judged.{laid}
use Rattle.judgement.specs.Bytes.{entry_more}

-- ---- as entries
pub some_entry : 0 < 1
some_entry = omega arith

module _ (g : ℕ → ℤ) (s : List ℤ) where
  pub entries_none : entries_filled 0 g s ≡ s
  unfolding entries_filled
  entries_none = sym (filled_none g s)

  pub entries_more : (u : ℕ) → 1 * u + 1 ≤ length s → set (entries_filled u g s) u (g u) ≡ entries_filled (u + 1) g s
  unfolding entries_filled
  entries_more u h = filled_more g s (pos 0) u (omega arith)

  pub entries_long : (u : ℕ) → 1 * u ≤ length s → length (entries_filled u g s) ≡ length s
  unfolding entries_filled
  entries_long u h = length-filled g s u (omega arith)

pub entries_same : (g h : ℕ → ℤ) (s : List ℤ) (n : ℕ) → ((u : ℕ) → u < n → g u ≡ h u) → entries_filled n g s ≡ entries_filled n h s
unfolding entries_filled
entries_same g h s n e = ap (λ (l : List ℤ). l ++ drop n s) (up_to-cong n g h e)

-- ---- as bytes
pub some_bytes : 0 < 8
some_bytes = omega arith

module _ (g : ℕ → ℤ) (s : List ℕ) where
  pub bytes_none : bytes_filled 0 g s ≡ s
  unfolding bytes_filled
  bytes_none = sym (filled_none (weight_byte g) s)

  pub bytes_more : (u : ℕ) → 8 * u + 8 ≤ length s → laid (bytes_filled u g s) u (g u) ≡ bytes_filled (u + 1) g s
  unfolding bytes_filled
  bytes_more u h = entry_more g s u refl

  pub bytes_long : (u : ℕ) → 8 * u ≤ length s → length (bytes_filled u g s) ≡ length s
  unfolding bytes_filled
  bytes_long u h = length-filled (weight_byte g) s (8 * u) h

pub bytes_same : (g h : ℕ → ℤ) (s : List ℕ) (n : ℕ) → ((u : ℕ) → u < n → g u ≡ h u) → bytes_filled n g s ≡ bytes_filled n h s
unfolding bytes_filled
bytes_same g h s n e = ap (λ (l : List ℕ). l ++ drop (8 * n) s) (up_to-cong (8 * n) (weight_byte g) (weight_byte h) (λ j l. ap (λ (z : ℤ). byte_of z (j % 8)) (e (j / 8) (omega arith))))
