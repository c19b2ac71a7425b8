-- Laws of the lines: how long they are, and entries that are 0. Assumes nothing.
use mathlib.Core.Path.{◌≡◌, refl, ap, ap₂, ◌∙◌}
use mathlib.Core.Bool.{Bool, true, false}
use mathlib.Core.List.{List, [], ◌∷◌, ◌++◌, append-nil}
use Prim.Native.Nat.{ℕ, zero, suc, ◌+◌, ◌/◌, ◌%◌, ◌^◌, ◌≤◌, ◌<◌}
use native.Mathlib.Nat.{add-zero, add-suc}
use native.Mathlib.Omega.{arith}
use lib.ListN.{length, length-append}
use lib.IntN.{ℤ, pos, negsuc}
use Rattle.std.specs.Prelude.{if◌then◌else◌}
use Rattle.std.specs.Ordering.{int_eq}
use Rattle.lines.specs.Decimal.{integer}
use Rattle.lines.specs.Listing.{text_field, weight_line, weight_lines}
use Rattle.lines.proofs.Decimal.{decimal-short, decimal-few}

pub line-none : (u : ℕ) (w : ℤ) → w ≡ pos 0 → weight_line u w ≡ []
unfolding weight_line
line-none u w e = rw e

integer-few : (z : ℤ) → length (integer z) ≤ 21
integer-few (pos n) = omega (arith, decimal-few n)
integer-few (negsuc n) = omega (arith, decimal-few (suc n))

-- the line of any weight, of a table of 1,024
pub line-short : (u : ℕ) (w : ℤ) → u < 1024 → length (weight_line u w) ≤ 30
unfolding weight_line
line-short u w h = go (int_eq w (pos 0))
  where
    go : (b : Bool) → length (if b then [] else (81 ∷ [] ++ text_field (pos (u / 8)) ++ text_field (pos (u % 8)) ++ text_field w ++ 10 ∷ [])) ≤ 30
    go true = omega arith
    go false =
        let a : u / 8 < 10 ^ 3 = omega arith in
        let b : u % 8 < 10 ^ 1 = omega arith in
        simp length-append (omega (arith, decimal-short 2 (u / 8) a, decimal-short 0 (u % 8) b, integer-few w))

pub lines_same : (n : ℕ) (v w : ℕ → ℤ) → ((u : ℕ) → u < n → v u ≡ w u) → weight_lines n v ≡ weight_lines n w
unfolding weight_lines
lines_same zero v w h = refl
lines_same (suc n) v w h = ap₂ ◌++◌ (lines_same n v w (λ u l. h u (omega arith))) (ap (weight_line n) (h n (omega arith)))

-- entries from n on that are 0 have no lines
pub lines-past : (n m : ℕ) (weights : ℕ → ℤ) → ((u : ℕ) → n ≤ u → weights u ≡ pos 0) → weight_lines (n + m) weights ≡ weight_lines n weights
unfolding weight_lines
lines-past n zero weights h = ap (λ (k : ℕ). weight_lines k weights) (add-zero n)
lines-past n (suc m) weights h =
    ap (λ (k : ℕ). weight_lines k weights) (add-suc n m)
    ∙ ap (λ (l : List ℕ). weight_lines (n + m) weights ++ l) (line-none (n + m) (weights (n + m)) (h (n + m) (omega arith)))
    ∙ append-nil (weight_lines (n + m) weights)
    ∙ lines-past n m weights h
