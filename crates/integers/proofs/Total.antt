-- Finite sums in ℕ over the numbers below a bound: their laws. Assumes nothing.
use mathlib.Core.Path.{◌≡◌, refl, ap, ap₂}
use Prim.Native.Nat.{ℕ, zero, suc, ◌+◌, ◌*◌, ◌≤◌, ◌<◌}
use native.Mathlib.Nat.{suc-mul}
use native.Mathlib.Numerals.{add-one}
use native.Mathlib.Decide.{dec_lt}
use native.Mathlib.Omega.{arith}
use lib.IntN.{ℤ, pos, ◌+ℤ◌}
use Rattle.integers.specs.Sum.{sum_to}
use Rattle.integers.specs.Total.{total}

pub total-none : (g : ℕ → ℕ) → total 0 g ≡ 0
unfolding total
total-none g = refl

-- the next summand, as a loop's i + 1 asks it
pub total-more : (n : ℕ) (g : ℕ → ℕ) → total (n + 1) g ≡ total n g + g n
unfolding total
total-more n g = ap (λ (k : ℕ). total k g) (add-one n)

pub total-cong : (n : ℕ) (g h : ℕ → ℕ) → ((i : ℕ) → i < n → g i ≡ h i) → total n g ≡ total n h
unfolding total
total-cong zero g h e = refl
total-cong (suc n) g h e = ap₂ (λ (x y : ℕ). x + y) (total-cong n g h (λ i l. e i (omega arith))) (e n (omega arith))

-- no summand is above the sum
pub total-at : (n : ℕ) (g : ℕ → ℕ) (i : ℕ) → i < n → g i ≤ total n g
unfolding total
total-at zero g i l = absurd (omega arith)
total-at (suc n) g i l = go (total-at n g i) (dec_lt i n)
  where
    go : (i < n → g i ≤ total n g) → Dec (i < n) → g i ≤ total n g + g n
    go again (yes h) = omega (arith, again h)
    go again (no h) =
        let e : i ≡ n = omega arith in
        omega (arith, ap g e)

pub total-le : (n B : ℕ) (g : ℕ → ℕ) → ((i : ℕ) → i < n → g i ≤ B) → total n g ≤ n * B
unfolding total
total-le zero B g h = omega arith
total-le (suc n) B g h = omega (arith, total-le n B g (λ i l. h i (omega arith)), h n (omega arith), suc-mul n B)

-- a sum in ℤ of numbers that are not below 0
pub sum-total : (n : ℕ) (f : ℕ → ℤ) (g : ℕ → ℕ) → ((i : ℕ) → i < n → f i ≡ pos (g i)) → sum_to n f ≡ pos (total n g)
unfolding sum_to total
sum-total zero f g e = refl
sum-total (suc n) f g e = ap₂ (λ (x y : ℤ). x +ℤ y) (sum-total n f g (λ i l. e i (omega arith))) (e n (omega arith))
