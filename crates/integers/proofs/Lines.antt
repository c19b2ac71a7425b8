-- Sums of terms, taken by columns or by lines. Term k has the multiplier m k; F k v is the factor of v in its line. Assumes nothing.
use mathlib.Core.Path.{◌≡◌, sym, ◌∙◌}
use Prim.Native.Nat.{ℕ}
use lib.IntN.{ℤ, ◌*ℤ◌}
use Rattle.integers.specs.Sum.{sum_to}
use Rattle.integers.proofs.Ring.{*ℤ-assoc}
use Rattle.integers.proofs.Sum.{sum-cong, sum-mul, mul-sum, sum-swap}

pub by_lines : (T : ℕ) (m : ℕ → ℤ) (X : ℕ) (F : ℕ → ℕ → ℤ) (x : ℕ → ℤ) → sum_to X (λ v. sum_to T (λ k. m k *ℤ F k v) *ℤ x v) ≡ sum_to T (λ k. m k *ℤ sum_to X (λ v. F k v *ℤ x v))
by_lines T m X F x =
    sum-cong X (λ v. sum_to T (λ k. m k *ℤ F k v) *ℤ x v) (λ v. sum_to T (λ k. m k *ℤ F k v *ℤ x v)) (λ v l. mul-sum T (λ k. m k *ℤ F k v) (x v))
    ∙ sum-swap X T (λ v k. m k *ℤ F k v *ℤ x v)
    ∙ sum-cong T (λ k. sum_to X (λ v. m k *ℤ F k v *ℤ x v)) (λ k. m k *ℤ sum_to X (λ v. F k v *ℤ x v))
    (λ k l. sum-cong X (λ v. m k *ℤ F k v *ℤ x v) (λ v. m k *ℤ (F k v *ℤ x v)) (λ v n. *ℤ-assoc (m k) (F k v) (x v)) ∙ sym (sum-mul X (m k) (λ v. F k v *ℤ x v)))

-- the same over pairs of numbers
pub by-lines-2 : (T : ℕ) (m : ℕ → ℤ) (X D : ℕ) (F : ℕ → ℕ → ℕ → ℤ) (y : ℕ → ℕ → ℤ)
    → sum_to X (λ x. sum_to D (λ d. sum_to T (λ k. m k *ℤ F k x d) *ℤ y x d)) ≡ sum_to T (λ k. m k *ℤ sum_to X (λ x. sum_to D (λ d. F k x d *ℤ y x d)))
by-lines-2 T m X D F y =
    sum-cong X (λ x. sum_to D (λ d. sum_to T (λ k. m k *ℤ F k x d) *ℤ y x d)) (λ x. sum_to T (λ k. m k *ℤ sum_to D (λ d. F k x d *ℤ y x d)))
    (λ x l. by_lines T m D (λ k d. F k x d) (y x))
    ∙ sum-swap X T (λ x k. m k *ℤ sum_to D (λ d. F k x d *ℤ y x d))
    ∙ sum-cong T (λ k. sum_to X (λ x. m k *ℤ sum_to D (λ d. F k x d *ℤ y x d))) (λ k. m k *ℤ sum_to X (λ x. sum_to D (λ d. F k x d *ℤ y x d)))
    (λ k l. sym (sum-mul X (m k) (λ x. sum_to D (λ d. F k x d *ℤ y x d))))
