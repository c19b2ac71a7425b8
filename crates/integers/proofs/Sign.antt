-- A number of ℤ is how far it is above 0 less how far it is below. Assumes nothing.
use mathlib.Core.Path.{◌≡◌, refl, ap, ap₂, sym, ◌∙◌}
use mathlib.Core.Bool.{Bool, true, false, cond}
use Prim.Native.Nat.{ℕ, zero, suc, ◌+◌, ◌-◌, ◌*◌, ◌≤◌}
use native.Mathlib.Nat.{zero-mul}
use native.Mathlib.Omega.{arith}
use lib.Dec.{ltb}
use lib.IntN.{ℤ, pos, negsuc, nat_abs, neg_ℤ, ◌+ℤ◌, ◌*ℤ◌, pos-ne-negsuc}
use borrow.Author.Tests.{le-ltb, ltb-false}
use Rattle.integers.specs.Sign.{above_zero, below_zero}

pub below-nat_abs : (z : ℤ) → below_zero z ≤ nat_abs z
below-nat_abs (pos n) = omega arith
below-nat_abs (negsuc n) = omega arith

-- ---- with enough added it is not below 0
pub raised : (z : ℤ) (n : ℕ) → below_zero z ≤ above_zero z + n → z +ℤ pos n ≡ pos (above_zero z + n - below_zero z)
raised (pos m) n h = let e : m + n - 0 ≡ m + n = omega arith in ap pos (sym e)
raised (negsuc m) n h =
    let l : suc m ≤ n = omega arith in
    let e : 0 + n - suc m ≡ n - suc m = omega arith in
    rw (le-ltb n (suc m) l, e)

-- and if it is not below 0 then enough was added
pub raised-back : (z : ℤ) (n m : ℕ) → z +ℤ pos n ≡ pos m → below_zero z ≤ above_zero z + n
raised-back (pos k) n m e = omega arith
raised-back (negsuc k) n m e = go (ltb n (suc k)) refl e
  where
    go : (b : Bool) → ltb n (suc k) ≡ b → cond b (negsuc (suc k - suc n)) (pos (n - suc k)) ≡ pos m → suc k ≤ 0 + n
    go true q d = absurd (pos-ne-negsuc m (suc k - suc n) (sym d))
    go false q d = omega (arith, ltb-false n (suc k) q)

-- ---- times a number
neg-above : (x : ℕ) → above_zero (neg_ℤ (pos x)) ≡ 0
neg-above zero = refl
neg-above (suc x) = refl

neg-below : (x : ℕ) → below_zero (neg_ℤ (pos x)) ≡ x
neg-below zero = refl
neg-below (suc x) = refl

above-mul : (z : ℤ) (n : ℕ) → above_zero (z *ℤ pos n) ≡ above_zero z * n
above-mul (pos m) n = refl
above-mul (negsuc m) n = neg-above (suc m * n) ∙ sym (zero-mul n)

below-mul : (z : ℤ) (n : ℕ) → below_zero (z *ℤ pos n) ≡ below_zero z * n
below-mul (pos m) n = sym (zero-mul n)
below-mul (negsuc m) n = neg-below (suc m * n)

-- n times z, and as much for each of m times that z is below 0
pub product-raised : (z : ℤ) (n m : ℕ) → below_zero z * n ≤ below_zero z * m → z *ℤ pos n +ℤ pos (below_zero z * m) ≡ pos (above_zero z * n + below_zero z * m - below_zero z * n)
product-raised z n m h =
    raised (z *ℤ pos n) (below_zero z * m) (omega (arith, above-mul z n, below-mul z n))
    ∙ ap₂ (λ (a b : ℕ). pos (a + below_zero z * m - b)) (above-mul z n) (below-mul z n)
