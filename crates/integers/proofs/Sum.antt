-- Finite sums in ℤ over the numbers below a bound: their laws. Assumes nothing.
use mathlib.Core.Path.{◌≡◌, refl, sym, ◌∙◌, ap}
use mathlib.Core.Bool.{Bool, true, false, cond, true≢false}
use Prim.Native.Nat.{ℕ, zero, suc, ◌<◌, ◌+◌, ◌*◌}
use native.Mathlib.Nat.{add-suc, add-zero, mul-suc, mul-zero, not-suc-le-zero}
use native.Mathlib.Numerals.{add-one}
use native.Mathlib.Omega.{arith}
use lib.Dec.{ltb}
use lib.IntN.{ℤ, pos, negsuc, neg_ℤ, ◌+ℤ◌, ◌*ℤ◌, +ℤ_idl, +ℤ_idr, +ℤ_assoc, zero-*ℤ, *ℤ-zero, *ℤ_comm, *ℤ-one, one}
use borrow.Author.Tests.{ltb-true, ltb-false, eq-eqb, ne_eqb}
use Rattle.integers.specs.Sum.{sum_to, same, is_zero}
use Rattle.integers.proofs.Ring.{regroup, distrib-l, distrib-r, neg-*ℤ}

pub sum-none : (f : ℕ → ℤ) → sum_to 0 f ≡ pos 0
unfolding sum_to
sum-none f = refl

-- the next summand, as a loop's i + 1 asks it
pub sum_more : (n : ℕ) (f : ℕ → ℤ) → sum_to (n + 1) f ≡ sum_to n f +ℤ f n
unfolding sum_to
sum_more n f = ap (λ (k : ℕ). sum_to k f) (add-one n)

-- two functions that agree below n have the same sum
pub sum-cong : (n : ℕ) (f g : ℕ → ℤ) → ((i : ℕ) → i < n → f i ≡ g i) → sum_to n f ≡ sum_to n g
unfolding sum_to
sum-cong zero f g h = refl
sum-cong (suc n) f g h =
    ap (λ (x : ℤ). x +ℤ f n) (sum-cong n f g (λ i l. h i (omega arith))) ∙ ap (λ (x : ℤ). sum_to n g +ℤ x) (h n (omega arith))

pub sum-zero : (n : ℕ) (f : ℕ → ℤ) → ((i : ℕ) → i < n → f i ≡ pos 0) → sum_to n f ≡ pos 0
unfolding sum_to
sum-zero zero f h = refl
sum-zero (suc n) f h =
    ap (λ (x : ℤ). x +ℤ f n) (sum-zero n f (λ i l. h i (omega arith))) ∙ +ℤ_idl (f n) ∙ h n (omega arith)

pub sum-add : (n : ℕ) (f g : ℕ → ℤ) → sum_to n (λ i. f i +ℤ g i) ≡ sum_to n f +ℤ sum_to n g
unfolding sum_to
sum-add zero f g = refl
sum-add (suc n) f g =
    ap (λ (x : ℤ). x +ℤ (f n +ℤ g n)) (sum-add n f g) ∙ regroup (sum_to n f) (sum_to n g) (f n) (g n)

pub sum-mul : (n : ℕ) (c : ℤ) (f : ℕ → ℤ) → c *ℤ sum_to n f ≡ sum_to n (λ i. c *ℤ f i)
unfolding sum_to
sum-mul zero c f = *ℤ-zero c
sum-mul (suc n) c f = distrib-l c (sum_to n f) (f n) ∙ ap (λ (x : ℤ). x +ℤ c *ℤ f n) (sum-mul n c f)

pub mul-sum : (n : ℕ) (f : ℕ → ℤ) (c : ℤ) → sum_to n f *ℤ c ≡ sum_to n (λ i. f i *ℤ c)
unfolding sum_to
mul-sum zero f c = zero-*ℤ c
mul-sum (suc n) f c = distrib-r (sum_to n f) (f n) c ∙ ap (λ (x : ℤ). x +ℤ f n *ℤ c) (mul-sum n f c)

-- two sums change places
pub sum-swap : (m n : ℕ) (f : ℕ → ℕ → ℤ) → sum_to m (λ i. sum_to n (λ j. f i j)) ≡ sum_to n (λ j. sum_to m (λ i. f i j))
unfolding sum_to
sum-swap zero n f = sym (sum-zero n (λ j. pos 0) (λ j l. refl))
sum-swap (suc m) n f =
    ap (λ (x : ℤ). x +ℤ sum_to n (λ j. f m j)) (sum-swap m n f)
    ∙ sym (sum-add n (λ j. sum_to m (λ i. f i j)) (λ j. f m j))

-- a sum in two parts
pub sum-append : (m n : ℕ) (f : ℕ → ℤ) → sum_to (m + n) f ≡ sum_to m f +ℤ sum_to n (λ i. f (m + i))
unfolding sum_to
sum-append m zero f = ap (λ (k : ℕ). sum_to k f) (add-zero m) ∙ sym (+ℤ_idr (sum_to m f))
sum-append m (suc n) f =
    ap (λ (k : ℕ). sum_to k f) (add-suc m n) ∙ ap (λ (x : ℤ). x +ℤ f (m + n)) (sum-append m n f)
    ∙ +ℤ_assoc (sum_to m f) (sum_to n (λ i. f (m + i))) (f (m + n))

-- a sum over w times n numbers, w at a time
pub sum-blocks : (w n : ℕ) (f : ℕ → ℤ) → sum_to (w * n) f ≡ sum_to n (λ q. sum_to w (λ d. f (w * q + d)))
unfolding sum_to
sum-blocks w zero f = ap (λ (k : ℕ). sum_to k f) (mul-zero w)
sum-blocks w (suc n) f =
    ap (λ (k : ℕ). sum_to k f) (mul-suc w n) ∙ sum-append (w * n) w f
    ∙ ap (λ (x : ℤ). x +ℤ sum_to w (λ d. f (w * n + d))) (sum-blocks w n f)

-- a sum of which only one number counts
pub sum-only : (n i : ℕ) (f : ℕ → ℤ) → i < n → ((j : ℕ) → j < n → (j ≡ i → ⊥) → f j ≡ pos 0) → sum_to n f ≡ f i
unfolding sum_to
sum-only zero i f l h = absurd (not-suc-le-zero l)
sum-only (suc n) i f l h = by-test (ltb i n) refl (λ k. sum-only n i f k (λ j m. h j (omega arith)))
  where
    by-test : (t : Bool) → ltb i n ≡ t → (i < n → sum_to n f ≡ f i) → sum_to n f +ℤ f n ≡ f i
    by-test true e r =
        let k : i < n = ltb-true i n e in
        ap (λ (x : ℤ). x +ℤ f n) (r k) ∙ ap (λ (x : ℤ). f i +ℤ x) (h n (omega arith) (λ q. omega arith)) ∙ +ℤ_idr (f i)
    by-test false e r =
        let k : i ≡ n = omega (arith, ltb-false i n e) in
        ap (λ (x : ℤ). x +ℤ f n) (sum-zero n f (λ j m. h j (omega arith) (λ q. omega arith))) ∙ +ℤ_idl (f n) ∙ ap f (sym k)

-- ---- one number counts
pub same-yes : (a b : ℕ) → a ≡ b → same a b ≡ pos 1
unfolding same
same-yes a b e = ap (λ (t : Bool). cond t (pos 1) (pos 0)) (eq-eqb a b e)

pub same-no : (a b : ℕ) → (a ≡ b → ⊥) → same a b ≡ pos 0
unfolding same
same-no a b h = ap (λ (t : Bool). cond t (pos 1) (pos 0)) (ne_eqb a b h)

pub one-*ℤ : (x : ℤ) → pos 1 *ℤ x ≡ x
unfolding one
one-*ℤ x = *ℤ_comm (pos 1) x ∙ *ℤ-one x

-- ---- the other sign
minus : (z : ℤ) → neg_ℤ (pos 1) *ℤ z ≡ neg_ℤ z
minus z = neg-*ℤ (pos 1) z ∙ ap neg_ℤ (one-*ℤ z)

pub sum-minus : (n : ℕ) (f : ℕ → ℤ) → sum_to n (λ i. neg_ℤ (f i)) ≡ neg_ℤ (sum_to n f)
sum-minus n f =
    sum-cong n (λ i. neg_ℤ (f i)) (λ i. neg_ℤ (pos 1) *ℤ f i) (λ i l. sym (minus (f i)))
    ∙ sym (sum-mul n (neg_ℤ (pos 1)) f) ∙ minus (sum_to n f)

-- ---- 0 or not
pub zero_is : (z : ℤ) → is_zero z ≡ true → z ≡ pos 0
unfolding is_zero
zero_is (pos zero) e = refl
zero_is (pos (suc n)) e = absurd (true≢false (sym e))
zero_is (negsuc n) e = absurd (true≢false (sym e))

pub is-zero : (z : ℤ) → z ≡ pos 0 → is_zero z ≡ true
unfolding is_zero
is-zero z e = ap is_zero e

-- ---- what is added only if a test holds
pub cond-zero : (b : Bool) (z : ℤ) → z ≡ pos 0 → cond b z (pos 0) ≡ pos 0
cond-zero true z e = e
cond-zero false z e = refl

pub sum-if : (b : Bool) (n : ℕ) (g : ℕ → ℤ) → sum_to n (λ k. cond b (g k) (pos 0)) ≡ cond b (sum_to n g) (pos 0)
sum-if true n g = refl
sum-if false n g = sum-zero n (λ k. pos 0) (λ k l. refl)

pub mul-if : (b : Bool) (m z : ℤ) → m *ℤ cond b z (pos 0) ≡ cond b (m *ℤ z) (pos 0)
mul-if true m z = refl
mul-if false m z = *ℤ-zero m
