-- Signed 64-bit numbers whose distance from 0 is bounded: their sums fit, and the machine's sum is ℤ's.
use mathlib.Core.Path.{◌≡◌, refl, sym, ap, ◌∙◌, subst}
use mathlib.Core.Bool.{Bool, true, false, cond}
use Prim.Native.Nat.{ℕ, zero, suc, ◌+◌, ◌-◌, ◌*◌, ◌^◌, ◌≤◌, ◌<◌}
use native.Mathlib.Omega.{arith}
use lib.Dec.{T, ltb, ltb→lt}
use lib.IntN.{ℤ, pos, negsuc, nat_abs, neg_ℤ, sub_ℕ, ◌+ℤ◌, ◌-ℤ◌, ◌*ℤ◌, +ℤ_idl}
use lib.Signed.{mag}
use mir.Syntax.{w64}
use mir.Val.{SFits, to_z, of_z}
use mir.ValLaws.{to_z-of_z, to_z_pos}
use mathlib.Core.Path.{subst⁻¹}
use native.Mathlib.Nat.{mul-le-mul, zero-mul, suc-mul}
use Rattle.integers.specs.Sum.{sum_to, is_zero}

nat_abs-sub : (a b : ℕ) → nat_abs (sub_ℕ a b) ≤ a + b
nat_abs-sub a b = by-test (ltb a b) (ltb→lt a b)
  where
    by-test : (t : Bool) → (T t → a < b) → nat_abs (cond t (negsuc (b - suc a)) (pos (a - b))) ≤ a + b
    by-test true h = let k = h tt in omega arith
    by-test false h = omega arith

pub nat_abs-add : (a b : ℤ) → nat_abs (a +ℤ b) ≤ nat_abs a + nat_abs b
nat_abs-add (pos a) (pos b) = omega arith
nat_abs-add (pos a) (negsuc b) = nat_abs-sub a (suc b)
nat_abs-add (negsuc a) (pos b) = omega (arith, nat_abs-sub b (suc a))
nat_abs-add (negsuc a) (negsuc b) = omega arith

pub nat_abs-neg : (a : ℤ) → nat_abs (neg_ℤ a) ≡ nat_abs a
nat_abs-neg (pos zero) = refl
nat_abs-neg (pos (suc n)) = refl
nat_abs-neg (negsuc n) = refl

nat_abs_mul : (a b : ℤ) → nat_abs (a *ℤ b) ≡ nat_abs a * nat_abs b
nat_abs_mul (pos a) (pos b) = refl
nat_abs_mul (pos a) (negsuc b) = nat_abs-neg (pos (a * suc b))
nat_abs_mul (negsuc a) (pos b) = nat_abs-neg (pos (suc a * b))
nat_abs_mul (negsuc a) (negsuc b) = refl

pub nat_abs-mul-le : (a b : ℤ) (m n : ℕ) → nat_abs a ≤ m → nat_abs b ≤ n → nat_abs (a *ℤ b) ≤ m * n
nat_abs-mul-le a b m n h k = subst⁻¹ (λ (x : ℕ). x ≤ m * n) (nat_abs_mul a b) (mul-le-mul h k)

pub nat_abs-sum : (n B : ℕ) (f : ℕ → ℤ) → ((i : ℕ) → i < n → nat_abs (f i) ≤ B) → nat_abs (sum_to n f) ≤ n * B
unfolding sum_to
nat_abs-sum zero B f h = omega (arith, zero-mul B)
nat_abs-sum (suc n) B f h =
    omega (arith, nat_abs-add (sum_to n f) (f n), nat_abs-sum n B f (λ i l. h i (omega arith)), h n (omega arith), suc-mul n B)

mag-nat_abs : (z : ℤ) → mag z ≤ nat_abs z
mag-nat_abs (pos n) = omega arith
mag-nat_abs (negsuc n) = omega arith

-- a number near 0 fits
pub near_fits : (z : ℤ) (n : ℕ) → nat_abs z ≤ n → n < 2 ^ 63 → SFits w64 z
near_fits z n h k = record { sfits = omega (arith, mag-nat_abs z) }

-- a signed argument comes as what the machine reads back from its bits
pub near-back : (z : ℤ) (n : ℕ) → SFits w64 z → nat_abs z ≤ n → nat_abs (to_z w64 (of_z w64 z)) ≤ n
near-back z n f h = subst⁻¹ (λ (y : ℤ). nat_abs y ≤ n) (to_z-of_z w64 z f) h

module _ (a b : ℤ) (m n : ℕ) (ha : nat_abs a ≤ m) (hb : nat_abs b ≤ n) (room : m + n < 2 ^ 63) where
  back : to_z w64 (of_z w64 a) +ℤ to_z w64 (of_z w64 b) ≡ a +ℤ b
  back = ap (λ (z : ℤ). z +ℤ to_z w64 (of_z w64 b)) (to_z-of_z w64 a (near_fits a m ha (omega arith))) ∙ ap (λ (z : ℤ). a +ℤ z) (to_z-of_z w64 b (near_fits b n hb (omega arith)))

  sum_fits : SFits w64 (a +ℤ b)
  sum_fits = near_fits (a +ℤ b) (m + n) (omega (arith, nat_abs-add a b)) room

  -- what the machine's sum is
  pub added : to_z w64 (of_z w64 (to_z w64 (of_z w64 a) +ℤ to_z w64 (of_z w64 b))) ≡ a +ℤ b
  added = ap (λ (z : ℤ). to_z w64 (of_z w64 z)) back ∙ to_z-of_z w64 (a +ℤ b) sum_fits

-- the machine's negation, 0 - m
module _ (m : ℤ) (h : nat_abs m ≤ 2 ^ 34) where
  neg-back : pos 0 -ℤ to_z w64 (of_z w64 m) ≡ neg_ℤ m
  neg-back = ap (λ (z : ℤ). pos 0 -ℤ z) (to_z-of_z w64 m (near_fits m (2 ^ 34) h (omega arith))) ∙ +ℤ_idl (neg_ℤ m)

  neg-in : SFits w64 (neg_ℤ m)
  neg-in = near_fits (neg_ℤ m) (2 ^ 34) (omega (arith, nat_abs-neg m)) (omega arith)

  pub negated : to_z w64 (of_z w64 (pos 0 -ℤ to_z w64 (of_z w64 m))) ≡ neg_ℤ m
  negated = ap (λ (z : ℤ). to_z w64 (of_z w64 z)) neg-back ∙ to_z-of_z w64 (neg_ℤ m) neg-in

  pub negated-near : nat_abs (to_z w64 (of_z w64 (pos 0 -ℤ to_z w64 (of_z w64 m)))) ≤ 2 ^ 34
  negated-near = omega (arith, ap nat_abs negated, nat_abs-neg m)

-- a signed local grows: it is held by its bits, so its value a is what is read from them
module _ (a b : ℤ) (m n : ℕ) (ha : nat_abs a ≤ m) (hb : nat_abs b ≤ n) (room : m + n < 2 ^ 63) where
  held_back : a +ℤ to_z w64 (of_z w64 b) ≡ a +ℤ b
  held_back = ap (λ (z : ℤ). a +ℤ z) (to_z-of_z w64 b (near_fits b n hb (omega arith)))

  held_in : SFits w64 (a +ℤ b)
  held_in = near_fits (a +ℤ b) (m + n) (omega (arith, nat_abs-add a b)) room

  pub held : to_z w64 (of_z w64 (a +ℤ to_z w64 (of_z w64 b))) ≡ a +ℤ b
  held = ap (λ (z : ℤ). to_z w64 (of_z w64 z)) held_back ∙ to_z-of_z w64 (a +ℤ b) held_in

-- a signed number times a small unsigned one
module _ (x : ℤ) (f : ℕ) (hx : nat_abs x ≤ 2 ^ 40) (hf : f < 256) where
  mul-back : to_z w64 (of_z w64 x) *ℤ to_z w64 f ≡ x *ℤ pos f
  mul-back = ap (λ (z : ℤ). z *ℤ to_z w64 f) (to_z-of_z w64 x (near_fits x (2 ^ 40) hx (omega arith))) ∙ ap (λ (z : ℤ). x *ℤ z) (to_z_pos w64 f (omega arith))

  pub mul-near : nat_abs (x *ℤ pos f) ≤ 2 ^ 48
  mul-near = omega (arith, nat_abs-mul-le x (pos f) (2 ^ 40) 256 hx (omega arith))

  mul_in : SFits w64 (x *ℤ pos f)
  mul_in = near_fits (x *ℤ pos f) (2 ^ 48) mul-near (omega arith)

  pub mul-fits : SFits w64 (to_z w64 (of_z w64 x) *ℤ to_z w64 f)
  mul-fits = subst (SFits w64) (sym mul-back) mul_in

  pub multiplied : to_z w64 (of_z w64 (to_z w64 (of_z w64 x) *ℤ to_z w64 f)) ≡ x *ℤ pos f
  multiplied = ap (λ (z : ℤ). to_z w64 (of_z w64 z)) mul-back ∙ to_z-of_z w64 (x *ℤ pos f) mul_in

-- the test `z != 0` compares the bits of z with 0
pub zero_bits : (z : ℤ) → mag z < 2 ^ 63 → of_z w64 z ≡ 0 → z ≡ pos 0
zero_bits (pos n) h e = ap pos e
zero_bits (negsuc n) h e = absurd (off n h e)
  where
    off : (n : ℕ) → n < 2 ^ 63 → 2 ^ 64 - suc n ≡ 0 → ⊥
    off n h e = omega arith

pub nonzero-bits : (z : ℤ) → (of_z w64 z ≡ 0 → ⊥) → is_zero z ≡ false
unfolding is_zero
nonzero-bits (pos zero) h = absurd (h refl)
nonzero-bits (pos (suc n)) h = refl
nonzero-bits (negsuc n) h = refl

pub if-near : (b : Bool) (z : ℤ) (n : ℕ) → nat_abs z ≤ n → nat_abs (cond b z (pos 0)) ≤ n
if-near true z n h = h
if-near false z n h = omega arith
