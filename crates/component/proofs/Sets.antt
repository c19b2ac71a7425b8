-- Mask bytes as sets of colours. Assumes nothing.
use mathlib.Core.Path.{◌≡◌, refl, sym, ap, ap₂, ◌∙◌}
use mathlib.Core.Bool.{Bool, true, false, cond, not, ◌&&◌, ◌||◌, true≢false}
use Prim.Native.Nat.{ℕ, zero, suc, ◌+◌, ◌-◌, ◌*◌, ◌/◌, ◌%◌, ◌^◌, ◌<◌}
use native.Mathlib.Nat.{mod-lt, pow-suc}
use native.Mathlib.Decide.{ℕ_discrete}
use native.Mathlib.Omega.{arith}
use lib.Bits.{bit_and, bit_or, bit_xor, and_shr, or_shr, xor_shr, and_mod, or_mod, xor_mod}
use lib.Dec.{eqb}
use lib.Pow.{shr-shr, shr_le}
use Rattle.digits.specs.Least.{least, some}
use Rattle.digits.proofs.Some.{some-none}
use Rattle.component.specs.Row.{has_colour, mask_bits, mask_byte}

-- ---- what is done bit by bit
bit_is : (m : ℕ) → m < 2 → m ≡ cond (eqb m 1) 1 0
bit_is zero l = refl
bit_is (suc zero) l = refl
bit_is (suc (suc m)) l = absurd (omega arith)

module _ (op : ℕ → ℕ → ℕ) (on : Bool → Bool → Bool)
    (high : (a b k : ℕ) → op a b / 2 ^ k ≡ op (a / 2 ^ k) (b / 2 ^ k))
    (low : (a b k : ℕ) → op a b % 2 ^ k ≡ op (a % 2 ^ k) (b % 2 ^ k))
    (bits : (a b : Bool) → eqb (op (cond a 1 0) (cond b 1 0)) 1 ≡ on a b) where
  has-by : (a b d : ℕ) → has_colour (op a b) d ≡ on (has_colour a d) (has_colour b d)
  has-by a b d =
      let x : ℕ = a / 2 ^ (7 - d) in
      let y : ℕ = b / 2 ^ (7 - d) in
      ap (λ (z : ℕ). eqb (z % 2) 1) (high a b (7 - d)) ∙ ap (λ (z : ℕ). eqb z 1) (low x y 1)
      ∙ ap₂ (λ (m n : ℕ). eqb (op m n) 1) (bit_is (x % 2) (mod-lt x (omega arith))) (bit_is (y % 2) (mod-lt y (omega arith))) ∙ bits (eqb (x % 2) 1) (eqb (y % 2) 1)

or-bits : (a b : Bool) → eqb (bit_or (cond a 1 0) (cond b 1 0)) 1 ≡ (a || b)
or-bits true true = refl
or-bits true false = refl
or-bits false true = refl
or-bits false false = refl

and-bits : (a b : Bool) → eqb (bit_and (cond a 1 0) (cond b 1 0)) 1 ≡ (a && b)
and-bits true true = refl
and-bits true false = refl
and-bits false true = refl
and-bits false false = refl

abbrev differ : Bool → Bool → Bool
differ true b = not b
differ false b = b

xor-bits : (a b : Bool) → eqb (bit_xor (cond a 1 0) (cond b 1 0)) 1 ≡ differ a b
xor-bits true true = refl
xor-bits true false = refl
xor-bits false true = refl
xor-bits false false = refl

pub has-or : (a b d : ℕ) → has_colour (bit_or a b) d ≡ (has_colour a d || has_colour b d)
has-or = has-by bit_or (λ a b. a || b) or_shr or_mod or-bits

pub has-and : (a b d : ℕ) → has_colour (bit_and a b) d ≡ (has_colour a d && has_colour b d)
has-and = has-by bit_and (λ a b. a && b) and_shr and_mod and-bits

-- those in a that are not in b
pub has-less : (a b d : ℕ) → has_colour (bit_xor a (bit_and a b)) d ≡ (has_colour a d && not (has_colour b d))
has-less a b d = has-by bit_xor differ xor_shr xor_mod xor-bits a (bit_and a b) d ∙ ap (λ (z : Bool). differ (has_colour a d) z) (has-and a b d) ∙ go (has_colour a d) (has_colour b d)
  where
    go : (x y : Bool) → differ x (x && y) ≡ (x && not y)
    go true y = refl
    go false y = refl

pub has-none : (d : ℕ) → has_colour 0 d ≡ false
has-none d = let e : 0 / 2 ^ (7 - d) ≡ 0 = zero_high (7 - d) in rw e
  where
    zero_high : (k : ℕ) → 0 / 2 ^ k ≡ 0
    zero_high k = omega (arith, shr_le 0 k)

-- ---- one colour
wrong : ℕ → ℕ → Bool
wrong c d = differ (has_colour (128 / 2 ^ c) d) (eqb c d)

-- computed for each of the eight colours, of each
pub has_one : (c d : ℕ) → c < 8 → d < 8 → has_colour (128 / 2 ^ c) d ≡ eqb c d
unfolding wrong least
has_one c d lc ld = same _ _ (some-none (wrong c) 8 (some-none (λ i. some 8 (wrong i)) 8 refl c lc) d ld)
  where
    same : (a b : Bool) → differ a b ≡ false → a ≡ b
    same true true e = refl
    same true false e = absurd (true≢false e)
    same false true e = absurd (true≢false e)
    same false false e = refl

-- ---- a byte is that of its set
module _ (s : ℕ → Bool) where
  -- n bits, the bit of colour 0 the highest
  pub bits_are : (n b : ℕ) → b < 2 ^ n → ((d : ℕ) → d < n → eqb (b / 2 ^ (n - suc d) % 2) 1 ≡ s d) → b ≡ mask_bits n s
  unfolding mask_bits
  bits_are zero b l h = omega arith
  bits_are (suc n) b l h =
      let half : b / 2 ≡ mask_bits n s = bits_are n (b / 2) (omega (arith, pow-suc 2 n)) above in
      let e : suc n - suc n ≡ 0 = omega arith in
      let low : b / 1 ≡ b = omega arith in
      let last : eqb (b % 2) 1 ≡ s n = rw (e, low) at (h n (omega arith)) in
      let one = bit_is (b % 2) (mod-lt b (omega arith)) in
      rw (← half, ← last, ← one) (omega arith)
    where
      above : (d : ℕ) → d < n → eqb (b / 2 / 2 ^ (n - suc d) % 2) 1 ≡ s d
      above d m =
          let e : suc n - suc d ≡ 1 + (n - suc d) = omega arith in
          ap (λ (z : ℕ). eqb (z % 2) 1) (shr-shr b 1 (n - suc d) ∙ ap (λ (k : ℕ). b / 2 ^ k) (sym e)) ∙ h d (omega arith)

  pub byte-is : (b : ℕ) → b < 256 → ((d : ℕ) → d < 8 → has_colour b d ≡ s d) → b ≡ mask_byte s
  byte-is b l h = bits_are 8 b l (λ d m. let e : 8 - suc d ≡ 7 - d = omega arith in ap (λ (k : ℕ). eqb (b / 2 ^ k % 2) 1) e ∙ h d m)

  -- and has its colours
  pub bits-have : (n d : ℕ) → d < n → eqb (mask_bits n s / 2 ^ (n - suc d) % 2) 1 ≡ s d
  unfolding mask_bits
  bits-have zero d l = absurd (omega arith)
  bits-have (suc n) d l = go (s n) refl (ℕ_discrete d n) (λ m. bits-have n d m)
    where
      half : (b : Bool) → (2 * mask_bits n s + cond b 1 0) / 2 ≡ mask_bits n s
      half true = omega arith
      half false = omega arith

      last : (b : Bool) → eqb ((2 * mask_bits n s + cond b 1 0) % 2) 1 ≡ b
      last true = let e : (2 * mask_bits n s + 1) % 2 ≡ 1 = omega arith in rw e
      last false = let e : (2 * mask_bits n s + 0) % 2 ≡ 0 = omega arith in rw e

      go : (b : Bool) → s n ≡ b → Dec (d ≡ n) → (d < n → eqb (mask_bits n s / 2 ^ (n - suc d) % 2) 1 ≡ s d) → eqb ((2 * mask_bits n s + cond (s n) 1 0) / 2 ^ (suc n - suc d) % 2) 1 ≡ s d
      go b e (yes q) again =
          let z : suc n - suc d ≡ 0 = omega arith in
          let low : (2 * mask_bits n s + cond (s n) 1 0) / 1 ≡ 2 * mask_bits n s + cond (s n) 1 0 = omega arith in
          rw (z, low) (last (s n) ∙ ap s (sym q))
      go b e (no q) again =
          let z : suc n - suc d ≡ 1 + (n - suc d) = omega arith in
          ap (λ (k : ℕ). eqb ((2 * mask_bits n s + cond (s n) 1 0) / 2 ^ k % 2) 1) z
          ∙ ap (λ (x : ℕ). eqb (x % 2) 1) (sym (shr-shr (2 * mask_bits n s + cond (s n) 1 0) 1 (n - suc d)) ∙ ap (λ (x : ℕ). x / 2 ^ (n - suc d)) (half (s n))) ∙ again (omega arith)

  pub has-byte : (d : ℕ) → d < 8 → has_colour (mask_byte s) d ≡ s d
  has-byte d l =
      let e : 8 - suc d ≡ 7 - d = omega arith in
      ap (λ (k : ℕ). eqb (mask_byte s / 2 ^ k % 2) 1) (sym e) ∙ bits-have 8 d l
