-- Laws of mask bytes. Assumes nothing.
use mathlib.Core.Path.{◌≡◌, refl, ap, sym, ◌∙◌}
use mathlib.Core.Bool.{Bool, true, false}
use Prim.Native.Nat.{ℕ, ◌+◌, ◌-◌, ◌*◌, ◌/◌, ◌%◌, ◌^◌, ◌≤◌, ◌<◌}
use native.Mathlib.Omega.{arith}
use lib.Pow.{shl-shr, shr_le, mod-pow-add, field, mod-mod-pow}
use lib.Dec.{ltb, eqb}
use borrow.Author.Tests.{ltb-true, ltb-false, eqb-false}
use Rattle.digits.specs.Least.{least}
use Rattle.digits.proofs.Least.{least-before, least-true}
use Rattle.component.specs.Row.{has_colour}

zero-shr : (k : ℕ) → 0 / 2 ^ k ≡ 0
zero-shr k = omega (arith, shr_le 0 k)

zero-shl : (a n : ℕ) → a * 2 ^ n ≡ 0 → a ≡ 0
zero-shl a n e = sym (shl-shr a n) ∙ ap (λ x. x / 2 ^ n) e ∙ zero-shr n

-- no bits for colours from n on: the lowest 8 - n bits are 0
low-zero : (bits n j : ℕ) → j + n ≡ 8 → bits * 2 ^ n % 256 ≡ 0 → bits % 2 ^ j ≡ 0
low-zero bits n j h e =
    let s : bits * 2 ^ n % 2 ^ (j + n) ≡ 0 = rw h e in
    let t = rw (shl-shr bits n) at (mod-pow-add (bits * 2 ^ n) j n) in
    zero-shl (bits % 2 ^ j) n (omega arith)

-- where the lowest bits are 0, bit k among them is 0
bit-zero : (bits i k : ℕ) → bits % 2 ^ (i + 1 + k) ≡ 0 → bits / 2 ^ k % 2 ≡ 0
bit-zero bits i k e =
    let s : bits / 2 ^ k % 2 ^ (i + 1) ≡ 0 = sym (field bits (i + 1) k) ∙ ap (λ x. x / 2 ^ k) e ∙ zero-shr k in
    sym (mod-mod-pow (bits / 2 ^ k) i 1) ∙ ap (λ x. x % 2) s

-- a bit that is set is of a colour below n
pub bit_below : (bits n d : ℕ) → n ≤ 8 → bits * 2 ^ n % 256 ≡ 0 → d < 8 → bits / 2 ^ (7 - d) % 2 ≡ 1 → d < n
bit_below bits n d l e h one = go (ltb d n) refl
  where
    go : (b : Bool) → ltb d n ≡ b → d < n
    go true q = ltb-true d n q
    go false q =
        let from : n ≤ d = ltb-false d n q in
        let low = low-zero bits n (d - n + 1 + (7 - d)) (omega arith) e in
        let none = bit-zero bits (d - n) (7 - d) low in
        absurd (omega arith)

not-one : (x : ℕ) → eqb (x % 2) 1 ≡ false → x % 2 ≡ 0
not-one x e =
    let h = eqb-false (x % 2) 1 e in
    omega arith

-- a byte above 0 has a bit that is set
pub some-bit : (bits : ℕ) → bits < 256 → 0 < bits → (d : ℕ) × (d < 8) × (has_colour bits d ≡ true)
some-bit bits l p = go (ltb (least bit 8) 8) refl
  where
    bit : ℕ → Bool
    bit = has_colour bits

    go : (b : Bool) → ltb (least bit 8) 8 ≡ b → (d : ℕ) × (d < 8) × (bit d ≡ true)
    go true q =
        let h = ltb-true (least bit 8) 8 q in
        (least bit 8, h, least-true bit 8 h)
    go false q =
        let h : 8 ≤ least bit 8 = ltb-false (least bit 8) 8 q in
        let no : (d : ℕ) → d < 8 → bits / 2 ^ (7 - d) % 2 ≡ 0 = λ d b. not-one (bits / 2 ^ (7 - d)) (least-before bit 8 d (omega arith)) in
        let l₀ : bits < 128 = omega (arith, no 0 (omega arith)) in
        let l₁ : bits < 64 = omega (arith, no 1 (omega arith)) in
        let l₂ : bits < 32 = omega (arith, no 2 (omega arith)) in
        let l₃ : bits < 16 = omega (arith, no 3 (omega arith)) in
        let l₄ : bits < 8 = omega (arith, no 4 (omega arith)) in
        let l₅ : bits < 4 = omega (arith, no 5 (omega arith)) in
        let l₆ : bits < 2 = omega (arith, no 6 (omega arith)) in
        let l₇ : bits < 1 = omega (arith, no 7 (omega arith)) in
        absurd (omega arith)
