-- Laws of the values of signals, and the same of offers and flags as numbers. Assumes nothing.
use mathlib.Core.Path.{◌≡◌, refl, ap, ◌∙◌}
use mathlib.Core.Bool.{Bool, true, false, not, ◌&&◌, ◌||◌}
use Prim.Native.Nat.{ℕ, zero, suc, ◌≤◌}
use native.Mathlib.Omega.{arith}
use lib.Dec.{eqb, eqb-suc-zero}
use Rattle.std.specs.Prelude.{if◌then◌else◌}
use Rattle.std.specs.Int.{from_bool}
use Rattle.held.specs.declared.Offer.{Offer}
use Rattle.held.specs.declared.Offer.TheVariants.{Nothing, Colour}
use Rattle.held.specs.Values.{offer_number, offer_of, is_colour, first_colour, bit, unless, offered, when, or_else}

pub when-open : (n v : ℕ) → (n ≡ 0 → ⊥) → v ≡ when n v
when-open zero v h = absurd (h refl)
when-open (suc n) v h = refl

pub when-none : (g : ℕ) → when g 0 ≡ 0
when-none zero = refl
when-none (suc g) = refl

pub unless-none : (g : ℕ) → unless g 0 ≡ 0
unless-none zero = refl
unless-none (suc g) = refl

pub bit_nonzero : (n : ℕ) → bit (not (eqb n 0)) ≡ offered n
bit_nonzero zero = refl
bit_nonzero (suc n) = ap (λ (b : Bool). bit (not b)) (eqb-suc-zero n)

-- two bytes as flags
pub either_byte : (m n : ℕ) → bit (not (eqb m 0) || not (eqb n 0)) ≡ offered (or_else m n)
either_byte zero n = bit_nonzero n
either_byte (suc m) n = ap (λ (b : Bool). bit (not b || not (eqb n 0))) (eqb-suc-zero m)

pub both_flags : (p q : Bool) → bit (p && q) ≡ when (bit p) (bit q)
both_flags true q = refl
both_flags false q = refl

pub when_not : (b : Bool) (v : ℕ) → when (bit (not b)) v ≡ unless (bit b) v
when_not true v = refl
when_not false v = refl

-- offers as numbers
pub colour_flag : (o : Offer) → bit (is_colour o) ≡ offered (offer_number o)
colour_flag Nothing = refl
colour_flag (Colour d) = refl

pub first_number : (a b : Offer) → offer_number (first_colour a b) ≡ or_else (offer_number a) (offer_number b)
first_number Nothing b = refl
first_number (Colour d) b = refl

pub passed_number : (g : Bool) (o : Offer) → offer_number (if g then o else Nothing) ≡ when (bit g) (offer_number o)
passed_number true o = refl
passed_number false o = refl

-- what a source and a sink hold
pub held_number : (t : Bool) (o : Offer) → offer_number (if t then Nothing else o) ≡ unless (bit t) (offer_number o)
held_number true o = refl
held_number false o = refl

pub held_flag : (t : Bool) (o : Offer) → bit (t && not (is_colour o)) ≡ unless (offered (offer_number o)) (bit t)
held_flag true Nothing = refl
held_flag true (Colour d) = refl
held_flag false Nothing = refl
held_flag false (Colour d) = refl

-- back from their numbers
pub offer_of_number : (o : Offer) → offer_of (offer_number o) ≡ o
offer_of_number Nothing = refl
offer_of_number (Colour d) = refl

pub number_of_offer : (n : ℕ) → offer_number (offer_of n) ≡ n
number_of_offer zero = refl
number_of_offer (suc n) = refl

pub flag_of_bit : (b : Bool) → not (eqb (bit b) 0) ≡ b
flag_of_bit true = refl
flag_of_bit false = refl

pub bit_of_flag : (n : ℕ) → n ≤ 1 → bit (not (eqb n 0)) ≡ n
bit_of_flag zero h = refl
bit_of_flag (suc zero) h = refl
bit_of_flag (suc (suc n)) h = absurd (omega arith)

-- flags and offers of the code as numbers
pub ruleset numbers = (colour_flag, first_number, passed_number, both_flags, when_not)

-- the byte of a flag
pub flag_byte : (b : Bool) → from_bool b ≡ bit b
flag_byte true = refl
flag_byte false = refl

pub came_byte : (m : ℕ) → from_bool (not (eqb m 0)) ≡ offered m
came_byte m = flag_byte (not (eqb m 0)) ∙ bit_nonzero m
