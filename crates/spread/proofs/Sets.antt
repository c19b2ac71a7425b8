-- Bytes that have just the colours of a set. Assumes nothing.
use mathlib.Core.Path.{◌≡◌, sym, ap, ap₂, ◌∙◌}
use mathlib.Core.Bool.{Bool, false, ◌&&◌, ◌||◌}
use Prim.Native.Nat.{ℕ, ◌+◌, ◌/◌, ◌^◌, ◌<◌}
use native.Mathlib.Numerals.{add-one}
use lib.Bits.{bit_or}
use lib.Dec.{eqb}
use Rattle.digits.proofs.Bools.{and-swap}
use Rattle.digits.proofs.Some.{some_more}
use Rattle.component.proofs.Sets.{has-none, has_one, has-or}
use Rattle.reach.specs.Rounds.{image}
use Rattle.spread.specs.Spread.{IsSet}

pub set_one : (d : ℕ) → d < 8 → IsSet (128 / 2 ^ d) (eqb d)
set_one d l = record { has = λ e m. has_one d e l m }

pub set-none : (s : ℕ → Bool) → ((d : ℕ) → d < 8 → s d ≡ false) → IsSet 0 s
set-none s h = record { has = λ d l. has-none d ∙ sym (h d l) }

-- the union
pub set-or : {a b : ℕ} {s t : ℕ → Bool} → IsSet a s → IsSet b t → IsSet (bit_or a b) (λ d. s d || t d)
set-or {a} {b} h k = record { has = λ d l. has-or a b d ∙ ap₂ (λ (x y : Bool). x || y) (h.has d l) (k.has d l) }

pub set_same : {a : ℕ} {s t : ℕ → Bool} → ((d : ℕ) → d < 8 → s d ≡ t d) → IsSet a s → IsSet a t
set_same e h = record { has = λ d l. h.has d l ∙ e d l }

-- what a map makes of one colour more
pub image-more : (n : ℕ) (map : ℕ → ℕ) (set : ℕ → Bool) {made one c : ℕ} → IsSet made (image n map set) → c ≡ map n → IsSet one (λ d. set n && eqb c d) → IsSet (bit_or made one) (image (n + 1) map set)
image-more n map set {made} {one} {c} h e k =
    set_same
    (λ d l. ap (λ (x : ℕ). image n map set d || (set n && eqb x d)) e ∙ ap (λ (b : Bool). image n map set d || b) (and-swap (set n) (eqb (map n) d))
    ∙ sym (some_more (λ i. eqb (map i) d && set i) n) ∙ ap (λ (m : ℕ). image m map set d) (sym (add-one n)))
    (set-or h k)
