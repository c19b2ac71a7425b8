-- What goes out at an output port, as bytes, by kind. Assumes nothing.
use mathlib.Core.Path.{◌≡◌, refl, sym, ap, ◌∙◌}
use mathlib.Core.Bool.{Bool, true, false, not, ◌&&◌, ◌||◌, true≢false}
use mathlib.Core.List.{List}
use Prim.Native.Nat.{ℕ, ◌<◌}
use native.Mathlib.Omega.{arith}
use lib.Bits.{bit_and, bit_or, bit_xor}
use lib.Dec.{ltb, eqb}
use borrow.Author.Tests.{lt-ltb, eqb-true}
use Rattle.digits.specs.Least.{some}
use Rattle.digits.proofs.Bools.{and_both, and-false}
use Rattle.digits.proofs.Some.{some_at, some_is, none-some}
use Rattle.component.specs.declared.kinds.Kind.{Kind}
use Rattle.component.specs.declared.kinds.Kind.TheVariants.{Source, Sink, Queue, Function, Fork, Join, Switch, Merge}
use Rattle.component.specs.declared.kinds.Port.{Port}
use Rattle.component.specs.declared.kinds.Port.TheVariants.{A, B, C}
use Rattle.component.specs.Row.{first_map, second_map, mask, masked, filling, fill_colour, has_colour}
use Rattle.component.specs.Facts.{RowFacts}
use Rattle.component.proofs.Masks.{some-bit}
use Rattle.component.proofs.Sets.{has-none, has-and, has-less}
use Rattle.reach.specs.Rounds.{image, passed}
use Rattle.spread.specs.Spread.{IsSet, Below}
use Rattle.spread.proofs.Sets.{set-or, set_same, set-none}

-- a row of an accepted fabric, and what comes in at A and B
pub record Fed (colours : ℕ) (row : List ℕ) (a b : ℕ) : Type 0 where
  pub channels : ℕ
  pub facts : RowFacts colours channels row
  pub below_a : Below colours a
  pub below_b : Below colours b

-- byte r has what then goes out at port p of a component of kind n
abbrev pub Lets : ℕ → List ℕ → ℕ → ℕ → Kind → Port → ℕ → Type 0
Lets colours row a b n p r = IsSet r (λ d. ltb d colours && passed n p colours row (has_colour a) (has_colour b) d)

module _ {colours : ℕ} {row : List ℕ} {a b : ℕ} (k : Fed colours row a b) where
  -- a set of colours below C
  within : {s : ℕ → Bool} {r : ℕ} → ((d : ℕ) → d < 8 → s d ≡ true → d < colours) → IsSet r s → IsSet r (λ d. ltb d colours && s d)
  within {s} low h = set_same (λ d l. go d l (s d) refl) h
    where
      go : (d : ℕ) → d < 8 → (t : Bool) → s d ≡ t → t ≡ (ltb d colours && t)
      go d l true e = sym (ap (λ (x : Bool). x && true) (lt-ltb d colours (low d l e)))
      go d l false e = sym (and-false (ltb d colours))

  own : (bits : ℕ) → IsSet bits (has_colour bits)
  own bits = record { has = λ d l. refl }

  pub out-source : (p : Port) → Lets colours row a b Source p (mask row)
  unfolding passed
  out-source p = within k.facts.masks (own (mask row))

  pub out-sink : (p : Port) → Lets colours row a b Sink p 0
  unfolding passed
  out-sink p = within (λ d l e. absurd (true≢false (sym e))) (set-none (λ d. false) (λ d l. refl))

  pub out-queue : (p : Port) {r : ℕ} → IsSet r (λ d. ltb 0 (filling row) && eqb (fill_colour row) d) → Lets colours row a b Queue p (bit_or a r)
  unfolding passed
  out-queue p h = within (λ d l e. low d l (has_colour a d) refl e) (set-or (own a) h)
    where
      low : (d : ℕ) → d < 8 → (t : Bool) → has_colour a d ≡ t → (t || (ltb 0 (filling row) && eqb (fill_colour row) d)) ≡ true → d < colours
      low d l true e q = k.below_a.below d l e
      low d l false e q =
          let z = eqb-true (fill_colour row) d (and_both (ltb 0 (filling row)) (eqb (fill_colour row) d) q).1 in
          omega (arith, k.facts.fill_colours)

  -- a map's colours are below C
  image-below : (map : ℕ → ℕ) → ((d : ℕ) → d < colours → map d < colours) → (d : ℕ) → image colours map (has_colour a) d ≡ true → d < colours
  image-below map low d t =
      let m = some_is (λ e. eqb (map e) d && has_colour a e) colours t in
      let q = eqb-true (map m.0) d (and_both (eqb (map m.0) d) (has_colour a m.0) m.2).0 in
      omega (arith, low m.0 m.1)

  pub out-function : (p : Port) {r : ℕ} → IsSet r (image colours (first_map row) (has_colour a)) → Lets colours row a b Function p r
  unfolding passed
  out-function p h = within (λ d l. image-below (first_map row) k.facts.first_maps d) h

  -- nothing goes out at port A of a fork or a switch
  pub out-fork-A : Lets colours row a b Fork A 0
  unfolding passed
  out-fork-A = within (λ d l e. absurd (true≢false (sym e))) (set-none (λ d. false) (λ d l. refl))

  pub out-switch-A : Lets colours row a b Switch A 0
  unfolding passed
  out-switch-A = within (λ d l e. absurd (true≢false (sym e))) (set-none (λ d. false) (λ d l. refl))

  -- port B of a fork has the first map, port C the second
  pub out-fork-B : {r : ℕ} → IsSet r (image colours (first_map row) (has_colour a)) → Lets colours row a b Fork B r
  unfolding passed
  out-fork-B h = within (λ d l. image-below (first_map row) k.facts.first_maps d) h

  pub out-fork-C : {r : ℕ} → IsSet r (image colours (second_map row) (has_colour a)) → Lets colours row a b Fork C r
  unfolding passed
  out-fork-C h = within (λ d l. image-below (second_map row) k.facts.second_maps d) h

  -- a token that never comes
  pub out-join-none : (p : Port) → b ≡ 0 → Lets colours row a b Join p 0
  unfolding passed
  out-join-none p z = within (λ d l e. absurd (true≢false (sym e ∙ none d))) (set-none _ (λ d l. none d))
    where
      none : (d : ℕ) → (some colours (has_colour b) && image colours (first_map row) (has_colour a) d) ≡ false
      none d = ap (λ (t : Bool). t && image colours (first_map row) (has_colour a) d) (none-some (has_colour b) colours (λ e l. ap (λ (x : ℕ). has_colour x e) z ∙ has-none e))

  pub out-join : (p : Port) → b < 256 → (b ≡ 0 → ⊥) → {r : ℕ} → IsSet r (image colours (first_map row) (has_colour a)) → Lets colours row a b Join p r
  unfolding passed
  out-join p l nz h =
      let m = some-bit b l (omega arith) in
      let t : some colours (has_colour b) ≡ true = some_at (has_colour b) colours m.0 (k.below_b.below m.0 m.1 m.2) m.2 in
      set_same (λ d l. sym (ap (λ (x : Bool). ltb d colours && (x && image colours (first_map row) (has_colour a) d)) t)) (within (λ d l. image-below (first_map row) k.facts.first_maps d) h)

  gate-below : (g : ℕ → Bool) (d : ℕ) → d < 8 → (has_colour a d && g d) ≡ true → d < colours
  gate-below g d l t = k.below_a.below d l (and_both (has_colour a d) (g d) t).0

  -- port B of a switch has the colours of the mask, port C the others
  pub out-switch-B : Lets colours row a b Switch B (bit_and a (mask row))
  unfolding passed
  out-switch-B = within (gate-below (masked row)) (record { has = λ d l. has-and a (mask row) d })

  pub out-switch-C : Lets colours row a b Switch C (bit_xor a (bit_and a (mask row)))
  unfolding passed
  out-switch-C = within (gate-below (λ d. not (masked row d))) (record { has = λ d l. has-less a (mask row) d })

  pub out-merge : (p : Port) → Lets colours row a b Merge p (bit_or a b)
  unfolding passed
  out-merge p = within (λ d l e. low d l (has_colour a d) refl e) (set-or (own a) (own b))
    where
      low : (d : ℕ) → d < 8 → (t : Bool) → has_colour a d ≡ t → (t || has_colour b d) ≡ true → d < colours
      low d l true e q = k.below_a.below d l e
      low d l false e q = k.below_b.below d l q
