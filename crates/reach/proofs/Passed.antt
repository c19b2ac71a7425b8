-- What a component lets out: more where more comes in, and nothing hangs on a port that is no input. Assumes nothing.
use mathlib.Core.Path.{◌≡◌, refl}
use mathlib.Core.Bool.{Bool, true, false, not, ◌&&◌, ◌||◌}
use mathlib.Core.List.{List}
use Prim.Native.Nat.{ℕ, ◌<◌}
use lib.Dec.{ltb, eqb}
use Rattle.digits.specs.Least.{some}
use Rattle.digits.proofs.Bools.{and_both, both_true}
use Rattle.digits.proofs.Some.{some_mono}
use Rattle.component.specs.declared.kinds.Kind.{Kind}
use Rattle.component.specs.declared.kinds.Kind.TheVariants.{Source, Sink, Queue, Function, Fork, Join, Switch, Merge}
use Rattle.component.specs.declared.kinds.Port.{Port}
use Rattle.component.specs.declared.kinds.Port.TheVariants.{A, B, C}
use Rattle.component.specs.Kind.{port_use, is_input}
use Rattle.component.specs.Row.{first_map, second_map, masked, filling, fill_colour}
use Rattle.reach.specs.Rounds.{image, passed}

either-more : (a b c d : Bool) → (a ≡ true → c ≡ true) → (b ≡ true → d ≡ true) → (a || b) ≡ true → (c || d) ≡ true
either-more true b c d h k e = rw (h refl)
either-more false b true d h k e = refl
either-more false b false d h k e = k e

-- the colours of one set are in another
abbrev pub Among : ℕ → (ℕ → Bool) → (ℕ → Bool) → Type 0
Among colours a c = (d : ℕ) → d < colours → a d ≡ true → c d ≡ true

module _ (colours : ℕ) (row : List ℕ) (a b c e : ℕ → Bool) (d : ℕ) (l : d < colours) where
  image-more : Among colours a c → (map : ℕ → ℕ) → image colours map a d ≡ true → image colours map c d ≡ true
  image-more h map = some_mono (λ i. eqb (map i) d && a i) (λ i. eqb (map i) d && c i) colours (λ i m t. let s = and_both (eqb (map i) d) (a i) t in both_true s.0 (h i m s.1))

  gate-more : Among colours a c → (g : Bool) → (a d && g) ≡ true → (c d && g) ≡ true
  gate-more h g t = let s = and_both (a d) g t in both_true (h d l s.0) s.1

  pub passed-more : (n : Kind) (p : Port) → (is_input (port_use n A) ≡ true → Among colours a c) → (is_input (port_use n B) ≡ true → Among colours b e) → passed n p colours row a b d ≡ true → passed n p colours row c e d ≡ true
  unfolding passed port_use
  passed-more Source p h k t = t
  passed-more Sink p h k t = t
  passed-more Queue p h k t = either-more (a d) (ltb 0 (filling row) && eqb (fill_colour row) d) (c d) (ltb 0 (filling row) && eqb (fill_colour row) d) (h refl d l) (λ q. q) t
  passed-more Function p h k t = image-more (h refl) (first_map row) t
  passed-more Fork A h k t = t
  passed-more Fork B h k t = image-more (h refl) (first_map row) t
  passed-more Fork C h k t = image-more (h refl) (second_map row) t
  passed-more Join p h k t =
      let s = and_both (some colours b) (image colours (first_map row) a d) t in
      both_true (some_mono b e colours (k refl) s.0) (image-more (h refl) (first_map row) s.1)
  passed-more Switch A h k t = t
  passed-more Switch B h k t = gate-more (h refl) (masked row d) t
  passed-more Switch C h k t = gate-more (h refl) (not (masked row d)) t
  passed-more Merge p h k t = either-more (a d) (b d) (c d) (e d) (h refl d l) (k refl d l) t
