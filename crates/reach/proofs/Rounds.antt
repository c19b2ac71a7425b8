-- The sets worked out in rounds are those of the relation: closed, and inside all closed sets. Assumes nothing.
use mathlib.Core.Path.{◌≡◌, refl, sym, subst, ◌∙◌}
use mathlib.Core.Bool.{Bool, true, false, true≢false}
use mathlib.Core.List.{List}
use Prim.Native.Nat.{ℕ, zero, suc, ◌+◌, ◌*◌, ◌/◌, ◌%◌, ◌<◌}
use native.Mathlib.Omega.{arith}
use lib.Dec.{ltb}
use borrow.Author.Tests.{ltb-true}
use Rattle.digits.proofs.Bools.{and_both}
use Rattle.digits.proofs.Settles.{settles}
use Rattle.component.specs.declared.kinds.Port.{Port}
use Rattle.component.specs.declared.kinds.Port.TheVariants.{A, B}
use Rattle.component.specs.Kind.{port_use, is_output}
use Rattle.component.specs.Row.{kind, port}
use Rattle.wiring.specs.Ends.{end_port}
use Rattle.wiring.specs.Signals.{is_offer, end_of}
use Rattle.netlist.specs.Netlist.{Netlist, row_of}
use Rattle.netlist.specs.Accepted.{AcceptedFabric}
use Rattle.netlist.proofs.Ends.{giver, given-side, given-channel, from-output}
use Rattle.reach.specs.Reaches.{Reaches}
use Rattle.reach.specs.Rounds.{passed, passed_at, round, rounds, reachable, Closed}
use Rattle.reach.proofs.Passed.{passed-more}
use Rattle.reach.proofs.Reaches.{passed-reaches, reaches-below, closed-reaches}

module _ (f : Netlist) (ends order : List ℕ) (a : AcceptedFabric f ends order) where
  -- more goes out of a component where more comes in
  passed-at-more : (s t : ℕ → ℕ → Bool) → ((x d : ℕ) → x < f.channels → s x d ≡ true → t x d ≡ true) → (k : ℕ) → k < f.components → (p : Port) (d : ℕ) → passed_at f s k p d ≡ true → passed_at f t k p d ≡ true
  passed-at-more s t h k low p d e =
      let r = row_of f k in
      let z = and_both (ltb d f.colours) (passed (kind r) p f.colours r (s (port r A)) (s (port r B)) d) e in
      let more = passed-more f.colours r (s (port r A)) (s (port r B)) (t (port r A)) (t (port r B)) d (ltb-true d f.colours z.0) (kind r) p
      (λ _ i _. h (port r A) i ((a.rows k low).ports A)) (λ _ i _. h (port r B) i ((a.rows k low).ports B)) z.1 in
      rw (z.0, more)

  -- the offer of a channel is a signal
  offer-below : (x : ℕ) → x < f.channels → 2 * x < 2 * f.channels
  offer-below x l = omega arith

  -- more comes out of a round where more goes in
  round-more : (s t : ℕ → ℕ → Bool) → ((x d : ℕ) → x < f.channels → s x d ≡ true → t x d ≡ true) → (x d : ℕ) → x < f.channels → round f s x d ≡ true → round f t x d ≡ true
  unfolding round
  round-more s t h x d l e = passed-at-more s t h _ (giver f ends order a (2 * x) (offer-below x l)) _ d e

  rounds-grow : (n x d : ℕ) → x < f.channels → rounds f n x d ≡ true → rounds f (suc n) x d ≡ true
  unfolding rounds
  rounds-grow zero x d l e = absurd (true≢false (sym e))
  rounds-grow (suc n) x d l e = round-more (rounds f n) (rounds f (suc n)) (λ y c m. rounds-grow n y c m) x d l e

  -- ---- inside the relation
  offer-is : (x : ℕ) → is_offer (2 * x) ≡ true
  offer-is x =
      let e : 2 * x % 2 ≡ 0 = omega arith in
      rw e

  round-reaches : (s : ℕ → ℕ → Bool) → ((x d : ℕ) → x < f.channels → s x d ≡ true → Reaches f x d) → (x d : ℕ) → x < f.channels → round f s x d ≡ true → Reaches f x d
  unfolding round
  round-reaches s h x d l e =
      let low = offer-below x l in
      let end : ℕ = end_of f.table f.components (2 * x) in
      let k = giver f ends order a (2 * x) low in
      let o : is_output (port_use (kind (row_of f (end / 3))) (end_port end)) ≡ true = rw (offer-is x) at (given-side f ends order a (2 * x) low) in
      let half : 2 * x / 2 ≡ x = omega arith in
      let c : port (row_of f (end / 3)) (end_port end) ≡ x = given-channel f ends order a (2 * x) low ∙ half in
      subst (λ (y : ℕ). Reaches f y d) c (passed-reaches f (end / 3) k s (λ p i. h (port (row_of f (end / 3)) p) i ((a.rows (end / 3) k).ports p)) (end_port end) o d e)

  rounds-reach : (n x d : ℕ) → x < f.channels → rounds f n x d ≡ true → Reaches f x d
  unfolding rounds
  rounds-reach zero x d l e = absurd (true≢false (sym e))
  rounds-reach (suc n) x d l e = round-reaches (rounds f n) (λ y c m. rounds-reach n y c m) x d l e

  pub reachable-reaches : (x d : ℕ) → x < f.channels → reachable f x d ≡ true → Reaches f x d
  unfolding reachable
  reachable-reaches = rounds-reach (8 * f.channels)

  -- ---- after 8M rounds nothing is new
  -- the rounds by flow
  flows : ℕ → ℕ → Bool
  flows n v = rounds f n (v / 8) (v % 8)

  -- nothing new of any flow: nothing new of any colour
  by-flow : (s t : ℕ → ℕ → Bool) → ((x d : ℕ) → x < f.channels → t x d ≡ true → d < 8) → ((v : ℕ) → v < 8 * f.channels → t (v / 8) (v % 8) ≡ true → s (v / 8) (v % 8) ≡ true)
      → (x d : ℕ) → x < f.channels → t x d ≡ true → s x d ≡ true
  by-flow s t low h x d l e =
      let c = low x d l e in
      let ex : (8 * x + d) / 8 ≡ x = omega arith in
      let ed : (8 * x + d) % 8 ≡ d = omega arith in
      let m : 8 * x + d < 8 * f.channels = omega arith in
      rw (ex, ed) at (h (8 * x + d) m (rw (ex, ed) e))

  few : (n x d : ℕ) → x < f.channels → rounds f n x d ≡ true → d < 8
  few n x d l e = omega (arith, (reaches-below f ends order a (rounds-reach n x d l e)).1, a.few_colours)

  last-round : (x d : ℕ) → x < f.channels → rounds f (suc (8 * f.channels)) x d ≡ true → rounds f (8 * f.channels) x d ≡ true
  unfolding flows rounds
  last-round =
      by-flow (rounds f (8 * f.channels)) (rounds f (suc (8 * f.channels))) (few (suc (8 * f.channels)))
      (settles flows (8 * f.channels) (λ n v l. rounds-grow n (v / 8) (v % 8) (omega arith)) rests)
    where
      rests : (n : ℕ) → ((v : ℕ) → v < 8 * f.channels → flows (suc n) v ≡ true → flows n v ≡ true) → (v : ℕ) → v < 8 * f.channels → flows (suc (suc n)) v ≡ true → flows (suc n) v ≡ true
      rests n h v l e = round-more (rounds f (suc n)) (rounds f n) (by-flow (rounds f n) (rounds f (suc n)) (few (suc n)) h) (v / 8) (v % 8) (omega arith) e

  -- so the sets are closed,
  pub reachable-closed : Closed f (reachable f)
  unfolding reachable rounds round
  reachable-closed = record {
    closed = λ k low p o d e.
        last-round (port (row_of f k) p) d ((a.rows k low).ports p) (out k low p o d e);
  }
    where
      out : (k : ℕ) → k < f.components → (p : Port) → is_output (port_use (kind (row_of f k)) p) ≡ true → (d : ℕ) → passed_at f (rounds f (8 * f.channels)) k p d ≡ true → rounds f (suc (8 * f.channels)) (port (row_of f k) p) d ≡ true
      out k low p o d e = from-output f ends order a k low p (λ j q. passed_at f (rounds f (8 * f.channels)) j q d ≡ true) o e

  -- hold all of the relation,
  pub reaches-reachable : {x d : ℕ} → Reaches f x d → reachable f x d ≡ true
  reaches-reachable = closed-reaches f ends order a (reachable f) reachable-closed

  -- and lie inside all sets that are closed
  pub reachable-least : (s : ℕ → ℕ → Bool) → Closed f s → (x d : ℕ) → x < f.channels → reachable f x d ≡ true → s x d ≡ true
  reachable-least s c x d l e = closed-reaches f ends order a s c (reachable-reaches x d l e)

  -- closed sets inside the relation are these
  pub sets-are : (s : ℕ → ℕ → Bool) → Closed f s → ((x d : ℕ) → x < f.channels → s x d ≡ true → Reaches f x d) → (x d : ℕ) → x < f.channels → s x d ≡ reachable f x d
  sets-are s c h x d l = go (s x d) refl (reachable f x d) refl
    where
      go : (b : Bool) → s x d ≡ b → (e : Bool) → reachable f x d ≡ e → b ≡ e
      go true q true r = refl
      go true q false r = absurd (true≢false (sym (reaches-reachable (h x d l q)) ∙ r))
      go false q true r = absurd (true≢false (sym (reachable-least s c x d l r) ∙ q))
      go false q false r = refl
