-- The relation and the rule by kind: what is let out of sets inside the relation is inside it, and closed sets hold all of it. Assumes nothing.
use mathlib.Core.Path.{◌≡◌, refl, sym, ap, subst, ◌∙◌}
use mathlib.Core.Bool.{Bool, true, false, not, ◌&&◌, ◌||◌, true≢false}
use mathlib.Core.List.{List}
use Prim.Native.Nat.{ℕ, ◌<◌}
use lib.Dec.{ltb, eqb}
use borrow.Author.Tests.{ltb-true, lt-ltb, eqb-true, eq-eqb, not-true}
use Rattle.digits.specs.Least.{some}
use Rattle.digits.proofs.Bools.{and_both, both_true, or_right}
use Rattle.digits.proofs.Some.{some_at, some_is}
use Rattle.component.specs.declared.kinds.Kind.{Kind}
use Rattle.component.specs.declared.kinds.Kind.TheVariants.{Source, Sink, Queue, Function, Fork, Join, Switch, Merge}
use Rattle.component.specs.declared.kinds.Port.{Port}
use Rattle.component.specs.declared.kinds.Port.TheVariants.{A, B, C}
use Rattle.component.specs.Kind.{port_use, is_output}
use Rattle.component.specs.Row.{kind, port, first_map, second_map, masked, filling, fill_colour}
use Rattle.netlist.specs.Netlist.{Netlist, row_of}
use Rattle.netlist.specs.Accepted.{AcceptedFabric}
use Rattle.reach.specs.Reaches.{Reaches, by_source, by_queue, by_filling, by_function, by_fork_b, by_fork_c, by_join, by_switch_b, by_switch_c, by_merge_a, by_merge_b}
use Rattle.reach.specs.Rounds.{image, passed, passed_at, Closed}

-- ---- what component k lets out of sets that are inside the relation
module _ (f : Netlist) (k : ℕ) (low : k < f.components) (s : ℕ → ℕ → Bool) (inside : (p : Port) (d : ℕ) → s (port (row_of f k) p) d ≡ true → Reaches f (port (row_of f k) p) d) where
  abbrev row : List ℕ
  row = row_of f k

  abbrev At : Port → ℕ → Type 0
  At p d = Reaches f (port row p) d

  -- a map's colours
  by-image : (map : ℕ → ℕ) (p : Port) → ((d : ℕ) → At A d → At p (map d)) → (d : ℕ) → image f.colours map (s (port row A)) d ≡ true → At p d
  by-image map p h d t =
      let m = some_is (λ e. eqb (map e) d && s (port row A) e) f.colours t in
      let q = and_both (eqb (map m.0) d) (s (port row A) m.0) m.2 in
      subst (At p) (eqb-true (map m.0) d q.0) (h m.0 (inside A m.0 q.1))

  out : (n : Kind) → kind row ≡ n → (p : Port) → is_output (port_use n p) ≡ true → (d : ℕ) → d < f.colours
      → passed n p f.colours row (s (port row A)) (s (port row B)) d ≡ true → At p d
  unfolding passed port_use
  out Source i A o d l t = by_source k d low i l t
  out Source i B o d l t = absurd (true≢false (sym o))
  out Source i C o d l t = absurd (true≢false (sym o))
  out Sink i p o d l t = absurd (true≢false (sym t))
  out Queue i A o d l t = absurd (true≢false (sym o))
  out Queue i B o d l t = go (s (port row A) d) refl t
    where
      go : (b : Bool) → s (port row A) d ≡ b → (b || (ltb 0 (filling row) && eqb (fill_colour row) d)) ≡ true → At B d
      go true e q = by_queue k d low i (inside A d e)
      go false e q =
          let z = and_both (ltb 0 (filling row)) (eqb (fill_colour row) d) q in
          subst (At B) (eqb-true (fill_colour row) d z.1) (by_filling k low i (ltb-true 0 (filling row) z.0))
  out Queue i C o d l t = absurd (true≢false (sym o))
  out Function i A o d l t = absurd (true≢false (sym o))
  out Function i B o d l t = by-image (first_map row) B (λ e r. by_function k e low i r) d t
  out Function i C o d l t = absurd (true≢false (sym o))
  out Fork i A o d l t = absurd (true≢false (sym o))
  out Fork i B o d l t = by-image (first_map row) B (λ e r. by_fork_b k e low i r) d t
  out Fork i C o d l t = by-image (second_map row) C (λ e r. by_fork_c k e low i r) d t
  out Join i A o d l t = absurd (true≢false (sym o))
  out Join i B o d l t = absurd (true≢false (sym o))
  out Join i C o d l t =
      let z = and_both (some f.colours (s (port row B))) (image f.colours (first_map row) (s (port row A)) d) t in
      let m = some_is (s (port row B)) f.colours z.0 in
      by-image (first_map row) C (λ e r. by_join k e m.0 low i r (inside B m.0 m.2)) d z.1
  out Switch i A o d l t = absurd (true≢false (sym o))
  out Switch i B o d l t =
      let z = and_both (s (port row A) d) (masked row d) t in
      by_switch_b k d low i (inside A d z.0) z.1
  out Switch i C o d l t =
      let z = and_both (s (port row A) d) (not (masked row d)) t in
      by_switch_c k d low i (inside A d z.0) (not-true (masked row d) z.1)
  out Merge i A o d l t = absurd (true≢false (sym o))
  out Merge i B o d l t = absurd (true≢false (sym o))
  out Merge i C o d l t = go (s (port row A) d) refl t
    where
      go : (b : Bool) → s (port row A) d ≡ b → (b || s (port row B) d) ≡ true → At C d
      go true e q = by_merge_a k d low i (inside A d e)
      go false e q = by_merge_b k d low i (inside B d q)

  pub passed-reaches : (p : Port) → is_output (port_use (kind row) p) ≡ true → (d : ℕ) → passed_at f s k p d ≡ true → Reaches f (port row p) d
  passed-reaches p o d t =
      let z = and_both (ltb d f.colours) (passed (kind row) p f.colours row (s (port row A)) (s (port row B)) d) t in
      out (kind row) refl p o d (ltb-true d f.colours z.0) z.1

-- ---- colours and channels of the relation are those of the fabric, and sets that are closed hold all of it
module _ (f : Netlist) (ends order : List ℕ) (a : AcceptedFabric f ends order) where
  pub reaches-below : {x d : ℕ} → Reaches f x d → (x < f.channels) × (d < f.colours)
  reaches-below (by_source k d low i l m) = ((a.rows k low).ports A, l)
  reaches-below (by_queue k d low i r) = ((a.rows k low).ports B, (reaches-below r).1)
  reaches-below (by_filling k low i l) = ((a.rows k low).ports B, (a.rows k low).fill_colours)
  reaches-below (by_function k d low i r) = ((a.rows k low).ports B, (a.rows k low).first_maps d (reaches-below r).1)
  reaches-below (by_fork_b k d low i r) = ((a.rows k low).ports B, (a.rows k low).first_maps d (reaches-below r).1)
  reaches-below (by_fork_c k d low i r) = ((a.rows k low).ports C, (a.rows k low).second_maps d (reaches-below r).1)
  reaches-below (by_join k d e low i r t) = ((a.rows k low).ports C, (a.rows k low).first_maps d (reaches-below r).1)
  reaches-below (by_switch_b k d low i r m) = ((a.rows k low).ports B, (reaches-below r).1)
  reaches-below (by_switch_c k d low i r m) = ((a.rows k low).ports C, (reaches-below r).1)
  reaches-below (by_merge_a k d low i r) = ((a.rows k low).ports C, (reaches-below r).1)
  reaches-below (by_merge_b k d low i r) = ((a.rows k low).ports C, (reaches-below r).1)

  module _ (s : ℕ → ℕ → Bool) (c : Closed f s) where
    -- what is let out at an output port is in the set there
    there : (k : ℕ) → k < f.components → (n : Kind) → kind (row_of f k) ≡ n → (p : Port) → is_output (port_use n p) ≡ true → (d : ℕ) → d < f.colours
        → passed n p f.colours (row_of f k) (s (port (row_of f k) A)) (s (port (row_of f k) B)) d ≡ true → s (port (row_of f k) p) d ≡ true
    there k low n i p o d l t =
        c.closed k low p (ap (λ (m : Kind). is_output (port_use m p)) i ∙ o) d
        (both_true (lt-ltb d f.colours l) (ap (λ (m : Kind). passed m p f.colours (row_of f k) (s (port (row_of f k) A)) (s (port (row_of f k) B)) d) i ∙ t))

    -- a map's colour
    in_image : (map : ℕ → ℕ) (g : ℕ → Bool) (d : ℕ) → d < f.colours → g d ≡ true → image f.colours map g (map d) ≡ true
    in_image map g d l t = some_at (λ e. eqb (map e) (map d) && g e) f.colours d l (both_true (eq-eqb (map d) (map d) refl) t)

    pub closed-reaches : {x d : ℕ} → Reaches f x d → s x d ≡ true
    unfolding passed port_use
    closed-reaches (by_source k d low i l m) = there k low Source i A refl d l m
    closed-reaches (by_queue k d low i r) = there k low Queue i B refl d (reaches-below r).1 (rw (closed-reaches r))
    closed-reaches (by_filling k low i l) =
        there k low Queue i B refl (fill_colour (row_of f k)) (a.rows k low).fill_colours
        (or_right (s (port (row_of f k) A) (fill_colour (row_of f k))) _ (both_true (lt-ltb 0 (filling (row_of f k)) l) (eq-eqb (fill_colour (row_of f k)) (fill_colour (row_of f k)) refl)))
    closed-reaches (by_function k d low i r) = let l = (reaches-below r).1 in there k low Function i B refl (first_map (row_of f k) d) ((a.rows k low).first_maps d l) (in_image (first_map (row_of f k)) (s (port (row_of f k) A)) d l (closed-reaches r))
    closed-reaches (by_fork_b k d low i r) = let l = (reaches-below r).1 in there k low Fork i B refl (first_map (row_of f k) d) ((a.rows k low).first_maps d l) (in_image (first_map (row_of f k)) (s (port (row_of f k) A)) d l (closed-reaches r))
    closed-reaches (by_fork_c k d low i r) = let l = (reaches-below r).1 in there k low Fork i C refl (second_map (row_of f k) d) ((a.rows k low).second_maps d l) (in_image (second_map (row_of f k)) (s (port (row_of f k) A)) d l (closed-reaches r))
    closed-reaches (by_join k d e low i r t) =
        let l = (reaches-below r).1 in
        there k low Join i C refl (first_map (row_of f k) d) ((a.rows k low).first_maps d l)
        (both_true (some_at (s (port (row_of f k) B)) f.colours e (reaches-below t).1 (closed-reaches t)) (in_image (first_map (row_of f k)) (s (port (row_of f k) A)) d l (closed-reaches r)))
    closed-reaches (by_switch_b k d low i r m) = there k low Switch i B refl d (reaches-below r).1 (both_true (closed-reaches r) m)
    closed-reaches (by_switch_c k d low i r m) = there k low Switch i C refl d (reaches-below r).1 (both_true (closed-reaches r) (ap not m))
    closed-reaches (by_merge_a k d low i r) = there k low Merge i C refl d (reaches-below r).1 (rw (closed-reaches r))
    closed-reaches (by_merge_b k d low i r) = there k low Merge i C refl d (reaches-below r).1 (or_right (s (port (row_of f k) A) d) (s (port (row_of f k) B) d) (closed-reaches r))
