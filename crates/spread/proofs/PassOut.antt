-- One component lets out what it can at one port. Assumes nothing.
use mathlib.Core.Path.{◌≡◌, refl, sym, ap, subst, ◌∙◌}
use mathlib.Core.Logic.{◌⊎◌, inl, inr}
use mathlib.Core.Bool.{Bool, true, false, cond, not, ◌&&◌, ◌||◌, true≢false, false≢true}
use mathlib.Core.List.{List, [], ◌∷◌, ◌++◌}
use Prim.Native.Nat.{ℕ, ◌+◌, ◌*◌, ◌/◌, ◌%◌, ◌≤◌, ◌<◌}
use native.Mathlib.Decide.{ℕ_discrete}
use native.Mathlib.Omega.{arith}
use lib.Bits.{or_lt}
use lib.Dec.{ltb, eqb}
use lib.ListN.{length, get_or, set, length-set, get_or-append}
use lib.Seq.{get_or-set_same, get_or-set_other, get_or-append_seam}
use Rattle.std.proofs.lemmas.List.{length-append}
use borrow.Author.Tests.{ltb-true, lt-ltb, eqb-true, eqb-false, not-true}
use Rattle.digits.specs.Least.{some}
use Rattle.digits.proofs.Bools.{and_both, and-false, both_true, or_left, or_right}
use Rattle.digits.proofs.Count.{count-le, count-more, count-new}
use Rattle.digits.proofs.Some.{some_is, some-none}
use Rattle.component.specs.declared.kinds.Port.{Port}
use Rattle.component.specs.declared.kinds.Port.TheVariants.{A, B}
use Rattle.component.specs.Kind.{port_use, is_input, is_output}
use Rattle.component.specs.Limits.{most_flows}
use Rattle.component.specs.Row.{kind, port, has_colour}
use Rattle.component.proofs.Sets.{has-or, byte-is}
use Rattle.netlist.specs.Netlist.{Netlist, row_of}
use Rattle.netlist.specs.Accepted.{AcceptedFabric}
use Rattle.netlist.proofs.Ends.{giver, given-side, given-channel}
use Rattle.wiring.specs.Ends.{end_port, on_side}
use Rattle.wiring.specs.Signals.{end_of}
use Rattle.reach.specs.Reaches.{Reaches}
use Rattle.reach.specs.Rounds.{passed, passed_at}
use Rattle.reach.proofs.Passed.{Among, passed-more}
use Rattle.reach.proofs.Reaches.{passed-reaches, reaches-below}
use Rattle.spread.specs.Spread.{IsSet, Below, in_bytes, Targets, grown_set, listed, Spreading, members, Waits, Covered, PassedOn}

-- component k at its output port p, where more is what it lets out
pub record LetsOut (f : Netlist) (targets sets list : List ℕ) (k : ℕ) (p : Port) (more : ℕ) : Type 0 where
  pub ends : List ℕ
  pub order : List ℕ
  pub accepted : AcceptedFabric f ends order
  pub targeted : Targets f f.components targets
  pub spreading : Spreading f sets list
  pub low : k < f.components
  pub output : is_output (port_use (kind (row_of f k)) p) ≡ true
  pub fits : more < 256
  pub lets : IsSet more (λ d. ltb d f.colours && passed (kind (row_of f k)) p f.colours (row_of f k) (has_colour (get_or sets (port (row_of f k) A) 0)) (has_colour (get_or sets (port (row_of f k) B) 0)) d)

module _ {f : Netlist} {targets sets list : List ℕ} {k more : ℕ} {p : Port} (h : LetsOut f targets sets list k p more) where
  abbrev channel : ℕ
  channel = port (row_of f k) p

  pub below : channel < f.channels
  below = (h.accepted.rows k h.low).ports p

  pub there : channel < length sets
  there = omega (arith, below, h.accepted.few_channels, h.spreading.sets_long)

  few : (d : ℕ) → d < f.colours → d < 8
  few d l = omega (arith, h.accepted.few_colours)

  -- the sets after it
  abbrev after : List ℕ
  after = set sets channel (grown_set sets channel more)

  pub at_x : get_or after channel 0 ≡ grown_set sets channel more
  at_x = get_or-set_same sets channel (grown_set sets channel more) 0 there

  pub off-x : (y : ℕ) → (y ≡ channel → ⊥) → get_or after y 0 ≡ get_or sets y 0
  off-x y ne = get_or-set_other sets channel y (grown_set sets channel more) 0 ne

  -- a colour of a set, from C on too
  in-set : (s : List ℕ) (y d : ℕ) → d < 8 → has_colour (get_or s y 0) d ≡ true → in_bytes s y d ≡ true
  in-set s y d l e = both_true (lt-ltb d 8 l) e

  set-in : (s : List ℕ) (y d : ℕ) → in_bytes s y d ≡ true → (d < 8) × (has_colour (get_or s y 0) d ≡ true)
  set-in s y d e = let z = and_both (ltb d 8) (has_colour (get_or s y 0) d) e in (ltb-true d 8 z.0, z.1)

  not-false : (t : Bool) → not t ≡ false → t ≡ true
  not-false true e = refl
  not-false false e = absurd (true≢false e)

  -- nothing is lost, and what was let out is there
  pub grows : (y d : ℕ) → in_bytes sets y d ≡ true → in_bytes after y d ≡ true
  grows y d e = go (ℕ_discrete y channel)
    where
      go : Dec (y ≡ channel) → in_bytes after y d ≡ true
      go (yes q) =
          let z = set-in sets y d e in
          subst (λ (w : ℕ). in_bytes after w d ≡ true) (sym q)
          (in-set after channel d z.0 (ap (λ (b : ℕ). has_colour b d) at_x ∙ has-or (get_or sets channel 0) more d ∙ or_left _ (has_colour more d) (subst (λ (w : ℕ). has_colour (get_or sets w 0) d ≡ true) q z.1)))
      go (no q) = ap (λ (b : ℕ). ltb d 8 && has_colour b d) (off-x y q) ∙ e

  added : (d : ℕ) → d < 8 → has_colour more d ≡ true → in_bytes after channel d ≡ true
  added d l e = in-set after channel d l (ap (λ (b : ℕ). has_colour b d) at_x ∙ has-or (get_or sets channel 0) more d ∙ or_right (has_colour (get_or sets channel 0) d) _ e)

  -- and nothing else is new
  new-at : (d : ℕ) → in_bytes after channel d ≡ true → (in_bytes sets channel d ≡ true) ⊎ (has_colour more d ≡ true)
  new-at d e =
      let z = set-in after channel d e in
      go (has_colour (get_or sets channel 0) d) refl z.0 (sym (has-or (get_or sets channel 0) more d) ∙ sym (ap (λ (b : ℕ). has_colour b d) at_x) ∙ z.1)
    where
      go : (t : Bool) → has_colour (get_or sets channel 0) d ≡ t → d < 8 → (has_colour (get_or sets channel 0) d || has_colour more d) ≡ true → (in_bytes sets channel d ≡ true) ⊎ (has_colour more d ≡ true)
      go true q l o = inl (in-set sets channel d l q)
      go false q l o = inr (rw q at o)

  -- ---- what is let out, as bytes and as sets
  more-passed : (d : ℕ) → d < 8 → has_colour more d ≡ true → passed_at f (in_bytes sets) k p d ≡ true
  more-passed d l e =
      let r = row_of f k in
      let z = and_both (ltb d f.colours) _ (sym (h.lets.has d l) ∙ e) in
      both_true z.0
      (passed-more f.colours r (has_colour (get_or sets (port r A) 0)) (has_colour (get_or sets (port r B) 0)) (in_bytes sets (port r A)) (in_bytes sets (port r B)) d (ltb-true d f.colours z.0) (kind r) p
      (λ _ i m t. in-set sets (port r A) i (few i m) t) (λ _ i m t. in-set sets (port r B) i (few i m) t) z.1)

  pub passed-more-bits : (d : ℕ) → passed_at f (in_bytes sets) k p d ≡ true → in_bytes after channel d ≡ true
  passed-more-bits d e =
      let r = row_of f k in
      let z = and_both (ltb d f.colours) _ e in
      let l = ltb-true d f.colours z.0 in
      added d (few d l)
      (h.lets.has d (few d l)
      ∙ both_true z.0
      (passed-more f.colours r (in_bytes sets (port r A)) (in_bytes sets (port r B)) (has_colour (get_or sets (port r A) 0)) (has_colour (get_or sets (port r B) 0)) d l (kind r) p
      (λ _ i m t. (set-in sets (port r A) i t).1) (λ _ i m t. (set-in sets (port r B) i t).1) z.1))

  -- ---- the sets stay inside the relation
  pub inside : (y d : ℕ) → y < f.channels → in_bytes after y d ≡ true → Reaches f y d
  inside y d l e = go (ℕ_discrete y channel)
    where
      at : (in_bytes sets channel d ≡ true) ⊎ (has_colour more d ≡ true) → in_bytes after channel d ≡ true → Reaches f channel d
      at (inl q) e = h.spreading.inside channel d below q
      at (inr q) e =
          passed-reaches f k h.low (in_bytes sets) (λ q i. h.spreading.inside (port (row_of f k) q) i ((h.accepted.rows k h.low).ports q)) p h.output d (more-passed d (set-in after channel d e).0 q)

      go : Dec (y ≡ channel) → Reaches f y d
      go (yes q) =
          let e' : in_bytes after channel d ≡ true = subst (λ (w : ℕ). in_bytes after w d ≡ true) q e in
          subst (λ (w : ℕ). Reaches f w d) (sym q) (at (new-at d e') e')
      go (no q) = h.spreading.inside y d l (ap (λ (b : ℕ). ltb d 8 && has_colour b d) (sym (off-x y q)) ∙ e)

  pub small : (y : ℕ) → get_or after y 0 < 256
  small y = go (ℕ_discrete y channel)
    where
      go : Dec (y ≡ channel) → get_or after y 0 < 256
      go (yes q) = subst (λ (w : ℕ). get_or after w 0 < 256) (sym q) (subst (λ (w : ℕ). w < 256) (sym at_x) (or_lt 8 (get_or sets channel 0) more (h.spreading.small channel) h.fits))
      go (no q) = subst (λ (w : ℕ). w < 256) (sym (off-x y q)) (h.spreading.small y)

  -- ---- how many members the sets have
  pub members-more : members f sets ≤ members f after
  unfolding members
  members-more = count-more (λ v. in_bytes sets (v / 8) (v % 8)) (λ v. in_bytes after (v / 8) (v % 8)) (8 * f.channels) (λ v l. grows (v / 8) (v % 8))

  -- a colour that is new
  fresh : ℕ → Bool
  fresh d = has_colour more d && not (has_colour (get_or sets channel 0) d)

  no-fresh : some 8 fresh ≡ false → grown_set sets channel more ≡ get_or sets channel 0
  unfolding fresh
  no-fresh e =
      byte-is (has_colour (get_or sets channel 0)) (grown_set sets channel more) (or_lt 8 (get_or sets channel 0) more (h.spreading.small channel) h.fits) same
      ∙ sym (byte-is (has_colour (get_or sets channel 0)) (get_or sets channel 0) (h.spreading.small channel) (λ d l. refl))
    where
      old : (a b : Bool) → (b && not a) ≡ false → (a || b) ≡ a
      old true b q = refl
      old false true q = absurd (true≢false q)
      old false false q = refl

      same : (d : ℕ) → d < 8 → has_colour (grown_set sets channel more) d ≡ has_colour (get_or sets channel 0) d
      same d l = has-or (get_or sets channel 0) more d ∙ old (has_colour (get_or sets channel 0) d) (has_colour more d) (some-none fresh 8 e d l)

  pub members-new : (grown_set sets channel more ≡ get_or sets channel 0 → ⊥) → members f sets < members f after
  unfolding members fresh
  members-new ne = go (some 8 fresh) refl
    where
      go : (b : Bool) → some 8 fresh ≡ b → members f sets < members f after
      go false e = absurd (ne (no-fresh e))
      go true e =
          let m = some_is fresh 8 e in
          let d : ℕ = m.0 in
          let z = and_both (has_colour more d) (not (has_colour (get_or sets channel 0) d)) m.2 in
          let ex : (8 * channel + d) / 8 ≡ channel = omega (arith, m.1) in
          let ed : (8 * channel + d) % 8 ≡ d = omega (arith, m.1) in
          count-new (λ v. in_bytes sets (v / 8) (v % 8)) (λ v. in_bytes after (v / 8) (v % 8)) (8 * f.channels) (λ v l. grows (v / 8) (v % 8)) (8 * channel + d) (omega (arith, m.1, below))
          (rw (ex, ed) (ap (λ (b : Bool). ltb d 8 && b) (not-true (has_colour (get_or sets channel 0) d) z.1) ∙ and-false (ltb d 8))) (rw (ex, ed) (added d m.1 z.0))

  -- ---- the component that takes from channel
  abbrev taker : ℕ
  taker = get_or targets channel 0

  pub taker-low : taker < f.components
  taker-low =
      let s : ℕ = 2 * channel + 1 in
      let odd : s % 2 ≡ 1 = omega arith in
      let half : s / 2 ≡ channel = omega arith in
      let l : s < 2 * f.channels = omega (arith, below) in
      let j : ℕ = end_of f.table f.components s / 3 in
      let q : Port = end_port (end_of f.table f.components s) in
      let m : j < f.components = giver f h.ends h.order h.accepted s l in
      let i : is_input (port_use (kind (row_of f j)) q) ≡ true =
      subst (λ (n : ℕ). on_side (eqb n 0) (port_use (kind (row_of f j)) q) ≡ true) odd (given-side f h.ends h.order h.accepted s l) in
      let c : port (row_of f j) q ≡ channel = given-channel f h.ends h.order h.accepted s l ∙ half in
      subst (λ (n : ℕ). n < f.components) (sym (h.targeted.at j m q i) ∙ ap (λ (n : ℕ). get_or targets n 0) c) m

  -- what comes in at component j is as it was
  abbrev pub Quiet : ℕ → Type 0
  Quiet j = (q : Port) → is_input (port_use (kind (row_of f j)) q) ≡ true → Among f.colours (in_bytes after (port (row_of f j) q)) (in_bytes sets (port (row_of f j) q))

  unread : (j : ℕ) (q : Port) → (port (row_of f j) q ≡ channel → ⊥) → Among f.colours (in_bytes after (port (row_of f j) q)) (in_bytes sets (port (row_of f j) q))
  unread j q ne d m e = ap (λ (b : ℕ). ltb d 8 && has_colour b d) (sym (off-x (port (row_of f j) q) ne)) ∙ e

  -- where nothing is new
  pub quiet-old : grown_set sets channel more ≡ get_or sets channel 0 → (j : ℕ) → Quiet j
  quiet-old g j q i d m e = by_place (ℕ_discrete (port (row_of f j) q) channel)
    where
      by_place : Dec (port (row_of f j) q ≡ channel) → in_bytes sets (port (row_of f j) q) d ≡ true
      by_place (yes z) = ap (λ (b : ℕ). ltb d 8 && has_colour b d) (ap (λ (w : ℕ). get_or sets w 0) z ∙ sym g ∙ sym at_x ∙ ap (λ (w : ℕ). get_or after w 0) (sym z)) ∙ e
      by_place (no z) = unread j q z d m e

  -- where the channel's taker is another
  pub quiet-other : (j : ℕ) → j < f.components → (taker ≡ j → ⊥) → Quiet j
  quiet-other j l ne q i = unread j q (λ e. ne (ap (λ (w : ℕ). get_or targets w 0) (sym e) ∙ h.targeted.at j l q i))

  -- where what comes in is as it was, so is what goes out
  pub quiet-passed : (j : ℕ) → Quiet j → (q : Port) (d : ℕ) → passed_at f (in_bytes after) j q d ≡ true → passed_at f (in_bytes sets) j q d ≡ true
  quiet-passed j quiet q d e =
      let r = row_of f j in
      let z = and_both (ltb d f.colours) _ e in
      both_true z.0
      (passed-more f.colours r (in_bytes after (port r A)) (in_bytes after (port r B)) (in_bytes sets (port r A)) (in_bytes sets (port r B)) d (ltb-true d f.colours z.0) (kind r) q (quiet A) (quiet B) z.1)

  -- ---- the list after it, where the taker is put on it if something new comes and `had` holds of it
  module _ (had : ℕ → Bool) {list' : List ℕ} (el : list' ≡ cond (not (eqb (grown_set sets channel more) (get_or sets channel 0)) && had taker) (list ++ taker ∷ []) list) where
    -- the ways of the list
    data Way : Type 0 where
      put : (grown_set sets channel more ≡ get_or sets channel 0 → ⊥) → had taker ≡ true → list' ≡ list ++ taker ∷ [] → length list' ≡ length list + 1 → Way
      later : had taker ≡ false → list' ≡ list → length list' ≡ length list → Way
      old : grown_set sets channel more ≡ get_or sets channel 0 → list' ≡ list → length list' ≡ length list → Way

    way : Way
    way = go (not (eqb (grown_set sets channel more) (get_or sets channel 0))) refl (had taker) refl el
      where
        go : (b : Bool) → not (eqb (grown_set sets channel more) (get_or sets channel 0)) ≡ b → (c : Bool) → had taker ≡ c → list' ≡ cond (b && c) (list ++ taker ∷ []) list → Way
        go true q true r a = put (eqb-false _ _ (not-true (eqb (grown_set sets channel more) (get_or sets channel 0)) q)) r a (ap length a ∙ length-append list (taker ∷ []))
        go true q false r a = later r a (ap length a)
        go false q c r a = old (eqb-true (grown_set sets channel more) (get_or sets channel 0) (not-false (eqb (grown_set sets channel more) (get_or sets channel 0)) q)) a (ap length a)

    pub paid : length list' + members f sets ≤ length list + members f after
    paid = go way
      where
        go : Way → length list' + members f sets ≤ length list + members f after
        go (put n l a b) = omega (arith, members-new n, b)
        go (later l a b) = omega (arith, members-more, b)
        go (old q a b) = omega (arith, members-more, b)

    -- who waited still waits, and no other waits but who is put on the list
    pub still-waits : (j : ℕ) → Waits list j → Waits list' j
    still-waits j (i, hi, e) = go way
      where
        go : Way → Waits list' j
        go (put n l a b) = (i, omega (arith, hi, b), ap (λ (w : List ℕ). get_or w i 0) a ∙ get_or-append list (taker ∷ []) 0 i hi ∙ e)
        go (later l a b) = (i, omega (arith, hi, b), ap (λ (w : List ℕ). get_or w i 0) a ∙ e)
        go (old q a b) = (i, omega (arith, hi, b), ap (λ (w : List ℕ). get_or w i 0) a ∙ e)

    pub waited : (j : ℕ) → Waits list' j → Waits list j ⊎ ((taker ≡ j) × (had taker ≡ true) × (grown_set sets channel more ≡ get_or sets channel 0 → ⊥))
    waited j (i, hi, e) = go way
      where
        go : Way → Waits list j ⊎ ((taker ≡ j) × (had taker ≡ true) × (grown_set sets channel more ≡ get_or sets channel 0 → ⊥))
        go (later l a b) = inl (i, omega (arith, hi, b), ap (λ (w : List ℕ). get_or w i 0) (sym a) ∙ e)
        go (old q a b) = inl (i, omega (arith, hi, b), ap (λ (w : List ℕ). get_or w i 0) (sym a) ∙ e)
        go (put n l a b) = by_place (ℕ_discrete i (length list))
          where
            by_place : Dec (i ≡ length list) → Waits list j ⊎ ((taker ≡ j) × (had taker ≡ true) × (grown_set sets channel more ≡ get_or sets channel 0 → ⊥))
            by_place (yes q) =
                inr (sym (ap (λ (w : List ℕ). get_or w (length list) 0) a ∙ get_or-append_seam list taker [] 0) ∙ ap (λ (n : ℕ). get_or list' n 0) (sym q) ∙ e, l, n)
            by_place (no q) =
                let m : i < length list = omega (arith, hi, b, q) in
                inl (i, m, sym (ap (λ (w : List ℕ). get_or w i 0) a ∙ get_or-append list (taker ∷ []) 0 i m) ∙ e)

    -- what comes in at component j is as it was, or it waits
    quiet-or-waits : (j : ℕ) → j < f.components → had j ≡ true → Quiet j ⊎ Waits list' j
    quiet-or-waits j l t = go way
      where
        go : Way → Quiet j ⊎ Waits list' j
        go (old q a b) = inl (quiet-old q j)
        go (later u a b) = inl (quiet-other j l (λ e. false≢true (sym u ∙ ap had e ∙ t)))
        go (put n u a b) = by_taker (ℕ_discrete taker j)
          where
            by_taker : Dec (taker ≡ j) → Quiet j ⊎ Waits list' j
            by_taker (yes e) = inr (length list, omega (arith, b), ap (λ (w : List ℕ). get_or w (length list) 0) a ∙ get_or-append_seam list taker [] 0 ∙ e)
            by_taker (no e) = inl (quiet-other j l e)

    pub keeps : (j : ℕ) → j < f.components → had j ≡ true → (q : Port) → Covered f sets list j q → Covered f after list' j q
    keeps j m t q (inr w) = inr (still-waits j w)
    keeps j m t q (inl o) = go (quiet-or-waits j m t)
      where
        go : Quiet j ⊎ Waits list' j → Covered f after list' j q
        go (inl quiet) = inl (λ d e. grows (port (row_of f j) q) d (o d (quiet-passed j quiet q d e)))
        go (inr w) = inr w

    pub covers : had k ≡ true → Covered f after list' k p
    covers t = go (quiet-or-waits k h.low t)
      where
        go : Quiet k ⊎ Waits list' k → Covered f after list' k p
        go (inl quiet) = inl (λ d e. passed-more-bits d (quiet-passed k quiet p d e))
        go (inr w) = inr w

    pub spread-on : Spreading f after list'
    spread-on = record {
      sets_long = length-set sets channel (grown_set sets channel more) ∙ h.spreading.sets_long;
      small = small;
      inside = inside;
      few = omega (arith, paid, h.spreading.few);
      named = names way;
    }
      where
        names : Way → (i : ℕ) → i < length list' → get_or list' i 0 < f.components
        names (later l a b) i m = subst (λ (w : List ℕ). get_or w i 0 < f.components) (sym a) (h.spreading.named i (omega (arith, m, b)))
        names (old q a b) i m = subst (λ (w : List ℕ). get_or w i 0 < f.components) (sym a) (h.spreading.named i (omega (arith, m, b)))
        names (put n l a b) i m = subst (λ (w : List ℕ). get_or w i 0 < f.components) (sym a) (by_place (ℕ_discrete i (length list)))
          where
            by_place : Dec (i ≡ length list) → get_or (list ++ taker ∷ []) i 0 < f.components
            by_place (yes e) = subst (λ (n : ℕ). n < f.components) (sym (ap (λ (w : ℕ). get_or (list ++ taker ∷ []) w 0) e ∙ get_or-append_seam list taker [] 0)) taker-low
            by_place (no e) =
                let l : i < length list = omega (arith, m, b, e) in
                subst (λ (n : ℕ). n < f.components) (sym (get_or-append list (taker ∷ []) 0 i l)) (h.spreading.named i l)

-- ---- the same where the first `next` components had a turn
pub record Passing (f : Netlist) (targets : List ℕ) (next : ℕ) (sets list : List ℕ) (k : ℕ) (p : Port) (more : ℕ) : Type 0 where
  pub ends : List ℕ
  pub order : List ℕ
  pub accepted : AcceptedFabric f ends order
  pub targeted : Targets f f.components targets
  pub spreading : Spreading f sets list
  pub turn : k < next
  pub within : next ≤ f.components
  pub output : is_output (port_use (kind (row_of f k)) p) ≡ true
  pub fits : more < 256
  pub lets : IsSet more (λ d. ltb d f.colours && passed (kind (row_of f k)) p f.colours (row_of f k) (has_colour (get_or sets (port (row_of f k) A) 0)) (has_colour (get_or sets (port (row_of f k) B) 0)) d)

module _ {f : Netlist} {targets sets list : List ℕ} {next k more : ℕ} {p : Port} (h : Passing f targets next sets list k p more) where
  out : LetsOut f targets sets list k p more
  out = record {
    ends = h.ends;
    order = h.order;
    accepted = h.accepted;
    targeted = h.targeted;
    spreading = h.spreading;
    low = omega (arith, h.turn, h.within);
    output = h.output;
    fits = h.fits;
    lets = h.lets;
  }

  abbrev x : ℕ
  x = port (row_of f k) p

  -- so there is room on the list
  room : listed sets targets next x more ≡ true → length list < most_flows
  unfolding members
  room e =
      let n : grown_set sets x more ≡ get_or sets x 0 → ⊥ = eqb-false _ _ (not-true (eqb (grown_set sets x more) (get_or sets x 0)) (and_both (not (eqb (grown_set sets x more) (get_or sets x 0))) (ltb (get_or targets x 0) next) e).0) in
      omega (arith, members-new out n, h.spreading.few, count-le (λ v. in_bytes (set sets x (grown_set sets x more)) (v / 8) (v % 8)) (8 * f.channels), h.accepted.few_channels)

  passed_on : {sets' list' : List ℕ} → sets' ≡ set sets x (grown_set sets x more) → list' ≡ cond (listed sets targets next x more) (list ++ get_or targets x 0 ∷ []) list
      → PassedOn f next sets list sets' list' (λ q. q ≡ p) k
  passed_on {sets'} {list'} es el =
      let had : ℕ → Bool = λ j. ltb j next in
      subst (λ (s : List ℕ). PassedOn f next sets list s list' (λ q. q ≡ p) k) (sym es)
      (record {
        spreading = spread-on out had el;
        onward = record { paid = paid out had el; keeps = λ j m. keeps out had el j (omega (arith, m, h.within)) (lt-ltb j next m) };
        covers = λ q e. subst (λ (w : Port). Covered f (set sets x (grown_set sets x more)) list' k w) (sym e) (covers out had el (lt-ltb k next h.turn));
      })

  -- ---- with the channel as the code reads it
  module _ {y : ℕ} (e : y ≡ x) where
    pub room_at : listed sets targets next y more ≡ true → length list < most_flows
    room_at q = room (subst (λ (w : ℕ). listed sets targets next w more ≡ true) e q)

    pub passed-at : {sets' list' : List ℕ} → sets' ≡ set sets y (grown_set sets y more) → list' ≡ cond (listed sets targets next y more) (list ++ get_or targets y 0 ∷ []) list
        → PassedOn f next sets list sets' list' (λ q. q ≡ p) k
    passed-at {sets'} {list'} es el =
        passed_on
        (subst (λ (w : ℕ). sets' ≡ set sets w (grown_set sets w more)) e es)
        (subst (λ (w : ℕ). list' ≡ cond (listed sets targets next w more) (list ++ get_or targets w 0 ∷ []) list) e el)

-- the sets have colours below C alone
pub below-sets : {f : Netlist} {ends order sets list : List ℕ} → AcceptedFabric f ends order → Spreading f sets list → (y : ℕ) → y < f.channels → Below f.colours (get_or sets y 0)
below-sets {f} {ends} {order} a s y l = record { below = λ d m e. (reaches-below f ends order a (s.inside y d l (both_true (lt-ltb d 8 m) e))).1 }
