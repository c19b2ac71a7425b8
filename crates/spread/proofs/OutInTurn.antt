-- One component lets out what it can at one port, where each has its first turn once all its inputs have come. Assumes nothing.
use mathlib.Core.Path.{◌≡◌, refl, sym, ap, subst, ◌∙◌}
use mathlib.Core.Logic.{◌⊎◌, inl, inr}
use mathlib.Core.Bool.{Bool, true, false, cond, not, ◌&&◌, ◌||◌, false≢true}
use mathlib.Core.List.{List, [], ◌∷◌, ◌++◌}
use Prim.Native.Nat.{ℕ, ◌+◌, ◌-◌, ◌*◌, ◌/◌, ◌%◌, ◌≤◌, ◌<◌}
use native.Mathlib.Decide.{ℕ_discrete}
use native.Mathlib.Omega.{arith}
use lib.Dec.{ltb, eqb}
use lib.ListN.{length, get_or, set, length-set, get_or-append}
use lib.Seq.{get_or-set_same, get_or-set_other, get_or-append_seam}
use Rattle.std.proofs.lemmas.List.{length-append}
use borrow.Author.Tests.{eqb-true, eqb-false, eq-eqb}
use Rattle.digits.proofs.Count.{count-le, count-more, count-new}
use Rattle.component.specs.declared.kinds.Port.{Port}
use Rattle.component.specs.declared.kinds.Port.TheVariants.{A, B}
use Rattle.component.specs.Kind.{port_use, is_output}
use Rattle.component.specs.Limits.{most_components}
use Rattle.component.specs.Row.{kind, port, has_colour}
use Rattle.netlist.specs.Netlist.{Netlist, row_of}
use Rattle.netlist.specs.Accepted.{AcceptedFabric}
use Rattle.reach.specs.Rounds.{passed}
use Rattle.spread.specs.Spread.{IsSet, Below, in_bytes, Targets, grown_set, Spreading, members, Waits, Covered}
use Rattle.spread.specs.InTurn.{one_less, listed_in_turn, SpreadingInTurn, dues, Due, most_turns, PassedOnInTurn, Further, FurtherTurns}
use Rattle.spread.proofs.PassOut.{LetsOut, taker-low, grows, inside, small, members-more, members-new, passed-more-bits, Quiet, quiet-old, quiet-other, quiet-passed, paid, waited, keeps, covers, spread-on, below-sets}

-- component k at its output port p, where more is what it lets out
pub record PassingInTurn (f : Netlist) (targets sets to_come list : List ℕ) (k : ℕ) (p : Port) (more : ℕ) : Type 0 where
  pub ends : List ℕ
  pub order : List ℕ
  pub accepted : AcceptedFabric f ends order
  pub targeted : Targets f f.components targets
  pub spreading : SpreadingInTurn f sets to_come list
  pub low : k < f.components
  pub turn : Due to_come k
  pub output : is_output (port_use (kind (row_of f k)) p) ≡ true
  pub fits : more < 256
  pub lets : IsSet more (λ d. ltb d f.colours && passed (kind (row_of f k)) p f.colours (row_of f k) (has_colour (get_or sets (port (row_of f k) A) 0)) (has_colour (get_or sets (port (row_of f k) B) 0)) d)

-- the colours of the sets can reach their channels, whoever waits
pub spreading-none : {f : Netlist} {sets to_come list : List ℕ} → SpreadingInTurn f sets to_come list → Spreading f sets []
spreading-none s = record { sets_long = s.sets_long; small = s.small; inside = s.inside; few = omega arith; named = λ i l. absurd (omega arith) }

module _ {f : Netlist} {targets sets to_come list : List ℕ} {k more : ℕ} {p : Port} (h : PassingInTurn f targets sets to_come list k p more) where
  -- the same where others wait
  out-of : {again : List ℕ} → Spreading f sets again → LetsOut f targets sets again k p more
  out-of s = record {
    ends = h.ends;
    order = h.order;
    accepted = h.accepted;
    targeted = h.targeted;
    spreading = s;
    low = h.low;
    output = h.output;
    fits = h.fits;
    lets = h.lets;
  }

  out : LetsOut f targets sets [] k p more
  out = out-of (spreading-none h.spreading)

  abbrev x : ℕ
  x = port (row_of f k) p

  -- the sets after it
  abbrev after : List ℕ
  after = set sets x (grown_set sets x more)

  -- ---- the component that takes from x
  abbrev taker : ℕ
  taker = get_or targets x 0

  pub taken : taker < f.components
  taken = taker-low out

  -- from how many of its inputs nothing has come yet
  abbrev left : ℕ
  left = get_or to_come taker 0

  -- one less afterwards
  abbrev come : List ℕ
  come = one_less to_come taker

  fits-come : taker < length to_come
  fits-come = omega (arith, taken, h.accepted.few_rows, h.spreading.come_long)

  at-taker : get_or come taker 0 ≡ left - 1
  at-taker = get_or-set_same to_come taker (left - 1) 0 fits-come

  off-taker : (j : ℕ) → (j ≡ taker → ⊥) → get_or come j 0 ≡ get_or to_come j 0
  off-taker j ne = get_or-set_other to_come taker j (left - 1) 0 ne

  stays : (j : ℕ) → Due to_come j → Due come j
  stays j e = go (ℕ_discrete j taker)
    where
      go : Dec (j ≡ taker) → Due come j
      go (yes q) =
          let z : left ≡ 0 = subst (λ (n : ℕ). Due to_come n) q e in
          ap (λ (n : ℕ). get_or come n 0) q ∙ at-taker ∙ omega (arith, z)
      go (no q) = off-taker j q ∙ e

  dues-more : dues to_come ≤ dues come
  unfolding dues
  dues-more =
      count-more (λ j. eqb (get_or to_come j 0) 0) (λ j. eqb (get_or come j 0) 0) most_components
      (λ j l e. eq-eqb _ _ (stays j (eqb-true _ _ e)))

  dues-new : left ≡ 1 → dues to_come < dues come
  unfolding dues
  dues-new e =
      let z : get_or come taker 0 ≡ 0 = at-taker ∙ omega (arith, e) in
      count-new (λ j. eqb (get_or to_come j 0) 0) (λ j. eqb (get_or come j 0) 0) most_components
      (λ j l q. eq-eqb _ _ (stays j (eqb-true _ _ q))) taker (omega (arith, taken, h.accepted.few_rows)) (ap (λ (n : ℕ). eqb n 0) e) (eq-eqb _ _ z)

  few-dues : (s : List ℕ) → dues s ≤ most_components
  unfolding dues
  few-dues s = count-le (λ j. eqb (get_or s j 0) 0) most_components

  few-members : members f after ≤ 8 * f.channels
  unfolding members
  few-members = count-le (λ v. in_bytes after (v / 8) (v % 8)) (8 * f.channels)

  -- the ways: the last input to come, something new afterwards, more inputs to come, nothing new
  data Way : Type 0 where
    last : left ≡ 1 → listed_in_turn sets targets to_come x more ≡ true → Way
    again : left ≡ 0 → (grown_set sets x more ≡ get_or sets x 0 → ⊥) → listed_in_turn sets targets to_come x more ≡ true → Way
    early : 1 < left → listed_in_turn sets targets to_come x more ≡ false → Way
    old : left ≡ 0 → grown_set sets x more ≡ get_or sets x 0 → listed_in_turn sets targets to_come x more ≡ false → Way

  way : Way
  way = go (eqb left 1) refl (eqb left 0) refl (eqb (grown_set sets x more) (get_or sets x 0)) refl
    where
      by : (a b c : Bool) → eqb left 1 ≡ a → eqb left 0 ≡ b → eqb (grown_set sets x more) (get_or sets x 0) ≡ c → listed_in_turn sets targets to_come x more ≡ (a || (b && not c))
      by a b c p q r = rw (p, q, r) refl

      go : (a : Bool) → eqb left 1 ≡ a → (b : Bool) → eqb left 0 ≡ b → (c : Bool) → eqb (grown_set sets x more) (get_or sets x 0) ≡ c → Way
      go true p b q c r = last (eqb-true left 1 p) (by true b c p q r)
      go false p true q true r = old (eqb-true left 0 q) (eqb-true _ _ r) (by false true true p q r)
      go false p true q false r = again (eqb-true left 0 q) (eqb-false _ _ r) (by false true false p q r)
      go false p false q c r = early (omega (arith, eqb-false left 1 p, eqb-false left 0 q)) (by false false c p q r)

  -- so there is room on the list
  room : listed_in_turn sets targets to_come x more ≡ true → length list < most_turns
  room e = go way
    where
      go : Way → length list < most_turns
      go (last q s) = omega (arith, dues-new q, few-dues come, members-more out, few-members, h.spreading.few, h.accepted.few_channels)
      go (again q n s) = omega (arith, dues-more, few-dues come, members-new out n, few-members, h.spreading.few, h.accepted.few_channels)
      go (early q s) = absurd (false≢true (sym s ∙ e))
      go (old q n s) = absurd (false≢true (sym s ∙ e))

  -- ---- the list after it
  module _ {sets' to_come' list' : List ℕ} (es : sets' ≡ after) (ec : to_come' ≡ come) (el : list' ≡ cond (listed_in_turn sets targets to_come x more) (list ++ taker ∷ []) list) where
    put : listed_in_turn sets targets to_come x more ≡ true → list' ≡ list ++ taker ∷ []
    put e = el ∙ ap (λ (b : Bool). cond b (list ++ taker ∷ []) list) e

    not-put : listed_in_turn sets targets to_come x more ≡ false → list' ≡ list
    not-put e = el ∙ ap (λ (b : Bool). cond b (list ++ taker ∷ []) list) e

    one-more : listed_in_turn sets targets to_come x more ≡ true → length list' ≡ length list + 1
    one-more e = ap length (put e) ∙ length-append list (taker ∷ [])

    no-more : listed_in_turn sets targets to_come x more ≡ false → length list' ≡ length list
    no-more e = ap length (not-put e)

    paid-in-turn : length list' + members f sets + dues to_come ≤ length list + members f after + dues come
    paid-in-turn = go way
      where
        go : Way → length list' + members f sets + dues to_come ≤ length list + members f after + dues come
        go (last q s) = omega (arith, one-more s, dues-new q, members-more out)
        go (again q n s) = omega (arith, one-more s, dues-more, members-new out n)
        go (early q s) = omega (arith, no-more s, dues-more, members-more out)
        go (old q n s) = omega (arith, no-more s, dues-more, members-more out)

    -- who waited still waits, and who is put on the list waits
    still-waits : (j : ℕ) → Waits list j → Waits list' j
    still-waits j (i, hi, e) = go (listed_in_turn sets targets to_come x more) refl
      where
        go : (b : Bool) → listed_in_turn sets targets to_come x more ≡ b → Waits list' j
        go true s = (i, omega (arith, one-more s), ap (λ (w : List ℕ). get_or w i 0) (put s) ∙ get_or-append list (taker ∷ []) 0 i hi ∙ e)
        go false s = (i, omega (arith, no-more s), ap (λ (w : List ℕ). get_or w i 0) (not-put s) ∙ e)

    taker-waits : listed_in_turn sets targets to_come x more ≡ true → (j : ℕ) → taker ≡ j → Waits list' j
    taker-waits s j e = (length list, omega (arith, one-more s), ap (λ (w : List ℕ). get_or w (length list) 0) (put s) ∙ get_or-append_seam list taker [] 0 ∙ e)

    -- who has become due waits
    fresh-waits : (j : ℕ) → Due come j → Due to_come j ⊎ Waits list' j
    fresh-waits j d = go (ℕ_discrete j taker) way
      where
        go : Dec (j ≡ taker) → Way → Due to_come j ⊎ Waits list' j
        go (no q) w = inl (sym (off-taker j q) ∙ d)
        go (yes q) (last l s) = inr (taker-waits s j (sym q))
        go (yes q) (again l n s) = inl (ap (λ (n : ℕ). get_or to_come n 0) q ∙ l)
        go (yes q) (old l n s) = inl (ap (λ (n : ℕ). get_or to_come n 0) q ∙ l)
        go (yes q) (early l s) =
            let z : left - 1 ≡ 0 = sym at-taker ∙ ap (λ (n : ℕ). get_or come n 0) (sym q) ∙ d in
            absurd (omega (arith, l, z))

    -- what comes in at component j is as it was, or it waits
    quiet-or-waits : (j : ℕ) → j < f.components → Due to_come j → Quiet out j ⊎ Waits list' j
    quiet-or-waits j l due = go way
      where
        others : (taker ≡ j → ⊥) → Quiet out j
        others = quiet-other out j l

        go : Way → Quiet out j ⊎ Waits list' j
        go (old z g s) = inl (quiet-old out g j)
        go (again z n s) = by_taker (ℕ_discrete taker j)
          where
            by_taker : Dec (taker ≡ j) → Quiet out j ⊎ Waits list' j
            by_taker (yes e) = inr (taker-waits s j e)
            by_taker (no e) = inl (others e)
        go (last z s) = inl (others (λ e. absurd (omega (arith, z, ap (λ (n : ℕ). get_or to_come n 0) e ∙ due))))
        go (early z s) = inl (others (λ e. absurd (omega (arith, z, ap (λ (n : ℕ). get_or to_come n 0) e ∙ due))))

    keeps-due : (j : ℕ) → j < f.components → Due to_come j → (q : Port) → Covered f sets list j q → Covered f after list' j q
    keeps-due j m due q (inr w) = inr (still-waits j w)
    keeps-due j m due q (inl o) = go (quiet-or-waits j m due)
      where
        go : Quiet out j ⊎ Waits list' j → Covered f after list' j q
        go (inl quiet) = inl (λ d e. grows out (port (row_of f j) q) d (o d (quiet-passed out j quiet q d e)))
        go (inr w) = inr w

    covers-port : Covered f after list' k p
    covers-port = go (quiet-or-waits k h.low h.turn)
      where
        go : Quiet out k ⊎ Waits list' k → Covered f after list' k p
        go (inl quiet) = inl (λ d e. passed-more-bits out d (quiet-passed out k quiet p d e))
        go (inr w) = inr w

    -- the taker is due where it is put on the list
    taker-due : listed_in_turn sets targets to_come x more ≡ true → Due come taker
    taker-due e = go way
      where
        go : Way → Due come taker
        go (last q s) = at-taker ∙ omega (arith, q)
        go (again q n s) = stays taker q
        go (early q s) = absurd (false≢true (sym s ∙ e))
        go (old q n s) = absurd (false≢true (sym s ∙ e))

    spread-in-turn : SpreadingInTurn f after come list'
    spread-in-turn = record {
      sets_long = length-set sets x (grown_set sets x more) ∙ h.spreading.sets_long;
      come_long = length-set to_come taker (left - 1) ∙ h.spreading.come_long;
      small = small out;
      inside = inside out;
      few = omega (arith, paid-in-turn, h.spreading.few);
      named = names (listed_in_turn sets targets to_come x more) refl;
    }
      where
        names : (b : Bool) → listed_in_turn sets targets to_come x more ≡ b → (i : ℕ) → i < length list' → (get_or list' i 0 < f.components) × Due come (get_or list' i 0)
        names false s i m =
            let z = h.spreading.named i (omega (arith, no-more s)) in
            subst (λ (w : List ℕ). (get_or w i 0 < f.components) × Due come (get_or w i 0)) (sym (not-put s)) (z.0, stays (get_or list i 0) z.1)
        names true s i m = subst (λ (w : List ℕ). (get_or w i 0 < f.components) × Due come (get_or w i 0)) (sym (put s)) (by_place (ℕ_discrete i (length list)))
          where
            by_place : Dec (i ≡ length list) → (get_or (list ++ taker ∷ []) i 0 < f.components) × Due come (get_or (list ++ taker ∷ []) i 0)
            by_place (yes e) = subst (λ (n : ℕ). (n < f.components) × Due come n) (sym (ap (λ (w : ℕ). get_or (list ++ taker ∷ []) w 0) e ∙ get_or-append_seam list taker [] 0)) (taken, taker-due s)
            by_place (no e) =
                let l : i < length list = omega (arith, one-more s) in
                let z = h.spreading.named i l in
                subst (λ (n : ℕ). (n < f.components) × Due come n) (sym (get_or-append list (taker ∷ []) 0 i l)) (z.0, stays (get_or list i 0) z.1)

    -- and the same of those that wait for a further turn: the taker is put on their list where it is due and something is new
    further_on : (turns : List ℕ) → Spreading f sets turns → (turns' : List ℕ) × Further f sets to_come turns after turns' list' (λ q. q ≡ p) k
    further_on turns s = (
      turns',
      record {
        passed = λ next m due. record {
          spreading = spread-on o had refl;
          onward = record { paid = paid o had refl; keeps = λ j l q c. keeps o had refl j (omega (arith, l, m)) (eq-eqb _ _ (due j l)) q c };
          covers = λ q e. subst (λ (w : Port). Covered f after turns' k w) (sym e) (covers o had refl (eq-eqb _ _ h.turn));
        };
        keeps = λ j l due. keeps o had refl j l (eq-eqb _ _ due);
        on_list = λ j w. new-waits j (waited o had refl j w);
      },
    )
      where
        o : LetsOut f targets sets turns k p more
        o = out-of s

        had : ℕ → Bool
        had j = eqb (get_or to_come j 0) 0

        turns' : List ℕ
        turns' = cond (not (eqb (grown_set sets x more) (get_or sets x 0)) && had taker) (turns ++ taker ∷ []) turns

        new-waits : (j : ℕ) → Waits turns j ⊎ ((taker ≡ j) × (had taker ≡ true) × (grown_set sets x more ≡ get_or sets x 0 → ⊥)) → Waits turns j ⊎ Waits list' j
        new-waits j (inl w) = inl w
        new-waits j (inr (e, d, n)) = go way
          where
            z : left ≡ 0
            z = eqb-true _ _ d

            go : Way → Waits turns j ⊎ Waits list' j
            go (last q s) = absurd (omega (arith, q, z))
            go (again q n s) = inr (taker-waits s j e)
            go (early q s) = absurd (omega (arith, q, z))
            go (old q g s) = absurd (n g)

    further_turns : FurtherTurns f sets to_come sets' list' (λ q. q ≡ p) k
    further_turns = rw es (record { turns = further_on })

    passed_on : PassedOnInTurn f sets to_come list sets' to_come' list' (λ q. q ≡ p) k
    passed_on =
        rw (es, ec)
        (record {
          spreading = spread-in-turn;
          onward = record { paid = paid-in-turn; still = still-waits; stays = stays; keeps = keeps-due; fresh = fresh-waits };
          covers = λ q e. subst (λ (w : Port). Covered f after list' k w) (sym e) covers-port;
        })

  -- ---- with the channel as the code reads it
  module _ {y : ℕ} (e : y ≡ x) where
    pub taker-at : get_or targets y 0 < most_components
    taker-at = subst (λ (w : ℕ). get_or targets w 0 < most_components) (sym e) (omega (arith, taken, h.accepted.few_rows))

    pub room-in-turn : listed_in_turn sets targets to_come y more ≡ true → length list < most_turns
    room-in-turn q = room (subst (λ (w : ℕ). listed_in_turn sets targets to_come w more ≡ true) e q)

    -- what `add` leaves at channel w
    abbrev Added : ℕ → List ℕ → List ℕ → List ℕ → Type 0
    Added w sets' to_come' list' =
        (sets' ≡ set sets w (grown_set sets w more)) × (to_come' ≡ one_less to_come (get_or targets w 0)) × (list' ≡ cond (listed_in_turn sets targets to_come w more) (list ++ get_or targets w 0 ∷ []) list)

    added : {sets' to_come' list' : List ℕ} → Added y sets' to_come' list' → Added x sets' to_come' list'
    added {sets'} {to_come'} {list'} a = subst (λ (w : ℕ). Added w sets' to_come' list') e a

    pub passed-in-turn : {sets' to_come' list' : List ℕ} → sets' ≡ set sets y (grown_set sets y more) → to_come' ≡ one_less to_come (get_or targets y 0)
        → list' ≡ cond (listed_in_turn sets targets to_come y more) (list ++ get_or targets y 0 ∷ []) list → PassedOnInTurn f sets to_come list sets' to_come' list' (λ q. q ≡ p) k
    passed-in-turn es ec el = let (s, c, l) = added (es, ec, el) in passed_on s c l

    pub further-in-turn : {sets' to_come' list' : List ℕ} → sets' ≡ set sets y (grown_set sets y more) → to_come' ≡ one_less to_come (get_or targets y 0)
        → list' ≡ cond (listed_in_turn sets targets to_come y more) (list ++ get_or targets y 0 ∷ []) list → FurtherTurns f sets to_come sets' list' (λ q. q ≡ p) k
    further-in-turn es ec el = let (s, c, l) = added (es, ec, el) in further_turns s c l

-- the sets have colours below C alone
pub below-in-turn : {f : Netlist} {ends order sets to_come list : List ℕ} → AcceptedFabric f ends order → SpreadingInTurn f sets to_come list → (y : ℕ) → y < f.channels → Below f.colours (get_or sets y 0)
below-in-turn a s = below-sets a (spreading-none s)
