-- The code's tables of sums hold what the definitions say. Assumes nothing.
use Rattle.std.proofs.Common.{Result, Ok, Err}
use mathlib.Core.Path.{◌≡◌, refl, sym, ap, ◌∙◌, subst}
use mathlib.Core.Bool.{Bool, true, false, cond, not, ◌&&◌}
use mathlib.Core.List.{List}
use Prim.Native.Nat.{ℕ, ◌+◌, ◌*◌, ◌/◌, ◌%◌, ◌^◌, ◌≤◌, ◌<◌}
use native.Mathlib.Omega.{arith}
use lib.Dec.{ltb, eqb}
use lib.IntN.{ℤ, pos, nat_abs, ◌*ℤ◌, *ℤ-zero, *ℤ-one, one}
use borrow.Author.Tests.{ltb-true, ltb-false, lt-ltb, le-ltb, eqb-true, eqb-false}
use Rattle.digits.proofs.Bools.{and_both, and-true, and-false}
use Rattle.digits.proofs.Least.{least_at, least-none}
use Rattle.integers.specs.Sum.{same}
use Rattle.integers.specs.Tables.{Near, Grown, Summed}
use Rattle.integers.proofs.Sum.{sum-cong, same-yes, same-no, cond-zero, sum-if, mul-if}
use Rattle.integers.proofs.Near.{if-near}
use Rattle.integers.proofs.Tables.{summed-none, summed-more, summed-near, near-wider, grown-is}
use Rattle.refusals.specs.declared.Refusal.{Refusal}
use Rattle.refusals.specs.declared.Refusal.TheVariants.{NoEquation}
use Rattle.component.specs.declared.kinds.Kind.{Kind}
use Rattle.component.specs.declared.kinds.Kind.TheVariants.{Queue}
use Rattle.component.proofs.ByKind.{is-queue}
use Rattle.component.specs.Kind.{is_queue}
use Rattle.component.specs.Row.{kind}
use Rattle.component.specs.Limits.{most_colours, most_entries, most_flows}
use Rattle.netlist.specs.Netlist.{Netlist, row_of}
use Rattle.netlist.specs.Accepted.{AcceptedNetlist}
use Rattle.equations.specs.Equations.{has_equation, factor}
use Rattle.equations.specs.Numbers.{equation_named, name_verdict, equation_verdict, factor_of, equation_factor, numbered, InTable, NamedIn}
use Rattle.equations.specs.declared.Equation.{Equation}
use Rattle.equations.proofs.Agree.{named-verdict, named-factor, named-within}
use Rattle.equations.proofs.Queues.{known-place, queue-low, queue-has}
use Rattle.flows.specs.Terms.{terms, component_of, index, multiplier, most_terms}
use Rattle.flows.specs.Flows.{flow_sum, weight, entry}
use Rattle.flows.specs.Verdict.{bad_term, first_bad_term}
use Rattle.flows.proofs.Terms.{multiplier-near}
use Rattle.sums.specs.Sums.{flow_factor, count_of, count_factor, flows_to, counts_to, term_verdict, terms_verdict, Added}
use Rattle.sums.proofs.Bounds.{named-near, same-near}

pub never : {r : Refusal} → ◌≡◌ {A = Result Unit Refusal} (Err r) (Ok tt) → ⊥
never e = let z : ◌≡◌ {A = ℕ} 0 1 = cc in absurd (omega arith)

-- a kind that is not a queue
pub not-queue : (k : Kind) → (k ≡ Queue → ⊥) → false ≡ is_queue k
not-queue k n = go (is_queue k) refl
  where
    go : (b : Bool) → is_queue k ≡ b → false ≡ b
    go true e = absurd (n (is-queue k e))
    go false e = refl

-- ---- term k, of component q and index i
module _ (f : Netlist) (h : AcceptedNetlist f) (p : List ℕ) (k : ℕ) {q i : ℕ} (eq : q ≡ component_of p k) (ei : i ≡ index p k) where
  -- what it comes to
  pub term-verdict : {named : Result Equation Refusal} → named ≡ equation_named f q i k → equation_verdict named ≡ term_verdict f p k
  unfolding term_verdict
  term-verdict ee =
      ap equation_verdict ee ∙ named-verdict f h.facts.few_colours q i k
      ∙ ap (λ (x : ℕ). name_verdict (has_equation f x i) k) eq ∙ ap (λ (x : ℕ). name_verdict (has_equation f (component_of p k) x) k) ei

  -- it names equation e
  module _ {e : Equation} (ee : Ok e ≡ equation_named f q i k) where
    pub term-within : InTable f.components e
    term-within = (subst (NamedIn f.components) (sym ee) (named-within f h.facts.few_colours q i k h.facts.few_channels h.facts.rows)).in_table

    pub term-known : has_equation f q i ≡ true
    term-known = go (has_equation f q i) (ap equation_verdict ee ∙ named-verdict f h.facts.few_colours q i k)
      where
        go : (b : Bool) → Ok tt ≡ name_verdict b k → b ≡ true
        go true x = refl
        go false x = absurd (never (sym x))

    pub term-place : q < f.components
    term-place = known-place f q i term-known

    -- a queue's index
    pub term-index-low : is_queue (kind (row_of f q)) ≡ true → i < most_colours
    term-index-low y = omega (arith, queue-low f q i term-known y, h.facts.few_colours)

    -- its flows
    pub term-flows : {s s' : List ℤ} {m : ℤ} → m ≡ multiplier p k → Grown most_flows s m (factor_of f.table f.colours e) s' → Grown most_flows s (multiplier p k) (flow_factor f p k) s'
    unfolding flow_factor
    term-flows em = grown-is em
        (λ u n. ap (λ (x : Result Equation Refusal). equation_factor f.table f.colours x u) ee ∙ named-factor f h.facts.few_colours q i k u
        ∙ ap (λ (x : ℕ). numbered f.colours (factor f x i) u) eq ∙ ap (λ (x : ℕ). numbered f.colours (factor f (component_of p k) x) u) ei)

    -- and its weight
    pub term-counts : {w w' : List ℤ} {m : ℤ} {v : ℕ} (b : Bool) → m ≡ multiplier p k → b ≡ is_queue (kind (row_of f q)) → Grown most_entries w m (λ u. cond b (same v u) (pos 0)) w'
        → v ≡ 8 * q + i → Grown most_entries w (multiplier p k) (count_factor f p k) w'
    unfolding count_of
    term-counts b em eb g ev = grown-is em
        (λ u n. ap (λ (x : ℕ). cond b (same x u) (pos 0)) ev ∙ ap (λ (x : Bool). cond x (same (8 * q + i) u) (pos 0)) (eb ∙ sym (ap (λ (x : Bool). x && is_queue (kind (row_of f q))) term-known))
        ∙ ap (λ (x : ℕ). count_of f x i u) eq ∙ ap (λ (x : ℕ). count_of f (component_of p k) x u) ei) g

-- ---- all terms
module _ (f : Netlist) (h : AcceptedNetlist f) (p : List ℕ) where
  pub added_none : {s w : List ℤ} → Summed most_flows (λ v. pos 0) s → Summed most_entries (λ u. pos 0) w → Added f p 0 s w
  added_none a b = record { good = λ j l. absurd (none_below j l); flows = summed-none (multiplier p) (flow_factor f p) a; counts = summed-none (multiplier p) (count_factor f p) b }
    where
      none_below : (j : ℕ) → j < 0 → ⊥
      none_below j l = omega arith

  -- a term that names an equation is not bad
  term-good : (k : ℕ) → term_verdict f p k ≡ (Ok tt) → bad_term f p k ≡ false
  unfolding term_verdict bad_term
  term-good k e = go (has_equation f (component_of p k) (index p k)) e
    where
      go : (b : Bool) → name_verdict b k ≡ (Ok tt) → not b ≡ false
      go true x = refl
      go false x = absurd (never x)

  pub added_more : {k : ℕ} {s w s' w' : List ℤ} → Added f p k s w → term_verdict f p k ≡ (Ok tt) → Grown most_flows s (multiplier p k) (flow_factor f p k) s' → Grown most_entries w (multiplier p k) (count_factor f p k) w'
      → Added f p (k + 1) s' w'
  added_more {k} a e x y = record {
    good = λ j l. by-test j l (ltb j k) refl;
    flows = summed-more (multiplier p) (flow_factor f p) k a.flows x;
    counts = summed-more (multiplier p) (count_factor f p) k a.counts y;
  }
    where
      by-test : (j : ℕ) → j < k + 1 → (b : Bool) → ltb j k ≡ b → bad_term f p j ≡ false
      by-test j l true q = a.good j (ltb-true j k q)
      by-test j l false q = let e' : k ≡ j = omega (arith, ltb-false j k q) in subst (λ (n : ℕ). bad_term f p n ≡ false) e' (term-good k e)

  flow-small : (k v : ℕ) → nat_abs (flow_factor f p k v) ≤ 16
  unfolding flow_factor
  flow-small k v = subst (λ (z : ℤ). nat_abs z ≤ 16) (named-factor f h.facts.few_colours (component_of p k) (index p k) k v)
      (named-near f.table f.colours h.facts.few_colours (equation_named f (component_of p k) (index p k) k) v)

  count_small : (k u : ℕ) → nat_abs (count_factor f p k u) ≤ 1
  unfolding count_of
  count_small k u = if-near (has_equation f (component_of p k) (index p k) && is_queue (kind (row_of f (component_of p k)))) (same (8 * component_of p k + index p k) u) 1 (same-near (8 * component_of p k + index p k) u)

  pub flows-near : {k : ℕ} {s w : List ℤ} → k ≤ most_terms → Added f p k s w → Near most_flows (2 ^ 60) s
  flows-near {k} l a = near-wider (k * (2 ^ 22 * 16)) (2 ^ 60) (omega arith) (summed-near (multiplier p) (flow_factor f p) k (2 ^ 22) 16 (multiplier-near p) flow-small a.flows)

  pub counts-near : {k : ℕ} {s w : List ℤ} → k ≤ most_terms → Added f p k s w → Near most_entries (2 ^ 40) w
  counts-near {k} l a = near-wider (k * (2 ^ 22 * 1)) (2 ^ 40) (omega arith) (summed-near (multiplier p) (count_factor f p) k (2 ^ 22) 1 (multiplier-near p) count_small a.counts)

  -- the first bad term
  pub bad-here : {k : ℕ} {s w : List ℤ} {r : Refusal} → Added f p k s w → Err r ≡ term_verdict f p k → k < terms p → Err r ≡ terms_verdict f p
  unfolding term_verdict bad_term terms_verdict
  bad-here {k} {s} {w} {r} a e l = go (has_equation f (component_of p k) (index p k)) refl
    where
      go : (b : Bool) → has_equation f (component_of p k) (index p k) ≡ b → Err r ≡ terms_verdict f p
      go true x = absurd (never (e ∙ ap (λ (b : Bool). name_verdict b k) x))
      go false x =
          let y : first_bad_term f p ≡ k = least_at (bad_term f p) (terms p) k l a.good (ap not x) in
          let z : first_bad_term f p < terms p = omega arith in
          e ∙ ap (λ (b : Bool). name_verdict b k) x ∙ ap (λ (n : ℕ). Err (NoEquation n)) (sym y)
          ∙ sym (ap (λ (b : Bool). cond b (Err (NoEquation (first_bad_term f p))) (Ok tt)) (lt-ltb (first_bad_term f p) (terms p) z))

  pub bad-nowhere : {k : ℕ} {s w : List ℤ} → Added f p k s w → k ≡ terms p → (Ok tt) ≡ terms_verdict f p
  unfolding terms_verdict
  bad-nowhere {k} a e =
      let y : first_bad_term f p ≡ terms p = least-none (bad_term f p) (terms p) (λ j l. a.good j (omega arith)) in
      sym (ap (λ (b : Bool). cond b (Err (NoEquation (first_bad_term f p))) (Ok tt)) (le-ltb (first_bad_term f p) (terms p) (omega arith)))

-- ---- the tables after all terms
module _ (f : Netlist) (p : List ℕ) where
  -- the sum of flow v
  pub flows-sum : (v : ℕ) → flows_to f p (terms p) v ≡ cond (ltb (v % 8) f.colours) (flow_sum f p (v / 8) (v % 8)) (pos 0)
  unfolding flow_factor numbered flow_sum
  flows-sum v =
      sum-cong (terms p) (λ k. multiplier p k *ℤ cond (ltb (v % 8) f.colours) (factor f (component_of p k) (index p k) (v / 8) (v % 8)) (pos 0))
      (λ k. cond (ltb (v % 8) f.colours) (multiplier p k *ℤ factor f (component_of p k) (index p k) (v / 8) (v % 8)) (pos 0))
      (λ k l. mul-if (ltb (v % 8) f.colours) (multiplier p k) (factor f (component_of p k) (index p k) (v / 8) (v % 8)))
      ∙ sum-if (ltb (v % 8) f.colours) (terms p) (λ k. multiplier p k *ℤ factor f (component_of p k) (index p k) (v / 8) (v % 8))

  module _ (h : AcceptedNetlist f) (u : ℕ) (room : u < 8 * f.components) where
    abbrev low : Bool
    low = ltb (u % 8) f.colours

    abbrev queue-here : Bool
    queue-here = is_queue (kind (row_of f (u / 8)))

    -- a term's share of entry u
    term-entry : (q i : ℕ) (m : ℤ) → m *ℤ cond (has_equation f q i && is_queue (kind (row_of f q))) (same (8 * q + i) u) (pos 0)
        ≡ cond (ltb (u % 8) f.colours) (cond (is_queue (kind (row_of f (u / 8)))) (cond (eqb q (u / 8) && eqb i (u % 8)) m (pos 0)) (pos 0)) (pos 0)
    unfolding one
    term-entry q i m = go (eqb q (u / 8)) refl (eqb i (u % 8)) refl
      where
        zero_right : (z : ℤ) → z ≡ pos 0 → cond (ltb (u % 8) f.colours) (cond (is_queue (kind (row_of f (u / 8)))) z (pos 0)) (pos 0) ≡ pos 0
        zero_right z e = cond-zero (ltb (u % 8) f.colours) (cond (is_queue (kind (row_of f (u / 8)))) z (pos 0)) (cond-zero (is_queue (kind (row_of f (u / 8)))) z e)

        -- another entry
        elsewhere : (b : Bool) → (has_equation f q i && is_queue (kind (row_of f q))) ≡ b → ((q ≡ u / 8) × (i ≡ u % 8) → ⊥) → m *ℤ cond b (same (8 * q + i) u) (pos 0) ≡ pos 0
        elsewhere false e n = *ℤ-zero m
        elsewhere true e n =
            let a = and_both (has_equation f q i) (is_queue (kind (row_of f q))) e in
            let l : i < 8 = omega (arith, queue-low f q i a.0 a.1, h.facts.few_colours) in
            ap (λ (z : ℤ). m *ℤ z) (same-no (8 * q + i) u (λ k. n (omega arith, omega arith))) ∙ *ℤ-zero m

        -- this entry: of a queue, or not
        here : (b : Bool) → is_queue (kind (row_of f (u / 8))) ≡ b → m *ℤ cond (has_equation f (u / 8) (u % 8) && b) (same (8 * (u / 8) + u % 8) u) (pos 0)
            ≡ cond (ltb (u % 8) f.colours) (cond b m (pos 0)) (pos 0)
        here true e =
            let s : same (8 * (u / 8) + u % 8) u ≡ pos 1 = same-yes (8 * (u / 8) + u % 8) u (omega arith) in
            ap (λ (z : ℤ). m *ℤ cond (has_equation f (u / 8) (u % 8) && true) z (pos 0)) s
            ∙ ap (λ (b : Bool). m *ℤ cond b (pos 1) (pos 0)) (and-true (has_equation f (u / 8) (u % 8)) ∙ queue-has f (u / 8) (u % 8) (omega arith) e)
            ∙ mul-if (ltb (u % 8) f.colours) m (pos 1) ∙ ap (λ (z : ℤ). cond (ltb (u % 8) f.colours) z (pos 0)) (*ℤ-one m)
        here false e = ap (λ (b : Bool). m *ℤ cond b (same (8 * (u / 8) + u % 8) u) (pos 0)) (and-false (has_equation f (u / 8) (u % 8))) ∙ *ℤ-zero m ∙ sym (cond-zero (ltb (u % 8) f.colours) (pos 0) refl)

        go : (a : Bool) → eqb q (u / 8) ≡ a → (b : Bool) → eqb i (u % 8) ≡ b → m *ℤ cond (has_equation f q i && is_queue (kind (row_of f q))) (same (8 * q + i) u) (pos 0)
            ≡ cond (ltb (u % 8) f.colours) (cond (is_queue (kind (row_of f (u / 8)))) (cond (a && b) m (pos 0)) (pos 0)) (pos 0)
        go true ea true eb =
            ap (λ (x : ℕ). m *ℤ cond (has_equation f x i && is_queue (kind (row_of f x))) (same (8 * x + i) u) (pos 0)) (eqb-true q (u / 8) ea)
            ∙ ap (λ (x : ℕ). m *ℤ cond (has_equation f (u / 8) x && is_queue (kind (row_of f (u / 8)))) (same (8 * (u / 8) + x) u) (pos 0)) (eqb-true i (u % 8) eb)
            ∙ here (is_queue (kind (row_of f (u / 8)))) refl
        go true ea false eb = elsewhere _ refl (λ e. eqb-false i (u % 8) eb e.1) ∙ sym (zero_right (pos 0) refl)
        go false ea b eb = elsewhere _ refl (λ e. eqb-false q (u / 8) ea e.0) ∙ sym (zero_right (pos 0) refl)

    pub counts-sum : counts_to f p (terms p) u ≡ entry f p u
    unfolding count_of entry weight
    counts-sum =
        sum-cong (terms p) (λ k. multiplier p k *ℤ count_factor f p k u)
        (λ k. cond low (cond queue-here (cond (eqb (component_of p k) (u / 8) && eqb (index p k) (u % 8)) (multiplier p k) (pos 0)) (pos 0)) (pos 0))
        (λ k l. term-entry (component_of p k) (index p k) (multiplier p k))
        ∙ sum-if low (terms p) (λ k. cond queue-here (cond (eqb (component_of p k) (u / 8) && eqb (index p k) (u % 8)) (multiplier p k) (pos 0)) (pos 0))
        ∙ ap (λ (z : ℤ). cond low z (pos 0)) (sum-if queue-here (terms p) (λ k. cond (eqb (component_of p k) (u / 8) && eqb (index p k) (u % 8)) (multiplier p k) (pos 0)))
