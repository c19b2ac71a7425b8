-- Where every flow inside the sets cancels, a step that keeps the equations and moves nothing outside the sets keeps the accepted sum. Assumes nothing.
use mathlib.Core.Path.{◌≡◌, refl, sym, ap, ◌∙◌}
use mathlib.Core.Bool.{Bool, true, false, cond, ◌&&◌, true≢false}
use mathlib.Core.List.{List}
use Prim.Native.Nat.{ℕ, ◌<◌}
use native.Mathlib.Omega.{arith}
use lib.Dec.{eqb}
use lib.IntN.{ℤ, pos, neg_ℤ, ◌+ℤ◌, ◌-ℤ◌, ◌*ℤ◌, +ℤ_idl, +ℤ_idr, +ℤ_assoc, +ℤ_invl, zero-*ℤ, *ℤ-zero, *ℤ_comm, *ℤ-one, one}
use borrow.Author.Tests.{lt-ltb, eqb-true, eq-eqb}
use Rattle.digits.proofs.Bools.{both_true}
use Rattle.integers.specs.Sum.{sum_to, is_zero}
use Rattle.integers.proofs.Ring.{distrib-l, neg-*ℤ}
use Rattle.integers.proofs.Sum.{sum-cong, sum-zero, sum-add, sum-only, sum-minus, one-*ℤ, cond-zero, zero_is, is-zero}
use Rattle.integers.proofs.Lines.{by-lines-2}
use Rattle.component.specs.Kind.{is_queue}
use Rattle.component.specs.Row.{kind}
use Rattle.netlist.specs.Netlist.{Netlist, row_of}
use Rattle.netlist.specs.Accepted.{AcceptedNetlist}
use Rattle.equations.specs.Equations.{side_if, has_equation, side, factor}
use Rattle.equations.proofs.Queues.{queue-low, queue-has, known-place}
use Rattle.flows.specs.Terms.{terms, component_of, index, multiplier}
use Rattle.flows.specs.Flows.{flow_sum, CancelsInside, weight, accepted_sum}
use Rattle.flows.specs.Steps.{flow_change, count_change, Holds, MovedInside}

-- a - b is 0
differ : (a b : ℤ) → a -ℤ b ≡ pos 0 → a ≡ b
differ a b e = sym (+ℤ_idr a) ∙ ap (λ (z : ℤ). a +ℤ z) (sym (+ℤ_invl b)) ∙ sym (+ℤ_assoc a (neg_ℤ b) b) ∙ ap (λ (z : ℤ). z +ℤ b) e ∙ +ℤ_idl b

mul-minus : (a b c : ℤ) → a *ℤ (b -ℤ c) ≡ a *ℤ b -ℤ a *ℤ c
mul-minus a b c = distrib-l a b (neg_ℤ c) ∙ ap (λ (z : ℤ). a *ℤ b +ℤ z) (*ℤ_comm a (neg_ℤ c) ∙ neg-*ℤ c a ∙ ap neg_ℤ (*ℤ_comm c a))

sum_less : (n : ℕ) (g k : ℕ → ℤ) → sum_to n (λ i. g i -ℤ k i) ≡ sum_to n g -ℤ sum_to n k
sum_less n g k = sum-add n g (λ i. neg_ℤ (k i)) ∙ ap (λ (z : ℤ). sum_to n g +ℤ z) (sum-minus n k)

-- the factor of n(q,d) in the equation of component k and index i
count_in : Netlist → ℕ → ℕ → ℕ → ℕ → ℤ
count_in f k i q d = cond (is_queue (kind (row_of f q))) (cond (eqb k q && eqb i d) (pos 1) (pos 0)) (pos 0)

module _ (f : Netlist) (h : AcceptedNetlist f) (p : List ℕ) (moved : ℕ → ℕ → ℤ) (n n' : ℕ → ℕ → ℕ) where
  -- by how much n(q,d) changes
  grows : ℕ → ℕ → ℤ
  grows q d = pos (n' q d) -ℤ pos (n q d)

  count-side : ℕ → ℕ → ℤ
  count-side k i = sum_to f.components (λ q. sum_to f.colours (λ d. count_in f k i q d *ℤ grows q d))

  -- ---- the counts in one equation
  off : (k i q d : ℕ) → ((k ≡ q) × (i ≡ d) → ⊥) → count_in f k i q d *ℤ grows q d ≡ pos 0
  unfolding count_in
  off k i q d ne = ap (λ (z : ℤ). z *ℤ grows q d) (go (eqb k q) refl (eqb i d) refl) ∙ zero-*ℤ (grows q d)
    where
      go : (a : Bool) → eqb k q ≡ a → (b : Bool) → eqb i d ≡ b → cond (is_queue (kind (row_of f q))) (cond (a && b) (pos 1) (pos 0)) (pos 0) ≡ pos 0
      go true ea true eb = absurd (ne (eqb-true k q ea, eqb-true i d eb))
      go true ea false eb = cond-zero (is_queue (kind (row_of f q))) (pos 0) refl
      go false ea b eb = cond-zero (is_queue (kind (row_of f q))) (pos 0) refl

  on : (k i : ℕ) → count_in f k i k i *ℤ grows k i ≡ count_change f k i n n'
  unfolding count_in count_change grows
  on k i = ap (λ (b : Bool). cond (is_queue (kind (row_of f k))) (cond b (pos 1) (pos 0)) (pos 0) *ℤ grows k i) (both_true (eq-eqb k k refl) (eq-eqb i i refl)) ∙ go (is_queue (kind (row_of f k)))
    where
      go : (b : Bool) → cond b (pos 1) (pos 0) *ℤ grows k i ≡ cond b (pos (n' k i) -ℤ pos (n k i)) (pos 0)
      go true = one-*ℤ (grows k i)
      go false = zero-*ℤ (grows k i)

  count-known : (k i : ℕ) → k < f.components → i < f.colours → count-side k i ≡ count_change f k i n n'
  unfolding count-side
  count-known k i lk li =
      sum-only f.components k (λ q. sum_to f.colours (λ d. count_in f k i q d *ℤ grows q d)) lk
      (λ q l ne. sum-zero f.colours (λ d. count_in f k i q d *ℤ grows q d) (λ d m. off k i q d (λ e. ne (sym e.0))))
      ∙ sum-only f.colours i (λ d. count_in f k i k d *ℤ grows k d) li (λ d l ne. off k i k d (λ e. ne (sym e.1))) ∙ on k i

  count_none : (k i : ℕ) → ((q d : ℕ) → q < f.components → d < f.colours → count_in f k i q d *ℤ grows q d ≡ pos 0) → count-side k i ≡ pos 0
  unfolding count-side
  count_none k i z =
      sum-zero f.components (λ q. sum_to f.colours (λ d. count_in f k i q d *ℤ grows q d)) (λ q l. sum-zero f.colours (λ d. count_in f k i q d *ℤ grows q d) (λ d m. z q d l m))

  -- nothing, unless n(k,i) is there and counts
  vanish : (k i q d : ℕ) → q < f.components → d < f.colours → (is_queue (kind (row_of f k)) ≡ true → k < f.components → i < f.colours → ⊥) → count_in f k i q d *ℤ grows q d ≡ pos 0
  unfolding count_in
  vanish k i q d lq ld ne = go (eqb k q) refl (eqb i d) refl
    where
      here : k ≡ q → i ≡ d → (b : Bool) → is_queue (kind (row_of f q)) ≡ b → cond b (cond true (pos 1) (pos 0)) (pos 0) *ℤ grows q d ≡ pos 0
      here ek ei true e = absurd (ne (ap (λ (j : ℕ). is_queue (kind (row_of f j))) ek ∙ e) (omega arith) (omega arith))
      here ek ei false e = zero-*ℤ (grows q d)

      there : (b : Bool) → cond b (pos 0) (pos 0) *ℤ grows q d ≡ pos 0
      there true = zero-*ℤ (grows q d)
      there false = zero-*ℤ (grows q d)

      go : (a : Bool) → eqb k q ≡ a → (b : Bool) → eqb i d ≡ b → cond (is_queue (kind (row_of f q))) (cond (a && b) (pos 1) (pos 0)) (pos 0) *ℤ grows q d ≡ pos 0
      go true ea true eb = here (eqb-true k q ea) (eqb-true i d eb) (is_queue (kind (row_of f q))) refl
      go true ea false eb = there (is_queue (kind (row_of f q)))
      go false ea b eb = there (is_queue (kind (row_of f q)))

  -- ---- one equation: the step keeps it
  module _ (t : Holds f moved n n') where
    change-other : (k i : ℕ) → is_queue (kind (row_of f k)) ≡ false → count_change f k i n n' ≡ pos 0
    unfolding count_change
    change-other k i e = rw e

    flow-none : (k i : ℕ) → has_equation f k i ≡ false → flow_change f k i moved ≡ pos 0
    unfolding flow_change factor
    flow-none k i e =
        sum-zero f.channels (λ x. sum_to f.colours (λ d. factor f k i x d *ℤ moved x d))
        (λ x l. sum-zero f.colours (λ d. factor f k i x d *ℤ moved x d)
        (λ d m. ap (λ (b : Bool). side_if b (side (kind (row_of f k)) (row_of f k) i) x d *ℤ moved x d) e ∙ zero-*ℤ (moved x d)))

    kept : (k i : ℕ) → flow_change f k i moved +ℤ count-side k i ≡ pos 0
    kept k i = go (has_equation f k i) refl (is_queue (kind (row_of f k))) refl
      where
        go : (a : Bool) → has_equation f k i ≡ a → (b : Bool) → is_queue (kind (row_of f k)) ≡ b → flow_change f k i moved +ℤ count-side k i ≡ pos 0
        go true ea true eb = ap (λ (z : ℤ). flow_change f k i moved +ℤ z) (count-known k i (known-place f k i ea) (queue-low f k i ea eb)) ∙ t.holds k i ea
        go true ea false eb =
            ap (λ (z : ℤ). flow_change f k i moved +ℤ z) (count_none k i (λ q d l m. vanish k i q d l m (λ e _ _. true≢false (sym e ∙ eb))) ∙ sym (change-other k i eb)) ∙ t.holds k i ea
        go false ea b eb =
            ap (λ (z : ℤ). z +ℤ count-side k i) (flow-none k i ea) ∙ +ℤ_idl (count-side k i)
            ∙ count_none k i (λ q d l m. vanish k i q d l m (λ e lk li. true≢false (sym (queue-has f k i lk e ∙ lt-ltb i f.colours li) ∙ ea)))

    -- ---- all terms
    weight-column : (q d : ℕ) → weight f p q d ≡ sum_to (terms p) (λ k. multiplier p k *ℤ count_in f (component_of p k) (index p k) q d)
    unfolding weight count_in one
    weight-column q d = go (is_queue (kind (row_of f q)))
      where
        term : (k : ℕ) (b : Bool) → cond b (multiplier p k) (pos 0) ≡ multiplier p k *ℤ cond b (pos 1) (pos 0)
        term k true = sym (*ℤ-one (multiplier p k))
        term k false = sym (*ℤ-zero (multiplier p k))

        go : (b : Bool) → cond b (sum_to (terms p) (λ k. cond (eqb (component_of p k) q && eqb (index p k) d) (multiplier p k) (pos 0))) (pos 0)
            ≡ sum_to (terms p) (λ k. multiplier p k *ℤ cond b (cond (eqb (component_of p k) q && eqb (index p k) d) (pos 1) (pos 0)) (pos 0))
        go true = sum-cong (terms p) (λ k. cond (eqb (component_of p k) q && eqb (index p k) d) (multiplier p k) (pos 0)) (λ k. multiplier p k *ℤ cond (eqb (component_of p k) q && eqb (index p k) d) (pos 1) (pos 0))
            (λ k l. term k (eqb (component_of p k) q && eqb (index p k) d))
        go false = sym (sum-zero (terms p) (λ k. multiplier p k *ℤ pos 0) (λ k l. *ℤ-zero (multiplier p k)))

    -- a flow that does not cancel is not inside, and nothing of it moved
    flow-zero : CancelsInside f p → MovedInside f moved → (x d : ℕ) → x < f.channels → d < f.colours → flow_sum f p x d *ℤ moved x d ≡ pos 0
    flow-zero c i x d l m = go (is_zero (moved x d)) refl
      where
        go : (b : Bool) → is_zero (moved x d) ≡ b → flow_sum f p x d *ℤ moved x d ≡ pos 0
        go true e = ap (λ (z : ℤ). flow_sum f p x d *ℤ z) (zero_is (moved x d) e) ∙ *ℤ-zero (flow_sum f p x d)
        go false e = ap (λ (z : ℤ). z *ℤ moved x d) (c x d l m (i.inside x d l m (λ z. true≢false (sym (is-zero (moved x d) z) ∙ e)))) ∙ zero-*ℤ (moved x d)

    -- the flows, by terms
    flows-zero : CancelsInside f p → MovedInside f moved → sum_to (terms p) (λ k. multiplier p k *ℤ flow_change f (component_of p k) (index p k) moved) ≡ pos 0
    unfolding flow_change flow_sum
    flows-zero c i =
        sym (by-lines-2 (terms p) (multiplier p) f.channels f.colours (λ k x d. factor f (component_of p k) (index p k) x d) moved)
        ∙ sum-zero f.channels (λ x. sum_to f.colours (λ d. flow_sum f p x d *ℤ moved x d))
        (λ x l. sum-zero f.colours (λ d. flow_sum f p x d *ℤ moved x d) (λ d m. flow-zero c i x d l m))

    -- the counts, by terms
    weighted-zero : CancelsInside f p → MovedInside f moved → sum_to f.components (λ q. sum_to f.colours (λ d. weight f p q d *ℤ grows q d)) ≡ pos 0
    unfolding count-side
    weighted-zero c i =
        sum-cong f.components (λ q. sum_to f.colours (λ d. weight f p q d *ℤ grows q d)) (λ q. sum_to f.colours (λ d. sum_to (terms p) (λ k. multiplier p k *ℤ count_in f (component_of p k) (index p k) q d) *ℤ grows q d))
        (λ q l. sum-cong f.colours (λ d. weight f p q d *ℤ grows q d) (λ d. sum_to (terms p) (λ k. multiplier p k *ℤ count_in f (component_of p k) (index p k) q d) *ℤ grows q d)
        (λ d m. ap (λ (z : ℤ). z *ℤ grows q d) (weight-column q d)))
        ∙ by-lines-2 (terms p) (multiplier p) f.components f.colours (λ k q d. count_in f (component_of p k) (index p k) q d) grows
        ∙ sym (+ℤ_idl (sum_to (terms p) (λ k. multiplier p k *ℤ count-side (component_of p k) (index p k))))
        ∙ ap (λ (z : ℤ). z +ℤ sum_to (terms p) (λ k. multiplier p k *ℤ count-side (component_of p k) (index p k))) (sym (flows-zero c i))
        ∙ sym (sum-add (terms p) (λ k. multiplier p k *ℤ flow_change f (component_of p k) (index p k) moved) (λ k. multiplier p k *ℤ count-side (component_of p k) (index p k)))
        ∙ sum-zero (terms p) (λ k. multiplier p k *ℤ flow_change f (component_of p k) (index p k) moved +ℤ multiplier p k *ℤ count-side (component_of p k) (index p k))
        (λ k l. sym (distrib-l (multiplier p k) (flow_change f (component_of p k) (index p k) moved) (count-side (component_of p k) (index p k)))
        ∙ ap (λ (z : ℤ). multiplier p k *ℤ z) (kept (component_of p k) (index p k)) ∙ *ℤ-zero (multiplier p k))

    -- the accepted sum after a step equals that before it
    pub step-constant : CancelsInside f p → MovedInside f moved → accepted_sum f p n' ≡ accepted_sum f p n
    unfolding accepted_sum grows
    step-constant c i = differ (accepted_sum f p n') (accepted_sum f p n)
        (sym (sum_less f.components (λ q. sum_to f.colours (λ d. weight f p q d *ℤ pos (n' q d))) (λ q. sum_to f.colours (λ d. weight f p q d *ℤ pos (n q d))))
        ∙ sum-cong f.components (λ q. sum_to f.colours (λ d. weight f p q d *ℤ pos (n' q d)) -ℤ sum_to f.colours (λ d. weight f p q d *ℤ pos (n q d))) (λ q. sum_to f.colours (λ d. weight f p q d *ℤ grows q d))
        (λ q l. sym (sum_less f.colours (λ d. weight f p q d *ℤ pos (n' q d)) (λ d. weight f p q d *ℤ pos (n q d)))
        ∙ sum-cong f.colours (λ d. weight f p q d *ℤ pos (n' q d) -ℤ weight f p q d *ℤ pos (n q d)) (λ d. weight f p q d *ℤ grows q d) (λ d m. sym (mul-minus (weight f p q d) (pos (n' q d)) (pos (n q d)))))
        ∙ weighted-zero c i)
