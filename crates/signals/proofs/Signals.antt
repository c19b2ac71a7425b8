-- All rules hold of the values, and of no others; any order that follows the dependences gives them. Assumes nothing.
use mathlib.Core.Path.{◌≡◌, refl, subst, ◌∙◌}
use mathlib.Core.Bool.{Bool, true, false}
use mathlib.Core.List.{List}
use Prim.Native.Nat.{ℕ, zero, suc, ◌+◌, ◌*◌, ◌/◌, ◌%◌, ◌≤◌, ◌<◌}
use native.Mathlib.Decide.{ℕ_discrete}
use native.Mathlib.Omega.{arith}
use lib.ListN.{get_or}
use borrow.Author.Tests.{eqb-true, eqb-false, eq-eqb, ne_eqb}
use Rattle.order.specs.Graph.{Depends, Sorted}
use Rattle.order.proofs.ByOrder.{by_order}
use Rattle.order.proofs.Values.{sorted-no-circle, val-rule, val-unique, val-next}
use Rattle.component.specs.declared.kinds.Port.{Port}
use Rattle.component.specs.declared.kinds.Port.TheVariants.{A, B, C}
use Rattle.component.specs.Kind.{port_use, is_output, is_input}
use Rattle.component.specs.Row.{kind, port}
use Rattle.wiring.specs.Ends.{end_port, on_side}
use Rattle.wiring.specs.Signals.{Near, offer_a, offer_b, take_b, take_c, depends_on, has, signal_of, near_of, is_offer, end_of, dependence}
use Rattle.netlist.specs.Netlist.{Netlist, row_of}
use Rattle.netlist.specs.Accepted.{AcceptedFabric}
use Rattle.netlist.proofs.Ends.{giver, given-side, given-channel, from-output, from-input}
use Rattle.rules.proofs.Rules.{reads_only}
use Rattle.signals.specs.Signals.{component_at, near, rule_at, rule_of, value, along}

-- P of all that the rule at port p of component k reads
abbrev pub OfRead : Netlist → (ℕ → Type 0) → ℕ → Port → Type 0
OfRead f P k p = (n : Near) → has (depends_on (kind (row_of f k)) p) n ≡ true → P (signal_of (row_of f k) n)

module _ (f : Netlist) (ends order : List ℕ) (a : AcceptedFabric f ends order) where
  below : (k : ℕ) → k < f.components → (n : Near) → signal_of (row_of f k) n < 2 * f.channels
  below k h offer_a = omega (arith, (a.rows k h).ports A)
  below k h offer_b = omega (arith, (a.rows k h).ports B)
  below k h take_b = omega (arith, (a.rows k h).ports B)
  below k h take_c = omega (arith, (a.rows k h).ports C)

  -- what a rule reads is among the dependences of its signal
  depends : (s : ℕ) → s < 2 * f.channels → (n : Near) → has (depends_on (kind (row_of f (end_of f.table f.components s / 3))) (end_port (end_of f.table f.components s))) n ≡ true →
      Depends (dependence f.table f.components) (2 * f.channels) s (signal_of (row_of f (end_of f.table f.components s / 3)) n)
  unfolding dependence near_of
  depends s h offer_a i = record { entry = 0; below = omega arith; is = rw i; from = h; to = below _ (giver f ends order a s h) offer_a }
  depends s h offer_b i = record { entry = 1; below = omega arith; is = rw i; from = h; to = below _ (giver f ends order a s h) offer_b }
  depends s h take_b i = record { entry = 2; below = omega arith; is = rw i; from = h; to = below _ (giver f ends order a s h) take_b }
  depends s h take_c i = record { entry = 3; below = omega arith; is = rw i; from = h; to = below _ (giver f ends order a s h) take_c }

  -- what holds of the signal at each port whenever it holds of all that its rule reads, holds of every signal
  pub by-port : (P : ℕ → Type 0) →
      ((k : ℕ) → k < f.components → (p : Port) → is_output (port_use (kind (row_of f k)) p) ≡ true → OfRead f P k p → P (2 * port (row_of f k) p)) →
      ((k : ℕ) → k < f.components → (p : Port) → is_input (port_use (kind (row_of f k)) p) ≡ true → OfRead f P k p → P (2 * port (row_of f k) p + 1)) →
      (s : ℕ) → s < 2 * f.channels → P s
  by-port P offer taken = by_order (dependence f.table f.components) (2 * f.channels) order a.wires.sorted P turn
    where
      turn : (s : ℕ) → s < 2 * f.channels → ((d : ℕ) → Depends (dependence f.table f.components) (2 * f.channels) s d → P d) → P s
      turn s h before = go (is_offer s) refl (given-side f ends order a s h)
        where
          e : ℕ
          e = end_of f.table f.components s

          at : port (row_of f (e / 3)) (end_port e) ≡ s / 2
          at = given-channel f ends order a s h

          go : (b : Bool) → is_offer s ≡ b → on_side b (port_use (kind (row_of f (e / 3))) (end_port e)) ≡ true → P s
          go true q o =
              let i : 2 * port (row_of f (e / 3)) (end_port e) ≡ s = omega (arith, at, eqb-true (s % 2) 0 q) in
              subst P i (offer (e / 3) (giver f ends order a s h) (end_port e) o (λ n r. before _ (depends s h n r)))
          go false q o =
              let i : 2 * port (row_of f (e / 3)) (end_port e) + 1 ≡ s = omega (arith, at, eqb-false (s % 2) 0 q) in
              subst P i (taken (e / 3) (giver f ends order a s h) (end_port e) o (λ n r. before _ (depends s h n r)))

  module _ (state choices : List ℕ) where
    -- the rule of a signal reads only what the signal depends on
    pub rule-only : (s : ℕ) → s < 2 * f.channels → (v w : ℕ → ℕ) → ((d : ℕ) → Depends (dependence f.table f.components) (2 * f.channels) s d → v d ≡ w d) →
        rule_of f state choices s v ≡ rule_of f state choices s w
    unfolding rule_of
    rule-only s h v w same =
        let e = end_of f.table f.components s in
        let row = row_of f (e / 3) in
        reads_only (kind row) (end_port e) (component_at f state choices (e / 3)) (near row v) (near row w) (λ n i. same (signal_of row n) (depends s h n i))

    -- all rules hold of the values
    pub value-rule : (s : ℕ) → s < 2 * f.channels → value f state choices s ≡ rule_of f state choices s (value f state choices)
    unfolding value
    value-rule = val-rule (dependence f.table f.components) (2 * f.channels) (rule_of f state choices) 0 rule-only (sorted-no-circle (dependence f.table f.components) (2 * f.channels) order a.wires.sorted)

    -- they are the only values of which all rules hold
    pub value-only : (v : ℕ → ℕ) → ((s : ℕ) → s < 2 * f.channels → v s ≡ rule_of f state choices s v) → (s : ℕ) → s < 2 * f.channels → v s ≡ value f state choices s
    unfolding value
    value-only = val-unique (dependence f.table f.components) (2 * f.channels) (rule_of f state choices) 0 rule-only (sorted-no-circle (dependence f.table f.components) (2 * f.channels) order a.wires.sorted)

    -- in any order that follows the dependences a signal is worked out from those before it
    pub value-next : (o : List ℕ) → Sorted (dependence f.table f.components) (2 * f.channels) o → (v : ℕ → ℕ) (p : ℕ) → p < 2 * f.channels →
        ((q : ℕ) → q < p → v (get_or o q 0) ≡ value f state choices (get_or o q 0)) → rule_of f state choices (get_or o p 0) v ≡ value f state choices (get_or o p 0)
    unfolding value
    value-next = val-next (dependence f.table f.components) (2 * f.channels) (rule_of f state choices) 0 rule-only

    -- so working all out one by one along such an order gives the values
    along-found : (o : List ℕ) → Sorted (dependence f.table f.components) (2 * f.channels) o → (i : ℕ) → i ≤ 2 * f.channels → (j : ℕ) → j < i →
        along (rule_of f state choices) o i (get_or o j 0) ≡ value f state choices (get_or o j 0)
    unfolding along
    along-found o so zero l j h = absurd (omega arith)
    along-found o so (suc i) l j h = go (along-found o so i (omega arith)) (ℕ_discrete j i)
      where
        go : ((q : ℕ) → q < i → along (rule_of f state choices) o i (get_or o q 0) ≡ value f state choices (get_or o q 0)) → Dec (j ≡ i) →
            along (rule_of f state choices) o (suc i) (get_or o j 0) ≡ value f state choices (get_or o j 0)
        go before (yes e) = rw (e, eq-eqb (get_or o i 0) (get_or o i 0) refl) (value-next o so (along (rule_of f state choices) o i) i (omega arith) before)
        go before (no e) = rw (ne_eqb (get_or o j 0) (get_or o i 0) (λ q. e (so.once j i (omega arith) (omega arith) q))) (before j (omega arith))

    pub value-along : (o : List ℕ) → Sorted (dependence f.table f.components) (2 * f.channels) o → (s : ℕ) → s < 2 * f.channels →
        along (rule_of f state choices) o (2 * f.channels) s ≡ value f state choices s
    value-along o so s h = let q = so.each s h in rw (← q.2) (along-found o so (2 * f.channels) (omega arith) q.0 q.1)

  module _ (k : ℕ) (h : k < f.components) (p : Port) where
    -- the offer on an output port, and the take of an input port, by component
    pub value-output : (state choices : List ℕ) → is_output (port_use (kind (row_of f k)) p) ≡ true →
        value f state choices (2 * port (row_of f k) p) ≡ rule_at f state choices k p (value f state choices)
    unfolding rule_of
    value-output state choices o =
        value-rule state choices (2 * port (row_of f k) p) (omega (arith, (a.rows k h).ports p))
        ∙ from-output f ends order a k h p (λ j q. rule_at f state choices j q (value f state choices) ≡ rule_at f state choices k p (value f state choices)) o refl

    pub value-input : (state choices : List ℕ) → is_input (port_use (kind (row_of f k)) p) ≡ true →
        value f state choices (2 * port (row_of f k) p + 1) ≡ rule_at f state choices k p (value f state choices)
    unfolding rule_of
    value-input state choices o =
        value-rule state choices (2 * port (row_of f k) p + 1) (omega (arith, (a.rows k h).ports p))
        ∙ from-input f ends order a k h p (λ j q. rule_at f state choices j q (value f state choices) ≡ rule_at f state choices k p (value f state choices)) o refl
