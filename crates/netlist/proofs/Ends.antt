-- The ends of an accepted fabric's channels: the port that gives a signal, and the signal that a port gives. Assumes nothing.
use mathlib.Core.Path.{◌≡◌, refl, sym, ap, ◌∙◌}
use mathlib.Core.Bool.{true}
use mathlib.Core.List.{List}
use Prim.Native.Nat.{ℕ, ◌+◌, ◌*◌, ◌/◌, ◌%◌, ◌<◌}
use native.Mathlib.Omega.{arith}
use lib.Dec.{eqb}
use borrow.Author.Tests.{eqb-true, eq-eqb}
use Rattle.digits.proofs.Bools.{and_both, both_true}
use Rattle.component.specs.declared.kinds.Port.{Port}
use Rattle.component.specs.declared.kinds.Port.TheVariants.{A, B, C}
use Rattle.component.specs.Kind.{port_of, port_use, is_output, is_input}
use Rattle.component.specs.Row.{kind, port}
use Rattle.wiring.specs.Ends.{end_port, on_side}
use Rattle.wiring.specs.Signals.{is_offer, end_of}
use Rattle.netlist.specs.Netlist.{Netlist, row_of}
use Rattle.netlist.specs.Accepted.{AcceptedFabric}

module _ (f : Netlist) (ends order : List ℕ) (a : AcceptedFabric f ends order) where
  -- ---- the port whose rule gives signal s
  module _ (s : ℕ) (h : s < 2 * f.channels) where
    -- its component
    pub giver : end_of f.table f.components s / 3 < f.components
    giver = omega (arith, a.wires.matched.inside s h)

    abbrev given : ℕ
    given = end_of f.table f.components s

    -- an output for an offer, an input for a take, with the signal's channel
    both : (on_side (is_offer s) (port_use (kind (row_of f (given / 3))) (end_port given)) ≡ true) × (eqb (port (row_of f (given / 3)) (end_port given)) (s / 2) ≡ true)
    both = and_both _ _ (a.wires.matched.is s h)

    pub given-side : on_side (is_offer s) (port_use (kind (row_of f (given / 3))) (end_port given)) ≡ true
    given-side = both.0

    pub given-channel : port (row_of f (given / 3)) (end_port given) ≡ s / 2
    given-channel = eqb-true _ _ both.1

  -- ---- the end of a component's port
  port_number : Port → ℕ
  port_number A = 0
  port_number B = 1
  port_number C = 2

  end-component : (k : ℕ) (p : Port) → (3 * k + port_number p) / 3 ≡ k
  unfolding port_number
  end-component k A = omega arith
  end-component k B = omega arith
  end-component k C = omega arith

  end-port : (k : ℕ) (p : Port) → end_port (3 * k + port_number p) ≡ p
  unfolding port_number port_of
  end-port k A =
      let e : (3 * k + 0) % 3 ≡ 0 = omega arith in
      rw e
  end-port k B =
      let e : (3 * k + 1) % 3 ≡ 1 = omega arith in
      rw e
  end-port k C =
      let e : (3 * k + 2) % 3 ≡ 2 = omega arith in
      rw e

  end_below : (k : ℕ) → k < f.components → (p : Port) → 3 * k + port_number p < 3 * f.components
  unfolding port_number
  end_below k h A = omega arith
  end_below k h B = omega arith
  end_below k h C = omega arith

  module _ (k : ℕ) (h : k < f.components) (p : Port) where
    output-end : is_output (port_use (kind (row_of f k)) p) ≡ true → 3 * k + port_number p ≡ end_of f.table f.components (2 * port (row_of f k) p)
    output-end o =
        let x = port (row_of f k) p in
        let e : 2 * x % 2 ≡ 0 = omega arith in
        let d : 2 * x / 2 ≡ x = omega arith in
        a.wires.matched.only (2 * x) (3 * k + port_number p) (omega (arith, (a.rows k h).ports p)) (end_below k h p)
        (rw (e, d, end-component k p, end-port k p) (both_true o (eq-eqb x x refl)))

    input-end : is_input (port_use (kind (row_of f k)) p) ≡ true → 3 * k + port_number p ≡ end_of f.table f.components (2 * port (row_of f k) p + 1)
    input-end o =
        let x = port (row_of f k) p in
        let e : (2 * x + 1) % 2 ≡ 1 = omega arith in
        let d : (2 * x + 1) / 2 ≡ x = omega arith in
        a.wires.matched.only (2 * x + 1) (3 * k + port_number p) (omega (arith, (a.rows k h).ports p)) (end_below k h p)
        (rw (e, d, end-component k p, end-port k p) (both_true o (eq-eqb x x refl)))

    -- the signal at an output port, and at an input port, is given by that port: what holds there holds at its end
    pub from-output : (P : ℕ → Port → Type 0) → is_output (port_use (kind (row_of f k)) p) ≡ true → P k p
        → P (end_of f.table f.components (2 * port (row_of f k) p) / 3) (end_port (end_of f.table f.components (2 * port (row_of f k) p)))
    from-output P o q = rw (← output-end o, end-component k p, end-port k p) q

    pub from-input : (P : ℕ → Port → Type 0) → is_input (port_use (kind (row_of f k)) p) ≡ true → P k p
        → P (end_of f.table f.components (2 * port (row_of f k) p + 1) / 3) (end_port (end_of f.table f.components (2 * port (row_of f k) p + 1)))
    from-input P o q = rw (← input-end o, end-component k p, end-port k p) q

  -- one component takes from a channel
  pub one-taker : (k : ℕ) → k < f.components → (p : Port) → is_input (port_use (kind (row_of f k)) p) ≡ true → (j : ℕ) → j < f.components → (q : Port) → is_input (port_use (kind (row_of f j)) q) ≡ true
      → port (row_of f k) p ≡ port (row_of f j) q → k ≡ j
  one-taker k h p i j g q o e =
      let l : 3 * k + port_number p ≡ 3 * j + port_number q = input-end k h p i ∙ ap (λ (x : ℕ). end_of f.table f.components (2 * x + 1)) e ∙ sym (input-end j g q o) in
      sym (end-component k p) ∙ ap (λ (x : ℕ). x / 3) l ∙ end-component j q
