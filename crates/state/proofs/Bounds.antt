-- No signal is above the count of colours: an offer is none or 1 + a colour below C, a take is 0 or 1. Assumes nothing.
use mathlib.Core.Path.{◌≡◌, refl}
use mathlib.Core.List.{List}
use Prim.Native.Nat.{ℕ, zero, suc, ◌+◌, ◌*◌, ◌/◌, ◌≤◌, ◌<◌}
use native.Mathlib.Omega.{arith}
use lib.Dec.{ltb, lit<}
use lib.ListN.{get_or}
use Rattle.order.specs.Values.{val}
use Rattle.component.specs.declared.kinds.Kind.{Kind}
use Rattle.component.specs.declared.kinds.Kind.TheVariants.{Source, Sink, Queue, Function, Fork, Join, Switch, Merge}
use Rattle.component.specs.declared.kinds.Port.{Port}
use Rattle.component.specs.declared.kinds.Port.TheVariants.{A, B, C}
use Rattle.component.specs.Row.{kind, first_map, second_map, capacity}
use Rattle.wiring.specs.Ends.{end_port}
use Rattle.wiring.specs.Signals.{Near, offer_a, offer_b, take_b, take_c, end_of}
use Rattle.netlist.specs.Netlist.{Netlist, row_of}
use Rattle.cells.proofs.Choices.{source-choice}
use Rattle.cells.proofs.Good.{emitted-le, source-held, queue-colour}
use Rattle.held.specs.Values.{when}
use Rattle.rules.specs.Rules.{Component, held, rule}
use Rattle.held.proofs.Bounds.{when-le, unless-le, either-le, or_else-le, offered-le, bit_le}
use Rattle.rules.proofs.Bounds.{mapped-le}
use Rattle.plan.specs.declared.Place.{Place}
use Rattle.plan.specs.Plan.{Planned}
use Rattle.signals.specs.Channels.{Ready}
use Rattle.signals.specs.Signals.{component_at, near, rule_of, value, moved}
use Rattle.netlist.proofs.Ends.{giver}
use Rattle.state.specs.Step.{CanStep}

front-le : (n v b : ℕ) → (0 < n → v < b) → when n (suc v) ≤ b
front-le zero v b h = omega arith
front-le (suc n) v b h = h (omega arith)

ruleset bounds = (when-le, unless-le, either-le, or_else-le, offered-le, bit_le, mapped-le)

-- a component whose own colours are below c, and neighbours at most c
module _ (c : ℕ) (one : 1 ≤ c) (o : Component) (v : Near → ℕ) (first : (d : ℕ) → d < c → first_map o.row d < c)
    (second : (d : ℕ) → d < c → second_map o.row d < c) (ha : v offer_a ≤ c) (hb : v offer_b ≤ c) (htb : v take_b ≤ c) (htc : v take_c ≤ c) where
  rule-le : (k : Kind) (p : Port) → (k ≡ Source → (held o ≤ c) × (o.choice ≤ c)) → (k ≡ Queue → 0 < held o → get_or o.cell 1 0 < c) → rule k p o v ≤ c
  unfolding rule
  rule-le Source A h q = or_else-le (held o) o.choice c (h refl).0 (h refl).1
  rule-le Source B h q = omega arith
  rule-le Source C h q = omega arith
  rule-le Sink A h q = search bounds
  rule-le Sink B h q = omega arith
  rule-le Sink C h q = omega arith
  rule-le Queue A h q = bit_le (ltb (held o) (capacity o.row)) c one
  rule-le Queue B h q = front-le (held o) (get_or o.cell 1 0) c (q refl)
  rule-le Queue C h q = omega arith
  rule-le Function A h q = htb
  rule-le Function B h q = search bounds
  rule-le Function C h q = omega arith
  rule-le Fork A h q = search bounds
  rule-le Fork B h q = search bounds
  rule-le Fork C h q = search bounds
  rule-le Join A h q = search bounds
  rule-le Join B h q = search bounds
  rule-le Join C h q = search bounds
  rule-le Switch A h q = search bounds
  rule-le Switch B h q = search bounds
  rule-le Switch C h q = search bounds
  rule-le Merge A h q = search bounds
  rule-le Merge B h q = search bounds
  rule-le Merge C h q = search bounds

module _ (f : Netlist) (ends order state choices : List ℕ) (t : CanStep f ends order state choices) where
  -- a source's held colour and choice, a queue's front
  held-le : (k : ℕ) → k < f.components → kind (row_of f k) ≡ Source → (held (component_at f state choices k) ≤ f.colours) × (get_or choices k 0 ≤ f.colours)
  held-le k h e = (
    emitted-le f ends order t.accepted k h _ (source-held f state t.good k h e),
    emitted-le f ends order t.accepted k h _ (source-choice f choices t.allowed k h e),
  )

  signal-le : (n s : ℕ) → s < 2 * f.channels → val (rule_of f state choices) 0 n s ≤ f.colours
  unfolding val rule_of
  signal-le zero s l = omega arith
  signal-le (suc n) s l =
      let e = end_of f.table f.components s in
      let k = e / 3 in
      let a = t.accepted in
      let h : k < f.components = giver f ends order a s l in
      rule-le f.colours a.some_colours (component_at f state choices k) (near (row_of f k) (val (rule_of f state choices) 0 n)) (a.rows k h).first_maps (a.rows k h).second_maps
      (signal-le n _ (omega (arith, (a.rows k h).ports A))) (signal-le n _ (omega (arith, (a.rows k h).ports B))) (signal-le n _ (omega (arith, (a.rows k h).ports B))) (signal-le n _ (omega (arith, (a.rows k h).ports C)))
      (kind (row_of f k)) (end_port e) (held-le k h) (λ e m. queue-colour f state t.good k h e 0 (lit< tt) m)

  pub value-le : (s : ℕ) → s < 2 * f.channels → value f state choices s ≤ f.colours
  unfolding value
  value-le s l = signal-le (2 * f.channels) s l

  pub moved-le : (x : ℕ) → x < f.channels → moved f state choices x ≤ f.colours
  unfolding moved
  moved-le x l = when-le (value f state choices (2 * x + 1)) (value f state choices (2 * x)) f.colours (value-le (2 * x) (omega arith))

  -- what the signals are worked out from, along any plan
  pub steps-ready : {places : List Place} → Planned f places → Ready f places state choices
  steps-ready p = record {
    planned = p;
    states = t.good.long;
    chosen = t.allowed.long;
  }
