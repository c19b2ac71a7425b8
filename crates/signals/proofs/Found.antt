-- One turn of the evaluation along a plan. Assumes nothing.
use mathlib.Core.Path.{◌≡◌, refl, sym, ap, ◌∙◌}
use mathlib.Core.Bool.{Bool, true, false, false≢true}
use mathlib.Core.List.{List, ◌++◌}
use Prim.Native.Nat.{ℕ, ◌+◌, ◌*◌, ◌/◌, ◌≤◌, ◌<◌}
use native.Mathlib.Decide.{ℕ_discrete}
use native.Mathlib.Omega.{arith}
use lib.ListN.{length, get_or, set, take, drop, length-set, length-take}
use Rattle.std.proofs.lemmas.List.{get_or-take}
use lib.Seq.{drop-set-lt}
use Rattle.digits.specs.UpTo.{up_to}
use Rattle.digits.proofs.Bools.{and_both}
use Rattle.digits.proofs.UpTo.{filled_at, filled_is}
use Rattle.component.specs.declared.kinds.Port.TheVariants.{A, B, C}
use Rattle.component.specs.Kind.{Use, input, output, unused, port_use, is_output, is_used}
use Rattle.component.specs.Row.{kind, port}
use Rattle.wiring.specs.Ends.{end_port, on_side}
use Rattle.wiring.specs.Signals.{Near, offer_a, offer_b, take_b, take_c, is_offer, end_of}
use Rattle.netlist.specs.Netlist.{Netlist, row_of}
use Rattle.netlist.specs.Accepted.{AcceptedFabric}
use Rattle.cells.specs.Cells.{cell}
use Rattle.rules.specs.Rules.{rule}
use Rattle.rules.specs.declared.rule.Rule.TheVariants.{SourceOffer}
use Rattle.rules.specs.Seen.{named, rule_named, gives_offer}
use Rattle.rules.proofs.Rules.{reads_only, rule_of_name, offer_of_name}
use Rattle.held.specs.declared.Channel.{Channel}
use Rattle.plan.specs.declared.Place.{Place}
use Rattle.plan.specs.Plan.{planned, Planned}
use Rattle.plan.proofs.Plan.{owner}
use Rattle.signals.specs.declared.OfferOrTake.{OfferOrTake}
use Rattle.signals.specs.Signals.{component_at, near, value, channel_of}
use Rattle.signals.specs.Signals as signals
use Rattle.signals.specs.Channels.{no_channel, offer_in, take_in, signal_in, signal_number, offers, seen_at, signal_at}
use Rattle.signals.proofs.Channels.{offer_at, take_at, channel_is, with_signal, stored, stored_same, stored_other}
use Rattle.signals.proofs.Signals.{value-next}

-- ---- the signals that are found
-- the first i signals of the order have their values; what stands behind the channels is as it was
pub record Found (f : Netlist) (order state choices : List ℕ) (before now : List Channel) (i : ℕ) : Type 0 where
  pub long : length now ≡ length before
  pub found : (j : ℕ) → j < i → signal_in now (get_or order j 0) ≡ value f state choices (get_or order j 0)
  pub rest : drop f.channels now ≡ drop f.channels before

-- along the order of a plan
pub record Finding (f : Netlist) (places : List Place) (state choices : List ℕ) (before now : List Channel) (i : ℕ) : Type 0 where
  pub planned : Planned f places
  pub found : Found f planned.order state choices before now i

-- no signal yet
pub finding_none : {f : Netlist} {places : List Place} {state choices : List ℕ} (before : List Channel) → Planned f places → Finding f places state choices before before 0
finding_none before l = record { planned = l; found = record { long = refl; found = λ j h. absurd (omega arith); rest = refl } }

-- all of them
pub found_all : {f : Netlist} {ends order state choices : List ℕ} {before now : List Channel} {i : ℕ} → AcceptedFabric f ends order → Found f order state choices before now i → 2 * f.channels ≤ i →
    f.channels ≤ length before → now ≡ up_to f.channels (channel_of f state choices) ++ drop f.channels before
unfolding channel_of
found_all {f} {ends} {order} {state} {choices} {before} {now} a o h l =
    filled_is (channel_of f state choices) now no_channel f.channels (omega (arith, o.long)) same ∙ ap (λ (t : List Channel). up_to f.channels (channel_of f state choices) ++ t) o.rest
  where
    is : (s : ℕ) → s < 2 * f.channels → signal_in now s ≡ value f state choices s
    is s b = let q = a.wires.sorted.each s b in rw (← q.2) (o.found q.0 (omega (arith, q.1)))

    same : (x : ℕ) → x < f.channels → get_or now x no_channel ≡ channel_of f state choices x
    same x b = channel_is (get_or now x no_channel) _ _ (sym (offer_at now x) ∙ is (2 * x) (omega arith)) (sym (take_at now x) ∙ is (2 * x + 1) (omega arith))

-- ---- place i of a plan
pub record Stands (f : Netlist) (order : List ℕ) (i : ℕ) (p : Place) : Type 0 where
  pub is : p ≡ planned f order i

-- it stands there in memory
pub stands : {f : Netlist} {places : List Place} (l : Planned f places) (d : Place) (i : ℕ) → i < 2 * f.channels → Stands f l.order i (get_or (take (2 * f.channels) places) i d)
stands {f} {places} l d i h = record {
  is =
      get_or-take (2 * f.channels) places i d h
      ∙ ap (λ (s : List Place). get_or s i d) l.laid ∙ filled_at (planned f l.order) (drop (2 * f.channels) places) d (2 * f.channels) i h;
}

used-side : (side : Bool) (u : Use) → on_side side u ≡ true → (is_used u ≡ true) × (is_output u ≡ side)
used-side true input h = absurd (false≢true h)
used-side true output h = (refl, refl)
used-side true unused h = absurd (false≢true h)
used-side false input h = (refl, refl)
used-side false output h = absurd (false≢true h)
used-side false unused h = absurd (false≢true h)

-- what it says of the signal t at hand, given by end e
module _ {f : Netlist} {order : List ℕ} {i : ℕ} {p : Place} (l : Stands f order i p) where
  abbrev t : ℕ
  t = get_or order i 0

  abbrev e : ℕ
  e = end_of f.table f.components t

  name-is : p.rule ≡ named (kind (row_of f (e / 3))) (end_port e)
  unfolding planned
  name-is = rw l.is

  channel-at : p.channel ≡ t / 2
  unfolding planned
  channel-at = rw l.is

  component-is : p.component ≡ e / 3
  unfolding planned
  component-is = rw l.is

  ports-are : (p.a ≡ port (row_of f (e / 3)) A) × (p.b ≡ port (row_of f (e / 3)) B) × (p.c ≡ port (row_of f (e / 3)) C)
  unfolding planned
  ports-are = rw l.is (refl, refl, refl)

  module _ {ends : List ℕ} (a : AcceptedFabric f ends order) (h : i < 2 * f.channels) where
    below : t < 2 * f.channels
    below = a.wires.sorted.below i h

    given-side : (is_used (port_use (kind (row_of f (e / 3))) (end_port e)) ≡ true) × (is_output (port_use (kind (row_of f (e / 3))) (end_port e)) ≡ is_offer t)
    given-side = used-side (is_offer t) _ (and_both _ _ (a.wires.matched.is t below)).0

    rule-is : rule_named p.rule ≡ rule (kind (row_of f (e / 3))) (end_port e)
    rule-is = ap rule_named name-is ∙ rule_of_name _ _ given-side.0

    side-is : gives_offer p.rule ≡ is_offer t
    side-is = ap gives_offer name-is ∙ offer_of_name _ _ given-side.0 ∙ given-side.1

    pub channel-below : p.channel < f.channels
    channel-below = omega (arith, channel-at, below)

    pub component-below : p.component < f.components
    component-below = rw component-is (owner a t below)

    pub ports-below : (p.a < f.channels) × (p.b < f.channels) × (p.c < f.channels)
    ports-below =
        let r = (a.rows (e / 3) (owner a t below)).ports in
        (rw ports-are.0 (r A), rw ports-are.1 (r B), rw ports-are.2 (r C))

    module _ {state choices : List ℕ} {before now : List Channel} (o : Found f order state choices before now i) (room : f.channels ≤ length before) where
      seen-near : (m : Near) → seen_at now p.a p.b p.c m ≡ near (row_of f (e / 3)) (signal_in now) m
      seen-near offer_a = ap (offer_in now) ports-are.0 ∙ sym (offer_at now _)
      seen-near offer_b = ap (offer_in now) ports-are.1 ∙ sym (offer_at now _)
      seen-near take_b = ap (take_in now) ports-are.1 ∙ sym (take_at now _)
      seen-near take_c = ap (take_in now) ports-are.2 ∙ sym (take_at now _)

      -- the rule gives the signal's value
      pub value-is : signal_at p now f.table (cell state p.component) (get_or choices p.component 0) ≡ value f state choices t
      unfolding signals.rule_of
      value-is =
          rw (rule-is, component-is)
          (reads_only (kind (row_of f (e / 3))) (end_port e) (component_at f state choices (e / 3)) (seen_at now p.a p.b p.c) (near (row_of f (e / 3)) (signal_in now)) (λ m u. seen-near m)
          ∙ value-next f ends order a state choices order a.wires.sorted (signal_in now) i h o.found)

      pub turn : (s : OfferOrTake) → signal_number s ≡ signal_at p now f.table (cell state p.component) (get_or choices p.component 0) → offers s ≡ gives_offer p.rule →
          Found f order state choices before (set now p.channel (with_signal (get_or now p.channel no_channel) s)) (i + 1)
      turn s is side = rw channel-at (record {
        long = simp length-set o.long;
        found = λ j b. choice j b (ℕ_discrete j i);
        rest = drop-set-lt f.channels now (t / 2) _ (omega (arith, below)) ∙ o.rest;
      })
        where
          inside : t / 2 < length now
          inside = omega (arith, below, o.long)

          choice : (j : ℕ) → j < i + 1 → Dec (j ≡ i) → signal_in (stored now s t inside (side ∙ side-is)) (get_or order j 0) ≡ value f state choices (get_or order j 0)
          choice j b (yes q) = rw q (stored_same now s t inside (side ∙ side-is) ∙ is ∙ value-is)
          choice j b (no q) =
              stored_other now s t inside (side ∙ side-is) (get_or order j 0) (λ u. q (a.wires.sorted.once j i (omega arith) h u)) ∙ o.found j (omega arith)

-- ---- the turn at hand
abbrev pub none : Place
none = record { rule = SourceOffer; channel = 0; component = 0; a = 0; b = 0; c = 0 }

module _ {f : Netlist} {places : List Place} {state choices : List ℕ} {before now : List Channel} {i : ℕ} (l : Finding f places state choices before now i) (t : i < length (take (2 * f.channels) places)) where
  h : i < 2 * f.channels
  h = omega (arith, length-take (2 * f.channels) places)

  abbrev pub at_hand : Place
  at_hand = get_or (take (2 * f.channels) places) i none

  pub hand-component : at_hand.component < f.components
  hand-component = component-below (stands l.planned none i h) l.planned.accepted h

  pub hand-channel : at_hand.channel < f.channels
  hand-channel = channel-below (stands l.planned none i h) l.planned.accepted h

  pub hand-ports : (at_hand.a < f.channels) × (at_hand.b < f.channels) × (at_hand.c < f.channels)
  hand-ports = ports-below (stands l.planned none i h) l.planned.accepted h

  pub hand-turn : f.channels ≤ length before → (s : OfferOrTake) → signal_number s ≡ signal_at at_hand now f.table (cell state at_hand.component) (get_or choices at_hand.component 0) → offers s ≡ gives_offer at_hand.rule →
      Finding f places state choices before (set now at_hand.channel (with_signal (get_or now at_hand.channel no_channel) s)) (i + 1)
  hand-turn room s is side = record { planned = l.planned; found = turn (stands l.planned none i h) l.planned.accepted h l.found room s is side }

pub finding_all : {f : Netlist} {places : List Place} {state choices : List ℕ} {before now : List Channel} {i : ℕ} → Finding f places state choices before now i → length (take (2 * f.channels) places) ≤ i →
    f.channels ≤ length before → now ≡ up_to f.channels (channel_of f state choices) ++ drop f.channels before
finding_all {f} {places} l t room = found_all l.planned.accepted l.found (omega (arith, length-take (2 * f.channels) places, l.planned.long)) room
