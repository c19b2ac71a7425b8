-- The channels in memory, and what the code asks for to work them out. It describes the code.
use Rattle.std.specs.Prelude.{◌≡◌, List, Bool, true, false, ℕ, ◌*◌, ◌/◌, ◌≤◌, length, get_or, cond}
use Rattle.record.specs.Table.{row}
use Rattle.wiring.specs.Signals.{Near, is_offer}
use Rattle.netlist.specs.Netlist.{Netlist}
use Rattle.cells.specs.Cells.{cell_size}
use Rattle.held.specs.declared.Offer.TheVariants.{Nothing}
use Rattle.held.specs.declared.Channel.{Channel}
use Rattle.held.specs.Values.{offer_number, bit, when}
use Rattle.rules.specs.Rules.{component_with}
use Rattle.rules.specs.Seen.{seen, rule_named}
use Rattle.plan.specs.declared.Place.{Place}
use Rattle.plan.specs.Plan.{Planned}
use Rattle.signals.specs.declared.OfferOrTake.{OfferOrTake}
use Rattle.signals.specs.declared.OfferOrTake.TheVariants.{Offer, Take}

abbrev pub no_channel : Channel
no_channel = record { offer = Nothing; take = false }

-- the offer and the take of channel x in memory, as numbers
abbrev pub offer_in : List Channel → ℕ → ℕ
offer_in channels x = let c : Channel = get_or channels x no_channel in offer_number c.offer

abbrev pub take_in : List Channel → ℕ → ℕ
take_in channels x = let c : Channel = get_or channels x no_channel in bit c.take

-- signal s
abbrev pub signal_in : List Channel → ℕ → ℕ
signal_in channels s = cond (is_offer s) (offer_in channels (s / 2)) (take_in channels (s / 2))

-- a signal as a number, and whether it is an offer
abbrev pub signal_number : OfferOrTake → ℕ
signal_number (Offer o) = offer_number o
signal_number (Take t) = bit t

abbrev pub offers : OfferOrTake → Bool
offers (Offer o) = true
offers (Take t) = false

-- what a rule sees of the channels at ports A, B and C
abbrev pub seen_at : List Channel → ℕ → ℕ → ℕ → Near → ℕ
seen_at channels a b c = seen (offer_in channels a) (offer_in channels b) (take_in channels b) (take_in channels c)

-- what the rule of a place gives, from the channels, the table, the component's bytes and its choice
abbrev pub signal_at : Place → List Channel → List ℕ → List ℕ → ℕ → ℕ
signal_at place channels table cell choice =
    rule_named place.rule (component_with (row table place.component) cell choice) (seen_at channels place.a place.b place.c)

-- what moves on a channel, and on channel x in memory
abbrev pub moved_of : Channel → ℕ
moved_of c = when (bit c.take) (offer_number c.offer)

abbrev pub moved_in : List Channel → ℕ → ℕ
moved_in channels x = moved_of (get_or channels x no_channel)

-- A plan of an accepted fabric, with its state and choices. plan::lay_out establishes `planned`; `states` and `chosen` hold once a call
-- is not refused by 21 and 9.
pub record Ready (f : Netlist) (places : List Place) (state choices : List ℕ) : Type 0 where
  pub planned : Planned f places
  pub states : cell_size * f.components ≤ length state
  pub chosen : length choices ≡ f.components
