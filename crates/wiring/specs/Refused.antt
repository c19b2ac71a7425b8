-- The refusal of what is wrong with the channels: 7 a channel's ends (lowest channel), 8 a circle.
use Rattle.refusals.specs.declared.Refusal.{Refusal}
use Rattle.refusals.specs.declared.Refusal.TheVariants.{ChannelEnds, Circle}
use Rattle.order.specs.declared.Circular as order
use Rattle.wiring.specs.declared.Miswired.{Miswired}
use Rattle.wiring.specs.declared.Miswired.TheVariants.{Unmatched, Circular}

abbrev pub refusal_of : Miswired → Refusal
refusal_of (Unmatched x) = ChannelEnds x
refusal_of Circular = Circle

-- a circle of dependences
abbrev pub miswired_of : order.Circular → Miswired
miswired_of c = Circular
