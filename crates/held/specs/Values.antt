-- Signals as numbers. offer(x) is the field's irdy with data: 0 for none, 1 + d for colour d, as in the state, the choices and the
-- moves. take(x) is its trdy: 0 or 1.
use Rattle.std.specs.Prelude.{Bool, true, false, ℕ, zero, suc}
use Rattle.held.specs.declared.Offer.{Offer}
use Rattle.held.specs.declared.Offer.TheVariants.{Nothing, Colour}

-- the number of an offer, the offer of a number, and the number of a flag
abbrev pub offer_number : Offer → ℕ
offer_number Nothing = 0
offer_number (Colour d) = suc d

abbrev pub offer_of : ℕ → Offer
offer_of zero = Nothing
offer_of (suc d) = Colour d

-- whether it is a colour, and the first of two that is
abbrev pub is_colour : Offer → Bool
is_colour Nothing = false
is_colour (Colour d) = true

abbrev pub first_colour : Offer → Offer → Offer
first_colour Nothing b = b
first_colour (Colour d) b = Colour d

abbrev pub bit : Bool → ℕ
bit false = 0
bit true = 1

-- v if g, else 0
abbrev pub when : ℕ → ℕ → ℕ
when zero v = 0
when (suc g) v = v

-- v unless g, else 0
abbrev pub unless : ℕ → ℕ → ℕ
unless zero v = v
unless (suc g) v = 0

-- 1 for a colour, 0 for none
abbrev pub offered : ℕ → ℕ
offered zero = 0
offered (suc d) = 1

-- the first that is not 0
abbrev pub or_else : ℕ → ℕ → ℕ
or_else zero b = b
or_else (suc a) b = suc a

-- a for 0, else b
abbrev pub either : ℕ → ℕ → ℕ → ℕ
either zero a b = a
either (suc g) a b = b
