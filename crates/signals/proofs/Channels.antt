-- Signals in memory, as the channels there hold them. Assumes nothing.
use mathlib.Core.Path.{◌≡◌, refl, sym}
use mathlib.Core.Bool.{Bool, true, false, not}
use mathlib.Core.List.{List}
use Prim.Native.Nat.{ℕ, zero, suc, ◌+◌, ◌*◌, ◌/◌, ◌%◌, ◌≤◌, ◌<◌}
use native.Mathlib.Decide.{ℕ_discrete}
use native.Mathlib.Omega.{arith}
use lib.Dec.{eqb}
use lib.ListN.{length, get_or, set}
use lib.Seq.{get_or-set_same, get_or-set_other}
use borrow.Author.Tests.{eqb-true, eqb-false}
use Rattle.wiring.specs.Signals.{is_offer}
use Rattle.held.specs.declared.Channel.{Channel}
use Rattle.held.specs.Values.{offer_number, offer_of, bit, when}
use Rattle.held.proofs.Values.{offer_of_number, flag_of_bit}
use Rattle.signals.specs.declared.OfferOrTake.{OfferOrTake}
use Rattle.signals.specs.declared.OfferOrTake.TheVariants.{Offer, Take}
use Rattle.signals.specs.Channels.{no_channel, offer_in, take_in, signal_in, signal_number, offers}

-- what moves, by a product: the offer if taken
pub times-flag : (o t : ℕ) → t ≤ 1 → o * t ≡ when t o
times-flag o zero h = omega arith
times-flag o (suc zero) h = omega arith
times-flag o (suc (suc t)) h = absurd (omega arith)

-- the two signals of channel x
pub offer_at : (channels : List Channel) (x : ℕ) → signal_in channels (2 * x) ≡ offer_in channels x
offer_at channels x =
    let m : (2 * x) % 2 ≡ 0 = omega arith in
    let d : 2 * x / 2 ≡ x = omega arith in
    rw (m, d)

pub take_at : (channels : List Channel) (x : ℕ) → signal_in channels (2 * x + 1) ≡ take_in channels x
take_at channels x =
    let m : (2 * x + 1) % 2 ≡ 1 = omega arith in
    let d : (2 * x + 1) / 2 ≡ x = omega arith in
    rw (m, d)

-- a channel is known from their numbers
pub channel_is : (c : Channel) (o t : ℕ) → offer_number c.offer ≡ o → bit c.take ≡ t → c ≡ record { offer = offer_of o; take = not (eqb t 0) }
channel_is c o t p q = rw (← p, ← q, offer_of_number, flag_of_bit)

-- a channel with one of its signals written anew
abbrev pub with_signal : Channel → OfferOrTake → Channel
with_signal c (Offer o) = record { offer = o; take = c.take }
with_signal c (Take t) = record { offer = c.offer; take = t }

-- signal t written anew in memory
module _ (now : List Channel) (s : OfferOrTake) (t : ℕ) (h : t / 2 < length now) (side : offers s ≡ is_offer t) where
  abbrev pub stored : List Channel
  stored = set now (t / 2) (with_signal (get_or now (t / 2) no_channel) s)

  pub stored_same : signal_in stored t ≡ signal_number s
  stored_same = same s side
    where
      same : (s : OfferOrTake) → offers s ≡ is_offer t → signal_in (set now (t / 2) (with_signal (get_or now (t / 2) no_channel) s)) t ≡ signal_number s
      same (Offer o) e = rw (← e, get_or-set_same now (t / 2) _ no_channel h)
      same (Take b) e = rw (← e, get_or-set_same now (t / 2) _ no_channel h)

  pub stored_other : (u : ℕ) → (u ≡ t → ⊥) → signal_in stored u ≡ signal_in now u
  stored_other u apart = other (ℕ_discrete (u / 2) (t / 2))
    where
      other : Dec (u / 2 ≡ t / 2) → signal_in stored u ≡ signal_in now u
      other (no q) = rw (get_or-set_other now (t / 2) (u / 2) _ no_channel q)
      other (yes q) = halves s side (is_offer u) refl
        where
          halves : (s : OfferOrTake) → offers s ≡ is_offer t → (b : Bool) → is_offer u ≡ b → signal_in (set now (t / 2) (with_signal (get_or now (t / 2) no_channel) s)) u ≡ signal_in now u
          halves (Offer o) e true p = absurd (apart (omega (arith, q, eqb-true (u % 2) 0 p, eqb-true (t % 2) 0 (sym e))))
          halves (Offer o) e false p = rw (p, q, get_or-set_same now (t / 2) _ no_channel h)
          halves (Take b) e true p = rw (p, q, get_or-set_same now (t / 2) _ no_channel h)
          halves (Take b) e false p = absurd (apart (omega (arith, q, eqb-false (u % 2) 0 p, eqb-false (t % 2) 0 (sym e))))
