-- The values of the signals, and what moves, in the channels in memory. Assumes nothing.
use mathlib.Core.Path.{◌≡◌, refl, ap}
use mathlib.Core.Bool.{Bool, true, not}
use mathlib.Core.List.{List, ◌++◌}
use Prim.Native.Nat.{ℕ, zero, suc, ◌+◌, ◌*◌, ◌/◌, ◌%◌, ◌≤◌, ◌<◌}
use native.Mathlib.Omega.{arith}
use lib.ListN.{length, get_or, length-append}
use lib.Dec.{eqb, eqb-suc-zero}
use Rattle.digits.specs.UpTo.{up_to}
use Rattle.digits.proofs.Bools.{and_both}
use Rattle.digits.proofs.UpTo.{length-up_to, up_to-cong, filled_at}
use Rattle.order.specs.Values.{val}
use Rattle.component.specs.declared.kinds.Port.TheVariants.{B, C}
use Rattle.component.specs.Kind.{port_use, is_input}
use Rattle.component.specs.Row.{kind}
use Rattle.wiring.specs.Ends.{end_port, on_side}
use Rattle.wiring.specs.Signals.{is_offer, end_of}
use Rattle.netlist.specs.Netlist.{Netlist, row_of}
use Rattle.netlist.specs.Accepted.{AcceptedFabric}
use Rattle.signals.specs.Signals.{component_at, near, rule_of, value, channel_of, moved, moves}
use Rattle.signals.specs.Channels.{no_channel, offer_in, take_in, moved_in}
use Rattle.held.specs.declared.Channel.{Channel}
use Rattle.held.specs.Values.{when, bit}
use Rattle.held.proofs.Values.{number_of_offer, bit_of_flag}
use Rattle.netlist.proofs.Ends.{giver}
use Rattle.signals.proofs.Takes.{take-le}

-- a take is 0 or 1
module _ (f : Netlist) (ends order : List ℕ) (a : AcceptedFabric f ends order) (state choices : List ℕ) where
  given : (x : ℕ) → x < f.channels → is_input (port_use (kind (row_of f (end_of f.table f.components (2 * x + 1) / 3))) (end_port (end_of f.table f.components (2 * x + 1)))) ≡ true
  given x h =
      let e = end_of f.table f.components (2 * x + 1) in
      let m : (2 * x + 1) % 2 ≡ 1 = omega arith in
      let i : on_side (is_offer (2 * x + 1)) (port_use (kind (row_of f (e / 3))) (end_port e)) ≡ true = (and_both _ _ (a.wires.matched.is (2 * x + 1) (omega arith))).0 in
      rw m at i

  flag-le : (n x : ℕ) → x < f.channels → val (rule_of f state choices) 0 n (2 * x + 1) ≤ 1
  unfolding val rule_of
  flag-le zero x h = omega arith
  flag-le (suc n) x h =
      let e = end_of f.table f.components (2 * x + 1) in
      let p = (a.rows (e / 3) (giver f ends order a (2 * x + 1) (omega arith))).ports in
      take-le (kind (row_of f (e / 3))) (end_port e) (given x h) (component_at f state choices (e / 3)) (near (row_of f (e / 3)) (val (rule_of f state choices) 0 n)) (flag-le n _ (p B)) (flag-le n _ (p C))

  pub take-flag : (x : ℕ) → x < f.channels → value f state choices (2 * x + 1) ≤ 1
  unfolding value
  take-flag x h = flag-le (2 * f.channels) x h

-- a transfer where the flag says so, or where the number does
when_flag : (v o : ℕ) → when (bit (not (eqb v 0))) o ≡ when v o
when_flag zero o = refl
when_flag (suc v) o = ap (λ (b : Bool). when (bit (not b)) o) (eqb-suc-zero v)

module _ (f : Netlist) (state choices : List ℕ) (channels rest : List Channel) (e : channels ≡ up_to f.channels (channel_of f state choices) ++ rest) where
  pub long : f.channels ≤ length channels
  long = rw (e, length-append, length-up_to (channel_of f state choices) f.channels) (omega arith)

  channel-is : (x : ℕ) → x < f.channels → get_or channels x no_channel ≡ channel_of f state choices x
  channel-is x h = rw e (filled_at (channel_of f state choices) rest no_channel f.channels x h)

  pub offer-is : (x : ℕ) → x < f.channels → offer_in channels x ≡ value f state choices (2 * x)
  unfolding channel_of
  offer-is x h = rw (channel-is x h) (number_of_offer _)

  pub take-is : (ends order : List ℕ) → AcceptedFabric f ends order → (x : ℕ) → x < f.channels → take_in channels x ≡ value f state choices (2 * x + 1)
  unfolding channel_of
  take-is ends order a x h = rw (channel-is x h) (bit_of_flag _ (take-flag f ends order a state choices x h))

  pub moved-is : (x : ℕ) → x < f.channels → moved_in channels x ≡ moved f state choices x
  unfolding moved channel_of
  moved-is x h = rw (channel-is x h, number_of_offer (value f state choices (2 * x))) (when_flag (value f state choices (2 * x + 1)) (value f state choices (2 * x)))

  pub moves-are : up_to f.channels (moved_in channels) ≡ moves f state choices
  unfolding moves
  moves-are = up_to-cong f.channels (moved_in channels) (moved f state choices) moved-is
