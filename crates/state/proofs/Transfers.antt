-- What a transfer is, seen from the component at either end of its channel. Assumes nothing.
use mathlib.Core.Path.{◌≡◌, ap}
use mathlib.Core.Bool.{true}
use mathlib.Core.List.{List}
use Prim.Native.Nat.{ℕ, ◌+◌, ◌*◌, ◌<◌}
use lib.ListN.{get_or}
use Rattle.component.specs.declared.kinds.Kind.TheVariants.{Source, Sink}
use Rattle.component.specs.declared.kinds.Port.{Port}
use Rattle.component.specs.declared.kinds.Port.TheVariants.{A}
use Rattle.component.specs.Kind.{port_use, is_output, is_input}
use Rattle.component.specs.Row.{kind, port}
use Rattle.netlist.specs.Netlist.{Netlist, row_of}
use Rattle.netlist.specs.Accepted.{AcceptedFabric}
use Rattle.cells.specs.Cells.{cell}
use Rattle.held.specs.Values.{when, offered, or_else}
use Rattle.rules.specs.Rules.{rule}
use Rattle.signals.specs.Signals.{rule_at, value, moved}
use Rattle.signals.proofs.Signals.{value-output, value-input}

module _ (f : Netlist) (ends order : List ℕ) (a : AcceptedFabric f ends order) (state choices : List ℕ) (k : ℕ) (h : k < f.components) where
  -- what a source offers, and whether a sink takes
  pub source-offers : kind (row_of f k) ≡ Source → value f state choices (2 * port (row_of f k) A) ≡ or_else (get_or (cell state k) 0 0) (get_or choices k 0)
  unfolding rule port_use
  source-offers e = rw e at (value-output f ends order a k h A state choices (rw e))

  pub sink-takes : kind (row_of f k) ≡ Sink → value f state choices (2 * port (row_of f k) A + 1) ≡ offered (or_else (get_or (cell state k) 0 0) (get_or choices k 0))
  unfolding rule port_use
  sink-takes e = rw e at (value-input f ends order a k h A state choices (rw e))

  -- out of an output: what the component offers, if the channel is taken
  pub out-moves : (p : Port) → is_output (port_use (kind (row_of f k)) p) ≡ true →
      moved f state choices (port (row_of f k) p) ≡ when (value f state choices (2 * port (row_of f k) p + 1)) (rule_at f state choices k p (value f state choices))
  unfolding moved
  out-moves p o = ap (when (value f state choices (2 * port (row_of f k) p + 1))) (value-output f ends order a k h p state choices o)

  -- into an input: what is offered there, if the component takes it
  pub in-moves : (p : Port) → is_input (port_use (kind (row_of f k)) p) ≡ true →
      moved f state choices (port (row_of f k) p) ≡ when (rule_at f state choices k p (value f state choices)) (value f state choices (2 * port (row_of f k) p))
  unfolding moved
  in-moves p o = ap (λ (g : ℕ). when g (value f state choices (2 * port (row_of f k) p))) (value-input f ends order a k h p state choices o)
