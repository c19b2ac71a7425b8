-- What is left waiting in a step from a good state stays in the next, whatever the choices then. Assumes nothing.
use mathlib.Core.Path.{◌≡◌}
use mathlib.Core.Bool.{true}
use mathlib.Core.List.{List}
use Prim.Native.Nat.{ℕ, ◌+◌, ◌*◌, ◌<◌}
use native.Mathlib.Omega.{arith}
use lib.ListN.{get_or}
use Rattle.component.specs.declared.kinds.Port.{Port}
use Rattle.component.specs.Kind.{port_use, is_output, is_input}
use Rattle.component.specs.Row.{kind, port}
use Rattle.netlist.specs.Netlist.{Netlist, row_of}
use Rattle.cells.proofs.Good.{queue-whole}
use Rattle.signals.specs.Signals.{component_at, rule_at, value}
use Rattle.signals.proofs.Signals.{OfRead, by-port, value-output, value-input}
use Rattle.state.specs.Step.{next_at, next, CanStep}
use Rattle.state.proofs.Step.{next-cell}
use Rattle.persistence.specs.Persistent.{Stays}
use Rattle.persistence.proofs.Lasts.{Lasts, LastsAt, twin-offer, twin-take}
use Rattle.persistence.proofs.ByKind.{Given, twin_at, twin-output, twin-input, lasts-at}

module _ (f : Netlist) (ends order state choices : List ℕ) (t : CanStep f ends order state choices) (later : List ℕ) where
  -- all signals in the step, and in the next
  abbrev v : ℕ → ℕ
  v = value f state choices

  abbrev w : ℕ → ℕ
  w = value f (next f state choices) later

  module _ (k : ℕ) (h : k < f.components) where
    abbrev row : List ℕ
    row = row_of f k

    -- the rules hold in either step
    given : (now chosen : List ℕ) → Given (kind row) (component_at f now chosen k) (value f now chosen)
    given now chosen = record {
      offers = λ p. value-output f ends order t.accepted k h p now chosen;
      takes = λ p. value-input f ends order t.accepted k h p now chosen;
    }

    -- the signal at a port, by its rule in the step and in the next
    lasts : (p : Port) → OfRead f (LastsAt v w) k p → Lasts (twin_at v (port_use (kind row) p) (port row p)) (rule_at f state choices k p v) (rule_at f (next f state choices) later k p w)
    unfolding next_at
    lasts p r =
        rw (next-cell f ends order state choices t k h)
        (lasts-at (component_at f state choices k) (get_or later k 0) v w (kind row) (given state choices) (queue-whole f ends order t.accepted state t.good k h) p r)

    offer-lasts : (p : Port) → is_output (port_use (kind row) p) ≡ true → OfRead f (LastsAt v w) k p → LastsAt v w (2 * port row p)
    offer-lasts p o r =
        rw (twin-offer (port row p), (given state choices).offers p o, (given (next f state choices) later).offers p o)
        (rw (twin-output v (port_use (kind row) p) (port row p) o) at (lasts p r))

    take-lasts : (p : Port) → is_input (port_use (kind row) p) ≡ true → OfRead f (LastsAt v w) k p → LastsAt v w (2 * port row p + 1)
    take-lasts p i r =
        rw (twin-take (port row p), (given state choices).takes p i, (given (next f state choices) later).takes p i)
        (rw (twin-input v (port_use (kind row) p) (port row p) i) at (lasts p r))

  -- along the order of the signals
  lasts-all : (s : ℕ) → s < 2 * f.channels → LastsAt v w s
  lasts-all = by-port f ends order t.accepted (LastsAt v w) offer-lasts take-lasts

  pub persists : (x : ℕ) → x < f.channels → Stays (value f state choices) (value f (next f state choices) later) x
  persists x h = record {
    offer = (rw (twin-offer x) at (lasts-all (2 * x) (omega arith))).same;
    take = (rw (twin-take x) at (lasts-all (2 * x + 1) (omega arith))).same;
  }
