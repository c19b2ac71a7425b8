-- The state after a step, from the signals.
use Rattle.std.specs.Prelude.{List, [], ◌∷◌, ◌++◌, ℕ, zero, suc, ◌+◌, ◌*◌, drop}
use Rattle.component.specs.declared.kinds.Kind.{Kind}
use Rattle.component.specs.declared.kinds.Kind.TheVariants.{Source, Sink, Queue, Function, Fork, Join, Switch, Merge}
use Rattle.component.specs.declared.kinds.Port.{Port}
use Rattle.component.specs.declared.kinds.Port.TheVariants.{A, B, C}
use Rattle.component.specs.Row.{kind, port}
use Rattle.netlist.specs.Netlist.{Netlist, row_of}
use Rattle.netlist.specs.Accepted.{AcceptedFabric}
use Rattle.cells.specs.Good.{Good}
use Rattle.cells.specs.Choices.{Allowed}
use Rattle.cells.specs.Cells.{queue_colours, cell_with, cells, cell_size}
use Rattle.held.specs.Values.{offered, when, unless}
use Rattle.held.specs.Picks.{picks_b}
use Rattle.rules.specs.Rules.{Component, held}
use Rattle.signals.specs.Signals.{component_at, value}

-- A queue drops its front if its output moved, then appends what came in.
abbrev pub dropped : ℕ → List ℕ → List ℕ
dropped zero cs = cs
dropped (suc m) cs = drop 1 cs

abbrev pub appended : ℕ → List ℕ → List ℕ
appended zero cs = cs
appended (suc d) cs = cs ++ (d ∷ [])

-- a component's 64 bytes after a step, where offer_at and take_at are the signals of the channel at each port
unfoldable pub cell_next : Kind → Component → (Port → ℕ) → (Port → ℕ) → List ℕ
cell_next Queue c offer_at take_at = cell_with (appended (when (take_at A) (offer_at A)) (dropped (when (take_at B) (offer_at B)) (queue_colours c.cell)))
-- A source holds its colour if it was offered and not taken.
cell_next Source c offer_at take_at = unless (take_at A) (offer_at A) ∷ drop 1 c.cell
-- A sink holds if it took and nothing was offered.
cell_next Sink c offer_at take_at = unless (offered (offer_at A)) (take_at A) ∷ drop 1 c.cell
-- A merge whose output was offered and not taken keeps its pick (1 A, 2 B, else 0).
cell_next Merge c offer_at take_at = unless (take_at C) (when (offer_at C) (suc (picks_b (held c) c.choice (offer_at A) (offer_at B)))) ∷ drop 1 c.cell
-- All else is 0.
cell_next Function c offer_at take_at = c.cell
cell_next Fork c offer_at take_at = c.cell
cell_next Join c offer_at take_at = c.cell
cell_next Switch c offer_at take_at = c.cell

-- the offer and the take of the channel at a port of a row, where v gives all signals
abbrev pub offer_of : List ℕ → (ℕ → ℕ) → Port → ℕ
offer_of row v p = v (2 * port row p)

abbrev pub take_of : List ℕ → (ℕ → ℕ) → Port → ℕ
take_of row v p = v (2 * port row p + 1)

-- component k after a step with the signals v
unfoldable pub next_at : Netlist → List ℕ → List ℕ → (ℕ → ℕ) → ℕ → List ℕ
next_at f state choices v k = cell_next (kind (row_of f k)) (component_at f state choices k) (offer_of (row_of f k) v) (take_of (row_of f k) v)

-- the state after a step with the signals v; memory past it keeps its bytes
unfoldable pub state_next : Netlist → List ℕ → List ℕ → (ℕ → ℕ) → List ℕ
state_next f state choices v = cells (next_at f state choices v) f.components ++ drop (cell_size * f.components) state

-- All transfers happen together.
unfoldable pub next : Netlist → List ℕ → List ℕ → List ℕ
next f state choices = state_next f state choices (value f state choices)

-- what a step stands on: the reader, the state check and the choice check give it
pub record CanStep (f : Netlist) (ends order state choices : List ℕ) : Type 0 where
  pub accepted : AcceptedFabric f ends order
  pub good : Good f state
  pub allowed : Allowed f choices
