-- The order of a fabric's signals laid out for its steps: a place a signal, so that a step looks nothing up. It describes the code.
use Rattle.std.specs.Prelude.{◌≡◌, List, ℕ, ◌++◌, ◌*◌, ◌/◌, ◌≤◌, length, get_or, drop}
use Rattle.digits.specs.UpTo.{up_to}
use Rattle.component.specs.declared.kinds.Port.TheVariants.{A, B, C}
use Rattle.component.specs.Row.{kind, port}
use Rattle.wiring.specs.Ends.{end_port}
use Rattle.wiring.specs.Signals.{end_of}
use Rattle.netlist.specs.Netlist.{Netlist, row_of}
use Rattle.netlist.specs.Accepted.{AcceptedFabric}
use Rattle.rules.specs.Seen.{named}
use Rattle.plan.specs.declared.Place.{Place}

-- of signal s, given by end e of a component with this row: the name of its rule, its channel, the component, and the channels at the component's ports
abbrev pub place_of : List ℕ → ℕ → ℕ → Place
place_of row s e = record { rule = named (kind row) (end_port e); channel = s / 2; component = e / 3; a = port row A; b = port row B; c = port row C }

-- place i of the plan along an order
unfoldable pub planned : Netlist → List ℕ → ℕ → Place
planned f order i =
    let s : ℕ = get_or order i 0 in
    let e : ℕ = end_of f.table f.components s in
    place_of (row_of f (e / 3)) s e

-- a plan of an accepted fabric, along an order in which each signal stands after all that it depends on
pub record Planned (f : Netlist) (places : List Place) : Type 0 where
  pub ends : List ℕ
  pub order : List ℕ
  pub accepted : AcceptedFabric f ends order
  pub long : 2 * f.channels ≤ length places
  pub laid : places ≡ up_to (2 * f.channels) (planned f order) ++ drop (2 * f.channels) places
