-- What the code asks for holds of every accepted fabric. Assumes nothing.
use mathlib.Core.List.{List}
use Prim.Native.Nat.{ℕ, ◌*◌, ◌≤◌}
use native.Mathlib.Omega.{arith}
use lib.ListN.{length}
use Rattle.netlist.specs.Netlist.{Netlist}
use Rattle.netlist.specs.Accepted.{AcceptedFabric}
use Rattle.cells.specs.Cells.{cell_size}
use Rattle.start.specs.Startable.{Startable}

pub startable : (f : Netlist) (ends order : List ℕ) → AcceptedFabric f ends order → (state : List ℕ) → cell_size * f.components ≤ length state → Startable f.table f.components state
startable f ends order a state l = record {
  states = l;
  fillings = λ k h e. omega (arith, (a.rows k h).fillings e, (a.rows k h).capacities e);
}
