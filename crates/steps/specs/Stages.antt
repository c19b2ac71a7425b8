-- What a step along a plan, and steps in a row, stand on. It describes the code.
use Rattle.std.specs.Prelude.{◌≡◌, List, ℕ, ◌%◌, length}
use Rattle.netlist.specs.Netlist.{Netlist}
use Rattle.netlist.specs.Accepted.{AcceptedFabric}
use Rattle.cells.specs.Good.{Good}
use Rattle.cells.specs.Choices.{Allowed, bad_choice}
use Rattle.plan.specs.Plan.{Planned}
use Rattle.plan.specs.declared.Place.{Place}

-- a plan of an accepted fabric, a good state and allowed choices
pub record Along (f : Netlist) (places : List Place) (state choices : List ℕ) : Type 0 where
  pub planned : Planned f places
  pub good : Good f state
  pub allowed : Allowed f choices

-- an accepted fabric, a good state, and whole steps' choices, all allowed
pub record Runs (f : Netlist) (ends order state choices : List ℕ) : Type 0 where
  pub accepted : AcceptedFabric f ends order
  pub good : Good f state
  pub whole : length choices % f.components ≡ 0
  pub allowed : bad_choice f choices ≡ length choices
