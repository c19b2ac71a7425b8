-- All that an accepted fabric gives.
use Rattle.std.specs.Prelude.{◌≡◌, ℕ, ◌*◌, ◌≤◌, ◌<◌, List, length}
use Rattle.record.specs.Sizes.{row_size}
use Rattle.component.specs.Facts.{RowFacts}
use Rattle.component.specs.Limits.{most_channels, most_colours, most_components}
use Rattle.wiring.specs.Sound.{SoundWires}
use Rattle.netlist.specs.Netlist.{Netlist, row_of}

-- of its netlist, with 1 + the end that gives each signal, and an order of the signals in which each stands after all that it depends on
pub record AcceptedFabric (f : Netlist) (ends order : List ℕ) : Type 0 where
  pub some_colours : 0 < f.colours
  pub few_colours : f.colours ≤ most_colours
  pub some_channels : 0 < f.channels
  pub few_channels : f.channels ≤ most_channels
  pub some_rows : 0 < f.components
  pub few_rows : f.components ≤ most_components
  pub long : length f.table ≡ row_size * f.components
  pub rows : (k : ℕ) → k < f.components → RowFacts f.colours f.channels (row_of f k)
  pub wires : SoundWires f.table f.components f.channels ends order

-- of a netlist whose fabric was accepted: there are such ends, and there is such an order
pub record AcceptedNetlist (f : Netlist) : Type 0 where
  pub ends : List ℕ
  pub order : List ℕ
  pub facts : AcceptedFabric f ends order
