-- Start writes fillings and nothing held.
use Rattle.std.specs.Prelude.{List, ◌++◌, ℕ, ◌*◌, drop, replicate}
use Rattle.component.specs.declared.kinds.Kind.{Kind}
use Rattle.component.specs.declared.kinds.Kind.TheVariants.{Source, Sink, Queue, Function, Fork, Join, Switch, Merge}
use Rattle.component.specs.Row.{kind, filling, fill_colour}
use Rattle.netlist.specs.Netlist.{Netlist, row_of}
use Rattle.cells.specs.Cells.{cell_with, cells, cell_size}

-- a component's 64 bytes
unfoldable pub start_cell : Kind → List ℕ → List ℕ
start_cell Queue row = cell_with (replicate (filling row) (fill_colour row))
start_cell Source row = replicate cell_size 0
start_cell Sink row = replicate cell_size 0
start_cell Function row = replicate cell_size 0
start_cell Fork row = replicate cell_size 0
start_cell Join row = replicate cell_size 0
start_cell Switch row = replicate cell_size 0
start_cell Merge row = replicate cell_size 0

unfoldable pub start_at : Netlist → ℕ → List ℕ
start_at f k = start_cell (kind (row_of f k)) (row_of f k)

-- the state after start; memory past it keeps its bytes
unfoldable pub started : Netlist → List ℕ → List ℕ
started f state = cells (start_at f) f.components ++ drop (cell_size * f.components) state
