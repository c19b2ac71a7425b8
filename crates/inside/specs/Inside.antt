-- A state whose colours lie in the sets of their channels.
use Rattle.std.specs.Prelude.{◌≡◌, List, ℕ, suc, ◌<◌, get_or}
use Rattle.component.specs.declared.kinds.Kind.TheVariants.{Source, Queue}
use Rattle.component.specs.declared.kinds.Port.TheVariants.{A, B}
use Rattle.component.specs.Row.{kind, port}
use Rattle.netlist.specs.Netlist.{Netlist, row_of}
use Rattle.reach.specs.Reaches.{Reaches}
use Rattle.cells.specs.Cells.{cell}
use Rattle.cells.specs.Counts.{counts}

pub record Inside (f : Netlist) (state : List ℕ) : Type 0 where
  -- every queue's colours lie in the set of its output channel
  pub queues : (q : ℕ) → q < f.components → kind (row_of f q) ≡ Queue → (d : ℕ) → 0 < counts state q d → Reaches f (port (row_of f q) B) d
  -- and so does every colour that a source holds
  pub sources : (k : ℕ) → k < f.components → kind (row_of f k) ≡ Source → (d : ℕ) → get_or (cell state k) 0 0 ≡ suc d → Reaches f (port (row_of f k) A) d
