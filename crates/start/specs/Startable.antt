-- What the code asks for to write the state at start. It holds of every accepted fabric.
use Rattle.std.specs.Prelude.{◌≡◌, List, ℕ, ◌*◌, ◌≤◌, ◌<◌, length}
use Rattle.record.specs.Table.{row}
use Rattle.component.specs.declared.kinds.Kind.TheVariants.{Queue}
use Rattle.component.specs.Row.{kind, filling}
use Rattle.cells.specs.Cells.{cell_size}

pub record Startable (table : List ℕ) (n : ℕ) (state : List ℕ) : Type 0 where
  pub states : cell_size * n ≤ length state
  pub fillings : (k : ℕ) → k < n → kind (row table k) ≡ Queue → filling (row table k) ≤ 63
