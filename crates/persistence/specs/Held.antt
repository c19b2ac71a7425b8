-- A merge that holds an input: from start on, that input is offered.
use Rattle.std.specs.Prelude.{◌≡◌, List, ℕ, ◌*◌, ◌<◌, get_or}
use Rattle.component.specs.declared.kinds.Kind.TheVariants.{Merge}
use Rattle.component.specs.declared.kinds.Port.TheVariants.{A, B}
use Rattle.component.specs.Row.{kind, port}
use Rattle.netlist.specs.Netlist.{Netlist, row_of}
use Rattle.cells.specs.Cells.{cell}
use Rattle.signals.specs.Signals.{value}

-- in this state each input that a merge holds (1 A, 2 B) is offered, whatever is chosen
pub record HeldOffered (f : Netlist) (state : List ℕ) : Type 0 where
  pub of_a : (k : ℕ) → k < f.components → kind (row_of f k) ≡ Merge → get_or (cell state k) 0 0 ≡ 1 → (choices : List ℕ) → 0 < value f state choices (2 * port (row_of f k) A)
  pub of_b : (k : ℕ) → k < f.components → kind (row_of f k) ≡ Merge → get_or (cell state k) 0 0 ≡ 2 → (choices : List ℕ) → 0 < value f state choices (2 * port (row_of f k) B)
