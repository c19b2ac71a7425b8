-- Start gives a good state. Assumes nothing.
use mathlib.Core.Path.{◌≡◌, refl}
use mathlib.Core.Bool.{true}
use mathlib.Core.List.{List}
use Prim.Native.Nat.{ℕ, zero, suc, ◌*◌, ◌≤◌, ◌<◌}
use native.Mathlib.Omega.{arith}
use lib.Dec.{leb-zero}
use lib.ListN.{length, get_or, drop, replicate, length-append, length-drop, length-replicate, get_or-replicate}
use borrow.Author.Tests.{le-ltb}
use Rattle.component.specs.declared.kinds.Kind.{Kind}
use Rattle.component.specs.declared.kinds.Kind.TheVariants.{Source, Sink, Queue, Function, Fork, Join, Switch, Merge}
use Rattle.component.specs.Row.{kind, capacity, filling, fill_colour}
use Rattle.netlist.specs.Netlist.{Netlist, row_of}
use Rattle.netlist.specs.Accepted.{AcceptedFabric}
use Rattle.cells.specs.Cells.{cell, cell_with, cell_size}
use Rattle.cells.specs.Good.{good_byte, good_cell, Good}
use Rattle.cells.specs.Start.{start_cell, start_at, started}
use Rattle.cells.proofs.Cells.{cells-long, cells_at, queue-length, cell-queue}
use Rattle.cells.proofs.Good.{all_of, Below, zero-at, queue-good}

module _ (f : Netlist) (ends order : List ℕ) (a : AcceptedFabric f ends order) where
  module _ (k : ℕ) (h : k < f.components) where
    abbrev full : List ℕ
    full = replicate (filling (row_of f k)) (fill_colour (row_of f k))

    fits : kind (row_of f k) ≡ Queue → length full ≤ 63
    fits e = rw length-replicate (omega (arith, (a.rows k h).fillings e, (a.rows k h).capacities e))

    below : Below f.colours full
    below = record { each = λ j l. let m : j < filling (row_of f k) = rw length-replicate at l in rw (get_or-replicate (filling (row_of f k)) j (fill_colour (row_of f k)) 0 m) (a.rows k h).fill_colours }

    zeros-good : (d : Kind) → (j : ℕ) → good_byte d (row_of f k) f.colours 0 j 0 ≡ true
    unfolding good_byte
    zeros-good Source zero = refl
    zeros-good Source (suc j) = refl
    zeros-good Sink zero = refl
    zeros-good Sink (suc j) = refl
    zeros-good Queue zero = leb-zero (capacity (row_of f k))
    zeros-good Queue (suc j) = rw (le-ltb j 0 (omega arith))
    zeros-good Function j = refl
    zeros-good Fork j = refl
    zeros-good Join j = refl
    zeros-good Switch j = refl
    zeros-good Merge zero = refl
    zeros-good Merge (suc j) = refl

    plain : (d : Kind) (j : ℕ) → good_byte d (row_of f k) f.colours (get_or (replicate cell_size 0) 0 0) j (get_or (replicate cell_size 0) j 0) ≡ true
    plain d j = rw (zero-at cell_size j) (zeros-good d j)

    start-good : (d : Kind) → kind (row_of f k) ≡ d → (j : ℕ) → j < cell_size → good_byte d (row_of f k) f.colours (get_or (start_cell d (row_of f k)) 0 0) j (get_or (start_cell d (row_of f k)) j 0) ≡ true
    unfolding start_cell
    start-good Source e j l = plain Source j
    start-good Sink e j l = plain Sink j
    start-good Queue e j l = queue-good (row_of f k) f.colours full (rw length-replicate ((a.rows k h).fillings e)) (fits e) below j l
    start-good Function e j l = plain Function j
    start-good Fork e j l = plain Fork j
    start-good Join e j l = plain Join j
    start-good Switch e j l = plain Switch j
    start-good Merge e j l = plain Merge j

    long-by : (d : Kind) → kind (row_of f k) ≡ d → length (start_cell d (row_of f k)) ≡ cell_size
    unfolding start_cell
    long-by Source e = refl
    long-by Sink e = refl
    long-by Queue e = queue-length (cell_with full) (cell-queue full (fits e))
    long-by Function e = refl
    long-by Fork e = refl
    long-by Join e = refl
    long-by Switch e = refl
    long-by Merge e = refl

    start-long : length (start_at f k) ≡ cell_size
    unfolding start_at
    start-long = long-by (kind (row_of f k)) refl

  pub cell-started : (state : List ℕ) (k : ℕ) → k < f.components → cell (started f state) k ≡ start_cell (kind (row_of f k)) (row_of f k)
  unfolding started start_at
  cell-started state k h = cells_at (start_at f) f.components start-long (drop (cell_size * f.components) state) k h

  pub good_start : (state : List ℕ) → cell_size * f.components ≤ length state → Good f (started f state)
  unfolding started good_cell
  good_start state l = record {
    long = rw (length-append, cells-long (start_at f) f.components start-long, length-drop) (omega arith);
    each = λ k h. rw (cell-started state k h) (all_of cell_size _ (start-good k h (kind (row_of f k)) refl));
  }
