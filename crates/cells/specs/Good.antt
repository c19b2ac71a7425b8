-- Good states.
use Rattle.std.specs.Prelude.{◌≡◌, Bool, true, not, cond, ◌&&◌, List, ℕ, zero, suc, ◌*◌, ◌≤◌, ◌<◌, ltb, leb, eqb, length, get_or}
use Rattle.digits.specs.Least.{least}
use Rattle.component.specs.declared.kinds.Kind.{Kind}
use Rattle.component.specs.declared.kinds.Kind.TheVariants.{Source, Sink, Queue, Function, Fork, Join, Switch, Merge}
use Rattle.component.specs.Row.{kind, masked, capacity}
use Rattle.netlist.specs.Netlist.{Netlist, row_of}
use Rattle.cells.specs.Cells.{cell, cell_size}

-- 0, or 1 + an emitted colour
abbrev pub emitted : List ℕ → ℕ → Bool
emitted row zero = true
emitted row (suc d) = ltb d 8 && masked row d

-- byte j of a component, where n is its byte 0 and there are c colours
unfoldable pub good_byte : Kind → List ℕ → ℕ → ℕ → ℕ → ℕ → Bool
-- Queue: byte 0 count, then colours front first. Counts are at most capacity, colours below C.
good_byte Queue row c n zero b = leb b (capacity row)
good_byte Queue row c n (suc j) b = cond (ltb j n) (ltb b c) (eqb b 0)
-- Source: byte 0 is 0, or 1 + colour while held; held colours emitted.
good_byte Source row c n zero b = emitted row b
good_byte Source row c n (suc j) b = eqb b 0
-- Sink: byte 0 is 1 while held.
good_byte Sink row c n zero b = ltb b 2
good_byte Sink row c n (suc j) b = eqb b 0
-- Merge: byte 0 is 1 for A, 2 for B while its pick is held.
good_byte Merge row c n zero b = ltb b 3
good_byte Merge row c n (suc j) b = eqb b 0
-- All else is 0.
good_byte Function row c n j b = eqb b 0
good_byte Fork row c n j b = eqb b 0
good_byte Join row c n j b = eqb b 0
good_byte Switch row c n j b = eqb b 0

-- every number below n passes
unfoldable pub all : ℕ → (ℕ → Bool) → Bool
all zero p = true
all (suc n) p = all n p && p n

-- a component's 64 bytes
unfoldable pub good_cell : ℕ → List ℕ → List ℕ → Bool
good_cell c row s = all cell_size (λ j. good_byte (kind row) row c (get_or s 0 0) j (get_or s j 0))

-- A state is good if all this holds.
pub record Good (f : Netlist) (state : List ℕ) : Type 0 where
  pub long : cell_size * f.components ≤ length state
  pub each : (k : ℕ) → k < f.components → good_cell f.colours (row_of f k) (cell state k) ≡ true

-- 22 state not good (lowest component); N if it is good
unfoldable pub bad_component : Netlist → List ℕ → ℕ
bad_component f state = least (λ k. not (good_cell f.colours (row_of f k) (cell state k))) f.components
