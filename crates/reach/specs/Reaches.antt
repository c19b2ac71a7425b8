-- Colours that can reach a channel: for each channel the smallest colour sets closed under the sentences below.
use Rattle.std.specs.Prelude.{◌≡◌, true, false, ℕ, ◌<◌}
use Rattle.component.specs.declared.kinds.Kind.TheVariants.{Source, Queue, Function, Fork, Join, Switch, Merge}
use Rattle.component.specs.declared.kinds.Port.TheVariants.{A, B, C}
use Rattle.component.specs.Row.{kind, port, first_map, second_map, masked, filling, fill_colour}
use Rattle.netlist.specs.Netlist.{Netlist, row_of}

-- colour d is in the set of channel x
pub data Reaches (f : Netlist) : ℕ → ℕ → Type 0 where
  -- a source's mask
  by_source : (k d : ℕ) → k < f.components → kind (row_of f k) ≡ Source → d < f.colours → masked (row_of f k) d ≡ true → Reaches f (port (row_of f k) A) d
  -- queue input
  by_queue : (k d : ℕ) → k < f.components → kind (row_of f k) ≡ Queue → Reaches f (port (row_of f k) A) d → Reaches f (port (row_of f k) B) d
  -- plus the fill colour if the filling is above 0
  by_filling : (k : ℕ) → k < f.components → kind (row_of f k) ≡ Queue → 0 < filling (row_of f k) → Reaches f (port (row_of f k) B) (fill_colour (row_of f k))
  -- function and fork maps
  by_function : (k d : ℕ) → k < f.components → kind (row_of f k) ≡ Function → Reaches f (port (row_of f k) A) d → Reaches f (port (row_of f k) B) (first_map (row_of f k) d)
  by_fork_b : (k d : ℕ) → k < f.components → kind (row_of f k) ≡ Fork → Reaches f (port (row_of f k) A) d → Reaches f (port (row_of f k) B) (first_map (row_of f k) d)
  by_fork_c : (k d : ℕ) → k < f.components → kind (row_of f k) ≡ Fork → Reaches f (port (row_of f k) A) d → Reaches f (port (row_of f k) C) (second_map (row_of f k) d)
  -- join maps of A if B's set has a member
  by_join : (k d e : ℕ) → k < f.components → kind (row_of f k) ≡ Join → Reaches f (port (row_of f k) A) d → Reaches f (port (row_of f k) B) e → Reaches f (port (row_of f k) C) (first_map (row_of f k) d)
  -- switch masks
  by_switch_b : (k d : ℕ) → k < f.components → kind (row_of f k) ≡ Switch → Reaches f (port (row_of f k) A) d → masked (row_of f k) d ≡ true → Reaches f (port (row_of f k) B) d
  by_switch_c : (k d : ℕ) → k < f.components → kind (row_of f k) ≡ Switch → Reaches f (port (row_of f k) A) d → masked (row_of f k) d ≡ false → Reaches f (port (row_of f k) C) d
  -- the union at a merge
  by_merge_a : (k d : ℕ) → k < f.components → kind (row_of f k) ≡ Merge → Reaches f (port (row_of f k) A) d → Reaches f (port (row_of f k) C) d
  by_merge_b : (k d : ℕ) → k < f.components → kind (row_of f k) ≡ Merge → Reaches f (port (row_of f k) B) d → Reaches f (port (row_of f k) C) d
