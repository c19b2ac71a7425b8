-- What a row that is right gives.
use Rattle.std.specs.Prelude.{◌≡◌, true, List, ℕ, ◌≤◌, ◌<◌}
use Rattle.component.specs.declared.kinds.Kind.TheVariants.{Source, Queue}
use Rattle.component.specs.declared.kinds.Port.{Port}
use Rattle.component.specs.Row.{kind_number, kind, port, first_map, second_map, masked, capacity, filling, fill_colour}

-- for a fabric of C colours and M channels; unused fields are 0, so below C or M as used ones are
pub record RowFacts (colours channels : ℕ) (row : List ℕ) : Type 0 where
  pub kinds : kind_number row ≤ 7
  pub ports : (p : Port) → port row p < channels
  pub first_maps : (d : ℕ) → d < colours → first_map row d < colours
  pub second_maps : (d : ℕ) → d < colours → second_map row d < colours
  pub masks : (d : ℕ) → d < 8 → masked row d ≡ true → d < colours
  -- a source emits at least one colour
  pub some_mask : kind row ≡ Source → (d : ℕ) × (d < colours) × (masked row d ≡ true)
  pub capacities : kind row ≡ Queue → (0 < capacity row) × (capacity row ≤ 63)
  pub fillings : kind row ≡ Queue → filling row ≤ capacity row
  pub fill_colours : fill_colour row < colours
