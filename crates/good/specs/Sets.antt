-- How the code has the choices of a component: a set of the bytes 0 to 8, where bit 8 - b says whether b is in it.
use Rattle.std.specs.Prelude.{◌≡◌, Bool, ◌&&◌, List, ℕ, ◌+◌, ◌-◌, ◌/◌, ◌%◌, ◌^◌, ◌<◌, ltb, eqb, length, get_or}
use Rattle.record.specs.Table.{row}
use Rattle.component.specs.declared.kinds.Kind.{Kind}
use Rattle.component.specs.declared.kinds.Kind.TheVariants.{Source, Sink, Queue, Function, Fork, Join, Switch, Merge}
use Rattle.component.specs.Row.{kind}
use Rattle.component.specs.Limits.{most_components}
use Rattle.cells.specs.Choices.{good_choice}

-- (24 - b % 16) % 16 is 8 - b
unfoldable pub in_set : ℕ → ℕ → Bool
in_set set b = ltb b 9 && eqb (set / 2 ^ ((24 - b % 16) % 16) % 2) 1

unfoldable pub choice_set : Kind → ℕ → ℕ
choice_set Source mask = 256 + mask
choice_set Sink mask = 384
choice_set Queue mask = 256
choice_set Function mask = 256
choice_set Fork mask = 256
choice_set Join mask = 256
choice_set Switch mask = 256
choice_set Merge mask = 384

-- the sets of the first n components
pub record ChoiceSets (table : List ℕ) (n : ℕ) (sets : List ℕ) : Type 0 where
  pub long : length sets ≡ most_components
  pub at : (k b : ℕ) → k < n → in_set (get_or sets k 0) b ≡ good_choice (kind (row table k)) (row table k) b
