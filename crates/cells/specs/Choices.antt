-- Allowed choices.
use Rattle.std.specs.Prelude.{◌≡◌, Bool, true, not, List, ℕ, ◌*◌, ◌%◌, ◌<◌, ltb, eqb, length, get_or, take, drop}
use Rattle.digits.specs.Least.{least}
use Rattle.component.specs.declared.kinds.Kind.{Kind}
use Rattle.component.specs.declared.kinds.Kind.TheVariants.{Source, Sink, Queue, Function, Fork, Join, Switch, Merge}
use Rattle.component.specs.Row.{kind}
use Rattle.netlist.specs.Netlist.{Netlist, row_of}
use Rattle.cells.specs.Good.{emitted}

-- A choice byte: source 0 or 1 + an emitted colour; sink and merge 0 or 1; others 0.
unfoldable pub good_choice : Kind → List ℕ → ℕ → Bool
good_choice Source row b = emitted row b
good_choice Sink row b = ltb b 2
good_choice Queue row b = eqb b 0
good_choice Function row b = eqb b 0
good_choice Fork row b = eqb b 0
good_choice Join row b = eqb b 0
good_choice Switch row b = eqb b 0
good_choice Merge row b = ltb b 2

-- A step has one choice byte a component.
pub record Allowed (f : Netlist) (choices : List ℕ) : Type 0 where
  pub long : length choices ≡ f.components
  pub each : (k : ℕ) → k < f.components → good_choice (kind (row_of f k)) (row_of f k) (get_or choices k 0) ≡ true

-- whole steps' choices in a row: those of step j
abbrev pub step_choices : Netlist → List ℕ → ℕ → List ℕ
step_choices f choices j = take f.components (drop (f.components * j) choices)

-- the one at offset o is component o % N's
unfoldable pub choice_at : Netlist → List ℕ → ℕ → Bool
choice_at f choices o =
    let k : ℕ = o % f.components in
    good_choice (kind (row_of f k)) (row_of f k) (get_or choices o 0)

-- 10 a choice (lowest offset); their number if all are allowed
unfoldable pub bad_choice : Netlist → List ℕ → ℕ
bad_choice f choices = least (λ o. not (choice_at f choices o)) (length choices)
