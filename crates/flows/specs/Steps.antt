-- What a step is to the equations. moved x d is 1 if colour d moved on channel x in the step, else 0; n q d counts d in queue q.
use Rattle.std.specs.Prelude.{◌≡◌, true, cond, ℕ, ◌<◌, ℤ, pos, ◌+ℤ◌, ◌-ℤ◌, ◌*ℤ◌}
use Rattle.integers.specs.Sum.{sum_to}
use Rattle.component.specs.Kind.{is_queue}
use Rattle.component.specs.Row.{kind}
use Rattle.netlist.specs.Netlist.{Netlist, row_of}
use Rattle.reach.specs.Reaches.{Reaches}
use Rattle.equations.specs.Equations.{has_equation, factor}

-- by how much the step's transfers change the left side of the equation of component k and index i, but for n
unfoldable pub flow_change : Netlist → ℕ → ℕ → (ℕ → ℕ → ℤ) → ℤ
flow_change f k i moved = sum_to f.channels (λ x. sum_to f.colours (λ d. factor f k i x d *ℤ moved x d))

-- by how much it changes n, where that stands in the equation
unfoldable pub count_change : Netlist → ℕ → ℕ → (ℕ → ℕ → ℕ) → (ℕ → ℕ → ℕ) → ℤ
count_change f k i n n' = cond (is_queue (kind (row_of f k))) (pos (n' k i) -ℤ pos (n k i)) (pos 0)

-- every equation that there is holds after the step if it did before
pub record Holds (f : Netlist) (moved : ℕ → ℕ → ℤ) (n n' : ℕ → ℕ → ℕ) : Type 0 where
  pub holds : (k i : ℕ) → has_equation f k i ≡ true → flow_change f k i moved +ℤ count_change f k i n n' ≡ pos 0

-- every colour that moved in the step is in the set of its channel
pub record MovedInside (f : Netlist) (moved : ℕ → ℕ → ℤ) : Type 0 where
  pub inside : (x d : ℕ) → x < f.channels → d < f.colours → (moved x d ≡ pos 0 → ⊥) → Reaches f x d
