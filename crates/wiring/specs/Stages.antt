-- What the stages of the code come to. It describes the code, and proofs/Sound.antt ties it to the definitions.
use Rattle.std.specs.Prelude.{◌≡◌, ℕ, ◌+◌, ◌*◌, ◌≤◌, ◌<◌, Bool, true, false, cond, List, [], ◌∷◌, length, get_or, ltb, Result, Ok, Err}
use Rattle.order.specs.Graph.{dep, has_circle}
use Rattle.record.specs.Table.{row}
use Rattle.record.specs.Sizes.{row_size}
use Rattle.component.specs.declared.kinds.Port.{Port}
use Rattle.component.specs.declared.kinds.Port.TheVariants.{A, B, C}
use Rattle.component.specs.Row.{kind_number}
use Rattle.component.specs.Limits.{most_components}
use Rattle.wiring.specs.Ends.{is_end, first_unmatched}
use Rattle.wiring.specs.Ports.{found}
use Rattle.wiring.specs.Signals.{depends_at, dependence}
use Rattle.wiring.specs.declared.Miswired.{Miswired}
use Rattle.wiring.specs.declared.Miswired.TheVariants.{Unmatched, Circular}

-- a note for each signal of 256 channels, and one that nobody reads; the code's constant stands in src/lib.rt
abbrev pub ends_size : ℕ
ends_size = 513

-- a table of at most 128 rows with kinds from 0 to 7, as the field test leaves it
pub record Kinds (table : List ℕ) (n : ℕ) : Type 0 where
  pub long : row_size * n ≤ length table
  pub few : n ≤ most_components
  pub kinds : (k : ℕ) → k < n → kind_number (row table k) ≤ 7

-- the channels' ends, then the circle
unfoldable pub wired : List ℕ → ℕ → ℕ → Result Unit Miswired
wired table n channels =
    cond (ltb (first_unmatched table n channels) channels) (Err (Unmatched (first_unmatched table n channels)))
    (cond (has_circle (dependence table n) (2 * channels)) (Err Circular) (Ok tt))

-- the number of offer(x) (true) or take(x) (false)
abbrev pub signal_at : Bool → ℕ → ℕ
signal_at true x = 2 * x
signal_at false x = 2 * x + 1

-- an end is port p of its component
abbrev pub port_number : Port → ℕ
port_number A = 0
port_number B = 1
port_number C = 2

-- what is noted of each channel after the first e ends
pub record FoundEnds (table : List ℕ) (e : ℕ) (ends : List ℕ) : Type 0 where
  pub long : length ends ≡ ends_size
  pub at : (side : Bool) (x : ℕ) → x < 256 → get_or ends (signal_at side x) 0 ≡ found (is_end table side x) e

-- the four entries of the signal that end e gives
abbrev pub entries : List ℕ → ℕ → List ℕ
entries table e = depends_at table e 0 ∷ depends_at table e 1 ∷ depends_at table e 2 ∷ depends_at table e 3 ∷ []

-- a table of the dependences
pub record Dependences (table : List ℕ) (n channels : ℕ) (deps : List (List ℕ)) : Type 0 where
  pub at : (s j : ℕ) → s < 2 * channels → j < 4 → dep deps s j ≡ dependence table n s j
