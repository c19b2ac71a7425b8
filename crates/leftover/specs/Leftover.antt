-- What is left in a table of sums, one a flow. It describes the code; judgement/proofs/Judged ties it to `is_left`.
use Rattle.std.specs.Prelude.{◌≡◌, Bool, false, not, ◌&&◌, List, ℕ, ◌/◌, ◌%◌, ◌<◌, get_or, ℤ, pos}
use Rattle.integers.specs.Sum.{is_zero}
use Rattle.component.specs.Row.{has_colour}
use Rattle.netlist.specs.Netlist.{Netlist}
use Rattle.reach.specs.Rounds.{reachable}

-- entry v of a table is not 0
abbrev pub not_zero : List ℤ → ℕ → Bool
not_zero s v = not (is_zero (get_or s v (pos 0)))

-- the first n entries are 0
pub record Zeros (s : List ℤ) (n : ℕ) : Type 0 where
  pub zeros : (j : ℕ) → j < n → not_zero s j ≡ false

-- flow v is left inside sets that are lent as bytes
abbrev pub left_in : List ℤ → List ℕ → ℕ → Bool
left_in s sets v = not_zero s v && has_colour (get_or sets (v / 8) 0) (v % 8)

-- no flow below n is
pub record NoneIn (s : List ℤ) (sets : List ℕ) (n : ℕ) : Type 0 where
  pub none : (j : ℕ) → j < n → left_in s sets j ≡ false

-- flow v is left inside the sets
unfoldable pub left_inside : Netlist → List ℤ → ℕ → Bool
left_inside f s v = not_zero s v && reachable f (v / 8) (v % 8)
