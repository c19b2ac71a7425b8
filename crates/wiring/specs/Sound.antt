-- What holds of the channels of an accepted table.
use Rattle.std.specs.Prelude.{◌≡◌, ℕ, suc, ◌*◌, ◌<◌, true, List, get_or}
use Rattle.order.specs.Graph.{Sorted}
use Rattle.wiring.specs.Signals.{gives, end_of, dependence}

-- ends has 1 + the end that gives each signal: the output of its channel for an offer, the input for a take
pub record Ends (table : List ℕ) (n channels : ℕ) (ends : List ℕ) : Type 0 where
  pub at : (s : ℕ) → s < 2 * channels → get_or ends s 0 ≡ suc (end_of table n s)
  pub inside : (s : ℕ) → s < 2 * channels → end_of table n s < 3 * n
  pub is : (s : ℕ) → s < 2 * channels → gives table s (end_of table n s) ≡ true
  pub only : (s e : ℕ) → s < 2 * channels → e < 3 * n → gives table s e ≡ true → e ≡ end_of table n s

-- of a table whose channels are sound
pub record SoundWires (table : List ℕ) (n channels : ℕ) (ends order : List ℕ) : Type 0 where
  pub matched : Ends table n channels ends
  pub sorted : Sorted (dependence table n) (2 * channels) order
