-- Colour sets that are lent as bytes. It describes what the code hands on.
use Rattle.std.specs.Prelude.{◌≡◌, List, ℕ, ◌≤◌, ◌<◌, length, get_or}
use Rattle.netlist.specs.Netlist.{Netlist}
use Rattle.reach.specs.Rounds.{set_byte}

-- lent bytes that hold the sets, a mask byte a channel
pub record SetBytes (f : Netlist) (sets : List ℕ) : Type 0 where
  pub long : f.channels ≤ length sets
  pub at : (x : ℕ) → x < f.channels → get_or sets x 0 ≡ set_byte f x
