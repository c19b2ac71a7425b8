-- Whole steps in a row.
use Rattle.std.specs.Prelude.{List, ℕ, zero, suc, take, drop}
use Rattle.netlist.specs.Netlist.{Netlist}
use Rattle.state.specs.Step.{next}

-- m steps of n choices each, in a row
unfoldable pub after_steps : Netlist → ℕ → List ℕ → List ℕ → List ℕ
after_steps f zero choices state = state
after_steps f (suc m) choices state = after_steps f m (drop f.components choices) (next f state (take f.components choices))
