use mathlib.Core.Path.{◌≡◌}
use mathlib.Core.Logic.{◌⊎◌}
use Prim.Native.Nat.{ℕ, ◌+◌, ◌*◌, ◌-◌}
use lib.ListN.{length}
use Rattle.component.specs.Limits.{most_components}
use Rattle.netlist.specs.View.{facts_of}
use Rattle.spread.specs.Spread.{members}
use Rattle.spread.specs.InTurn.{dues, Due, SpreadingInTurn, AllCovered}
use Rattle.spread.proofs.Spread.start.Given as goal

abbrev pub invariant-loop-j : goal.invariant-loop-j
invariant-loop-j l =
    SpreadingInTurn (facts_of l.takers.netlist) l.self.sets l.self.to_come l.self.waiting.items × AllCovered (facts_of l.takers.netlist) l.self.sets l.self.to_come l.self.waiting.items
    × ((j : ℕ) → (j ≡ l.k) ⊎ Due l.fn.self.to_come j → Due l.self.to_come j)

abbrev pub decreases-loop-j : goal.decreases-loop-j
decreases-loop-j l = length l.self.waiting.items + ((8 * l.takers.netlist.size.channels - members (facts_of l.takers.netlist) l.self.sets) + (most_components - dues l.self.to_come))
