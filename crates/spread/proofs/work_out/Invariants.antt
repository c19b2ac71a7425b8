use Prim.Native.Nat.{ℕ, ◌≤◌, ◌<◌}
use Rattle.netlist.specs.View.{facts_of}
use Rattle.spread.specs.InTurn.{Due, Settled}
use Rattle.spread.proofs.work_out.Given as goal

abbrev pub invariant-loop-k : goal.invariant-loop-k
invariant-loop-k l = (l.k ≤ l.k-end) × Settled (facts_of l.netlist) l.spread.sets l.spread.to_come l.spread.waiting.items

abbrev pub invariant-loop-k-2 : goal.invariant-loop-k-2
invariant-loop-k-2 l = (l.k ≤ l.k-end) × Settled (facts_of l.netlist) l.spread.sets l.spread.to_come l.spread.waiting.items × ((j : ℕ) → j < l.k → Due l.spread.to_come j)
