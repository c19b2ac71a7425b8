use Prim.Native.Nat.{◌≤◌}
use Rattle.netlist.specs.View.{facts_of}
use Rattle.spread.specs.Spread.{Targets}
use Rattle.spread.proofs.find_takers.Given as goal

abbrev pub invariant-loop-k : goal.invariant-loop-k
invariant-loop-k l = (l.k ≤ l.k-end) × Targets (facts_of l.netlist) l.k l.by_channel
