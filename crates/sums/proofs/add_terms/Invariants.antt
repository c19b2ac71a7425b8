use Rattle.netlist.specs.View.{facts_of}
use Rattle.sums.specs.Sums.{Added}
use Rattle.sums.proofs.add_terms.Given as goal

abbrev pub invariant-loop-k : goal.invariant-loop-k
invariant-loop-k l = Added (facts_of l.netlist) l.proposal l.k l.sums l.weights
