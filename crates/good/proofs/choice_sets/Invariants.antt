use Rattle.good.specs.Sets.{ChoiceSets}
use Rattle.good.proofs.choice_sets.Given as goal

abbrev pub invariant-loop-k : goal.invariant-loop-k
invariant-loop-k l = ChoiceSets l.table.bytes.now l.k l.sets
