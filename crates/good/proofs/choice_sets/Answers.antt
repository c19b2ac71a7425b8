use Rattle.std.proofs.Common.{rules, arith}
use Rattle.good.proofs.Sets.{more-sets}
use Rattle.good.proofs.choice_sets.Goals as goal

pub loop-k-preserved : goal.loop-k-preserved
loop-k-preserved c = more-sets c.args.table.now.bytes.now c.loop-k.sets c.loop-k.k c.choice_set.result (omega (arith, c.requires)) (omega arith) (search rules) c.loop-k.invariant
