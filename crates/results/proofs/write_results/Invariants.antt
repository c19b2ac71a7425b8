use lib.ListN.{length}
use Rattle.netlist.specs.View.{facts_of}
use Rattle.result.specs.Result.{result_size, block_result}
use Rattle.results.proofs.Written.{Written}
use Rattle.results.proofs.write_results.Given as goal

abbrev pub invariant-loop-block : goal.invariant-loop-block
invariant-loop-block g l = Written g.E.Entry.WIDTH g.E.Entry.memory (block_result (facts_of l.netlist)) (result_size (facts_of l.netlist)) l.file l.initial.out l.rest l.out l.to

abbrev pub decreases-loop-block : goal.decreases-loop-block
decreases-loop-block g l = length l.rest
