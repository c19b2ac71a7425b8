use Rattle.std.proofs.Common.{ap, ℕ, List, ◌++◌, drop, ◌∙◌}
use Rattle.netlist.specs.View.{facts_of}
use Rattle.reaching.proofs.Reaching.{copied}
use Rattle.reaching.proofs.put_sets.Goals as goal

pub returns : goal.returns
returns c = ap (λ (l : List ℕ). l ++ drop c.args.netlist.now.size.channels c.args.out.now) (c.copy_from_slice.ensures.after ∙ (copied (facts_of c.args.netlist.now) c.work_out-sets.ensures).0)
