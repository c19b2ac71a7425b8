use Rattle.std.proofs.Common.{◌∙◌, arith}
use lib.ListN.{length-set}
use Rattle.wiring.proofs.Ends.{suc_inj, signals-more}
use Rattle.wiring.proofs.dependences.Goals as goal

pub loop-s-preserved : goal.loop-s-preserved
loop-s-preserved c = let l = c.loop-s in record {
  long = length-set l.deps l.s c.put_entries.new.row ∙ l.invariant.long;
  at = rw c.put_entries.ensures (signals-more c.args.table.now.bytes.now c.args.table.now.rows l.s c.end_before.result l.deps (omega (arith, l.invariant.long)) (suc_inj (c.end_before.ensures ∙ c.requires.ends.at l.s (omega arith))) l.invariant.at);
}
