use Rattle.std.proofs.Common.{rules}
use Rattle.fabric.proofs.Writing.{judged_refused}
use Rattle.fabric.proofs.pack_answer.Goals as goal

pub returns-in_err-table_verdict : goal.returns-in_err-table_verdict
returns-in_err-table_verdict c = judged_refused _ _ _ _ c.if-table-ne0.false (search rules) c.in_err-table_verdict.ensures (search rules)
