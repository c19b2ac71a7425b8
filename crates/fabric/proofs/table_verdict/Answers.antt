use Rattle.std.proofs.Common.{rules}
use Rattle.fabric.proofs.Writing.{is_miswired}
use Rattle.fabric.proofs.table_verdict.Goals as goal

pub returns-in_err-wire : goal.returns-in_err-wire
returns-in_err-wire c = is_miswired _ _ _ _ c.first_bad_row.ensures c.in_default.is c.in_err-wire.ensures.answer (search rules)
