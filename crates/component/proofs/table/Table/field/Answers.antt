use Rattle.std.proofs.Common.{sym}
use Rattle.record.proofs.Table.{row_at}
use Rattle.component.proofs.table.Table.field.Goals as goal

pub returns : goal.returns
returns c = sym (row_at c.args.self.now.bytes.now c.args.k c.args.j c.requires.byte)
