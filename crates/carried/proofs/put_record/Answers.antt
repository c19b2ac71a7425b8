use Rattle.std.proofs.Common.{arith}
use Rattle.carried.proofs.Carried.{record_counted}
use Rattle.carried.proofs.put_record.Goals as goal

pub returns-clause-counted : goal.returns-clause-counted
returns-clause-counted c =
    record_counted c.args.out.now c.args.k c.row.result (omega (arith, c.add_bytes.ensures)) c.requires.2 c.copy_from_slice.ensures.after c.record_bytes-record.ensures (omega arith) (omega arith)
