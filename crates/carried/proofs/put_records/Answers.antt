use Rattle.std.proofs.Common.{arith}
use Rattle.record.proofs.Table.{records_none, records_more}
use Rattle.carried.proofs.put_records.Goals as goal

pub loop-k-init : goal.loop-k-init
loop-k-init c = record { laid = records_none c.args.table.now.bytes.now c.args.out.now; counted = c.requires.1 }

pub loop-k-preserved : goal.loop-k-preserved
loop-k-preserved c =
    let put = c.put_record-so_far.ensures in
    record { laid = records_more c.args.table.now.bytes.now c.args.out.now c.loop-k.k put.laid c.loop-k.invariant.laid (omega arith); counted = put.counted }
