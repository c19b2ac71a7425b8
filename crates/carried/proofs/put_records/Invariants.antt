use Rattle.std.proofs.Common.{◌≡◌, ◌++◌, take, drop}
use Rattle.record.specs.Table.{records}
use Rattle.record.specs.Sizes.{header_size, file_size}
use Rattle.carried.specs.Carried.{carried_sum}
use Rattle.carried.proofs.put_records.Given as goal

abbrev pub invariant-loop-k : goal.invariant-loop-k
invariant-loop-k l = record {
  laid : l.out ≡ take header_size l.initial.out ++ records l.table.bytes.now l.k ++ drop (file_size l.k) l.initial.out;
  counted : l.so_far ≡ carried_sum l.out l.k;
}
