use Rattle.std.proofs.Common.{◌≡◌, ◌*◌, ◌++◌, drop}
use Rattle.record.specs.Table.{open_table}
use Rattle.record.specs.Sizes.{row_size}
use Rattle.record.proofs.put_rows.Given as goal

abbrev pub invariant-loop-k : goal.invariant-loop-k
invariant-loop-k l = l.table ≡ open_table l.file l.k ++ drop (row_size * l.k) l.initial.table
