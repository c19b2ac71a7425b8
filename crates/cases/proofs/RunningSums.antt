-- Every sum and every file of the table comes out of the definitions as expected. Assumes nothing.
use mathlib.Core.Path.{◌≡◌, refl}
use Rattle.digits.specs.Least.{least}
use Rattle.digits.specs.Count.{count}
use Rattle.digits.specs.UpTo.{up_to}
use Rattle.order.specs.Graph.{any, walks, has_circle}
use Rattle.record.specs.Record.{record_bytes}
use Rattle.record.specs.Table.{records}
use Rattle.carried.specs.Carried.{carried_sum}
use Rattle.component.specs.Kind.{kind_of, port_of, port_use, uses_first_map, uses_second_map, uses_mask, is_source, is_queue}
use Rattle.component.specs.Row.{row_ok}
use Rattle.wiring.specs.Ends.{first_unmatched}
use Rattle.wiring.specs.Signals.{depends_on, near_of, end_of, dependence}
use Rattle.reader.specs.File.{first_bad_row}
use Rattle.fabric.specs.PackedFile.{header_bytes, packed_file}
use Rattle.fabric.specs.Calls.{packed, packed_into}
use Rattle.cases.specs.CreditLoop.{credit_table, credit_file}
use Rattle.cases.specs.RunningSums.{filled_table, filled_file, answer_to, running}
use Rattle.cases.specs.Table.{found, expected}

pub all-running : found answer_to running ≡ expected running
unfolding running filled_table filled_file credit_table credit_file packed_file header_bytes records record_bytes carried_sum packed packed_into first_bad_row first_unmatched end_of dependence depends_on near_of least count any walks has_circle row_ok kind_of port_of port_use uses_first_map uses_second_map uses_mask is_source is_queue up_to
all-running = refl
