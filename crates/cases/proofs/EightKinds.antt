-- The fabric with all eight kinds is accepted, computed from the definitions. Assumes nothing.
use mathlib.Core.Path.{◌≡◌, refl}
use Rattle.digits.specs.Least.{least}
use Rattle.digits.specs.Count.{count}
use Rattle.order.specs.Graph.{any, walks, has_circle}
use Rattle.record.specs.Record.{record_row, record_pad, record_bytes}
use Rattle.record.specs.Table.{open_table, records}
use Rattle.component.specs.Kind.{kind_of, port_of, port_use, uses_first_map, uses_second_map, uses_mask, is_source, is_queue}
use Rattle.component.specs.Row.{row_ok}
use Rattle.wiring.specs.Ends.{first_unmatched}
use Rattle.wiring.specs.Signals.{depends_on, near_of, end_of, dependence}
use Rattle.netlist.specs.Netlist.{sized}
use Rattle.reader.specs.File.{header_fields, first_bad_record}
use Rattle.reader.specs.Reading.{reading}
use Rattle.std.proofs.Common.{Ok}
use Rattle.fabric.specs.PackedFile.{header_bytes, packed_file}
use Rattle.cases.specs.EightKinds.{eight_table, eight_file}

pub eight-reads : reading eight_file ≡ Ok (sized 2 10 9)
unfolding eight_file eight_table packed_file header_bytes header_fields records record_bytes record_row record_pad open_table reading first_bad_record first_unmatched end_of dependence depends_on near_of least count any walks has_circle row_ok kind_of port_of port_use uses_first_map uses_second_map uses_mask is_source is_queue
eight-reads = refl
