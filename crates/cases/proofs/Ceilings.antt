-- Every ceiling of the table comes out of the definitions as expected. Assumes nothing.
use mathlib.Core.Path.{◌≡◌, refl}
use Rattle.digits.specs.Least.{least}
use Rattle.digits.specs.Count.{count}
use Rattle.integers.specs.Sum.{sum_to, is_zero}
use Rattle.integers.specs.Total.{total}
use Rattle.order.specs.Graph.{any, walks, has_circle}
use Rattle.record.specs.Record.{record_row, record_pad, record_bytes}
use Rattle.record.specs.Table.{open_table, records}
use Rattle.component.specs.Kind.{kind_of, port_of, port_use, uses_first_map, uses_second_map, uses_mask, is_source, is_queue}
use Rattle.component.specs.Row.{row_ok}
use Rattle.wiring.specs.Ends.{first_unmatched}
use Rattle.wiring.specs.Signals.{depends_on, near_of, end_of, dependence}
use Rattle.reader.specs.File.{header_fields, netlist_in, first_bad_row, first_bad_record}
use Rattle.fabric.specs.PackedFile.{header_bytes, packed_file}
use Rattle.reach.specs.Rounds.{passed, round, rounds, reachable}
use Rattle.equations.specs.Equations.{side, has_index, has_equation, factor}
use Rattle.flows.specs.Terms.{component_of, index, multiplier}
use Rattle.flows.specs.Flows.{flow_sum, weight, entry, accepted_sum, constant}
use Rattle.flows.specs.Verdict.{bad_term, is_left, is_weight}
use Rattle.cases.specs.CreditLoop.{credit_table, credit_file}
use Rattle.headroom.specs.Headroom.{owed_of, headroom}
use Rattle.ceiling.specs.Ceiling.{ceiling, no_place, not_above, ceiling_verdict, ceiling_by, ceiling_value}
use Rattle.cases.specs.EightKinds.{eight_table, eight_file}
use Rattle.cases.specs.ColourSets.{through_file}
use Rattle.cases.specs.Ceilings.{answer_to, two_loops, two_file, ceilings}
use Rattle.cases.specs.Table.{found, expected}

pub all-ceilings : found answer_to ceilings ≡ expected ceilings
unfolding ceilings credit_table credit_file eight_table eight_file two_loops two_file through_file packed_file header_bytes header_fields records record_bytes record_row record_pad open_table first_bad_row first_bad_record
    first_unmatched end_of dependence depends_on near_of least count any walks has_circle row_ok kind_of port_of port_use uses_first_map uses_second_map uses_mask is_source is_queue netlist_in sum_to total is_zero side
    has_index has_equation factor component_of index multiplier flow_sum weight entry accepted_sum constant bad_term passed round rounds reachable is_left is_weight owed_of headroom ceiling no_place not_above ceiling_verdict ceiling_by ceiling_value
all-ceilings = refl
