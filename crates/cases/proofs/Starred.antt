-- The table of starred cases, computed from the definitions. Assumes nothing.
use mathlib.Core.Path.{◌≡◌, refl}
use Rattle.digits.specs.Least.{least}
use Rattle.digits.specs.Count.{count}
use Rattle.digits.specs.UpTo.{up_to}
use Rattle.integers.specs.Sum.{sum_to, is_zero}
use Rattle.order.specs.Graph.{any, walks, has_circle}
use Rattle.order.specs.Values.{val}
use Rattle.record.specs.Record.{record_row, record_pad, record_bytes}
use Rattle.record.specs.Table.{open_table, records}
use Rattle.component.specs.Kind.{kind_of, port_of, port_use, uses_first_map, uses_second_map, uses_mask, is_source, is_queue}
use Rattle.component.specs.Row.{row_ok}
use Rattle.wiring.specs.Ends.{first_unmatched}
use Rattle.wiring.specs.Signals.{depends_on, near_of, end_of, dependence}
use Rattle.reader.specs.File.{header_fields, netlist_in, first_bad_row, first_bad_record}
use Rattle.fabric.specs.PackedFile.{header_bytes, packed_file}
use Rattle.fabric.specs.Calls.{packed}
use Rattle.cells.specs.Cells.{queue_colours, cell_with, cells}
use Rattle.cells.specs.Choices.{good_choice, choice_at, bad_choice}
use Rattle.cells.specs.Good.{good_byte, all, good_cell, bad_component}
use Rattle.cells.specs.Start.{start_cell, start_at, started}
use Rattle.rules.specs.Rules.{rule}
use Rattle.signals.specs.Signals.{rule_of, value, moved, moves}
use Rattle.state.specs.Step.{cell_next, next_at, state_next, next}
use Rattle.reach.specs.Rounds.{passed, round, rounds, reachable}
use Rattle.equations.specs.Equations.{side, has_index, has_equation, factor}
use Rattle.flows.specs.Terms.{component_of, index, multiplier}
use Rattle.flows.specs.Flows.{flow_sum, weight, entry, accepted_sum, constant}
use Rattle.flows.specs.Verdict.{bad_term, is_left, is_weight, constant_by, table_by}
use Rattle.stepping.specs.Calls.{start_verdict, state_after_start, step_verdict, state_after_step, moves_after_step}
use Rattle.checking.specs.Check.{check_verdict, check_constant, weights_after_check}
use Rattle.lines.specs.Decimal.{spelled, decimal}
use Rattle.lines.specs.Listing.{weight_line, weight_lines, sum_line, text_by, listing_of, listing}
use Rattle.cases.specs.CreditLoop.{credit_table, credit_file, fork_into_join}
use Rattle.cases.specs.Starred.{answer_to, starred}
use Rattle.cases.specs.Table.{found, expected}

pub all-starred : found answer_to starred ≡ expected starred
unfolding starred credit_table credit_file fork_into_join packed_file header_bytes header_fields records record_bytes record_row record_pad open_table first_bad_row first_bad_record first_unmatched
    end_of dependence depends_on near_of least count any walks has_circle row_ok kind_of port_of port_use uses_first_map uses_second_map uses_mask is_source is_queue packed netlist_in start_verdict
    state_after_start step_verdict state_after_step moves_after_step check_verdict check_constant weights_after_check started cells start_at start_cell cell_with queue_colours good_choice choice_at
    bad_choice good_byte all good_cell bad_component cell_next next_at state_next next moves moved value val rule_of rule sum_to is_zero side has_index has_equation factor component_of index
    multiplier flow_sum weight entry accepted_sum constant bad_term passed round rounds reachable is_left is_weight constant_by up_to table_by spelled decimal weight_line weight_lines sum_line text_by listing_of listing
all-starred = refl
