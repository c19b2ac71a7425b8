-- Every file of blocks of the table comes out of the definitions as expected. Assumes nothing.
use mathlib.Core.Path.{◌≡◌, refl}
use Rattle.digits.specs.Least.{least}
use Rattle.digits.specs.Count.{count}
use Rattle.digits.specs.UpTo.{up_to}
use Rattle.integers.specs.Sum.{sum_to, is_zero}
use Rattle.order.specs.Graph.{any, walks, has_circle}
use Rattle.record.specs.Record.{record_row, record_pad, record_bytes}
use Rattle.record.specs.Table.{open_table, records}
use Rattle.component.specs.Kind.{kind_of, port_of, port_use, uses_first_map, uses_second_map, uses_mask, is_source, is_queue}
use Rattle.component.specs.Row.{row_ok}
use Rattle.wiring.specs.Ends.{first_unmatched}
use Rattle.wiring.specs.Signals.{depends_on, near_of, end_of, dependence}
use Rattle.reader.specs.File.{header_fields, netlist_in, first_bad_row, first_bad_record}
use Rattle.fabric.specs.PackedFile.{header_bytes, packed_file}
use Rattle.reach.specs.Rounds.{passed, round, rounds, reachable}
use Rattle.equations.specs.Equations.{side, has_index, has_equation, factor}
use Rattle.flows.specs.Terms.{component_of, index, multiplier}
use Rattle.flows.specs.Flows.{flow_sum, weight, entry, accepted_sum, constant}
use Rattle.flows.specs.Verdict.{bad_term, is_left, is_weight, judged, constant_by}
use Rattle.cases.specs.CreditLoop.{credit_table, credit_file}
use Rattle.blocks.specs.Blocks.{term_count, block_start, block, blocks, overlong, bad_blocks, each_block}
use Rattle.result.specs.Result.{result_size, entry_by, block_result, result_bytes, over}
use Rattle.many.specs.Many.{many_verdict, over_by, table_after_many, bytes_after_many}
use Rattle.cases.specs.ManyBlocks.{answer_to, many_blocks}
use Rattle.cases.specs.Table.{found, expected}

pub all-many-blocks : found answer_to many_blocks ≡ expected many_blocks
unfolding many_blocks credit_table credit_file packed_file header_bytes header_fields records record_bytes record_row record_pad open_table first_bad_row first_bad_record first_unmatched end_of dependence depends_on
    near_of least count any walks has_circle row_ok kind_of port_of port_use uses_first_map uses_second_map uses_mask is_source is_queue netlist_in sum_to is_zero side has_index has_equation factor component_of index
    multiplier flow_sum weight entry accepted_sum constant bad_term passed round rounds reachable is_left is_weight judged constant_by up_to term_count block_start block blocks overlong bad_blocks each_block result_size entry_by block_result
    result_bytes over many_verdict over_by table_after_many bytes_after_many
all-many-blocks = refl
