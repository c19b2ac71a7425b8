-- Every case of merges that hold comes out of the definitions as expected, and a packet that waits behind a merge stays. Assumes nothing.
use mathlib.Core.Path.{◌≡◌, refl, sym, ◌∙◌}
use mathlib.Core.List.{List}
use Prim.Native.Nat.{ℕ}
use native.Mathlib.Omega.{arith}
use lib.ListN.{length}
use Rattle.digits.specs.Least.{least}
use Rattle.digits.specs.Count.{count}
use Rattle.digits.specs.UpTo.{up_to}
use Rattle.order.specs.Graph.{any, walks, has_circle}
use Rattle.order.specs.Values.{val}
use Rattle.refusals.specs.Refusals.{first_refusal}
use Rattle.std.proofs.Common.{Ok}
use Rattle.record.specs.Record.{record_row, record_pad, record_bytes}
use Rattle.record.specs.Table.{open_table, records}
use Rattle.component.specs.Kind.{kind_of, port_of, port_use, uses_first_map, uses_second_map, uses_mask, is_source, is_queue}
use Rattle.component.specs.Row.{row_ok}
use Rattle.wiring.specs.Ends.{first_unmatched}
use Rattle.wiring.specs.Signals.{depends_on, near_of, end_of, dependence}
use Rattle.reader.specs.File.{header_fields, netlist_in, first_bad_row, first_bad_record, file_tests}
use Rattle.fabric.specs.PackedFile.{header_bytes, packed_file}
use Rattle.cells.specs.Cells.{queue_colours, cell_with, cells}
use Rattle.cells.specs.Choices.{good_choice, choice_at, bad_choice}
use Rattle.cells.specs.Good.{good_byte, all, good_cell, bad_component}
use Rattle.cells.specs.Start.{start_cell, start_at, started}
use Rattle.cells.proofs.Choices.{no-bad-choice}
use Rattle.cells.proofs.Good.{no-bad-component}
use Rattle.held.specs.Picks.{picks_b}
use Rattle.rules.specs.Rules.{rule}
use Rattle.signals.specs.Signals.{rule_of, value, moved, moves}
use Rattle.state.specs.Step.{cell_next, next_at, state_next, next}
use Rattle.stepping.specs.Calls.{start_verdict, state_after_start, step_verdict, state_after_step, moves_after_step}
use Rattle.demands.proofs.Persistent.{persistent}
use Rattle.cases.specs.HeldMerges.{merged_table, merged_file, at_start, chosen, answer_to, holding}
use Rattle.cases.specs.Table.{found, expected}

pub all-holding : found answer_to holding ≡ expected holding
unfolding holding merged_table merged_file packed_file header_bytes header_fields records record_bytes record_row record_pad open_table first_bad_row first_bad_record first_unmatched end_of dependence depends_on
    near_of least count any walks has_circle row_ok kind_of port_of port_use uses_first_map uses_second_map uses_mask is_source is_queue netlist_in start_verdict state_after_start step_verdict state_after_step
    moves_after_step started cells start_at start_cell cell_with queue_colours good_choice choice_at bad_choice good_byte all good_cell bad_component cell_next next_at state_next next moves moved value val rule_of rule
    picks_b up_to
all-holding = refl

-- both inputs are offered, the merge's choice is B, and its output is not taken
abbrev waiting : List ℕ
waiting = chosen 1 2 1 0

accepted : first_refusal (file_tests merged_file) ≡ Ok tt
unfolding merged_table merged_file packed_file header_bytes header_fields records record_bytes record_row record_pad open_table first_bad_record first_unmatched end_of dependence depends_on near_of least count any walks
    has_circle row_ok kind_of port_of port_use uses_first_map uses_second_map uses_mask is_source is_queue
accepted = refl

good : bad_component (netlist_in merged_file) at_start ≡ 4
unfolding merged_table merged_file packed_file header_bytes header_fields records record_bytes record_row record_pad open_table first_bad_row first_bad_record first_unmatched end_of dependence depends_on near_of least count
    any walks has_circle row_ok kind_of port_of port_use uses_first_map uses_second_map uses_mask is_source is_queue netlist_in start_verdict state_after_start started cells start_at start_cell cell_with queue_colours good_byte all
    good_cell bad_component
good = refl

-- the signals of channel 2: colour 1 is offered and not taken
waits : ((netlist_in merged_file).components ≡ 4) × ((netlist_in merged_file).channels ≡ 3) × (length at_start ≡ 256) × (bad_choice (netlist_in merged_file) waiting ≡ 4)
    × (value (netlist_in merged_file) at_start waiting 4 ≡ 2) × (value (netlist_in merged_file) at_start waiting 5 ≡ 0)
unfolding merged_table merged_file packed_file header_bytes header_fields records record_bytes record_row record_pad open_table first_bad_row first_bad_record first_unmatched end_of dependence depends_on near_of least count
    any walks has_circle row_ok kind_of port_of port_use uses_first_map uses_second_map uses_mask is_source is_queue netlist_in start_verdict state_after_start started cells start_at start_cell cell_with queue_colours good_choice
    choice_at bad_choice value val rule_of rule picks_b
waits = (refl, refl, refl, refl, refl, refl)

-- so it is offered in the next step, whatever is chosen then
pub merge-persists : (later : List ℕ) → value (netlist_in merged_file) (next (netlist_in merged_file) at_start waiting) later 4 ≡ 2
merge-persists later =
    let f = netlist_in merged_file in
    let g = no-bad-component f at_start (omega (arith, waits.0, waits.2)) (good ∙ sym waits.0) in
    let a = no-bad-choice f waiting (sym waits.0) waits.3 in
    let s = persistent merged_file at_start waiting later accepted g a 2 (omega (arith, waits.1)) in
    s.offer waits.5 (omega (arith, waits.4)) ∙ waits.4
