-- What the promises say of the credit loop, and of a fork into a join, computed from the definitions: no premise of theirs is out of reach. Assumes nothing.
use mathlib.Core.Path.{◌≡◌, refl, ap, sym}
use mathlib.Core.List.{List, [], ◌∷◌, ◌++◌}
use Prim.Native.Nat.{ℕ, ◌*◌, ◌/◌, ◌%◌, ◌≤◌}
use native.Mathlib.Omega.{arith}
use lib.ListN.{length, get_or, replicate, take}
use lib.IntN.{pos, negsuc}
use Rattle.digits.specs.Least.{least}
use Rattle.digits.specs.Count.{count}
use Rattle.digits.specs.UpTo.{up_to}
use Rattle.integers.specs.Sum.{sum_to, is_zero}
use Rattle.order.specs.Graph.{Circular, any, walks, has_circle}
use Rattle.order.specs.Values.{val}
use Rattle.refusals.specs.Refusals.{first_refusal}
use Rattle.refusals.specs.declared.Refusal.TheVariants.{Circle}
use Rattle.std.proofs.Common.{Err, Ok}
use Rattle.record.specs.Record.{record_row, record_pad, record_bytes}
use Rattle.record.specs.Table.{open_table, records}
use Rattle.component.specs.Kind.{kind_of, port_of, port_use, uses_first_map, uses_second_map, uses_mask, is_source, is_queue}
use Rattle.component.specs.Row.{row_ok}
use Rattle.wiring.specs.Ends.{first_unmatched}
use Rattle.wiring.specs.Signals.{depends_on, near_of, end_of, dependence}
use Rattle.netlist.specs.Netlist.{Netlist}
use Rattle.reader.specs.File.{netlist_in, header_fields, first_bad_row, first_bad_record, file_tests}
use Rattle.reader.proofs.Accepted.{accepted-parts}
use Rattle.reader.proofs.Opened.{facts}
use Rattle.fabric.specs.PackedFile.{header_bytes, packed_file}
use Rattle.cells.specs.Cells.{queue_colours, cell_with, cells}
use Rattle.cells.specs.Good.{Good, good_byte, all, good_cell, bad_component}
use Rattle.cells.specs.Choices.{good_choice, choice_at, bad_choice, step_choices}
use Rattle.cells.specs.Start.{start_cell, start_at, started}
use Rattle.cells.proofs.Choices.{no-bad-choice, no-bad-step}
use Rattle.cells.proofs.Start.{good_start}
use Rattle.reach.specs.Reaches.{Reaches}
use Rattle.reach.specs.Rounds.{passed, round, rounds, reachable}
use Rattle.equations.specs.Equations.{side, has_index, has_equation, factor}
use Rattle.flows.specs.Terms.{component_of, index, multiplier}
use Rattle.flows.specs.Flows.{flow_sum, weight, entry}
use Rattle.flows.specs.Verdict.{bytes_by, bad_term, is_left, is_weight}
use Rattle.rules.specs.Rules.{rule}
use Rattle.signals.specs.Signals.{rule_of, value, moved, moves}
use Rattle.state.specs.Step.{cell_next, next_at, state_next, next}
use Rattle.steps.specs.Steps.{after_steps}
use Rattle.stepping.specs.Calls.{start_verdict, state_after_start, step_verdict, state_after_step, moves_after_step, run_verdict, state_after_run}
use Rattle.calls.specs.Calls.{Call, step, run, state_after_all}
use Rattle.checking.specs.Check.{check_verdict, bytes_after_check}
use Rattle.demands.specs.Demands.{entry_of_bytes, sum_read}
use Rattle.demands.proofs.Demands.{circle_exactly, step_accepted, run_accepted}
use Rattle.demands.proofs.Reach.{moves_inside, moves_inside_run}
use Rattle.cases.specs.CreditLoop.{credit_table, credit_file, fork_into_join}
use Rattle.cases.specs.Starred.{five}
use Rattle.cases.proofs.CreditLoop.{credit-reads}

-- 8 bytes, lowest first, in two's complement
pub entries-read : up_to 3 (entry_of_bytes (replicate 8 255 ++ (replicate 7 0 ++ (128 ∷ 1 ∷ 2 ∷ replicate 6 0)))) ≡ negsuc 0 ∷ negsuc 9223372036854775807 ∷ pos 513 ∷ []
unfolding up_to entry_of_bytes
entries-read = refl

-- the bytes that check writes read back as Q 2 0 1, Q 5 0 1, the other 46 entries 0, and give SUM 2 in the state at start
abbrev written : List ℕ
written = bytes_after_check credit_file five (replicate 384 7)

pub credit-read : (up_to 48 (entry_of_bytes written) ≡ replicate 16 (pos 0) ++ (pos 1 ∷ replicate 23 (pos 0) ++ (pos 1 ∷ replicate 7 (pos 0))))
    × (sum_read (netlist_in credit_file) (entry_of_bytes written) (state_after_start credit_file (replicate 384 7)) ≡ pos 2)
unfolding credit_table credit_file packed_file header_bytes header_fields records record_bytes record_row record_pad open_table first_bad_row first_bad_record first_unmatched
    end_of dependence depends_on near_of least count any walks has_circle row_ok kind_of port_of port_use uses_first_map uses_second_map uses_mask is_source is_queue netlist_in
    check_verdict bytes_after_check bytes_by sum_to is_zero side has_index has_equation factor component_of index multiplier flow_sum weight entry bad_term passed round rounds reachable is_left is_weight up_to
    entry_of_bytes sum_read start_verdict state_after_start started cells start_at start_cell cell_with queue_colours
credit-read = (refl, refl)

-- the file of the fork into a join meets none of 1-7, and it meets 8: its dependences hold a circle
abbrev forked : List ℕ
forked = packed_file 1 4 fork_into_join 4

forked-refused : (first_refusal (take 7 (file_tests forked)) ≡ Ok tt) × (first_refusal (file_tests forked) ≡ Err Circle)
unfolding fork_into_join packed_file header_bytes header_fields records record_bytes record_row record_pad open_table first_bad_record first_unmatched end_of dependence depends_on
    near_of least count any walks has_circle row_ok kind_of port_of port_use uses_first_map uses_second_map uses_mask is_source is_queue
forked-refused = (refl, refl)

pub forked-circular : Circular (dependence (netlist_in forked).table (netlist_in forked).components) (2 * (netlist_in forked).channels)
forked-circular = (circle_exactly forked forked-refused.0).0 forked-refused.1

-- the credit loop's steps under allowed choices are accepted, alone and in a row
abbrev once : List ℕ
once = 1 ∷ 0 ∷ 0 ∷ 0 ∷ 1 ∷ 0 ∷ []

credit-file : first_refusal (file_tests credit_file) ≡ Ok tt
credit-file = (accepted-parts credit_file credit-reads).0

credit-size : ((netlist_in credit_file).components ≡ 6) × ((netlist_in credit_file).channels ≡ 6)
unfolding credit_table credit_file packed_file header_bytes header_fields records record_bytes netlist_in
credit-size = (refl, refl)

credit-choices : (bad_choice (netlist_in credit_file) once ≡ 6) × (bad_choice (netlist_in credit_file) (once ++ once) ≡ 12)
unfolding bad_choice choice_at good_choice least credit_table credit_file packed_file header_bytes header_fields records record_bytes record_row open_table kind_of netlist_in
credit-choices = (refl, refl)

module _ (state : List ℕ) (room : 384 ≤ length state) where
  abbrev f : Netlist
  f = netlist_in credit_file

  good : Good f (started f state)
  good = let x = facts credit_file credit-file in good_start f x.0 x.1 x.2 state (omega (arith, credit-size.0))

  pub credit-step : step_verdict credit_file (started f state) once 6 ≡ Ok tt
  credit-step = step_accepted credit_file (started f state) once 6 credit-file good (no-bad-choice f once (sym credit-size.0) credit-choices.0) (omega (arith, credit-size.1))

  pub credit-run : run_verdict credit_file (started f state) (once ++ once) ≡ Ok tt
  credit-run = run_accepted credit_file (started f state) (once ++ once) credit-file good (ap (λ (n : ℕ). 12 % n) credit-size.0) (no-bad-step f (once ++ once) credit-choices.1)

-- from start, after a step, a refused run and a run, each channel moves in a further step, and in the second step of a further run: so colour 0 is in the set of channel 4
abbrev calls : List Call
calls = step once 6 ∷ run (1 ∷ []) ∷ run (once ++ once) ∷ []

abbrev after : List ℕ
after = state_after_all credit_file calls (state_after_start credit_file (replicate 384 7))

credit-moves : (start_verdict credit_file 384 ≡ Ok tt) × (step_verdict credit_file after once 6 ≡ Ok tt)
    × (get_or (moves_after_step credit_file after once (replicate 6 9)) 4 0 ≡ 1)
unfolding credit_table credit_file packed_file header_bytes header_fields records record_bytes record_row record_pad open_table first_bad_row first_bad_record first_unmatched end_of dependence depends_on near_of least count
    any walks has_circle row_ok kind_of port_of port_use uses_first_map uses_second_map uses_mask is_source is_queue netlist_in start_verdict state_after_start step_verdict state_after_step moves_after_step run_verdict
    state_after_run state_after_all after_steps started cells start_at start_cell cell_with queue_colours good_choice choice_at bad_choice good_byte all good_cell bad_component cell_next next_at state_next next moves moved
    value val rule_of rule up_to
credit-moves = (refl, refl, refl)

pub credit-inside : Reaches (netlist_in credit_file) 4 0
credit-inside = moves_inside credit_file (replicate 384 7) credit-moves.0 calls once (replicate 6 9) credit-moves.1 4 0 (omega (arith, credit-size.1)) credit-moves.2

credit-runs : (run_verdict credit_file after (once ++ once) ≡ Ok tt)
    × (moved (netlist_in credit_file) (after_steps (netlist_in credit_file) 1 (once ++ once) after) (step_choices (netlist_in credit_file) (once ++ once) 1) 4 ≡ 1) × (12 / (netlist_in credit_file).components ≡ 2)
unfolding credit_table credit_file packed_file header_bytes header_fields records record_bytes record_row record_pad open_table first_bad_row first_bad_record first_unmatched end_of dependence depends_on near_of least count
    any walks has_circle row_ok kind_of port_of port_use uses_first_map uses_second_map uses_mask is_source is_queue netlist_in start_verdict state_after_start step_verdict state_after_step run_verdict
    state_after_run state_after_all after_steps started cells start_at start_cell cell_with queue_colours good_choice choice_at bad_choice good_byte all good_cell bad_component cell_next next_at state_next next moved
    value val rule_of rule
credit-runs = (refl, refl, refl)

pub credit-inside-run : Reaches (netlist_in credit_file) 4 0
credit-inside-run =
    moves_inside_run credit_file (replicate 384 7) credit-moves.0 calls (once ++ once) credit-runs.0 1 (omega (arith, credit-runs.2)) 4 0 (omega (arith, credit-size.1)) credit-runs.1
