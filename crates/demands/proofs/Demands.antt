-- The theorems of specs/Demands.antt. Assumes nothing.
use mathlib.Core.Path.{◌≡◌, ap, sym, subst, ◌∙◌}
use mathlib.Core.Bool.{Bool, true, false, cond, not}
use mathlib.Core.List.{List, [], ◌∷◌, ◌++◌}
use Prim.Native.Nat.{ℕ, ◌*◌, ◌/◌, ◌%◌, ◌≤◌, ◌<◌}
use native.Mathlib.Omega.{arith}
use lib.Dec.{ltb, eqb}
use lib.ListN.{length, drop}
use lib.IntN.{ℤ}
use borrow.Author.Tests.{le-ltb, eq-eqb}
use Rattle.refusals.specs.Refusals.{Test, test, first_refusal}
use Rattle.refusals.specs.declared.Refusal.TheVariants.{StateShort, BadState, ChoiceCount, BadChoice, ResultSpace}
use Rattle.std.proofs.Common.{Err, Ok, Result}
use Rattle.refusals.specs.declared.Refusal.{Refusal}
use Rattle.refusals.proofs.Refusals.{and_then, refusal-append, then-accepted}
use Rattle.netlist.specs.Netlist.{Netlist}
use Rattle.reader.specs.File.{netlist_in, file_tests}
use Rattle.reader.proofs.Opened.{after-file, rest_of, facts}
use Rattle.roundtrip.proofs.RoundTrip.{round_trip_file, round_trip_table, written_accepted, one_file, one_table}
use Rattle.cells.specs.Good.{Good}
use Rattle.cells.specs.Choices.{bad_choice}
use Rattle.cells.specs.Cells.{cell_size}
use Rattle.cells.proofs.Good.{good-no-bad}
use Rattle.cells.proofs.Choices.{allowed-no-bad, steps-no-bad}
use Rattle.signals.proofs.Signals.{value-rule, value-only}
use Rattle.flows.specs.Flows.{entry, constant}
use Rattle.flows.specs.Verdict.{judge_tests, judged, constant_by, table_by, bytes_by}
use Rattle.flows.proofs.Exactly.{accepted-cancels, accepted-weighty, accepted-exactly}
use Rattle.verdicts.specs.Tests.{short_state}
use Rattle.verdicts.specs.Stages.{ready_tests}
use Rattle.stepping.specs.Calls.{start_verdict, state_after_start, step_verdict, run_verdict}
use Rattle.stepping.proofs.Calls.{started-file}
use Rattle.checking.specs.Check.{check_verdict, check_constant, weights_after_check, bytes_after_check}
use Rattle.calls.specs.Calls.{Call, start, step, run, state_after_all, verdict_on}
use Rattle.calls.proofs.Calls.{calls-keep}
use Rattle.demands.specs.Demands.{ConstantSums, AcceptedExactly, GoodAlways, FilesAndTables, StepSignals, CircleExactly, StepAccepted, RunAccepted, entry_of_bytes, entry_of, sum_read, WeightsRead, ConstantSumsRead, ConstantSumsInTable}
use Rattle.demands.proofs.Chains.{ready-passes, circle-refuses}
use Rattle.demands.proofs.Reach.{file-netlist}
use Rattle.demands.proofs.Sums.{sums_kept}
use Rattle.demands.proofs.ReadBack.{bytes_back, table-back, sum_is}

-- ---- demand 3
pub checked : (file p : List ℕ) (space : ℕ) → check_verdict file p space ≡ Ok tt → judged (netlist_in file) p ≡ Ok tt
unfolding check_verdict judged
checked file p space e =
    let f : Netlist = netlist_in file in
    let last : List Test = test ResultSpace (ltb space (8 * f.components)) ∷ [] in
    (then-accepted (first_refusal (judge_tests f p)) (first_refusal last) (sym (refusal-append (judge_tests f p) last) ∙ (after-file file (judge_tests f p ++ last) e).1)).0

check-constant-is : (file p : List ℕ) (space : ℕ) → check_verdict file p space ≡ Ok tt → check_constant file p space ≡ constant (netlist_in file) p
unfolding check_constant constant_by
check-constant-is file p space e = ap (λ (v : Result Unit Refusal). constant_by v (netlist_in file) p) e

check-given : (file p : List ℕ) (space : ℕ) → first_refusal (file_tests file) ≡ Ok tt → 8 * (netlist_in file).components ≤ space → judged (netlist_in file) p ≡ Ok tt → check_verdict file p space ≡ Ok tt
unfolding check_verdict judged
check-given file p space ok room e =
    let f : Netlist = netlist_in file in
    let last : List Test = test ResultSpace (ltb space (8 * f.components)) ∷ [] in
    rest_of file ok (judge_tests f p ++ last) ∙ refusal-append (judge_tests f p) last ∙ ap (λ (v : Result Unit Refusal). and_then v (first_refusal last)) e ∙ rw (le-ltb space (8 * f.components) room)

pub constant_sums : ConstantSums
constant_sums file p space accepted state began calls = (sums_kept file p (checked file p space accepted) state began calls).1 ∙ sym (check-constant-is file p space accepted)

pub accepted_exactly : AcceptedExactly
accepted_exactly file p space ok formed room =
    let f : Netlist = netlist_in file in
    let n = file-netlist file ok in (
      λ e. let j = checked file p space e in (accepted-cancels f p n j, accepted-weighty f p j),
      λ h. check-given file p space ok room (accepted-exactly f p n formed h.0 h.1),
    )

-- ---- no call is refused because of the state
abbrev Stateless : (Result Unit Refusal) → Type 0
Stateless v = (v ≡ Err StateShort → ⊥) × ((k : ℕ) → v ≡ Err (BadState k) → ⊥)

-- what is left once 21 and 22 are not met
others : (a b c : Bool) (o : ℕ) → Stateless (cond a (Err ChoiceCount) (cond b (Err (BadChoice o)) (cond c (Err ResultSpace) (Ok tt))))
others true b c o = (λ e. let z : ◌≡◌ {A = ℕ} 0 1 = cc in absurd (omega arith), λ k e. let z : ◌≡◌ {A = ℕ} 0 1 = cc in absurd (omega arith))
others false true c o = (λ e. let z : ◌≡◌ {A = ℕ} 0 1 = cc in absurd (omega arith), λ k e. let z : ◌≡◌ {A = ℕ} 0 1 = cc in absurd (omega arith))
others false false true o = (λ e. let z : ◌≡◌ {A = ℕ} 0 1 = cc in absurd (omega arith), λ k e. let z : ◌≡◌ {A = ℕ} 0 1 = cc in absurd (omega arith))
others false false false o = (λ e. let z : ◌≡◌ {A = ℕ} 0 1 = cc in absurd (omega arith), λ k e. let z : ◌≡◌ {A = ℕ} 0 1 = cc in absurd (omega arith))

good-passes : (f : Netlist) (s c : List ℕ) (uneven : Bool) (rest : List Test) → Good f s
    → first_refusal (ready_tests f s c uneven ++ rest) ≡ cond uneven (Err ChoiceCount) (cond (ltb (bad_choice f c) (length c)) (Err (BadChoice (bad_choice f c))) (first_refusal rest))
good-passes f s c uneven rest g =
    let n : f.components ≤ f.components = omega arith in
    rw (le-ltb (length s) (cell_size * f.components) g.long, good-no-bad f s g, le-ltb f.components f.components n)

verdict-stateless : (file : List ℕ) → first_refusal (file_tests file) ≡ Ok tt → (call : Call) (s : List ℕ) → Good (netlist_in file) s → Stateless (verdict_on file call s)
unfolding start_verdict step_verdict run_verdict
verdict-stateless file ok start s g =
    subst Stateless (sym (rest_of file ok (short_state (netlist_in file) (length s) ∷ []) ∙ rw (le-ltb (length s) (cell_size * (netlist_in file).components) g.long))) (others false false false 0)
verdict-stateless file ok (step c space) s g =
    let f : Netlist = netlist_in file in
    let uneven : Bool = not (eqb (length c) f.components) in
    let last : List Test = test ResultSpace (ltb space f.channels) ∷ [] in
    subst Stateless (sym (rest_of file ok (ready_tests f s c uneven ++ last) ∙ good-passes f s c uneven last g)) (others uneven (ltb (bad_choice f c) (length c)) (ltb space f.channels) (bad_choice f c))
verdict-stateless file ok (run c) s g =
    let f : Netlist = netlist_in file in
    let uneven : Bool = not (eqb (length c % f.components) 0) in
    subst Stateless (sym (rest_of file ok (ready_tests f s c uneven) ∙ good-passes f s c uneven [] g)) (others uneven (ltb (bad_choice f c) (length c)) false (bad_choice f c))

pub good_always : GoodAlways
good_always file state began calls call =
    let ok = started-file file (length state) began in
    let r = calls-keep file (λ s. Unit {0}) (λ s l. tt) (λ s ch g w q. tt) state began calls in
    verdict-stateless file ok.0 call (state_after_all file calls (state_after_start file state)) r.0

-- ---- demand 2
pub files_and_tables : FilesAndTables
files_and_tables = (round_trip_file, round_trip_table, written_accepted, one_file, one_table)

pub step_signals : StepSignals
step_signals file ok state choices =
    let f : Netlist = netlist_in file in
    let x = facts file ok in
    (value-rule f x.0 x.1 x.2 state choices, value-only f x.0 x.1 x.2 state choices)

pub circle_exactly : CircleExactly
circle_exactly = circle-refuses

pub step_accepted : StepAccepted
unfolding step_verdict
step_accepted file state choices space ok g w room =
    let f : Netlist = netlist_in file in
    let last : List Test = test ResultSpace (ltb space f.channels) ∷ [] in
    let uneven : Bool = not (eqb (length choices) f.components) in
    rest_of file ok (ready_tests f state choices uneven ++ last)
    ∙ ready-passes f state choices uneven last g (ap not (eq-eqb (length choices) f.components w.long)) (allowed-no-bad f choices w) ∙ rw (le-ltb space f.channels room)

pub run_accepted : RunAccepted
unfolding run_verdict
run_accepted file state choices ok g whole each =
    let f : Netlist = netlist_in file in
    let uneven : Bool = not (eqb (length choices % f.components) 0) in
    rest_of file ok (ready_tests f state choices uneven)
    ∙ ready-passes f state choices uneven [] g (ap not (eq-eqb (length choices % f.components) 0 whole)) (steps-no-bad f choices (facts file ok).2.some_rows whole each)

-- ---- demand 3, from what a host sees
bytes_read : (file p bytes : List ℕ) → check_verdict file p (length bytes / 8) ≡ Ok tt → (u : ℕ) → u < 8 * (netlist_in file).components
    → entry_of_bytes (bytes_after_check file p bytes) u ≡ entry (netlist_in file) p u
unfolding bytes_after_check bytes_by
bytes_read file p bytes accepted u l =
    let f : Netlist = netlist_in file in
    ap (λ (v : Result Unit Refusal). entry_of_bytes (bytes_by v f p bytes) u) accepted ∙ bytes_back f p (checked file p (length bytes / 8) accepted) (drop (8 * (8 * f.components)) bytes) u l

table-read : (file p : List ℕ) (table : List ℤ) → check_verdict file p (length table) ≡ Ok tt → (u : ℕ) → u < 8 * (netlist_in file).components
    → entry_of (weights_after_check file p table) u ≡ entry (netlist_in file) p u
unfolding weights_after_check table_by
table-read file p table accepted u l =
    let f : Netlist = netlist_in file in
    ap (λ (v : Result Unit Refusal). entry_of (table_by v f p table) u) accepted ∙ table-back f p (drop (8 * f.components) table) u l

pub weights_read : WeightsRead
weights_read = (bytes_read, table-read)

-- of any entries that are the weights
pub sums-read : (file p : List ℕ) (space : ℕ) → check_verdict file p space ≡ Ok tt → (entries : ℕ → ℤ) → ((u : ℕ) → u < 8 * (netlist_in file).components → entries u ≡ entry (netlist_in file) p u)
    → (state : List ℕ) → start_verdict file (length state) ≡ Ok tt → (calls : List Call)
    → sum_read (netlist_in file) entries (state_after_all file calls (state_after_start file state)) ≡ check_constant file p space
sums-read file p space accepted entries is state began calls =
    let few = (facts file (started-file file (length state) began).0).2.few_colours in
    sum_is (netlist_in file) few p entries is (state_after_all file calls (state_after_start file state)) ∙ constant_sums file p space accepted state began calls

pub constant_sums_read : ConstantSumsRead
constant_sums_read file p bytes accepted = sums-read file p (length bytes / 8) accepted (entry_of_bytes (bytes_after_check file p bytes)) (bytes_read file p bytes accepted)

pub constant_sums_in_table : ConstantSumsInTable
constant_sums_in_table file p table accepted = sums-read file p (length table) accepted (entry_of (weights_after_check file p table)) (table-read file p table accepted)
