-- What the customer is promised: the theorems that proofs/Demands.antt proves or cites; those of each later request have a file of their own here. Demand 1 is the
-- contracts (src/ of fabric, stepping, reaching, checking, ceiling, many): of each call the answer and every lent byte after it are those of its definition (fabric/specs/Calls.antt,
-- stepping/specs/Calls.antt, reaching/specs/Reach.antt, checking/specs/Check.antt, ceiling/specs/Ceiling.antt, many/specs/Many.antt), with nothing required.
use Rattle.std.specs.Prelude.{◌≡◌, ◌↔◌, List, ℕ, zero, suc, ◌+◌, ◌*◌, ◌/◌, ◌%◌, ◌≤◌, ◌<◌, length, get_or, take, ℤ, pos, ◌*ℤ◌}
use Rattle.integers.specs.Sum.{sum_to}
use Rattle.order.specs.Graph.{Circular}
use Rattle.refusals.specs.Refusals.{first_refusal}
use Rattle.refusals.specs.declared.Refusal.TheVariants.{Circle, StateShort, BadState}
use Rattle.std.specs.Prelude.{Err, Ok}
use Rattle.wiring.specs.Signals.{dependence}
use Rattle.netlist.specs.Netlist.{Netlist}
use Rattle.reader.specs.File.{netlist_in, file_tests}
use Rattle.roundtrip.specs.RoundTrip.{RoundTripFile, RoundTripTable, WrittenAccepted, OneFile, OneTable}
use Rattle.cells.specs.Good.{Good}
use Rattle.cells.specs.Choices.{Allowed, step_choices}
use Rattle.cells.specs.Counts.{counts}
use Rattle.signals.specs.Signals.{rule_of, value}
use Rattle.flows.specs.Terms.{signed}
use Rattle.flows.specs.Flows.{CancelsInside, entry, accepted_sum}
use Rattle.flows.specs.Verdict.{WellFormed, SomeWeight}
use Rattle.stepping.specs.Calls.{start_verdict, state_after_start, step_verdict, run_verdict}
use Rattle.checking.specs.Check.{check_verdict, check_constant, weights_after_check, bytes_after_check}
use Rattle.calls.specs.Calls.{Call, state_after_all, verdict_on}

-- ---- demand 2
-- An accepted packed file and its open table turn into each other exactly, with one encoding each.
abbrev pub FilesAndTables : Type 0
FilesAndTables = RoundTripFile × RoundTripTable × WrittenAccepted × OneFile × OneTable

-- A fabric is refused exactly if these dependences hold a circle: a file that none of 1-7 refuses, the first seven tests, is refused by 8 exactly
-- if a walk of one dependence or more leads from some signal to itself.
abbrev pub CircleExactly : Type 0
CircleExactly = (file : List ℕ) → first_refusal (take 7 (file_tests file)) ≡ Ok tt
    → (first_refusal (file_tests file) ≡ Err Circle) ↔ Circular (dependence (netlist_in file).table (netlist_in file).components) (2 * (netlist_in file).channels)

-- v gives each signal the value that its rule gives where v gives all signals: every rule holds
abbrev pub Satisfies : Netlist → List ℕ → List ℕ → (ℕ → ℕ) → Type 0
Satisfies f state choices v = (s : ℕ) → s < 2 * f.channels → v s ≡ rule_of f state choices s v

-- A step is the synchronous step: the signals by which step moves satisfy every rule, and no other values do.
abbrev pub StepSignals : Type 0
StepSignals = (file : List ℕ) → first_refusal (file_tests file) ≡ Ok tt → (state choices : List ℕ)
    → Satisfies (netlist_in file) state choices (value (netlist_in file) state choices)
    × ((v : ℕ → ℕ) → Satisfies (netlist_in file) state choices v → (s : ℕ) → s < 2 * (netlist_in file).channels → v s ≡ value (netlist_in file) state choices s)

-- It is so for every accepted fabric, good state and allowed choice: with space for its moves no such step is refused.
abbrev pub StepAccepted : Type 0
StepAccepted = (file state choices : List ℕ) (space : ℕ) → first_refusal (file_tests file) ≡ Ok tt
    → Good (netlist_in file) state → Allowed (netlist_in file) choices → (netlist_in file).channels ≤ space → step_verdict file state choices space ≡ Ok tt

-- Run takes whole steps' choices in a row, none included: on an accepted fabric and a good state, where each step's are allowed, none is refused.
abbrev pub RunAccepted : Type 0
RunAccepted = (file state choices : List ℕ) → first_refusal (file_tests file) ≡ Ok tt → Good (netlist_in file) state → length choices % (netlist_in file).components ≡ 0
    → ((j : ℕ) → j < length choices / (netlist_in file).components → Allowed (netlist_in file) (step_choices (netlist_in file) choices j)) → run_verdict file state choices ≡ Ok tt

-- ---- demand 3
-- For every list of start, step and run calls after an accepted start, refused ones included, whatever is chosen, every accepted sum equals its
-- accepted constant in the state after the list.
abbrev pub ConstantSums : Type 0
ConstantSums = (file p : List ℕ) (space : ℕ) → check_verdict file p space ≡ Ok tt
    → (state : List ℕ) → start_verdict file (length state) ≡ Ok tt
    → (calls : List Call) → accepted_sum (netlist_in file) p (counts (state_after_all file calls (state_after_start file state))) ≡ check_constant file p space

-- A proposal is accepted exactly when every flow inside the sets cancels and some queue keeps a weight other than 0: both files well formed, space given.
abbrev pub AcceptedExactly : Type 0
AcceptedExactly = (file p : List ℕ) (space : ℕ) → first_refusal (file_tests file) ≡ Ok tt → WellFormed (netlist_in file) p → 8 * (netlist_in file).components ≤ space
    → (check_verdict file p space ≡ Ok tt) ↔ (CancelsInside (netlist_in file) p × SomeWeight (netlist_in file) p)

-- after an accepted start no call of the list is refused because of the state, by 21 or 22
abbrev pub GoodAlways : Type 0
GoodAlways = (file state : List ℕ) → start_verdict file (length state) ≡ Ok tt → (calls : List Call) (call : Call)
    → (verdict_on file call (state_after_all file calls (state_after_start file state)) ≡ Err StateShort → ⊥)
    × ((k : ℕ) → verdict_on file call (state_after_all file calls (state_after_start file state)) ≡ Err (BadState k) → ⊥)

-- ---- demand 3, from what a host sees
-- n bytes from byte i on as one number, lowest first
abbrev pub lowest_first : ℕ → List ℕ → ℕ → ℕ
lowest_first zero bytes i = 0
lowest_first (suc n) bytes i = get_or bytes i 0 + 256 * lowest_first n bytes (suc i)

-- a 64-bit entry is 8 bytes there, lowest first, in two's complement: entry u of lent bytes, and of a lent signed table
unfoldable pub entry_of_bytes : List ℕ → ℕ → ℤ
entry_of_bytes bytes u = signed 64 (lowest_first 8 bytes (8 * u))

abbrev pub entry_of : List ℤ → ℕ → ℤ
entry_of table u = get_or table u (pos 0)

-- entry 8 times q plus d, times n(q,d), added up over all components and colours: over all queues, since no other component has an entry that is not 0
unfoldable pub sum_read : Netlist → (ℕ → ℤ) → List ℕ → ℤ
sum_read f entries state = sum_to f.components (λ q. sum_to f.colours (λ d. entries (8 * q + d) *ℤ pos (counts state q d)))

-- Entry 8 times q plus d of a lent signed 64-bit table of 8N is the weight of n(q,d), other entries 0: so they are read from what check wrote,
-- from bytes through C as from a table.
abbrev pub WeightsRead : Type 0
WeightsRead = ((file p bytes : List ℕ) → check_verdict file p (length bytes / 8) ≡ Ok tt → (u : ℕ) → u < 8 * (netlist_in file).components
    → entry_of_bytes (bytes_after_check file p bytes) u ≡ entry (netlist_in file) p u)
    × ((file p : List ℕ) (table : List ℤ) → check_verdict file p (length table) ≡ Ok tt → (u : ℕ) → u < 8 * (netlist_in file).components
    → entry_of (weights_after_check file p table) u ≡ entry (netlist_in file) p u)

-- So a host that adds up, from the bytes that fabric_check wrote and the bytes of the state, weight times n(q,d) over all queues and colours, comes to
-- the constant that fabric_check_constant returned, after every list of calls.
abbrev pub ConstantSumsRead : Type 0
ConstantSumsRead = (file p bytes : List ℕ) → check_verdict file p (length bytes / 8) ≡ Ok tt
    → (state : List ℕ) → start_verdict file (length state) ≡ Ok tt → (calls : List Call)
    → sum_read (netlist_in file) (entry_of_bytes (bytes_after_check file p bytes)) (state_after_all file calls (state_after_start file state)) ≡ check_constant file p (length bytes / 8)

-- the same of a lent signed table
abbrev pub ConstantSumsInTable : Type 0
ConstantSumsInTable = (file p : List ℕ) (table : List ℤ) → check_verdict file p (length table) ≡ Ok tt
    → (state : List ℕ) → start_verdict file (length state) ≡ Ok tt → (calls : List Call)
    → sum_read (netlist_in file) (entry_of (weights_after_check file p table)) (state_after_all file calls (state_after_start file state)) ≡ check_constant file p (length table)
