-- The hypothesis records of inner functions are met by the credit loop and by a fabric with all eight kinds, from the state at start, under choices
-- by which sources emit, sinks take and merges pick B. Assumes nothing.
use mathlib.Core.Path.{◌≡◌, refl, sym, ap, ◌∙◌}
use mathlib.Core.List.{List, [], ◌∷◌, ◌++◌}
use Prim.Native.Nat.{ℕ, ◌*◌, ◌≤◌}
use native.Mathlib.Omega.{arith}
use lib.ListN.{length, get_or, drop, replicate}
use Rattle.digits.specs.Least.{least}
use Rattle.digits.specs.UpTo.{up_to}
use Rattle.digits.proofs.UpTo.{up_to-at}
use Rattle.record.specs.Table.{open_table, records}
use Rattle.record.specs.Record.{record_row, record_bytes}
use Rattle.component.specs.Kind.{kind_of, port_of, port_use}
use Rattle.component.specs.Row.{mask_bits}
use Rattle.wiring.specs.Signals.{end_of}
use Rattle.netlist.specs.Netlist.{Netlist, netlist, sized}
use Rattle.netlist.specs.Accepted.{AcceptedFabric, AcceptedNetlist}
use Rattle.reach.specs.Rounds.{passed, round, rounds, reachable, set_byte}
use Rattle.reach.specs.Known.{SetBytes}
use Rattle.reader.specs.Reading.{reading}
use Rattle.reader.specs.View.{size_of}
use Rattle.std.proofs.Common.{Ok}
use Rattle.netlist.specs.declared.Fabric.{Fabric}
use Rattle.plan.specs.declared.Place.{Place}
use Rattle.fabric.specs.PackedFile.{header_bytes, packed_file}
use Rattle.cells.specs.Choices.{good_choice, choice_at, bad_choice}
use Rattle.cells.specs.Start.{started}
use Rattle.cells.specs.Counts.{counts}
use Rattle.cells.specs.Cells.{cell_size}
use Rattle.cells.proofs.Choices.{no-bad-choice}
use Rattle.cells.proofs.Start.{good_start}
use Rattle.plan.specs.Plan.{planned}
use Rattle.plan.proofs.Plan.{is-planned}
use Rattle.held.specs.declared.Channel.{Channel}
use Rattle.signals.specs.Signals.{channel_of, moved}
use Rattle.signals.specs.Channels.{Ready}
use Rattle.state.specs.Step.{next, CanStep}
use Rattle.state.specs.Updatable.{Updatable}
use Rattle.state.proofs.Bounds.{steps-ready}
use Rattle.state.proofs.Updatable.{updatable}
use Rattle.start.specs.Startable.{Startable}
use Rattle.start.proofs.Startable.{startable}
use Rattle.flows.specs.Steps.{Holds}
use Rattle.balance.specs.Balance.{transfer}
use Rattle.balance.proofs.Holds.{holds}
use Rattle.inside.specs.Inside.{Inside}
use Rattle.inside.proofs.Inside.{inside-start}
use Rattle.cases.specs.CreditLoop.{credit_table, credit_file}
use Rattle.cases.specs.EightKinds.{eight_table, eight_file}
use Rattle.cases.proofs.CreditLoop.{ReadOf, read-accepted, credit-accepted}
use Rattle.cases.proofs.EightKinds.{eight-reads}

-- what an accepted fabric gives under choices that none refuses
module _ (f : Netlist) (ends order : List ℕ) (a : AcceptedFabric f ends order) (choices : List ℕ) (long : length choices ≡ f.components) (none : bad_choice f choices ≡ length choices)
    (state : List ℕ) (room : cell_size * f.components ≤ length state) where
  pub startable-met : Startable f.table f.components state
  startable-met = startable f ends order a state room

  pub steps-met : CanStep f ends order (started f state) choices
  steps-met = record { accepted = a; good = good_start f ends order a state room; allowed = no-bad-choice f choices long none }

  -- with a plan laid out in any memory that is long enough
  pub ready-met : (memory : List Place) → 2 * f.channels ≤ length memory →
      Ready f (up_to (2 * f.channels) (planned f order) ++ drop (2 * f.channels) memory) (started f state) choices
  ready-met memory l = steps-ready f ends order (started f state) choices steps-met (is-planned a memory _ l refl)

  -- with the channels in memory
  pub updatable-met : (rest : List Channel) → Updatable f.table f.components (started f state) (up_to f.channels (channel_of f (started f state) choices) ++ rest)
  updatable-met rest = updatable f ends order (started f state) choices steps-met _ rest refl

  pub netlist-met : AcceptedNetlist f
  netlist-met = record { ends = ends; order = order; facts = a }

  pub holds-met : Holds f (transfer (moved f (started f state) choices)) (counts (started f state)) (counts (next f (started f state) choices))
  holds-met = holds f ends order (started f state) choices steps-met

  pub inside-met : Inside f (started f state)
  inside-met = inside-start f ends order a state

-- ---- the credit loop
abbrev credit_choices : List ℕ
credit_choices = 1 ∷ 0 ∷ 0 ∷ 0 ∷ 1 ∷ 0 ∷ []

credit-choices : bad_choice (netlist 1 6 6 (open_table credit_file 6)) credit_choices ≡ 6
unfolding bad_choice choice_at good_choice least credit_file credit_table packed_file header_bytes records record_bytes record_row open_table kind_of
credit-choices = refl

pub credit-steps : (ends order : List ℕ) → ReadOf credit_file ends order → (state : List ℕ) → 384 ≤ length state
    → CanStep (netlist 1 6 6 (open_table credit_file 6)) ends order (started (netlist 1 6 6 (open_table credit_file 6)) state) credit_choices
credit-steps ends order r state l = steps-met (netlist 1 6 6 (open_table credit_file 6)) ends order (credit-accepted ends order r) credit_choices refl credit-choices state l

-- and from the fabric that `read` answers
pub credit-fabric-steps : (fabric : Fabric) → size_of (Ok fabric) ≡ reading credit_file → fabric.netlist.table.bytes.now ≡ open_table credit_file fabric.netlist.size.components → (state : List ℕ) → 384 ≤ length state
    → CanStep (netlist 1 6 6 (open_table credit_file 6)) fabric.ends.now fabric.order.now (started (netlist 1 6 6 (open_table credit_file 6)) state) credit_choices
credit-fabric-steps fabric answer table state l = credit-steps fabric.ends.now fabric.order.now (read-accepted credit_file fabric answer table) state l

-- its colour sets in lent bytes: colour 0 on each channel
credit-masks : up_to 6 (set_byte (netlist 1 6 6 (open_table credit_file 6))) ≡ replicate 6 128
unfolding credit_file credit_table packed_file header_bytes records record_bytes record_row open_table kind_of port_of port_use end_of least passed round rounds reachable mask_bits set_byte up_to
credit-masks = refl

pub credit-sets : SetBytes (netlist 1 6 6 (open_table credit_file 6)) (replicate 6 128)
credit-sets = record { long = omega arith; at = λ x l. sym (ap (λ (s : List ℕ). get_or s x 0) credit-masks) ∙ up_to-at (set_byte (netlist 1 6 6 (open_table credit_file 6))) 0 6 x l }

-- ---- all eight kinds
abbrev eight_choices : List ℕ
eight_choices = 2 ∷ 0 ∷ 0 ∷ 1 ∷ 0 ∷ 0 ∷ 0 ∷ 0 ∷ 1 ∷ []

eight-choices : bad_choice (netlist 2 10 9 (open_table eight_file 9)) eight_choices ≡ 9
unfolding bad_choice choice_at good_choice least eight_file eight_table packed_file header_bytes records record_bytes record_row open_table kind_of
eight-choices = refl

pub eight-steps : (ends order : List ℕ) → ReadOf eight_file ends order → (state : List ℕ) → 576 ≤ length state
    → CanStep (netlist 2 10 9 (open_table eight_file 9)) ends order (started (netlist 2 10 9 (open_table eight_file 9)) state) eight_choices
eight-steps ends order r state l = steps-met (netlist 2 10 9 (open_table eight_file 9)) ends order (r (sized 2 10 9) eight-reads) eight_choices refl eight-choices state l

-- and from the fabric that `read` answers
pub eight-fabric-steps : (fabric : Fabric) → size_of (Ok fabric) ≡ reading eight_file → fabric.netlist.table.bytes.now ≡ open_table eight_file fabric.netlist.size.components → (state : List ℕ) → 576 ≤ length state
    → CanStep (netlist 2 10 9 (open_table eight_file 9)) fabric.ends.now fabric.order.now (started (netlist 2 10 9 (open_table eight_file 9)) state) eight_choices
eight-fabric-steps fabric answer table state l = eight-steps fabric.ends.now fabric.order.now (read-accepted eight_file fabric answer table) state l
