use mathlib.Core.Path.{◌≡◌, sym, subst, ◌∙◌}
use mathlib.Core.List.{List}
use Prim.Native.Nat.{ℕ, ◌≤◌, ◌<◌}
use native.Mathlib.Omega.{arith}
use borrow.Author.Rules.{rules}
use lib.Bits.{bit_and, bit_xor}
use Rattle.record.specs.Table.{row}
use Rattle.component.specs.declared.kinds.Kind.{Kind}
use Rattle.component.specs.declared.kinds.Kind.TheVariants.{Source, Switch}
use Rattle.component.specs.declared.kinds.Port.{Port}
use Rattle.component.specs.declared.kinds.Port.TheVariants.{B, C}
use Rattle.component.specs.declared.kinds.Map.TheVariants.{First, Second}
use Rattle.component.specs.Limits.{most_colours}
use Rattle.component.specs.Row.{kind, map_of}
use Rattle.spread.specs.Spread.{MapBelow}
use Rattle.netlist.specs.Accepted.{AcceptedNetlist}
use Rattle.netlist.specs.View.{facts_of}
use Rattle.netlist.proofs.Whole.{accepted_netlist}
use Rattle.spread.proofs.LetOut.{Fed, Lets, out-source, out-sink, out-queue, out-function, out-fork-A, out-fork-B, out-fork-C, out-join-none, out-join, out-switch-A, out-switch-B, out-switch-C, out-merge}
use Rattle.spread.proofs.let_out.Goals as goal
use Rattle.spread.proofs.let_out.Goals.{After-kind}

module _ (b : After-kind) where
  accepted : AcceptedNetlist (facts_of b.args.netlist.now)
  accepted = accepted_netlist b.args.netlist.now.accepted

  abbrev r : List ℕ
  r = row b.args.netlist.now.table.bytes.now b.args.k

  -- what goes out at port p where the kind is n
  abbrev Out : Kind → Port → ℕ → Type 0
  Out n p = Lets b.args.netlist.now.size.colours r b.args.a b.args.b n p

  fed : Fed b.args.netlist.now.size.colours r b.args.a b.args.b
  fed = record { channels = b.args.netlist.now.size.channels; facts = accepted.facts.rows b.args.k b.requires.row; below_a = b.requires.sets.0; below_b = b.requires.sets.1 }

  few : b.args.netlist.now.size.colours ≤ most_colours
  few = accepted.facts.few_colours

  inside : b.args.k < b.args.netlist.now.table.rows
  inside = omega (arith, b.requires.row, b.args.netlist.now.same)

  first : MapBelow b.args.netlist.now.size.colours (map_of First r)
  first = record { below = (accepted.facts.rows b.args.k b.requires.row).first_maps }

  second : MapBelow b.args.netlist.now.size.colours (map_of Second r)
  second = record { below = (accepted.facts.rows b.args.k b.requires.row).second_maps }

  -- at the port that is asked for, for the kind that was read
  at_kind : {n : Kind} {x : ℕ} → b.kind.result ≡ n → Out n b.args.port x → Out (kind r) b.args.port x
  at_kind {n} {x} e h = subst (λ (m : Kind). Out m b.args.port x) (sym e ∙ b.kind.ensures) h

  at_port : {n : Kind} {p : Port} {x : ℕ} → b.kind.result ≡ n → b.args.port ≡ p → Out n p x → Out (kind r) b.args.port x
  at_port {n} {p} {x} e q h = at_kind e (subst (λ (t : Port). Out n t x) (sym q) h)

pub mapped-requires : goal.mapped-requires
mapped-requires c =
    let s = (goal.at.mapped-requires c).After-kind in
    (inside s, few s, first s)

pub mapped-requires-in-Fork-B : goal.mapped-requires-in-Fork-B
mapped-requires-in-Fork-B c =
    let s = (goal.at.mapped-requires-in-Fork-B c).After-kind in
    (inside s, few s, first s)

pub mapped-requires-in-Fork-C : goal.mapped-requires-in-Fork-C
mapped-requires-in-Fork-C c =
    let s = (goal.at.mapped-requires-in-Fork-C c).After-kind in
    (inside s, few s, second s)

pub mapped-requires-in-Join-default-2 : goal.mapped-requires-in-Join-default-2
mapped-requires-in-Join-default-2 c =
    let s = (goal.at.mapped-requires-in-Join-default-2 c).After-kind in
    (inside s, few s, first s)

pub returns-in-Source-default : goal.returns-in-Source-default
returns-in-Source-default c =
    let s = (goal.at.returns-in-Source-default c).After-kind in
    at_kind s c.in-Source-default.is-0 (subst (Out s Source c.args.port) (sym c.mask.ensures) (out-source (fed s) c.args.port))

pub returns-in-Sink-default : goal.returns-in-Sink-default
returns-in-Sink-default c =
    let s = (goal.at.returns-in-Sink-default c).After-kind in
    at_kind s c.in-Sink-default.is-0 (out-sink (fed s) c.args.port)

pub returns-in-Queue-default : goal.returns-in-Queue-default
returns-in-Queue-default c =
    let s = (goal.at.returns-in-Queue-default c).After-kind in
    at_kind s c.in-Queue-default.is-0 (out-queue (fed s) c.args.port c.fill_set.ensures)

pub returns-in-Function-default : goal.returns-in-Function-default
returns-in-Function-default c =
    let s = (goal.at.returns-in-Function-default c).After-kind in
    at_kind s c.in-Function-default.is-0 (out-function (fed s) c.args.port c.mapped.ensures)

pub returns-in-Fork-A : goal.returns-in-Fork-A
returns-in-Fork-A c =
    let s = (goal.at.returns-in-Fork-A c).After-kind in
    at_port s c.in-Fork-A.is-0 c.in-Fork-A.is-1 (out-fork-A (fed s))

pub returns-in-Fork-B : goal.returns-in-Fork-B
returns-in-Fork-B c =
    let s = (goal.at.returns-in-Fork-B c).After-kind in
    at_port s c.in-Fork-B.is-0 c.in-Fork-B.is-1 (out-fork-B (fed s) c.mapped-in-Fork-B.ensures)

pub returns-in-Fork-C : goal.returns-in-Fork-C
returns-in-Fork-C c =
    let s = (goal.at.returns-in-Fork-C c).After-kind in
    at_port s c.in-Fork-C.is-0 c.in-Fork-C.is-1 (out-fork-C (fed s) c.mapped-in-Fork-C.ensures)

pub returns-in-Join-default : goal.returns-in-Join-default
returns-in-Join-default c =
    let s = (goal.at.returns-in-Join-default c).After-kind in
    at_kind s c.in-Join-default.is-0 (out-join-none (fed s) c.args.port (omega arith))

pub returns-in-Join-default-2 : goal.returns-in-Join-default-2
returns-in-Join-default-2 c =
    let s = (goal.at.returns-in-Join-default-2 c).After-kind in
    at_kind s c.in-Join-default.is-0 (out-join (fed s) c.args.port (search rules) (omega arith) c.mapped-in-Join-default-2.ensures)

pub returns-in-Switch-A : goal.returns-in-Switch-A
returns-in-Switch-A c =
    let s = (goal.at.returns-in-Switch-A c).After-kind in
    at_port s c.in-Switch-A.is-0 c.in-Switch-A.is-1 (out-switch-A (fed s))

pub returns-in-Switch-B : goal.returns-in-Switch-B
returns-in-Switch-B c =
    let s = (goal.at.returns-in-Switch-B c).After-kind in
    at_port s c.in-Switch-B.is-0 c.in-Switch-B.is-1 (subst (λ (m : ℕ). Out s Switch B (bit_and c.args.a m)) (sym c.mask-in-Switch-B.ensures) (out-switch-B (fed s)))

pub returns-in-Switch-C : goal.returns-in-Switch-C
returns-in-Switch-C c =
    let s = (goal.at.returns-in-Switch-C c).After-kind in
    at_port s c.in-Switch-C.is-0 c.in-Switch-C.is-1 (subst (λ (m : ℕ). Out s Switch C (bit_xor c.args.a (bit_and c.args.a m))) (sym c.mask-in-Switch-C.ensures) (out-switch-C (fed s)))

pub returns-in-Merge-default : goal.returns-in-Merge-default
returns-in-Merge-default c =
    let s = (goal.at.returns-in-Merge-default c).After-kind in
    at_kind s c.in-Merge-default.is-0 (out-merge (fed s) c.args.port)
