use mathlib.Core.Path.{◌≡◌, refl, sym, ap, ◌∙◌}
use mathlib.Core.Bool.{false}
use mathlib.Core.List.{List}
use Prim.Native.Nat.{ℕ, ◌+◌, ◌*◌}
use native.Mathlib.Omega.{arith}
use mir.Syntax.{w64}
use mir.ValLaws.{to_z-of_z}
use Rattle.std.proofs.Common.{rules, Ok, FitsSigned}
use Rattle.std.proofs.lemmas.Result.{err_from_is_err_and}
use Rattle.integers.specs.Sign.{above_zero, below_zero}
use Rattle.component.specs.Limits.{most_entries}
use Rattle.netlist.specs.Netlist.{Netlist}
use Rattle.netlist.specs.Accepted.{AcceptedNetlist}
use Rattle.netlist.specs.View.{facts_of}
use Rattle.netlist.proofs.Whole.{accepted_netlist}
use Rattle.flows.specs.Flows.{weight, constant}
use Rattle.flows.specs.Verdict.{judged, judged_within}
use Rattle.headroom.specs.Headroom.{owed}
use Rattle.headroom.proofs.Headroom.{headroom-natural}
use Rattle.judgement.specs.Judged.{weight_at, weighing_of}
use Rattle.judgement.specs.declared.Weighing.{Weighing}
use Rattle.judgement.proofs.Judged.{giving-refused, giving-given, refused-back, given-back, within-given}
use Rattle.ceiling.specs.Ceiling.{no_place}
use Rattle.ceiling.proofs.Answer.{judged-first, place-tests, above-none, above-some, value-is, place-of, no-entry, an-entry, weight-there, owed-there}
use Rattle.ceiling.proofs.ceiling_of.Goals as goal
use Rattle.ceiling.proofs.ceiling_of.Goals.{Start, In_ok-weighing}

module _ (c : Start) where
  abbrev f : Netlist
  f = facts_of c.args.netlist.now

  abbrev p : List ℕ
  p = c.args.proposal.now

  abbrev q : ℕ
  q = c.args.queue

  abbrev d : ℕ
  d = c.args.colour

  accepted : AcceptedNetlist (facts_of c.args.netlist.now)
  accepted = accepted_netlist c.args.netlist.now.accepted

  roomy : judged_within f p most_entries ≡ judged f p
  roomy = within-given f p most_entries (omega (arith, accepted.facts.few_rows))

-- an accepted proposal, and a place of its fabric
module _ (c : In_ok-weighing) where
  netlist : Netlist
  netlist = facts_of c.args.netlist.now

  ok : judged (facts_of c.args.netlist.now) c.args.proposal.now ≡ Ok tt
  ok = sym (given-back (judged (facts_of c.args.netlist.now) c.args.proposal.now) (rw c.from-coloured.ensures.0 at c.in_ok-weighing.ensures.value)).0

  said : c.in_ok-weighing.weighing ≡ weighing_of (facts_of c.args.netlist.now) c.args.proposal.now c.in-Some.entry
  said = (given-back (judged (facts_of c.args.netlist.now) c.args.proposal.now) (rw c.from-coloured.ensures.0 at c.in_ok-weighing.ensures.value)).1

  entry-is : (no_place (facts_of c.args.netlist.now) c.args.queue c.args.colour ≡ false) × (c.in-Some.entry ≡ 8 * c.args.queue + c.args.colour)
  entry-is = an-entry (facts_of c.args.netlist.now) (accepted_netlist c.args.netlist.now.accepted) c.args.queue c.args.colour c.in-Some.ensures

  weight_is : c.in_ok-weighing.weighing.weight ≡ above_zero (weight (facts_of c.args.netlist.now) c.args.proposal.now c.args.queue c.args.colour)
  unfolding weighing_of
  weight_is =
      ap (λ (w : Weighing). w.weight) said ∙ ap (weight_at (facts_of c.args.netlist.now) c.args.proposal.now) entry-is.1
      ∙ weight-there (facts_of c.args.netlist.now) (accepted_netlist c.args.netlist.now.accepted) c.args.queue c.args.colour c.args.proposal.now entry-is.0

  owed-is : (c.in_ok-weighing.weighing.weight ≡ 0 → ⊥) → c.in_ok-weighing.weighing.owed ≡ owed (facts_of c.args.netlist.now) c.args.proposal.now
  unfolding weighing_of
  owed-is n = owed-there (owed (facts_of c.args.netlist.now) c.args.proposal.now) (ap (λ (w : Weighing). w.owed) said) (λ z. n (ap (λ (w : Weighing). w.weight) said ∙ z))

  constant-is : c.in_ok-weighing.weighing.constant ≡ constant (facts_of c.args.netlist.now) c.args.proposal.now
  unfolding weighing_of
  constant-is = ap (λ (w : Weighing). w.constant) said

pub returns-in_err-judge_answer : goal.returns-in_err-judge_answer
returns-in_err-judge_answer c =
    let start = (goal.at.returns-in_err-judge_answer c).Start in
    let e = err_from_is_err_and c.from_residual.result c.from_residual.ensures.1 in
    rw (e.1, e.2) (giving-refused _ (judged-first (f start) (p start) (q start) (d start) (refused-back (judged_within (f start) (p start) most_entries) _ (rw c.from-coloured.ensures.0 at c.in_err-judge_answer.ensures) ∙ roomy start)))

pub returns-in_default : goal.returns-in_default
returns-in_default c =
    let start = (goal.at.returns-in_default c).Start in
    let fine = sym (roomy start) ∙ sym (given-back (judged_within (f start) (p start) most_entries) (rw c.from-coloured.ensures.0 at c.in_ok-judge_answer.ensures)).0 in
    giving-refused _ (place-tests (f start) (p start) (q start) (d start) fine (no-entry (f start) (accepted start) (q start) (d start) c.in_default.ensures) refl)

pub returns-in_err-weighing : goal.returns-in_err-weighing
returns-in_err-weighing c =
    let start = (goal.at.returns-in_err-weighing c).Start in
    let e = err_from_is_err_and c.from_residual-in_err-weighing.result c.from_residual-in_err-weighing.ensures.1 in
    rw (e.1, e.2) (giving-refused _ (judged-first (f start) (p start) (q start) (d start) (refused-back (judged (f start) (p start)) _ (rw c.from-coloured.ensures.0 at c.in_err-weighing.ensures.value))))

pub returns-then-weighing-eq0 : goal.returns-then-weighing-eq0
returns-then-weighing-eq0 c =
    let start = (goal.at.returns-then-weighing-eq0 c).Start in
    let later = (goal.at.returns-then-weighing-eq0 c).In_ok-weighing in
    giving-refused _ (place-tests (f start) (p start) (q start) (d start) (ok later) (entry-is later).0 (above-none (f start) (p start) (q start) (d start) (weight_is later) (omega arith)))

pub raise-left-requires : goal.raise-left-requires
raise-left-requires c =
    let start = (goal.at.raise-left-requires c).Start in
    let later = (goal.at.raise-left-requires c).In_ok-weighing in
    let fits : FitsSigned w64 c.in_ok-weighing.weighing.constant = search rules in
    let e = to_z-of_z w64 c.in_ok-weighing.weighing.constant fits ∙ constant-is later in
    (omega (arith, headroom-natural (f start) (p start) (accepted start), ap below_zero e, ap above_zero e, owed-is later (λ z. omega arith)), c.in_ok-weighing.ensures.near)

pub capacity-most-requires : goal.capacity-most-requires
capacity-most-requires c =
    let start = (goal.at.capacity-most-requires c).Start in
    omega (arith, (place-of (f start) (q start) (d start) (entry-is (goal.at.capacity-most-requires c).In_ok-weighing).0).0, c.args.netlist.now.same)

pub returns : goal.returns
returns c =
    let start = (goal.at.returns c).Start in
    let later = (goal.at.returns c).In_ok-weighing in
    let fits : FitsSigned w64 c.in_ok-weighing.weighing.constant = search rules in
    let e = to_z-of_z w64 c.in_ok-weighing.weighing.constant fits ∙ constant-is later in
    ap Ok (c.bounded.ensures ∙ value-is (f start) (p start) (q start) (d start) e (owed-is later (λ z. omega arith)) c.raise-left.ensures (weight_is later) c.capacity-most.ensures)
    ∙ giving-given (place-tests (f start) (p start) (q start) (d start) (ok later) (entry-is later).0 (above-some (f start) (p start) (q start) (d start) (weight_is later) (λ z. omega arith)))
