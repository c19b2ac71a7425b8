use mathlib.Core.Path.{◌≡◌, ap, sym, ◌∙◌}
use Prim.Native.Nat.{ℕ, ◌*◌, ◌/◌, ◌≤◌}
use native.Mathlib.Nat.{mul-le-mul_left}
use native.Mathlib.Omega.{arith}
use lib.ListN.{length, take}
use mir.Syntax.{w64}
use mir.ValLaws.{to_z-of_z}
use Rattle.std.proofs.Common.{rules, Ok, FitsSigned}
use Rattle.std.proofs.lemmas.List.{length-take-le}
use Rattle.std.proofs.lemmas.Result.{err_from_is_err_and}
use Rattle.integers.proofs.Tables.{summed-zeros}
use Rattle.refusals.specs.Room.{room_for}
use Rattle.refusals.proofs.Room.{room-space}
use Rattle.component.specs.Limits.{most_entries}
use Rattle.netlist.specs.View.{facts_of}
use Rattle.netlist.proofs.Whole.{accepted_netlist}
use Rattle.flows.specs.Verdict.{judged}
use Rattle.judgement.proofs.Judged.{giving-refused, giving-given, refused-back, given-back, within-refused, within-room-for, written-refused, written-given, first-entries}
use Rattle.judgement.proofs.judge.Goals as goal

pub weigh-requires : goal.weigh-requires
weigh-requires g c =
    record { weights_empty = summed-zeros most_entries }

pub returns-in_err-constant-clause-constant : goal.returns-in_err-constant-clause-constant
returns-in_err-constant-clause-constant g c =
    let p = err_from_is_err_and c.from_residual.result c.from_residual.ensures.1 in
    rw (p.1, p.2) (giving-refused _ (within-refused (facts_of c.args.coloured.now.netlist) c.args.proposal.now (length c.args.out.now / g.E.Entry.WIDTH) (refused-back (judged (facts_of c.args.coloured.now.netlist) c.args.proposal.now) _ c.in_err-constant.ensures.constant)))

pub returns-in_err-constant-clause-weights : goal.returns-in_err-constant-clause-weights
returns-in_err-constant-clause-weights g c =
    written-refused g.E.Entry.filled (facts_of c.args.coloured.now.netlist) c.args.proposal.now c.args.out.now (within-refused (facts_of c.args.coloured.now.netlist) c.args.proposal.now (length c.args.out.now / g.E.Entry.WIDTH) (refused-back (judged (facts_of c.args.coloured.now.netlist) c.args.proposal.now) _ c.in_err-constant.ensures.constant))

pub overflow_mul-entries : goal.overflow_mul-entries
overflow_mul-entries g c =
    record { fits = omega (arith, (accepted_netlist c.args.coloured.now.netlist.accepted).facts.few_rows) }

pub returns-in_err-room_for-clause-constant : goal.returns-in_err-room_for-clause-constant
returns-in_err-room_for-clause-constant g c =
    let p = err_from_is_err_and c.from_residual-in_err-room_for.result c.from_residual-in_err-room_for.ensures.1 in
    rw (p.1, p.2) (giving-refused _ (within-room-for (facts_of c.args.coloured.now.netlist) c.args.proposal.now (length c.args.out.now / g.E.Entry.WIDTH) (given-back (judged (facts_of c.args.coloured.now.netlist) c.args.proposal.now) c.in_ok-constant.ensures.constant).0 (c.in_err-room_for.ensures ∙ ap (λ (w : ℕ). room_for (length c.args.out.now / w) (8 * c.args.coloured.now.netlist.size.components)) c.WIDTH.ensures)))

pub returns-in_err-room_for-clause-weights : goal.returns-in_err-room_for-clause-weights
returns-in_err-room_for-clause-weights g c =
    written-refused g.E.Entry.filled (facts_of c.args.coloured.now.netlist) c.args.proposal.now c.args.out.now (within-room-for (facts_of c.args.coloured.now.netlist) c.args.proposal.now (length c.args.out.now / g.E.Entry.WIDTH) (given-back (judged (facts_of c.args.coloured.now.netlist) c.args.proposal.now) c.in_ok-constant.ensures.constant).0 (c.in_err-room_for.ensures ∙ ap (λ (w : ℕ). room_for (length c.args.out.now / w) (8 * c.args.coloured.now.netlist.size.components)) c.WIDTH.ensures))

pub write_entries-requires : goal.write_entries-requires
write_entries-requires g c =
    let n : ℕ = 8 * c.args.coloured.now.netlist.size.components in
    let room : n ≤ length c.args.out.now / g.E.Entry.WIDTH = room-space (length c.args.out.now / g.E.Entry.WIDTH) n (sym (c.in_ok-room_for.ensures ∙ ap (λ (w : ℕ). room_for (length c.args.out.now / w) n) c.WIDTH.ensures)) in
    let long : length (take n c.weigh.new.weights) ≡ n = length-take-le n c.weigh.new.weights (omega (arith, c.in_ok-constant.ensures.weights.near.long, (accepted_netlist c.args.coloured.now.netlist.accepted).facts.few_rows)) in
    rw (long) (omega (arith, g.met.E.Entry.some, mul-le-mul_left g.E.Entry.WIDTH room))

pub returns-clause-constant : goal.returns-clause-constant
returns-clause-constant g c =
    let q = (given-back (judged (facts_of c.args.coloured.now.netlist) c.args.proposal.now) c.in_ok-constant.ensures.constant) in
    let fits : FitsSigned w64 c.in_ok-constant.constant = search rules in
    ap Ok (to_z-of_z w64 c.in_ok-constant.constant fits ∙ q.1) ∙ giving-given (within-room-for (facts_of c.args.coloured.now.netlist) c.args.proposal.now (length c.args.out.now / g.E.Entry.WIDTH) q.0 (c.in_ok-room_for.ensures ∙ ap (λ (w : ℕ). room_for (length c.args.out.now / w) (8 * c.args.coloured.now.netlist.size.components)) c.WIDTH.ensures))

pub returns-clause-weights : goal.returns-clause-weights
returns-clause-weights g c =
    let f = (facts_of c.args.coloured.now.netlist) in
    c.write_entries.ensures
    ∙ first-entries g.E.Entry.filled g.met.E.Entry.same f c.args.proposal.now (omega (arith, (accepted_netlist c.args.coloured.now.netlist.accepted).facts.few_rows)) c.in_ok-constant.ensures.weights c.args.out.now
    ∙ written-given g.E.Entry.filled f c.args.proposal.now c.args.out.now (within-room-for f c.args.proposal.now (length c.args.out.now / g.E.Entry.WIDTH) (given-back (judged (facts_of c.args.coloured.now.netlist) c.args.proposal.now) c.in_ok-constant.ensures.constant).0 (c.in_ok-room_for.ensures ∙ ap (λ (w : ℕ). room_for (length c.args.out.now / w) (8 * c.args.coloured.now.netlist.size.components)) c.WIDTH.ensures))
