use mathlib.Core.Path.{ap, ◌∙◌}
use native.Mathlib.Omega.{arith}
use mir.Syntax.{w64}
use mir.ValLaws.{to_z-of_z}
use Rattle.std.proofs.Common.{rules, Ok, FitsSigned}
use Rattle.std.proofs.lemmas.Result.{err_from_is_err_and}
use Rattle.integers.proofs.Tables.{summed-zeros}
use Rattle.component.specs.Limits.{most_entries}
use Rattle.netlist.specs.View.{facts_of}
use Rattle.netlist.proofs.Whole.{accepted_netlist}
use Rattle.flows.specs.Verdict.{judged}
use Rattle.judgement.proofs.Judged.{giving-refused, giving-given, refused-back, given-back, within-refused, within-room-for}
use Rattle.judgement.proofs.judge_answer.Goals as goal

pub weigh-requires : goal.weigh-requires
weigh-requires c =
    record { weights_empty = summed-zeros most_entries }

pub returns-in_err-constant : goal.returns-in_err-constant
returns-in_err-constant c =
    let p = err_from_is_err_and c.from_residual.result c.from_residual.ensures.1 in
    rw (p.1, p.2) (giving-refused _ (within-refused (facts_of c.args.coloured.now.netlist) c.args.proposal.now (c.args.space) (refused-back (judged (facts_of c.args.coloured.now.netlist) c.args.proposal.now) _ c.in_err-constant.ensures.constant)))

pub overflow_mul-coloured : goal.overflow_mul-coloured
overflow_mul-coloured c =
    record { fits = omega (arith, (accepted_netlist c.args.coloured.now.netlist.accepted).facts.few_rows) }

pub returns-in_err-room_for : goal.returns-in_err-room_for
returns-in_err-room_for c =
    let p = err_from_is_err_and c.from_residual-in_err-room_for.result c.from_residual-in_err-room_for.ensures.1 in
    rw (p.1, p.2) (giving-refused _ (within-room-for (facts_of c.args.coloured.now.netlist) c.args.proposal.now (c.args.space) (given-back (judged (facts_of c.args.coloured.now.netlist) c.args.proposal.now) c.in_ok-constant.ensures.constant).0 c.in_err-room_for.ensures))

pub returns : goal.returns
returns c =
    let q = (given-back (judged (facts_of c.args.coloured.now.netlist) c.args.proposal.now) c.in_ok-constant.ensures.constant) in
    let fits : FitsSigned w64 c.in_ok-constant.constant = search rules in
    ap Ok (to_z-of_z w64 c.in_ok-constant.constant fits ∙ q.1) ∙ giving-given (within-room-for (facts_of c.args.coloured.now.netlist) c.args.proposal.now (c.args.space) q.0 c.in_ok-room_for.ensures)
