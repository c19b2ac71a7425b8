use mathlib.Core.Path.{sym, ap₂, ◌∙◌}
use native.Mathlib.Omega.{arith}
use Prim.Native.Nat.{◌^◌}
use Rattle.integers.specs.Tables.{Near}
use Rattle.std.proofs.lemmas.Result.{err_from_is_err_and}
use Rattle.integers.proofs.Tables.{summed-zeros}
use Rattle.component.specs.Limits.{most_entries, most_flows}
use Rattle.netlist.specs.View.{facts_of}
use Rattle.netlist.proofs.Whole.{accepted_netlist}
use Rattle.flows.specs.Verdict.{giving}
use Rattle.sums.proofs.Sums.{counts-near}
use Rattle.judgement.proofs.Judged.{giving-refused, if-ok, length-short, judged-length, judged-term, sums-judged, constant-is, all-weighed}
use Rattle.judgement.proofs.weigh.Goals as goal
use Rattle.judgement.proofs.weigh.Goals.{In_ok-add_terms}

pub returns-then-bad_length-clause-constant : goal.returns-then-bad_length-clause-constant
returns-then-bad_length-clause-constant c = giving-refused _ (judged-length (facts_of c.args.coloured.now.netlist) c.args.proposal.now (sym c.bad_length.ensures ∙ c.if-bad_length.true))

pub add_terms-requires-clause-sums_empty : goal.add_terms-requires-clause-sums_empty
add_terms-requires-clause-sums_empty c = summed-zeros most_flows

pub returns-in_err-add_terms-clause-constant : goal.returns-in_err-add_terms-clause-constant
returns-in_err-add_terms-clause-constant c =
    let p = err_from_is_err_and c.from_residual.result c.from_residual.ensures.1 in
    rw (p.1, p.2) (giving-refused _ (judged-term (facts_of c.args.coloured.now.netlist) c.args.proposal.now (sym c.bad_length.ensures ∙ c.if-bad_length.false) c.in_err-add_terms.ensures.verdict))

-- the weights of all terms are near 0
weights-near : (c : In_ok-add_terms) → Near most_entries (2 ^ 40) c.add_terms.new.weights
weights-near c =
    let p = c.args.proposal.now in
    counts-near (facts_of c.args.coloured.now.netlist) (accepted_netlist c.args.coloured.now.netlist.accepted) p (omega (arith, length-short p (sym c.bad_length.ensures ∙ c.if-bad_length.false))) c.in_ok-add_terms.ensures.sums

pub invariant_of-judge_sums : goal.invariant_of-judge_sums
invariant_of-judge_sums c = record { near = weights-near (goal.at.invariant_of-judge_sums c).In_ok-add_terms }

pub returns-clause-constant : goal.returns-clause-constant
returns-clause-constant c =
    let f = facts_of c.args.coloured.now.netlist in
    let h = accepted_netlist c.args.coloured.now.netlist.accepted in
    let added = c.in_ok-add_terms.ensures.sums in
    c.judge_sums.ensures
    ∙ ap₂ giving (sums-judged f h c.args.proposal.now added (sym c.bad_length.ensures ∙ c.if-bad_length.false) c.in_ok-add_terms.ensures.verdict) (constant-is f h c.args.proposal.now added)

pub returns-clause-weights : goal.returns-clause-weights
returns-clause-weights c =
    let f = facts_of c.args.coloured.now.netlist in
    if-ok c.judge_sums.result (all-weighed f (accepted_netlist c.args.coloured.now.netlist.accepted) c.args.proposal.now c.in_ok-add_terms.ensures.sums (weights-near (goal.at.returns-clause-weights c).In_ok-add_terms))
