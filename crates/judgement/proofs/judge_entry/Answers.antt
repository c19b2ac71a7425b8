use mathlib.Core.Path.{ap, ◌∙◌}
use lib.IntN.{ℤ}
use mir.Syntax.{w64}
use mir.ValLaws.{to_z-of_z}
use Rattle.std.proofs.Common.{rules, Ok, FitsSigned}
use Rattle.integers.proofs.Tables.{summed-zeros}
use Rattle.component.specs.Limits.{most_entries}
use Rattle.netlist.specs.View.{facts_of}
use Rattle.netlist.proofs.Whole.{accepted_netlist}
use Rattle.flows.specs.Verdict.{judged}
use Rattle.judgement.specs.Judged.{weighing_in}
use Rattle.judgement.proofs.Judged.{giving-given, given-back}
use Rattle.judgement.proofs.Weighings.{weighing-is}
use Rattle.judgement.proofs.judge_entry.Goals as goal

pub weigh-requires : goal.weigh-requires
weigh-requires c = record { weights_empty = summed-zeros most_entries }

pub returns-clause-value : goal.returns-clause-value
returns-clause-value c =
    let f = facts_of c.args.coloured.now.netlist in
    let q = given-back (judged f c.args.proposal.now) c.in_ok-constant.ensures.constant in
    let fits : FitsSigned w64 c.in_ok-constant.constant = search rules in
    ap Ok (c.asked.ensures.value ∙ ap (λ (k : ℤ). weighing_in k f c.weigh.new.weights c.args.u) (to_z-of_z w64 c.in_ok-constant.constant fits ∙ q.1)
    ∙ weighing-is f c.args.proposal.now (accepted_netlist c.args.coloured.now.netlist.accepted).facts.few_colours c.in_ok-constant.ensures.weights c.args.u)
    ∙ giving-given q.0
