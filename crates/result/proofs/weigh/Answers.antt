use mathlib.Core.Path.{sym, ap, ◌∙◌}
use Prim.Native.Nat.{◌*◌, ◌/◌}
use lib.ListN.{length}
use Rattle.std.proofs.Common.{Result}
use Rattle.refusals.specs.declared.Refusal.{Refusal}
use Rattle.netlist.specs.View.{facts_of}
use Rattle.flows.specs.Flows.{constant}
use Rattle.flows.specs.Verdict.{judged, giving}
use Rattle.judgement.specs.Judged.{written_by}
use Rattle.judgement.proofs.Judged.{within-given}
use Rattle.result.proofs.Result.{room-entries, weights-accepted, weights-refused}
use Rattle.result.proofs.weigh.Goals as goal

pub returns-then-is_err-clause-answer : goal.returns-then-is_err-clause-answer
returns-then-is_err-clause-answer g c =
    let f = facts_of c.args.coloured.now.netlist in
    let given = within-given f c.args.block.now (length c.args.out.now / g.E.Entry.WIDTH) (room-entries g.E.Entry.WIDTH (8 * f.components) (length c.args.out.now) g.met.E.Entry.some c.requires) in
    c.judge-outcome.ensures.constant ∙ ap (λ (v : Result Unit Refusal). giving v (constant f c.args.block.now)) given

pub returns-else-is_err-clause-answer : goal.returns-else-is_err-clause-answer
returns-else-is_err-clause-answer g c =
    let f = facts_of c.args.coloured.now.netlist in
    let given = within-given f c.args.block.now (length c.args.out.now / g.E.Entry.WIDTH) (room-entries g.E.Entry.WIDTH (8 * f.components) (length c.args.out.now) g.met.E.Entry.some c.requires) in
    c.judge-outcome.ensures.constant ∙ ap (λ (v : Result Unit Refusal). giving v (constant f c.args.block.now)) given

pub returns-then-is_err-clause-weights : goal.returns-then-is_err-clause-weights
returns-then-is_err-clause-weights g c =
    let f = facts_of c.args.coloured.now.netlist in
    let p = c.args.block.now in
    let law = g.met.E.Entry in
    let given = within-given f p (length c.args.out.now / g.E.Entry.WIDTH) (room-entries g.E.Entry.WIDTH (8 * f.components) (length c.args.out.now) law.some c.requires) in
    weights-refused g.E.Entry.WIDTH g.E.Entry.memory g.E.Entry.filled law.is f p (judged f p) c.args.out.now (c.judge-outcome.ensures.constant ∙ ap (λ (v : Result Unit Refusal). giving v (constant f p)) given) (sym c.if-is_err.ensures.value)
    (c.judge-outcome.ensures.weights ∙ ap (λ (v : Result Unit Refusal). written_by g.E.Entry.filled v f p c.args.out.now) given) c.clear.ensures

pub returns-else-is_err-clause-weights : goal.returns-else-is_err-clause-weights
returns-else-is_err-clause-weights g c =
    let f = facts_of c.args.coloured.now.netlist in
    let p = c.args.block.now in
    let law = g.met.E.Entry in
    let given = within-given f p (length c.args.out.now / g.E.Entry.WIDTH) (room-entries g.E.Entry.WIDTH (8 * f.components) (length c.args.out.now) law.some c.requires) in
    weights-accepted g.E.Entry.WIDTH g.E.Entry.memory g.E.Entry.filled law.is f p (judged f p) c.args.out.now (c.judge-outcome.ensures.constant ∙ ap (λ (v : Result Unit Refusal). giving v (constant f p)) given) (sym c.if-is_err.ensures.value)
    (c.judge-outcome.ensures.weights ∙ ap (λ (v : Result Unit Refusal). written_by g.E.Entry.filled v f p c.args.out.now) given)
