use Rattle.std.proofs.Common.{◌∙◌, refl, arith}
use Rattle.plan.proofs.Plan.{is-planned}
use Rattle.steps.proofs.Steps.{steps-along, run-start, run-ready, run_more, run_end}
use Rattle.steps.proofs.run_steps.Goals as goal

pub loop-step-init : goal.loop-step-init
loop-step-init c =
    let e = c.into_iter-step-iterator.ensures.into_iter_gives in
    let s = c.chunks_exact-step-items.ensures in
    rw (e, s.size, s.rest) (omega (arith, c.requires.accepted.some_rows), _, refl, run-start c.requires)

pub step_along-requires-clause-along : goal.step_along-requires-clause-along
step_along-requires-clause-along c =
    let l = c.loop-step in
    let few = c.requires.accepted.few_channels in
    let s = c.in-Some.ensures.steps.1 in
    steps-along (run-ready c.requires l.invariant.3 _ _ s.0 (s.1 ∙ l.invariant.2)) (is-planned c.requires.accepted _ _ (omega (arith, few)) c.lay_out.ensures)

pub loop-step-preserved : goal.loop-step-preserved
loop-step-preserved c =
    let l = c.loop-step in
    let t = c.in-Some.ensures.steps in
    let s = t.1 in
    (omega (arith, t.0, l.invariant.0), _, t.0 ∙ l.invariant.2, rw c.step_along.ensures.state (run_more c.requires l.invariant.3 _ _ s.0 (s.1 ∙ l.invariant.2)))

pub returns : goal.returns
returns c =
    let l = c.loop-step in
    run_end l.invariant.3 (omega (arith, c.in-None.ensures.steps.1.0, l.invariant.2))
