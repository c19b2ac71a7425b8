use Rattle.std.proofs.Common.{◌∙◌}
use Rattle.netlist.specs.View.{facts_of}
use Rattle.state.proofs.Bounds.{steps-ready}
use Rattle.state.proofs.Updatable.{updatable}
use Rattle.state.proofs.Step.{next-from}
use Rattle.steps.proofs.Steps.{along-steps}
use Rattle.steps.proofs.step_along.Goals as goal

pub evaluate-requires-clause-ready : goal.evaluate-requires-clause-ready
evaluate-requires-clause-ready c =
    let a = c.args in
    steps-ready (facts_of a.netlist.now) _ _ a.state.now a.choices.now (along-steps c.requires.along) c.requires.along.planned

pub update-requires-clause-updatable : goal.update-requires-clause-updatable
update-requires-clause-updatable c =
    let a = c.args in
    rw (c.draft.ensures.0, c.draft.ensures.1) (updatable (facts_of a.netlist.now) _ _ a.state.now a.choices.now (along-steps c.requires.along) _ _ c.evaluate.ensures)

pub returns-clause-state : goal.returns-clause-state
returns-clause-state c =
    let a = c.args in
    rw (c.draft.ensures.0, c.draft.ensures.1) at c.update.ensures ∙ next-from (facts_of a.netlist.now) _ _ a.state.now a.choices.now (along-steps c.requires.along) _ _ c.evaluate.ensures
