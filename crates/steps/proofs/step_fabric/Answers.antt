use Rattle.std.proofs.Common.{length}
use Rattle.netlist.proofs.Whole.{accepted_fabric}
use Rattle.steps.proofs.Accepted.{can-step}
use Rattle.steps.proofs.step_fabric.Goals as goal

pub take_step-requires-clause-step : goal.take_step-requires-clause-step
take_step-requires-clause-step c =
    (can-step c.args.state.now c.args.choices.now (accepted_fabric c.args.fabric.now.wires) (length c.args.moves.now) (rw (c.draft.ensures.0, c.draft.ensures.1) at c.step_verdict.ensures) c.in_ok-step_verdict.was).0
