use Rattle.netlist.proofs.Whole.{accepted_fabric}
use Rattle.steps.proofs.Accepted.{can-run}
use Rattle.steps.proofs.run_fabric.Goals as goal

pub run_steps-requires : goal.run_steps-requires
run_steps-requires c =
    can-run c.args.state.now c.args.choices.now (accepted_fabric c.args.fabric.now.wires) (rw (c.draft.ensures.0, c.draft.ensures.1) at c.run_verdict.ensures) c.in_ok-run_verdict.was
