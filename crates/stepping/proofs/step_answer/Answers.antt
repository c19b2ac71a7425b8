use Rattle.netlist.proofs.Whole.{accepted_fabric}
use Rattle.verdicts.proofs.Tests.{testable}
use Rattle.stepping.proofs.step_answer.Goals as goal

pub step_verdict-requires : goal.step_verdict-requires
step_verdict-requires c = rw (c.draft.ensures.0, c.draft.ensures.1) (record { few = testable (accepted_fabric c.in_ok-netlist.field-0.wires) })
