use Rattle.netlist.proofs.Whole.{accepted_fabric}
use Rattle.verdicts.proofs.Tests.{testable}
use Rattle.stepping.proofs.run_answer.Goals as goal

pub run_verdict-requires : goal.run_verdict-requires
run_verdict-requires c = rw (c.draft.ensures.0, c.draft.ensures.1) (record { few = testable (accepted_fabric c.in_ok-netlist.field-0.wires) })
