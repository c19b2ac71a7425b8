use Rattle.netlist.proofs.Whole.{accepted_fabric}
use Rattle.stepping.proofs.start_answer.Goals as goal

pub start_verdict-requires : goal.start_verdict-requires
start_verdict-requires c = (accepted_fabric c.in_ok-netlist.field-0.wires).few_rows
