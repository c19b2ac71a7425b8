use Rattle.netlist.proofs.Whole.{accepted_fabric}
use Rattle.start.proofs.Startable.{startable}
use Rattle.stepping.proofs.start.Goals as goal

pub start_fabric-requires-clause-few : goal.start_fabric-requires-clause-few
start_fabric-requires-clause-few c = (accepted_fabric c.in_ok-netlist.field-0.wires).few_rows

pub start_fabric-requires-clause-startable : goal.start_fabric-requires-clause-startable
start_fabric-requires-clause-startable c = startable _ _ _ (accepted_fabric c.in_ok-netlist.field-0.wires) c.args.state.now
