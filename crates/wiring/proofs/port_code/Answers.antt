use Rattle.wiring.proofs.Ports.{ports, port-code}
use Rattle.wiring.proofs.port_code.Goals as goal

pub returns : goal.returns
unfolding ports
returns c = port-code c.args.kind c.args.port
