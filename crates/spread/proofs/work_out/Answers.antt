use mathlib.Core.Path.{refl}
use native.Mathlib.Omega.{arith}
use Rattle.netlist.specs.View.{facts_of}
use Rattle.netlist.proofs.Whole.{accepted_netlist}
use Rattle.spread.proofs.WorkInTurn.{settled_none, set-bytes-in-turn}
use Rattle.spread.proofs.work_out.Goals as goal

pub loop-k-init : goal.loop-k-init
loop-k-init c = (omega arith, settled_none (facts_of c.args.netlist.now) refl c.new.ensures c.find_inputs.ensures.long c.find_inputs.ensures.some)

pub returns : goal.returns
returns c =
    let l = c.loop-k-2 in
    set-bytes-in-turn (accepted_netlist c.args.netlist.now.accepted).facts l.invariant.1 (λ k m. l.invariant.2 k (omega (arith, m, c.loop-k-2-test.false)))
