use Rattle.std.proofs.Common.{◌≡◌, ◌-◌, get_or, arith}
use Rattle.wiring.specs.Signals.{end_of}
use Rattle.netlist.specs.View.{facts_of}
use Rattle.netlist.proofs.Whole.{accepted_fabric}
use Rattle.plan.specs.Plan.{planned}
use Rattle.plan.proofs.Plan.{stands}
use Rattle.plan.proofs.place_at.Goals as goal

pub bounds-fabric-signal : goal.bounds-fabric-signal
bounds-fabric-signal c =
    let fabric = c.args.fabric.now in
    let a = accepted_fabric fabric.wires in
    stands fabric.ends.now _ _ (a.wires.matched.at _ (a.wires.sorted.below c.args.i c.requires))

pub returns : goal.returns
unfolding planned
returns c =
    let fabric = c.args.fabric.now in
    let f = facts_of fabric.netlist in
    let a = accepted_fabric fabric.wires in
    let s = get_or fabric.order.now c.args.i 0 in
    let end : get_or fabric.ends.now s 0 - 1 ≡ end_of f.table f.components s = omega (arith, a.wires.matched.at s (a.wires.sorted.below c.args.i c.requires)) in
    rw (c.at.ensures, c.kind.ensures, c.from.ensures, c.port.ensures, c.port-2.ensures, c.port-3.ensures, end)
