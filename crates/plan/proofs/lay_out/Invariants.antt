use Rattle.std.proofs.Common.{◌≡◌, ◌++◌, drop}
use Rattle.digits.specs.UpTo.{up_to}
use Rattle.netlist.specs.View.{facts_of}
use Rattle.plan.specs.Plan.{planned}
use Rattle.plan.proofs.lay_out.Given as goal

abbrev pub invariant-loop-i : goal.invariant-loop-i
invariant-loop-i l = l.places ≡ up_to l.i (planned (facts_of l.fabric.netlist) l.fabric.order.now) ++ drop l.i l.initial.places
