use Rattle.std.proofs.Common.{◌≡◌}
use Rattle.netlist.specs.View.{facts_of}
use Rattle.steps.proofs.Steps.{Running}
use Rattle.steps.proofs.run_steps.Given as goal

abbrev pub invariant-loop-step : goal.invariant-loop-step
invariant-loop-step l =
    (goal.iterator-loop-step).can_next l.step-iterator × (goal.iterator-loop-step).is_finite l.step-iterator
    × (l.step-iterator.size ≡ l.fabric.netlist.size.components)
    × Running (facts_of l.fabric.netlist) l.initial.state l.choices l.state l.step-iterator.rest.now
