use Rattle.netlist.specs.View.{facts_of}
use Rattle.signals.proofs.Found.{Finding}
use Rattle.signals.proofs.evaluate.Given as goal

abbrev pub invariant-loop-place : goal.invariant-loop-place
invariant-loop-place l = Finding (facts_of l.netlist) l.places l.state l.choices l.initial.channels l.channels l.place-index
