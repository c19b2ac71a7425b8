use Rattle.netlist.specs.View.{drawn}
use Rattle.signals.specs.Channels.{signal_in}
use Rattle.cells.proofs.Cells.{Laid}
use Rattle.state.specs.Step.{next_at}
use Rattle.state.proofs.update.Given as goal

abbrev pub invariant-loop-k : goal.invariant-loop-k
invariant-loop-k l = Laid (next_at (drawn l.draft) l.initial.state l.choices (signal_in l.channels)) l.draft.size.components l.initial.state l.state l.k
