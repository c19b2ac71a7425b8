use Rattle.netlist.specs.View.{drawn}
use Rattle.cells.specs.Start.{start_at}
use Rattle.cells.proofs.Cells.{Laid}
use Rattle.start.proofs.write_start.Given as goal

abbrev pub invariant-loop-k : goal.invariant-loop-k
invariant-loop-k l = Laid (start_at (drawn l.fn.draft)) l.fn.draft.size.components l.initial.state l.state l.k
