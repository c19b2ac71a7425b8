use Rattle.std.proofs.Common.{ℕ, ◌≡◌, ◌<◌, length}
use Rattle.order.specs.Graph.{dep, most_signals}
use Rattle.wiring.specs.Signals.{dependence}
use Rattle.wiring.proofs.dependences.Given as goal

abbrev pub invariant-loop-s : goal.invariant-loop-s
invariant-loop-s l = record {
  long : length l.deps ≡ most_signals;
  at : (t j : ℕ) → t < l.s → j < 4 → dep l.deps t j ≡ dependence l.table.bytes.now l.table.rows t j;
}
