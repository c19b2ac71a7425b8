use Rattle.good.proofs.Cells.{all-turn, all_none}
use Rattle.good.proofs.every.Goals as goal

pub loop-k-init : goal.loop-k-init
loop-k-init g c = λ test same. all_none test

pub loop-k-preserved : goal.loop-k-preserved
loop-k-preserved g c = λ test same. all-turn c.loop-k.k test _ _ (c.loop-k.invariant test same) (same c.loop-k.k _ c.loop-k-test.true c.passes-good.ensures)
