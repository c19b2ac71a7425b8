use mir.Syntax.{w64}
use mir.ValLaws.{to_z-of_z}
use Rattle.judgement.proofs.Weighings.{weighing-none, weighing-some}
use Rattle.judgement.proofs.asked.Goals as goal

pub returns-then-weight-eq0-clause-value : goal.returns-then-weight-eq0-clause-value
returns-then-weight-eq0-clause-value c = weighing-none _ c.args.weights.now.entries.now c.args.u (to_z-of_z w64 c.args.constant c.ranges.constant) c.weight_of-weight.ensures c.if-weight-eq0.true

pub returns-clause-value : goal.returns-clause-value
returns-clause-value c = weighing-some _ c.args.weights.now.entries.now c.args.u (to_z-of_z w64 c.args.constant c.ranges.constant) c.weight_of-weight.ensures c.if-weight-eq0.false c.owed_by_all.ensures.value
