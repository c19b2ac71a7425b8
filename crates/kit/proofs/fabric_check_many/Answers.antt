use Rattle.std.proofs.Common.{ap, ◌∙◌}
use Rattle.refusals.specs.Refusals.{outcome_number}
use Rattle.many.proofs.Many.{bytes-after}
use Rattle.kit.proofs.fabric_check_many.Goals as goal

pub returns : goal.returns
returns c = (c.outcome_number.ensures ∙ ap outcome_number c.check_many.ensures.answer, c.check_many.ensures.results ∙ bytes-after _ _ _)
