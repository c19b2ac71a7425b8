use Rattle.std.proofs.Common.{ap, ◌∙◌}
use Rattle.refusals.specs.Refusals.{outcome_number}
use Rattle.checking.proofs.Checking.{check-bytes}
use Rattle.kit.proofs.Given.{number_given}
use Rattle.kit.proofs.fabric_check.Goals as goal

pub returns : goal.returns
returns c = (c.outcome_number.ensures ∙ ap outcome_number c.check.ensures.constant ∙ number_given _ _, c.check.ensures.weights ∙ check-bytes _ _ _)
