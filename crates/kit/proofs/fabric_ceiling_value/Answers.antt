use Rattle.std.proofs.Common.{ap, ◌∙◌}
use Rattle.std.specs.Result.{result_unwrap_or}
use Rattle.ceiling.specs.Ceiling.{ceiling_value}
use Rattle.kit.proofs.Given.{ceiling_given}
use Rattle.kit.proofs.fabric_ceiling_value.Goals as goal

pub returns : goal.returns
unfolding ceiling_value
returns c = c.unwrap_or.ensures ∙ ap (λ r. result_unwrap_or r 0) c.ceiling.ensures ∙ ceiling_given _ _ _ _ _
