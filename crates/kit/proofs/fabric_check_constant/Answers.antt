use Rattle.std.proofs.Common.{ap, ◌∙◌}
use Rattle.std.specs.Result.{result_unwrap_or}
use lib.IntN.{pos}
use mir.Syntax.{w64}
use mir.ValLaws.{to_z-of_z}
use Rattle.checking.specs.Check.{check_constant}
use Rattle.kit.proofs.Given.{constant_given}
use Rattle.kit.proofs.fabric_check_constant.Goals as goal

pub returns : goal.returns
unfolding check_constant
returns c =
    to_z-of_z w64 c.unwrap_or.result (record { sfits = c.unwrap_or.type_inv })
    ∙ c.unwrap_or.ensures ∙ ap (λ r. result_unwrap_or r (pos 0)) c.check_answer.ensures ∙ constant_given _ _ _
