use Rattle.std.proofs.Common.{arith}
use Rattle.std.proofs.lemmas.Grind.{common_steps}
use Rattle.lines.specs.Listing.{sum_line}
use Rattle.lines.proofs.Decimal.{signed-printed}
use Rattle.lines.proofs.push_sum.Goals as goal

pub returns : goal.returns
unfolding sum_line
returns c = grind (arith, common_steps, signed-printed c.args.constant c.ranges.constant)
