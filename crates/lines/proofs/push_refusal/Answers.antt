use Rattle.std.proofs.Common.{arith}
use Rattle.std.proofs.lemmas.Grind.{common_steps}
use Rattle.lines.specs.Listing.{refusal_line}
use Rattle.lines.proofs.Decimal.{decimal-printed}
use Rattle.lines.proofs.push_refusal.Goals as goal

pub returns : goal.returns
unfolding refusal_line
returns c = grind (arith, common_steps, decimal-printed c.args.number (omega (arith, c.ranges.number)), decimal-printed c.args.place (omega (arith, c.ranges.place)))
