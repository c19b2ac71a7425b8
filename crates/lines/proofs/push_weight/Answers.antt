use Rattle.std.proofs.Common.{◌≡◌, ◌++◌, ◌/◌, ◌%◌, arith, length-append}
use Rattle.std.proofs.lemmas.Grind.{common_steps}
use Rattle.lines.specs.Listing.{weight_line}
use Rattle.lines.proofs.Decimal.{decimal-printed, signed-printed}
use Rattle.lines.proofs.Lines.{line-short}
use Rattle.lines.proofs.push_weight.Goals as goal

pub returns : goal.returns
unfolding weight_line
returns c =
    let line = weight_line c.args.entry c.args.weight in
    let place = decimal-printed (c.args.entry / 8) (omega (arith, c.requires.0)) in
    let colour = decimal-printed (c.args.entry % 8) (omega arith) in
    let weight = signed-printed c.args.weight c.ranges.weight in
    let bytes : c.push-2.new.self.bytes ≡ c.args.text.now.bytes ++ line = grind (arith, common_steps, place, colour, weight) in
    record { bytes = bytes; few = rw (bytes, length-append) (omega (arith, line-short c.args.entry c.args.weight c.requires.0)) }
