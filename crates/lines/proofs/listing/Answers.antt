use Rattle.std.proofs.Common.{rules}
use Rattle.lines.specs.Listing.{listing}
use Rattle.lines.proofs.Text.{text_checked}
use Rattle.lines.proofs.listing.Goals as goal

pub returns : goal.returns
unfolding listing
returns c =
    let k = c.check-outcome.ensures in
    let text = text_checked c.first.result.now c.first-2.result.now k.constant k.weights (search rules) in
    search (rules, text)
