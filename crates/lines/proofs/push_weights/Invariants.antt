use Rattle.std.proofs.Common.{length, get_or, ◌≡◌, ◌*◌, ◌≤◌, pos}
use Rattle.lines.specs.Listing.{weight_lines}
use Rattle.lines.proofs.push_weights.Given as goal

abbrev pub invariant-loop-entry : goal.invariant-loop-entry
invariant-loop-entry l =
    record { bytes : l.text.bytes ≡ weight_lines l.entry (λ u. get_or l.weights u (pos 0)); few : length l.text.bytes ≤ 30 * l.entry }
