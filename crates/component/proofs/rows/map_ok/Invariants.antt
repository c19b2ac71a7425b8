use Rattle.std.proofs.Common.{◌≡◌, get_or}
use Rattle.component.proofs.Row.{entries_ok}
use Rattle.component.proofs.rows.map_ok.Given as goal

abbrev pub invariant-loop-d : goal.invariant-loop-d
invariant-loop-d l = l.good ≡ entries_ok l.used l.n (λ i. get_or l.entries i 0) l.d
