use Rattle.std.proofs.Common.{◌≡◌, Some, true, false, ◌<◌, sym, arith}
use Rattle.search.specs.First.{first}
use Rattle.search.proofs.Laws.{first_at, no_first}
use Rattle.search.proofs.first.Goals as goal

pub returns-then-passes : goal.returns-then-passes
returns-then-passes g c = λ test same.
    let inside : c.loop-k.k < c.args.n = omega arith in
    let found : first test c.args.n ≡ Some c.loop-k.k =
    first_at test _ _ inside (λ j h. sym (same j false (omega arith) (c.loop-k.invariant j h))) (sym (same _ true inside c.if-passes.ensures)) in
    grind (arith, found)

pub returns : goal.returns
returns g c = λ test same. sym (no_first test _ (λ j h. sym (same j false h (c.loop-k.invariant j (omega arith)))))
