use Rattle.std.proofs.Common.{rules, sym, ◌∙◌, arith}
use Rattle.search.proofs.Laws.{first_least}
use Rattle.leftover.proofs.Leftover.{left_here, found-in, none-found}
use Rattle.leftover.proofs.lowest_in.Goals as goal

pub returns-in_err-i : goal.returns-in_err-i
returns-in_err-i c =
    let found = c.first.ensures (left_here c.args.sums.now c.args.sets.now c.args.from c.args.n c.requires.flows.0 c.requires.zeros) (λ i b l p. search rules) in
    c.from_residual.ensures ∙ none-found _ _ _ c.args.n c.requires.flows.0 c.requires.zeros (sym found ∙ c.in_err-i.was)

pub overflow_add-result : goal.overflow_add-result
overflow_add-result c =
    let here = left_here c.args.sums.now c.args.sets.now c.args.from c.args.n c.requires.flows.0 c.requires.zeros in
    let found = c.first.ensures here (λ i b l p. search rules) in
    let few = first_least here _ c.in_ok-i.i (sym found ∙ c.in_ok-i.was) in
    omega (arith, few.0, c.requires.flows)

pub returns : goal.returns
returns c =
    let found = c.first.ensures (left_here c.args.sums.now c.args.sets.now c.args.from c.args.n c.requires.flows.0 c.requires.zeros) (λ i b l p. search rules) in
    found-in _ _ _ c.args.n c.requires.flows.0 c.requires.zeros _ (sym found ∙ c.in_ok-i.was)
