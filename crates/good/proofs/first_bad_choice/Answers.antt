use Rattle.std.proofs.Common.{rules, sym, ◌∙◌, arith}
use Rattle.netlist.specs.View.{drawn}
use Rattle.search.proofs.Laws.{first_least}
use Rattle.good.proofs.Sets.{steps-fit, bad_here, choice-found, none-found}
use Rattle.good.proofs.first_bad_choice.Goals as goal

pub overflow_mul-from : goal.overflow_mul-from
overflow_mul-from c =
    let l = steps-fit (drawn c.args.draft.now) _ c.args.choices.now c.choice_sets-sets.ensures c.requires.some _ c.allowed_steps.ensures in
    omega (arith, l)

pub overflow_sub-choices : goal.overflow_sub-choices
overflow_sub-choices c = steps-fit (drawn c.args.draft.now) _ c.args.choices.now c.choice_sets-sets.ensures c.requires.some _ c.allowed_steps.ensures

pub returns-in_err-o : goal.returns-in_err-o
returns-in_err-o c =
    let f = drawn c.args.draft.now in
    let z = c.choice_sets-sets.ensures in
    let e = c.allowed_steps.ensures in
    let found = c.first.ensures (bad_here f _ c.args.choices.now z c.requires.some _ e) (λ i b l p. search rules) in
    c.from_residual.ensures ∙ none-found f _ c.args.choices.now z c.requires.some _ e (sym found ∙ c.in_err-o.was)

pub overflow_add-result : goal.overflow_add-result
overflow_add-result c =
    let f = drawn c.args.draft.now in
    let z = c.choice_sets-sets.ensures in
    let e = c.allowed_steps.ensures in
    let found = c.first.ensures (bad_here f _ c.args.choices.now z c.requires.some _ e) (λ i b l p. search rules) in
    let few = first_least (bad_here f _ c.args.choices.now z c.requires.some _ e) _ c.in_ok-o.o (sym found ∙ c.in_ok-o.was) in
    omega (arith, few.0, steps-fit f _ c.args.choices.now z c.requires.some _ e)

pub returns : goal.returns
returns c =
    let f = drawn c.args.draft.now in
    let z = c.choice_sets-sets.ensures in
    let e = c.allowed_steps.ensures in
    let found = c.first.ensures (bad_here f _ c.args.choices.now z c.requires.some _ e) (λ i b l p. search rules) in
    choice-found f _ c.args.choices.now z c.requires.some _ e c.in_ok-o.o (sym found ∙ c.in_ok-o.was)
