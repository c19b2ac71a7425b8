use Rattle.std.proofs.Common.{rules, ◌≡◌, not, ◌+◌, ◌-◌, ltb, eqb, get_or, sym, ap, ◌∙◌, arith}
use borrow.Author.Tests.{not-true}
use Rattle.record.specs.Table.{row}
use Rattle.good.proofs.Cells.{cell-bad, cell-zeros, cell-colours}
use Rattle.good.proofs.good_cell.Goals as goal

pub returns-then-not-first_good : goal.returns-then-not-first_good
returns-then-not-first_good c = cell-bad _ _ _ (sym (c.first_good.ensures c.args.colours (get_or c.args.cell.now 0 0)) ∙ not-true _ (ap not c.if-not-first_good.true))

pub returns-in-Queue : goal.returns-in-Queue
returns-in-Queue c =
    let s = c.args.cell.now in
    let n = c.from-count.result in
    let r = row c.args.table.now.bytes.now c.args.k in
    let e : c.from-rest.result ≡ 63 - n = omega arith in
    rw (c.every.ensures (λ j. ltb (get_or s (1 + j) 0) c.args.colours) (λ j b l p. search rules), c.every-in-Queue.ensures (λ j. eqb (get_or s (n + 1 + j) 0) 0) (λ j b l p. search rules), e)
    (cell-colours c.args.colours r s (sym (c.first_good.ensures c.args.colours (get_or s 0 0)) ∙ c.if-not-first_good.false) n (c.from-count.ensures ∙ c.min-n.ensures) (sym c.kind.ensures ∙ c.in-Queue.is))

pub returns-in_default : goal.returns-in_default
returns-in_default c =
    let s = c.args.cell.now in
    let r = row c.args.table.now.bytes.now c.args.k in
    c.every-in_default.ensures (λ j. eqb (get_or s (1 + j) 0) 0) (λ j b l p. search rules)
    ∙ cell-zeros c.args.colours r s (sym (c.first_good.ensures c.args.colours (get_or s 0 0)) ∙ c.if-not-first_good.false) (λ q. c.in_default.not-Queue (c.kind.ensures ∙ q))
