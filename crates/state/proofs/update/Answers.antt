use mathlib.Core.Path.{◌≡◌, ◌∙◌, fun_ext}
use Prim.Native.Nat.{◌+◌, ◌-◌, ◌*◌}
use native.Mathlib.Omega.{arith}
use lib.ListN.{length}
use Rattle.cells.specs.Cells.{cell_size}
use Rattle.cells.proofs.Cells.{none-laid, all_laid, lent-long, lent_is, laid_more}
use Rattle.record.specs.Table.{row}
use Rattle.component.specs.Row.{port}
use Rattle.signals.specs.Channels.{offer_in, take_in, signal_in}
use Rattle.signals.proofs.Channels.{offer_at, take_at}
use Rattle.state.specs.Step.{next_at, state_next, offer_of, take_of}
use Rattle.state.proofs.update.Goals as goal

pub loop-k-init : goal.loop-k-init
loop-k-init c = none-laid _ _ _

pub cell_next-requires-clause-movable : goal.cell_next-requires-clause-movable
cell_next-requires-clause-movable c =
    let p = c.requires.updatable in
    let l = c.loop-k in
    let h = c.loop-k-test.true in
    let w : cell_size * l.k + cell_size - cell_size * l.k ≡ cell_size = omega arith in
    rw (w, lent_is l.invariant h p.states) (p.each l.k h)

pub loop-k-preserved : goal.loop-k-preserved
unfolding next_at
loop-k-preserved c =
    let p = c.requires.updatable in
    let l = c.loop-k in
    let h = c.loop-k-test.true in
    let w : cell_size * l.k + cell_size - cell_size * l.k ≡ cell_size = omega arith in
    let u = l.invariant in
    let new = c.cell_next in
    let long : length new.new.cell ≡ cell_size = rw w at new.auto.cell ∙ lent-long u h p.states in
    let r = row c.args.draft.now.table.bytes.now l.k in
    let o : offer_of r (signal_in c.args.channels.now) ≡ (λ p. offer_in c.args.channels.now (port r p)) = fun_ext (λ p. offer_at c.args.channels.now (port r p)) in
    let g : take_of r (signal_in c.args.channels.now) ≡ (λ p. take_in c.args.channels.now (port r p)) = fun_ext (λ p. take_at c.args.channels.now (port r p)) in
    rw w (laid_more u h p.states new.new.cell long (rw (o, g) (rw (w, lent_is u h p.states) at new.ensures)))

pub returns : goal.returns
unfolding state_next
returns c = all_laid c.loop-k.invariant (omega arith)
