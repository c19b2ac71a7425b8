use Rattle.std.proofs.Common.{arith}
use Rattle.signals.proofs.Found.{finding_none, hand-component, hand-channel, hand-ports, hand-turn, finding_all}
use Rattle.signals.proofs.evaluate.Goals as goal
use Rattle.signals.proofs.evaluate.Goals.{in-Offer, in-Take}

pub loop-place-init : goal.loop-place-init
loop-place-init c = finding_none _ c.requires.ready.planned

pub cell-requires : goal.cell-requires
cell-requires c = omega (arith, hand-component c.loop-place.invariant c.loop-place-test.true, c.requires.ready.states)

pub bounds-choices-k : goal.bounds-choices-k
bounds-choices-k c = omega (arith, hand-component c.loop-place.invariant c.loop-place-test.true, c.requires.ready.chosen)

pub signal-requires-clause-row : goal.signal-requires-clause-row
signal-requires-clause-row c = omega (arith, hand-component c.loop-place.invariant c.loop-place-test.true, c.args.netlist.now.same)

pub signal-requires-clause-a : goal.signal-requires-clause-a
signal-requires-clause-a c = omega (arith, (hand-ports c.loop-place.invariant c.loop-place-test.true).0, c.loop-place.invariant.found.long, c.requires.room)

pub signal-requires-clause-b : goal.signal-requires-clause-b
signal-requires-clause-b c = omega (arith, (hand-ports c.loop-place.invariant c.loop-place-test.true).1, c.loop-place.invariant.found.long, c.requires.room)

pub signal-requires-clause-c : goal.signal-requires-clause-c
signal-requires-clause-c c = omega (arith, (hand-ports c.loop-place.invariant c.loop-place-test.true).2, c.loop-place.invariant.found.long, c.requires.room)

pub bounds-channels-x : goal.bounds-channels-x
bounds-channels-x c = omega (arith, hand-channel c.loop-place.invariant c.loop-place-test.true, c.loop-place.invariant.found.long, c.requires.room)

pub bounds-channels-x-in-Take : goal.bounds-channels-x-in-Take
bounds-channels-x-in-Take c = omega (arith, hand-channel c.loop-place.invariant c.loop-place-test.true, c.loop-place.invariant.found.long, c.requires.room)

pub loop-place-preserved : goal.loop-place-preserved
loop-place-preserved c =
    let turn = hand-turn c.loop-place.invariant c.loop-place-test.true c.requires.room c.signal.result (rw c.cell.ensures at c.signal.ensures.is) c.signal.ensures.side in
    elim c.match-signal.branch [ in-Offer w ↦ rw w.channels-is (rw w.in-Offer.is at turn) | in-Take w ↦ rw w.channels-is (rw w.in-Take.is at turn) ]

pub returns : goal.returns
returns c = finding_all c.loop-place.invariant c.loop-place-test.false c.requires.room
