use Rattle.netlist.proofs.Whole.{accepted_netlist}
use Rattle.spread.proofs.WorkInTurn.{cover-next-in-turn, due-first, shorter-in-turn, cover-turn-in-turn, less-left-in-turn}
use Rattle.spread.proofs.Spread.start.Goals as goal

pub loop-j-init : goal.loop-j-init
loop-j-init c =
    let few = (accepted_netlist c.args.takers.now.netlist.accepted).facts.few_rows in
    let s = c.requires.before.spreading in
    let g = c.pass_on.ensures.passed in
    (g.spreading, cover-next-in-turn few c.requires.turn s g c.requires.before.covered, due-first few c.requires.turn s g)

pub pass_on-requires-in-Some-clause-turn : goal.pass_on-requires-in-Some-clause-turn
pass_on-requires-in-Some-clause-turn c = (shorter-in-turn (record { items = c.in-Some.ensures.items }) c.loop-j.invariant.0).0

pub loop-j-smaller : goal.loop-j-smaller
loop-j-smaller c = less-left-in-turn (record { items = c.in-Some.ensures.items }) c.pass_on-in-Some.ensures.passed.onward

pub loop-j-preserved : goal.loop-j-preserved
loop-j-preserved c =
    let g = c.pass_on-in-Some.ensures.passed in
    (g.spreading, cover-turn-in-turn (record { items = c.in-Some.ensures.items }) c.loop-j.invariant.1 g, λ j d. g.onward.stays j (c.loop-j.invariant.2 j d))
