use mathlib.Core.Path.{◌≡◌}
use mathlib.Core.List.{List}
use Prim.Native.Nat.{ℕ, ◌<◌}
use native.Mathlib.Omega.{arith}
use borrow.Author.Rules.{rules}
use lib.ListN.{get_or}
use Rattle.record.specs.Table.{row}
use Rattle.component.specs.declared.kinds.Port.{Port}
use Rattle.component.specs.declared.kinds.Port.TheVariants.{A, B}
use Rattle.component.specs.Row.{port}
use Rattle.netlist.specs.Accepted.{AcceptedNetlist}
use Rattle.netlist.specs.Netlist.{Netlist}
use Rattle.netlist.specs.View.{facts_of}
use Rattle.netlist.proofs.Whole.{accepted_netlist}
use Rattle.spread.specs.Spread.{Below}
use Rattle.spread.proofs.OutInTurn.{PassingInTurn, taker-at, room-in-turn, passed-in-turn, further-in-turn, below-in-turn}
use Rattle.spread.proofs.Spread.pass_out.Goals as goal
use Rattle.spread.proofs.Spread.pass_out.Goals.{After-let_out-more, Start}

module _ (b : Start) where
  abbrev f : Netlist
  f = facts_of b.args.takers.now.netlist

  accepted : AcceptedNetlist f
  accepted = accepted_netlist b.args.takers.now.netlist.accepted

  abbrev r : List ℕ
  r = row b.args.takers.now.netlist.table.bytes.now b.args.k

  -- a port that was read is a channel
  channel : {y : ℕ} (p : Port) → y ≡ port r p → y < f.channels
  channel p e = omega (arith, (accepted.facts.rows b.args.k b.requires.turn.0).ports p)

  few : {y : ℕ} (p : Port) → y ≡ port r p → Below f.colours (get_or b.args.self.now.sets y 0)
  few {y} p e = below-in-turn accepted.facts b.requires.before y (channel p e)

passing : (c : After-let_out-more) → PassingInTurn (facts_of c.args.takers.now.netlist) c.args.takers.now.by_channel c.args.self.now.sets c.args.self.now.to_come c.args.self.now.waiting.items c.args.k c.args.port c.let_out-more.result
passing c =
    let a = accepted_netlist c.args.takers.now.netlist.accepted in
    record {
      ends = a.ends;
      order = a.order;
      accepted = a.facts;
      targeted = c.args.takers.now.noted;
      spreading = c.requires.before;
      low = c.requires.turn.0;
      turn = c.requires.turn.1;
      output = c.requires.output;
      fits = search rules;
      lets = rw (c.port.ensures, c.port-2.ensures) at c.let_out-more.ensures;
    }

pub let_out-more-requires-clause-sets : goal.let_out-more-requires-clause-sets
let_out-more-requires-clause-sets c =
    let b = (goal.at.let_out-more-requires-clause-sets c).Start in
    (few b A c.port.ensures, few b B c.port-2.ensures)

pub add-requires : goal.add-requires
add-requires c =
    let h = passing (goal.at.add-requires c).After-let_out-more in
    record { taker = (c.port-3.type_inv, taker-at h c.port-3.ensures); room = room-in-turn h c.port-3.ensures }

pub returns : goal.returns
returns c =
    let h = passing (goal.at.returns c).After-let_out-more in
    record {
      passed = passed-in-turn h c.port-3.ensures c.add.ensures.sets c.add.ensures.to_come c.add.ensures.waiting;
      further = further-in-turn h c.port-3.ensures c.add.ensures.sets c.add.ensures.to_come c.add.ensures.waiting;
    }
