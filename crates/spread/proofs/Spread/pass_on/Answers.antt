use Rattle.component.specs.declared.kinds.Port.{Port}
use Rattle.record.specs.Table.{row}
use Rattle.component.specs.Row.{kind}
use Rattle.spread.proofs.PassOn.{OutputOf, out_none, out_c, out_first, out_both, out_one}
use Rattle.spread.proofs.OnInTurn.{pass-none-in-turn, pass-one-in-turn, pass-two-in-turn, further-none, further-one, further-two}
use Rattle.spread.proofs.Spread.pass_on.Goals as goal
use Rattle.spread.proofs.Spread.pass_on.Goals.{After-kind-kind}

-- the output ports of the component
abbrev Output : After-kind-kind → Port → Type 0
Output b p = OutputOf (kind (row b.args.takers.now.netlist.table.bytes.now b.args.k)) p

pub returns-in-Sink : goal.returns-in-Sink
returns-in-Sink c =
    let done = Output (goal.at.returns-in-Sink c).After-kind-kind in
    let never = out_none c.kind-kind.ensures c.in-Sink.is in
    record { passed = pass-none-in-turn done c.requires.before never; further = further-none done never }

pub pass_out-requires : goal.pass_out-requires
pass_out-requires c = record { before = c.requires.before; turn = c.requires.turn; output = out_first c.kind-kind.ensures c.first_output.ensures c.in_default.not-Sink }

pub pass_out-requires-in-Fork : goal.pass_out-requires-in-Fork
pass_out-requires-in-Fork c =
    let h = c.pass_out.ensures.passed in
    record { before = h.spreading; turn = (c.requires.turn.0, h.onward.stays _ c.requires.turn.1); output = out_c c.kind-kind.ensures c.in-Fork.is }

pub returns-in-Fork : goal.returns-in-Fork
returns-in-Fork c =
    let done = Output (goal.at.returns-in-Fork c).After-kind-kind in
    let h = c.pass_out.ensures in
    let g = c.pass_out-in-Fork.ensures in
    let either = out_both c.kind-kind.ensures c.first_output.ensures in
    record {
      passed = pass-two-in-turn done c.requires.turn.0 c.requires.turn.1 h.passed g.passed either;
      further = further-two done c.requires.turn.0 c.requires.turn.1 h.passed.onward g.passed.onward h.further g.further either;
    }

pub returns-in_default-kind : goal.returns-in_default-kind
returns-in_default-kind c =
    let done = Output (goal.at.returns-in_default-kind c).After-kind-kind in
    let only = out_one c.kind-kind.ensures c.first_output.ensures c.in_default-kind.not-Fork c.in_default-kind.not-Switch in
    record { passed = pass-one-in-turn done c.pass_out.ensures.passed only; further = further-one done c.pass_out.ensures.further only }
