use Rattle.netlist.proofs.Whole.{accepted_netlist}
use Rattle.spread.proofs.Targets.{note-none, note-one, note-two}
use Rattle.spread.proofs.note_inputs.Goals as goal

pub returns-in-Source : goal.returns-in-Source
returns-in-Source c = note-none _ (accepted_netlist c.args.netlist.now.accepted) _ c.requires.0 _ c.requires.1 c.kind.ensures c.in-Source.is

pub returns-in-Join : goal.returns-in-Join
returns-in-Join c = note-two _ (accepted_netlist c.args.netlist.now.accepted) _ c.requires.0 _ c.requires.1 c.kind.ensures c.in-Join.is c.port.ensures c.port-in-Join.ensures

pub returns-in_default : goal.returns-in_default
returns-in_default c =
    note-one _ (accepted_netlist c.args.netlist.now.accepted) _ c.requires.0 _ c.requires.1 c.kind.ensures c.in_default.not-Source c.in_default.not-Join c.in_default.not-Merge c.port-in_default.ensures
