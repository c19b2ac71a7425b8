use Rattle.std.proofs.Common.{ap, ◌∙◌, List, ℕ, ◌++◌, drop}
use Rattle.netlist.specs.View.{facts_of}
use Rattle.signals.proofs.Moves.{moves-are, long}
use Rattle.state.proofs.Updatable.{small}
use Rattle.steps.proofs.take_step.Goals as goal

pub write_moves-requires-clause-there : goal.write_moves-requires-clause-there
write_moves-requires-clause-there c =
    let a = c.args in
    long (facts_of a.fabric.now.netlist) a.state.now a.choices.now _ _ c.step_along.ensures.channels

pub write_moves-requires-clause-small : goal.write_moves-requires-clause-small
write_moves-requires-clause-small c =
    let a = c.args in
    small (facts_of a.fabric.now.netlist) _ _ a.state.now a.choices.now c.requires.step _ _ c.step_along.ensures.channels

pub returns-clause-moves : goal.returns-clause-moves
returns-clause-moves c =
    let a = c.args in
    let f = facts_of a.fabric.now.netlist in
    c.write_moves.ensures ∙ ap (λ (l : List ℕ). l ++ drop f.channels a.moves.now) (moves-are f a.state.now a.choices.now _ _ c.step_along.ensures.channels)
