use Rattle.std.proofs.Common.{sym, ap, is_err, ◌∙◌}
use Rattle.std.proofs.lemmas.Result.{err_from_is_err_and}
use Rattle.wiring.proofs.Sound.{wire-channel, wire-circle, wire-sound, sound-ends}
use Rattle.wiring.proofs.wire.Goals as goal

pub returns-in-Some-clause-answer : goal.returns-in-Some-clause-answer
returns-in-Some-clause-answer c = let t = c.args.table.now in
    wire-channel t.bytes.now t.rows c.args.channels c.requires.kinds.few c.requires.few _ c.find_ends.ensures c.in-Some.x (sym c.first_unmatched.ensures ∙ c.in-Some.is)

pub dependences-requires-clause-ends : goal.dependences-requires-clause-ends
dependences-requires-clause-ends c = let t = c.args.table.now in
    sound-ends t.bytes.now t.rows c.args.channels c.requires.kinds.few c.requires.few _ c.find_ends.ensures (sym c.first_unmatched.ensures ∙ c.in_default.is)

pub returns-in_err-order_of-clause-answer : goal.returns-in_err-order_of-clause-answer
returns-in_err-order_of-clause-answer c =
    let t = c.args.table.now in
    let p = err_from_is_err_and c.from_residual.result c.from_residual.ensures.1 in
    rw (p.1, p.2) (wire-circle t.bytes.now t.rows c.args.channels c.requires.kinds.few c.requires.few _ c.find_ends.ensures (sym c.first_unmatched.ensures ∙ c.in_default.is) _ _ c.dependences.ensures _ c.order_of.ensures (ap is_err c.in_err-order_of.was))

pub returns-clause-answer : goal.returns-clause-answer
returns-clause-answer c = let t = c.args.table.now in
    (wire-sound t.bytes.now t.rows c.args.channels c.requires.kinds.few c.requires.few _ c.find_ends.ensures (sym c.first_unmatched.ensures ∙ c.in_default.is) _ _ c.dependences.ensures _ c.order_of.ensures (ap is_err c.in_ok-order_of.was)).0

pub returns-clause-wires : goal.returns-clause-wires
returns-clause-wires c = let t = c.args.table.now in
    (wire-sound t.bytes.now t.rows c.args.channels c.requires.kinds.few c.requires.few _ c.find_ends.ensures (sym c.first_unmatched.ensures ∙ c.in_default.is) _ _ c.dependences.ensures _ c.order_of.ensures (ap is_err c.in_ok-order_of.was)).1
