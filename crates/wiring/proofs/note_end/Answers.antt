use Rattle.std.proofs.Common.{ap, ◌∙◌, ◌+◌, ◌*◌}
use Rattle.component.specs.declared.kinds.Kind.{Kind}
use Rattle.wiring.specs.Ports.{port_code, slot_of}
use Rattle.wiring.specs.Stages.{port_number}
use Rattle.wiring.proofs.Ends.{ends_more}
use Rattle.wiring.proofs.Ports.{port-tag, port-channel, port-slot}
use Rattle.wiring.proofs.note_end.Goals as goal

pub returns : goal.returns
returns c = let table = c.args.table.now.bytes.now in
    let k = c.args.k in
    let p = c.args.port in
    let x = c.from-x in
    let at = c.slot-at in
    ends_more table _ (3 * k + port_number p) x.result at.result c.mark.result at.ensures.1
    (x.ensures ∙ c.port.ensures ∙ port-channel table k p)
    (at.ensures.0 ∙ ap (λ n. slot_of n x.result) (c.port_code.ensures ∙ ap (λ (kind : Kind). port_code kind p) c.kind.ensures) ∙ port-slot table k p x.result)
    (rw (← port-tag p) c.mark.ensures)
    c.requires.before
