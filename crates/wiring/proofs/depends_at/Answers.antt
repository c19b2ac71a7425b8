use Rattle.std.proofs.Common.{◌≡◌, sym, ap, ◌∙◌, true, false, ℕ, ◌+◌, ◌*◌, ◌/◌}
use Rattle.component.specs.Row.{kind, port}
use Rattle.wiring.specs.Ends.{end_row, end_port}
use Rattle.wiring.specs.Signals.{depends_on, has, near_of}
use Rattle.wiring.specs.Ports.{code_has}
use Rattle.wiring.proofs.Ports.{end-has, near-port}
use Rattle.wiring.proofs.depends_at.Goals as goal

pub returns-then-code_has : goal.returns-then-code_has
returns-then-code_has c = let a = c.args in
    let t = a.table.now.bytes.now in
    let on : has (depends_on (kind (end_row t a.e)) (end_port a.e)) (near_of a.j) ≡ true =
    sym (end-has t a.e a.j c.requires.entry) ∙ ap (λ (x : ℕ). code_has x a.j) (sym c.requires.code) ∙ sym c.code_has.ensures ∙ c.if-code_has.true in
    rw on (ap (λ (x : ℕ). 2 * x + a.j / 2) (c.from-x.ensures ∙ c.port.ensures ∙ ap (port (end_row t a.e)) c.from.ensures) ∙ near-port (end_row t a.e) a.j c.requires.entry)

pub returns : goal.returns
returns c = let a = c.args in
    let t = a.table.now.bytes.now in
    let on : has (depends_on (kind (end_row t a.e)) (end_port a.e)) (near_of a.j) ≡ false =
    sym (end-has t a.e a.j c.requires.entry) ∙ ap (λ (x : ℕ). code_has x a.j) (sym c.requires.code) ∙ sym c.code_has.ensures ∙ c.if-code_has.false in
    rw on
