use mathlib.Core.Path.{sym, ap, ap₂, ◌∙◌}
use Prim.Native.Nat.{ℕ, ◌+◌, ◌*◌}
use lib.ListN.{get_or}
use lib.IntN.{ℤ, pos, nat_abs, ◌*ℤ◌}
use native.Mathlib.Omega.{arith}
use Rattle.integers.proofs.Near.{mul-fits, multiplied, mul-near}
use Rattle.component.specs.Kind.{is_queue}
use Rattle.netlist.proofs.Whole.{accepted_netlist}
use Rattle.sums.proofs.Sums.{not-queue}
use Rattle.judgement.proofs.Judged.{share-queue, share-other}
use Rattle.judgement.proofs.share.Goals as goal

pub of-requires : goal.of-requires
of-requires c =
    let h = accepted_netlist c.args.netlist.now.accepted in
    omega (arith, c.fill_colour.ensures, (h.facts.rows c.args.q c.requires).fill_colours, h.facts.few_colours, h.facts.few_rows)

pub overflow_mul-result : goal.overflow_mul-result
overflow_mul-result c = mul-fits c.of.result c.filling.result c.of.ensures.near c.filling.type_inv

pub returns-in-Queue-clause-value : goal.returns-in-Queue-clause-value
unfolding is_queue
returns-in-Queue-clause-value c =
    multiplied c.of.result c.filling.result c.of.ensures.near c.filling.type_inv
    ∙ ap₂ (λ (z : ℤ) (n : ℕ). z *ℤ pos n) (c.of.ensures.value ∙ ap (λ (d : ℕ). get_or c.args.weights.now.entries.now (8 * c.args.q + d) (pos 0)) c.fill_colour.ensures) c.filling.ensures
    ∙ sym (share-queue c.args.netlist.now.table.bytes.now c.args.weights.now.entries.now c.args.q (rw (← c.kind.ensures, c.in-Queue.is)))

pub returns-in-Queue-clause-near : goal.returns-in-Queue-clause-near
returns-in-Queue-clause-near c =
    omega (arith, ap nat_abs (multiplied c.of.result c.filling.result c.of.ensures.near c.filling.type_inv), mul-near c.of.result c.filling.result c.of.ensures.near c.filling.type_inv)

pub returns-in_default : goal.returns-in_default
returns-in_default c = record { value = sym (share-other c.args.netlist.now.table.bytes.now c.args.weights.now.entries.now c.args.q (rw (← c.kind.ensures) (sym (not-queue c.kind.result c.in_default.not-Queue)))); near = omega arith }
