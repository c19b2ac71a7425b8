use mathlib.Core.Path.{sym, ap, ◌∙◌}
use Prim.Native.Nat.{◌*◌, ◌^◌}
use lib.IntN.{ℤ, nat_abs, ◌+ℤ◌}
use mir.Syntax.{w64}
use mir.Val.{to_z}
use mir.ValLaws.{to_z-of_z}
use native.Mathlib.Omega.{arith}
use Rattle.integers.specs.Sum.{sum_to}
use Rattle.integers.proofs.Near.{held, nat_abs-add, near_fits}
use Rattle.integers.proofs.Sum.{sum-none, sum_more}
use Rattle.netlist.proofs.Whole.{accepted_netlist}
use Rattle.judgement.specs.Judged.{share_of}
use Rattle.judgement.proofs.constant_of.Goals as goal

pub loop-q-init : goal.loop-q-init
loop-q-init c = (sym (sum-none (share_of c.args.netlist.now.table.bytes.now c.args.weights.now.entries.now)), omega arith)

pub overflow_add-constant : goal.overflow_add-constant
overflow_add-constant c =
    rw (to_z-of_z w64 c.share-constant.result (record { sfits = c.share-constant.type_inv })) (near_fits _ (2 ^ 56) (omega (arith, nat_abs-add (to_z w64 c.loop-q.constant-bits) c.share-constant.result, c.share-constant.ensures.near, c.loop-q.invariant.1, (accepted_netlist c.args.netlist.now.accepted).facts.few_rows)) (omega arith))

pub loop-q-preserved : goal.loop-q-preserved
loop-q-preserved c = let i = c.loop-q.invariant in
    let q = c.loop-q.q in
    let f = share_of c.args.netlist.now.table.bytes.now c.args.weights.now.entries.now in
    let e = held (to_z w64 c.loop-q.constant-bits) c.share-constant.result (2 ^ 48 * q) (2 ^ 48) i.1 c.share-constant.ensures.near (omega (arith, (accepted_netlist c.args.netlist.now.accepted).facts.few_rows)) in (
      e ∙ ap (λ (z : ℤ). z +ℤ c.share-constant.result) i.0 ∙ ap (λ (z : ℤ). sum_to q f +ℤ z) c.share-constant.ensures.value ∙ sym (sum_more q f),
      omega (arith, ap nat_abs e, nat_abs-add (to_z w64 c.loop-q.constant-bits) c.share-constant.result, c.share-constant.ensures.near, i.1),
    )
