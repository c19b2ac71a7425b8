use mathlib.Core.Path.{◌≡◌, sym, ap, ap₂, ◌∙◌}
use Prim.Native.Nat.{ℕ, ◌+◌, ◌*◌}
use native.Mathlib.Omega.{arith}
use lib.ListN.{get_or}
use lib.IntN.{pos}
use Rattle.integers.specs.Sign.{below_zero}
use Rattle.integers.specs.Total.{total}
use Rattle.integers.proofs.Total.{total-none, total-more}
use Rattle.record.specs.Table.{row}
use Rattle.component.specs.Row.{capacity}
use Rattle.netlist.proofs.Whole.{accepted_netlist}
use Rattle.headroom.specs.Headroom.{owed_of}
use Rattle.headroom.proofs.owed_by_all.Goals as goal

pub loop-q-init : goal.loop-q-init
loop-q-init c = (sym (total-none _), omega arith)

pub owed_by-owed-requires : goal.owed_by-owed-requires
owed_by-owed-requires c = let h = accepted_netlist c.args.netlist.now.accepted in (omega (arith, h.facts.few_rows), h.facts.few_colours, c.capacity.type_inv)

pub overflow_add-owed : goal.overflow_add-owed
overflow_add-owed c = record { fits = omega (arith, c.loop-q.invariant.1, c.owed_by-owed.ensures.near, (accepted_netlist c.args.netlist.now.accepted).facts.few_rows) }

pub loop-q-preserved : goal.loop-q-preserved
loop-q-preserved c =
    let i = c.loop-q.invariant in
    let q = c.loop-q.q in
    let g : ℕ → ℕ → ℕ = λ n q. total c.args.netlist.now.size.colours (λ d. below_zero (get_or c.args.weights.now.entries.now (8 * q + d) (pos 0)) * n) in (
      ap₂ (λ (x y : ℕ). x + y) i.0 (c.owed_by-owed.ensures.value ∙ ap (λ (n : ℕ). g n q) c.capacity.ensures) ∙ sym (total-more q (λ q. g (capacity (row c.args.netlist.now.table.bytes.now q)) q)),
      omega (arith, c.owed_by-owed.ensures.near, i),
    )

pub returns : goal.returns
unfolding owed_of
returns c =
    let e : c.loop-q.q ≡ c.args.netlist.now.size.components = omega arith in
    let i = c.loop-q.invariant in
    record { value = i.0 ∙ ap (λ (n : ℕ). total n (λ q. total c.args.netlist.now.size.colours (λ d. below_zero (get_or c.args.weights.now.entries.now (8 * q + d) (pos 0)) * capacity (row c.args.netlist.now.table.bytes.now q)))) e; near = omega (arith, i.1, (accepted_netlist c.args.netlist.now.accepted).facts.few_rows) }
