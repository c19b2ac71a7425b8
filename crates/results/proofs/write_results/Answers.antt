use mathlib.Core.Path.{◌≡◌, sym, ap₂, ◌∙◌, subst}
use mathlib.Core.List.{◌++◌}
use Prim.Native.Nat.{ℕ, ◌+◌, ◌*◌}
use native.Mathlib.Omega.{arith}
use Rattle.netlist.specs.View.{facts_of}
use Rattle.netlist.proofs.Whole.{accepted_netlist}
use native.Mathlib.Nat.{mul-le-mul_right}
use Rattle.result.specs.Result.{result_size, block_result}
use Rattle.result.proofs.Result.{size_is, length-result}
use Rattle.results.proofs.Written.{Written, written_none, written_all, written-more, space}
use Rattle.results.proofs.write_results.Goals as goal

pub loop-block-init : goal.loop-block-init
loop-block-init g c =
    let f = facts_of c.args.netlist.now in
    let law = g.met.E.Entry in
    written_none g.E.Entry.WIDTH g.E.Entry.memory law.joined law.size (block_result f) (result_size f) (length-result f) c.args.file.now c.args.out.now c.requires.filled c.requires.room

pub put-requires-clause-room : goal.put-requires-clause-room
put-requires-clause-room g c =
    let f = facts_of c.args.netlist.now in
    let law = g.met.E.Entry in
    let s = c.in-Some.ensures.some in
    omega (arith, space g.E.Entry.WIDTH g.E.Entry.memory law.joined law.size (block_result f) (result_size f) (length-result f) c.args.file.now c.args.out.now c.requires.filled c.requires.room c.loop-block.invariant s.0 s.1, c.split_at_mut-behind.ensures.back_len)

pub overflow_mul-each : goal.overflow_mul-each
overflow_mul-each g c =
    let a = accepted_netlist c.args.netlist.now.accepted in
    record { fits = omega (arith, mul-le-mul_right {m = c.WIDTH.result} {n = 8} c.result_size.result (omega (arith, c.WIDTH.ensures, g.met.E.Entry.few)), c.result_size.ensures, a.facts.few_rows) }

pub overflow_add-to : goal.overflow_add-to
overflow_add-to g c =
    let f = facts_of c.args.netlist.now in
    let law = g.met.E.Entry in
    let s = c.in-Some.ensures.some in
    let each : g.E.Entry.WIDTH * result_size f ≡ c.WIDTH.result * c.result_size.result = ap₂ (λ (w n : ℕ). w * n) (sym c.WIDTH.ensures) (size_is f ∙ sym c.result_size.ensures) in
    let room = space g.E.Entry.WIDTH g.E.Entry.memory law.joined law.size (block_result f) (result_size f) (length-result f) c.args.file.now c.args.out.now c.requires.filled c.requires.room c.loop-block.invariant s.0 s.1 in
    let z = c.loop-block.auto.out in
    record { fits = omega (arith, room, each, z) }

pub loop-block-preserved : goal.loop-block-preserved
loop-block-preserved g c =
    let f = facts_of c.args.netlist.now in
    let law = g.met.E.Entry in
    let s = c.in-Some.ensures.some in
    let each : g.E.Entry.WIDTH * result_size f ≡ c.WIDTH.result * c.result_size.result = ap₂ (λ (w n : ℕ). w * n) (sym c.WIDTH.ensures) (size_is f ∙ sym c.result_size.ensures) in
    subst (λ (n : ℕ). Written g.E.Entry.WIDTH g.E.Entry.memory (block_result f) (result_size f) c.args.file.now c.args.out.now c.in-Some.after.now (c.split_at_mut-behind.result.0.now ++ c.put.new.out) (c.loop-block.to + n)) each
    (written-more g.E.Entry.WIDTH g.E.Entry.memory law.joined law.size (block_result f) (result_size f) (length-result f) c.args.file.now c.args.out.now c.requires.filled c.requires.room c.loop-block.invariant s.0 s.1
    c.split_at_mut-behind.ensures.front c.split_at_mut-behind.ensures.back c.put.ensures)

pub returns : goal.returns
returns g c =
    let f = facts_of c.args.netlist.now in
    let law = g.met.E.Entry in
    written_all g.E.Entry.WIDTH g.E.Entry.memory law.joined law.size (block_result f) (result_size f) (length-result f) c.args.file.now c.args.out.now c.requires.filled c.requires.room c.loop-block.invariant c.in_default.ensures.none
