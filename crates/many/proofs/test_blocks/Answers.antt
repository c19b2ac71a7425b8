use mathlib.Core.Path.{sym, ◌∙◌}
use native.Mathlib.Nat.{mul-le-mul_right}
use native.Mathlib.Omega.{arith}
use Rattle.netlist.specs.View.{facts_of}
use Rattle.netlist.proofs.Whole.{accepted_netlist}
use Rattle.result.proofs.Result.{size_is}
use Rattle.many.proofs.Many.{few-blocks, blocks-counted}
use Rattle.many.proofs.test_blocks.Goals as goal

pub overflow_mul-blocks : goal.overflow_mul-blocks
overflow_mul-blocks c =
    let a = accepted_netlist c.args.netlist.now.accepted in
    record { fits = omega (arith, mul-le-mul_right {m = c.in_ok-blocks.blocks} {n = 64} c.result_size.result (few-blocks c.args.proposals.now c.in_ok-blocks.ensures), c.result_size.ensures, a.facts.few_rows) }

pub returns : goal.returns
returns c =
    let f = facts_of c.args.netlist.now in
    c.room_for.ensures ∙ blocks-counted f c.args.proposals.now c.args.space c.in_ok-blocks.ensures (c.result_size.ensures ∙ sym (size_is f))
