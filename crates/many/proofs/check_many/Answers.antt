use mathlib.Core.Path.{sym, ap, ◌∙◌}
use Prim.Native.Nat.{ℕ, ◌/◌}
use native.Mathlib.Nat.{mul-le-mul_left, mul-div-le}
use native.Mathlib.Omega.{arith}
use lib.ListN.{length}
use Rattle.refusals.specs.Refusals.{first_refusal}
use Rattle.netlist.specs.View.{facts_of}
use Rattle.many.specs.Many.{many_tests}
use Rattle.many.proofs.Many.{blocks-accepted, memory-kept, memory-written}
use Rattle.many.proofs.check_many.Goals as goal

pub returns-in_err-test_blocks-clause-results : goal.returns-in_err-test_blocks-clause-results
returns-in_err-test_blocks-clause-results g c =
    let f = facts_of c.in_ok-netlist.field-0.netlist in
    memory-kept g.E.Entry.WIDTH g.E.Entry.memory c.args.file.now c.args.proposals.now c.args.results.now c.in_ok-netlist.ensures.answer c.in_ok-netlist.ensures.table
    (c.in_err-test_blocks.ensures ∙ ap (λ (w : ℕ). first_refusal (many_tests f c.args.proposals.now (length c.args.results.now / w))) c.WIDTH.ensures)

pub write_results-requires-clause-room : goal.write_results-requires-clause-room
write_results-requires-clause-room g c =
    let f = facts_of c.in_ok-netlist.field-0.netlist in
    let z = blocks-accepted f c.args.proposals.now (length c.args.results.now / g.E.Entry.WIDTH) (sym (c.in_ok-test_blocks.ensures ∙ ap (λ (w : ℕ). first_refusal (many_tests f c.args.proposals.now (length c.args.results.now / w))) c.WIDTH.ensures)) in
    omega (arith, mul-le-mul_left g.E.Entry.WIDTH z.1, mul-div-le (length c.args.results.now) g.E.Entry.WIDTH)

pub returns-clause-results : goal.returns-clause-results
returns-clause-results g c =
    let f = facts_of c.in_ok-netlist.field-0.netlist in
    c.write_results.ensures
    ∙ memory-written g.E.Entry.WIDTH g.E.Entry.memory c.args.file.now c.args.proposals.now c.args.results.now c.in_ok-netlist.ensures.answer c.in_ok-netlist.ensures.table
    (c.in_ok-test_blocks.ensures ∙ ap (λ (w : ℕ). first_refusal (many_tests f c.args.proposals.now (length c.args.results.now / w))) c.WIDTH.ensures)
