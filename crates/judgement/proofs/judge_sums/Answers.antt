use Rattle.std.proofs.Common.{Ok, rules}
use mathlib.Core.Path.{ap, ◌∙◌}
use mir.Syntax.{w64}
use mir.ValLaws.{to_z-of_z}
use native.Mathlib.Omega.{arith}
use Rattle.netlist.specs.View.{facts_of}
use Rattle.netlist.proofs.Whole.{accepted_netlist}
use Rattle.judgement.proofs.Judged.{giving-refused, giving-given, sums-flow, sums-weightless, sums-accepted}
use Rattle.judgement.proofs.judge_sums.Goals as goal

pub returns-in-Some : goal.returns-in-Some
returns-in-Some c = giving-refused _ (sums-flow (facts_of c.args.coloured.now.netlist) c.args.sums.now c.args.weights.now.entries.now (search rules))

pub overflow_mul-coloured : goal.overflow_mul-coloured
overflow_mul-coloured c = record { fits = omega (arith, (accepted_netlist c.args.coloured.now.netlist.accepted).facts.few_rows) }

pub lowest-requires : goal.lowest-requires
lowest-requires c = omega (arith, c.args.weights.now.near.long, (accepted_netlist c.args.coloured.now.netlist.accepted).facts.few_rows)

pub returns-then-is_none : goal.returns-then-is_none
returns-then-is_none c = giving-refused _ (sums-weightless (facts_of c.args.coloured.now.netlist) c.args.sums.now c.args.weights.now.entries.now (search rules) c.lowest.ensures c.if-is_none.ensures)

pub returns : goal.returns
returns c =
    ap Ok (to_z-of_z w64 c.constant_of.result (record { sfits = c.constant_of.type_inv }) ∙ c.constant_of.ensures)
    ∙ giving-given (sums-accepted (facts_of c.args.coloured.now.netlist) c.args.sums.now c.args.weights.now.entries.now (search rules) c.lowest.ensures c.if-is_none.ensures)
