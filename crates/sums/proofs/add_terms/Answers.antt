use mathlib.Core.Path.{sym}
use Prim.Native.Nat.{◌^◌}
use native.Mathlib.Omega.{arith}
use Rattle.std.proofs.lemmas.Result.{err_from_is_err_and}
use Rattle.integers.proofs.Tables.{near-wider}
use Rattle.netlist.proofs.Whole.{accepted_netlist}
use Rattle.sums.proofs.Sums.{added_none, added_more, flows-near, counts-near, bad-here, bad-nowhere}
use Rattle.sums.proofs.add_terms.Goals as goal

pub loop-k-init : goal.loop-k-init
loop-k-init c = added_none _ (accepted_netlist c.args.netlist.now.accepted) _ c.requires.sums_empty c.requires.weights_empty

pub add_term-requires-clause-sums_near : goal.add_term-requires-clause-sums_near
add_term-requires-clause-sums_near c = flows-near _ (accepted_netlist c.args.netlist.now.accepted) _ (omega arith) c.loop-k.invariant

pub add_term-requires-clause-weights_near : goal.add_term-requires-clause-weights_near
add_term-requires-clause-weights_near c = near-wider (2 ^ 40) (2 ^ 60) (omega arith) (counts-near _ (accepted_netlist c.args.netlist.now.accepted) _ (omega arith) c.loop-k.invariant)

pub returns-in_err-add_term-clause-verdict : goal.returns-in_err-add_term-clause-verdict
returns-in_err-add_term-clause-verdict c =
    let p = err_from_is_err_and c.from_residual.result c.from_residual.ensures.1 in
    rw (p.1, p.2) (bad-here _ (accepted_netlist c.args.netlist.now.accepted) _ c.loop-k.invariant c.in_err-add_term.ensures.verdict (omega arith))

pub loop-k-preserved : goal.loop-k-preserved
loop-k-preserved c =
    added_more _ (accepted_netlist c.args.netlist.now.accepted) _ c.loop-k.invariant (sym c.in_ok-add_term.ensures.verdict) c.in_ok-add_term.ensures.flows c.in_ok-add_term.ensures.counts

pub returns-clause-verdict : goal.returns-clause-verdict
returns-clause-verdict c = bad-nowhere _ (accepted_netlist c.args.netlist.now.accepted) _ c.loop-k.invariant (omega arith)
