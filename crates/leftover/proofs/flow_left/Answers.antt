use mathlib.Core.Path.{◌∙◌}
use Prim.Native.Nat.{◌*◌, ◌≤◌}
use native.Mathlib.Omega.{arith}
use Rattle.component.specs.Limits.{most_flows}
use Rattle.netlist.proofs.Whole.{accepted_netlist}
use Rattle.leftover.proofs.Leftover.{first-below, zeros-below, flows-in, inside-none, inside_is}
use Rattle.leftover.proofs.flow_left.Goals as goal
use Rattle.leftover.proofs.flow_left.Goals.{Start}

flows-few : (b : Start) → 8 * b.args.coloured.now.netlist.size.channels ≤ most_flows
flows-few b = omega (arith, (accepted_netlist b.args.coloured.now.netlist.accepted).facts.few_channels)

pub returns-in_err-first : goal.returns-in_err-first
returns-in_err-first c = c.from_residual.ensures ∙ inside-none _ c.args.sums.now c.in_err-first.ensures

pub lowest_in-requires-clause-flows : goal.lowest_in-requires-clause-flows
lowest_in-requires-clause-flows c =
    (omega (arith, first-below c.args.sums.now (8 * c.args.coloured.now.netlist.size.channels) c.in_ok-first.ensures), flows-few (goal.at.lowest_in-requires-clause-flows c).Start, flows-in (c.args.coloured.now.known c.in-Some.sets c.in-Some.is))

pub lowest_in-requires-clause-zeros : goal.lowest_in-requires-clause-zeros
lowest_in-requires-clause-zeros c = zeros-below c.args.sums.now (8 * c.args.coloured.now.netlist.size.channels) c.in_ok-first.ensures

pub lowest_in-requires-in-None-clause-flows : goal.lowest_in-requires-in-None-clause-flows
lowest_in-requires-in-None-clause-flows c = (omega (arith, first-below c.args.sums.now (8 * c.args.coloured.now.netlist.size.channels) c.in_ok-first.ensures), flows-few (goal.at.lowest_in-requires-in-None-clause-flows c).Start, flows-in c.work_out-sets.ensures)

pub lowest_in-requires-in-None-clause-zeros : goal.lowest_in-requires-in-None-clause-zeros
lowest_in-requires-in-None-clause-zeros c = zeros-below c.args.sums.now (8 * c.args.coloured.now.netlist.size.channels) c.in_ok-first.ensures

pub returns-in-Some : goal.returns-in-Some
returns-in-Some c = c.lowest_in.ensures ∙ inside_is _ c.args.sums.now (c.args.coloured.now.known c.in-Some.sets c.in-Some.is)

pub returns-in-None : goal.returns-in-None
returns-in-None c = c.lowest_in-in-None.ensures ∙ inside_is _ c.args.sums.now c.work_out-sets.ensures
