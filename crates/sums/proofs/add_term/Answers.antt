use mathlib.Core.Path.{◌≡◌, refl, ◌∙◌}
use mathlib.Core.Bool.{Bool, true, false, cond}
use mathlib.Core.List.{List}
use Prim.Native.Nat.{ℕ, ◌+◌, ◌*◌, ◌^◌, ◌≤◌}
use lib.IntN.{ℤ, pos, nat_abs}
use mir.Syntax.{w64}
use mir.Val.{to_z, of_z}
use mir.ValLaws.{to_z-of_z}
use native.Mathlib.Omega.{arith}
use Rattle.std.proofs.Common.{Ok}
use Rattle.std.proofs.lemmas.Result.{err_from_is_err_and}
use Rattle.integers.specs.Sum.{same}
use Rattle.integers.specs.Tables.{Grown}
use Rattle.integers.proofs.Near.{near_fits}
use Rattle.integers.proofs.Tables.{grown-still}
use Rattle.component.specs.Kind.{is_queue}
use Rattle.component.specs.Limits.{most_flows, most_entries}
use Rattle.component.specs.Row.{kind}
use Rattle.netlist.specs.Netlist.{Netlist, row_of}
use Rattle.netlist.specs.Accepted.{AcceptedNetlist}
use Rattle.netlist.specs.View.{facts_of}
use Rattle.netlist.proofs.Whole.{accepted_netlist}
use Rattle.equations.specs.Numbers.{equation_named, factor_of}
use Rattle.flows.specs.Terms.{multiplier}
use Rattle.flows.proofs.Terms.{multiplier-near}
use Rattle.sums.specs.Sums.{flow_factor, count_factor, term_verdict}
use Rattle.sums.proofs.Sums.{not-queue, term-verdict, term-within, term-place, term-index-low, term-flows, term-counts}
use Rattle.sums.proofs.add_term.Goals as goal
use Rattle.sums.proofs.add_term.Goals.{In_ok-equation}

-- where the term names an equation
module _ (c : In_ok-equation) where
  abbrev f : Netlist
  f = facts_of c.args.netlist.now

  abbrev m : ℤ
  m = to_z w64 (of_z w64 c.term_at-component.result.multiplier)

  accepted : AcceptedNetlist f
  accepted = accepted_netlist c.args.netlist.now.accepted

  named : Ok c.in_ok-equation.equation ≡ equation_named f c.term_at-component.result.component c.term_at-component.result.index c.args.k
  named = rw (c.draft.ensures.0, c.draft.ensures.1) at c.in_ok-equation.ensures

  near : nat_abs c.term_at-component.result.multiplier ≤ 2 ^ 34
  near = rw c.term_at-component.ensures.multiplier (omega (arith, multiplier-near c.args.proposal.now c.args.k))

  handed : m ≡ multiplier c.args.proposal.now c.args.k
  handed = to_z-of_z w64 c.term_at-component.result.multiplier (near_fits c.term_at-component.result.multiplier (2 ^ 34) near (omega arith)) ∙ c.term_at-component.ensures.multiplier

  small : nat_abs m ≤ 2 ^ 34
  small = rw handed (omega (arith, multiplier-near c.args.proposal.now c.args.k))

  verdict : Ok tt ≡ term_verdict f c.args.proposal.now c.args.k
  verdict = term-verdict f accepted c.args.proposal.now c.args.k c.term_at-component.ensures.component.0 c.term_at-component.ensures.index.0 named

  flows : {t : List ℤ} → Grown most_flows c.args.sums.now m (factor_of f.table f.colours c.in_ok-equation.equation) t
      → Grown most_flows c.args.sums.now (multiplier c.args.proposal.now c.args.k) (flow_factor f c.args.proposal.now c.args.k) t
  flows = term-flows f accepted c.args.proposal.now c.args.k c.term_at-component.ensures.component.0 c.term_at-component.ensures.index.0 named handed

  counts : {t : List ℤ} {u : ℕ} (b : Bool) → b ≡ is_queue (kind (row_of f c.term_at-component.result.component))
      → Grown most_entries c.args.weights.now m (λ v. cond b (same u v) (pos 0)) t → u ≡ 8 * c.term_at-component.result.component + c.term_at-component.result.index
      → Grown most_entries c.args.weights.now (multiplier c.args.proposal.now c.args.k) (count_factor f c.args.proposal.now c.args.k) t
  counts b = term-counts f accepted c.args.proposal.now c.args.k c.term_at-component.ensures.component.0 c.term_at-component.ensures.index.0 named b handed

pub returns-in_err-equation-clause-verdict : goal.returns-in_err-equation-clause-verdict
returns-in_err-equation-clause-verdict c =
    let p = err_from_is_err_and c.from_residual.result c.from_residual.ensures.1 in
    rw (p.1, p.2) (term-verdict _ (accepted_netlist c.args.netlist.now.accepted) c.args.proposal.now c.args.k c.term_at-component.ensures.component.0 c.term_at-component.ensures.index.0 (rw (c.draft.ensures.0, c.draft.ensures.1) at c.in_err-equation.ensures))

pub add_equation-requires-clause-in_table : goal.add_equation-requires-clause-in_table
add_equation-requires-clause-in_table c =
    let start = (goal.at.add_equation-requires-clause-in_table c).In_ok-equation in
    let h = accepted start in
    (h.facts.few_colours, rw c.args.netlist.now.same (term-within _ h c.args.proposal.now c.args.k c.term_at-component.ensures.component.0 c.term_at-component.ensures.index.0 (named start)))

pub add_equation-requires-clause-small : goal.add_equation-requires-clause-small
add_equation-requires-clause-small c = small (goal.at.add_equation-requires-clause-small c).In_ok-equation

pub kind-requires : goal.kind-requires
kind-requires c =
    let start = (goal.at.kind-requires c).In_ok-equation in
    rw c.args.netlist.now.same (term-place _ (accepted start) c.args.proposal.now c.args.k c.term_at-component.ensures.component.0 c.term_at-component.ensures.index.0 (named start))

pub add_weight-requires-clause-in_weights : goal.add_weight-requires-clause-in_weights
unfolding is_queue
add_weight-requires-clause-in_weights c =
    let start = (goal.at.add_weight-requires-clause-in_weights c).In_ok-equation in
    omega (arith, term-index-low _ (accepted start) c.args.proposal.now c.args.k c.term_at-component.ensures.component.0 c.term_at-component.ensures.index.0 (named start) (rw (← c.kind.ensures, c.in-Queue.is)), c.term_at-component.ensures.component.1)

pub add_weight-requires-clause-small : goal.add_weight-requires-clause-small
add_weight-requires-clause-small c = small (goal.at.add_weight-requires-clause-small c).In_ok-equation

pub returns-in-Queue-clause-verdict : goal.returns-in-Queue-clause-verdict
returns-in-Queue-clause-verdict c = verdict (goal.at.returns-in-Queue-clause-verdict c).In_ok-equation

pub returns-in-Queue-clause-flows : goal.returns-in-Queue-clause-flows
returns-in-Queue-clause-flows c = flows (goal.at.returns-in-Queue-clause-flows c).In_ok-equation c.add_equation.ensures

pub returns-in-Queue-clause-counts : goal.returns-in-Queue-clause-counts
unfolding is_queue
returns-in-Queue-clause-counts c = counts (goal.at.returns-in-Queue-clause-counts c).In_ok-equation true (rw (← c.kind.ensures, c.in-Queue.is)) c.add_weight.ensures (omega arith)

pub returns-in_default-clause-verdict : goal.returns-in_default-clause-verdict
returns-in_default-clause-verdict c = verdict (goal.at.returns-in_default-clause-verdict c).In_ok-equation

pub returns-in_default-clause-flows : goal.returns-in_default-clause-flows
returns-in_default-clause-flows c = flows (goal.at.returns-in_default-clause-flows c).In_ok-equation c.add_equation.ensures

pub returns-in_default-clause-counts : goal.returns-in_default-clause-counts
returns-in_default-clause-counts c =
    counts (goal.at.returns-in_default-clause-counts c).In_ok-equation false (rw (← c.kind.ensures) (not-queue c.kind.result c.in_default.not-Queue)) (grown-still _ c.requires.weights_near.long (λ v l. refl)) refl
