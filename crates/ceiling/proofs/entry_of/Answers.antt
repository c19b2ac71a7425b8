use mathlib.Core.Path.{sym, ap, ◌∙◌}
use mathlib.Core.Bool.{not}
use native.Mathlib.Omega.{arith}
use Rattle.component.specs.declared.kinds.Kind.{Kind}
use Rattle.component.specs.Kind.{is_queue}
use Rattle.netlist.specs.View.{facts_of}
use Rattle.netlist.proofs.Whole.{accepted_netlist}
use Rattle.sums.proofs.Sums.{not-queue}
use Rattle.ceiling.proofs.Answer.{out-queue, out-colour, kind-decides, none-entry, some-entry}
use Rattle.ceiling.proofs.entry_of.Goals as goal
use Rattle.ceiling.proofs.entry_of.Goals.{then-size-queue-via-then-size-queue, then-size-queue-via-else-size-queue+then-size-colour}

pub returns-then-size-queue : goal.returns-then-size-queue
returns-then-size-queue c = none-entry (facts_of c.args.netlist.now) c.args.queue c.args.colour _ (elim c.then-size-queue.branch [
  | then-size-queue-via-then-size-queue w ↦ out-queue (facts_of c.args.netlist.now) c.args.queue c.args.colour (omega arith)
  | then-size-queue-via-else-size-queue+then-size-colour w ↦ out-colour (facts_of c.args.netlist.now) c.args.queue c.args.colour (omega (arith, (accepted_netlist c.args.netlist.now.accepted).facts.few_colours))
])

pub overflow_mul-result : goal.overflow_mul-result
overflow_mul-result c = record { fits = omega (arith, (accepted_netlist c.args.netlist.now.accepted).facts.few_rows) }

pub overflow_add-result : goal.overflow_add-result
overflow_add-result c = let h = accepted_netlist c.args.netlist.now.accepted in record { fits = omega (arith, h.facts.few_rows, h.facts.few_colours) }

pub returns-in-Queue : goal.returns-in-Queue
unfolding is_queue
returns-in-Queue c =
    some-entry (facts_of c.args.netlist.now) c.args.queue c.args.colour
    (kind-decides (facts_of c.args.netlist.now) c.args.queue c.args.colour (omega arith) (omega arith) ∙ ap (λ (k : Kind). not (is_queue k)) (sym c.kind.ensures ∙ c.in-Queue.is))

pub returns-in_default : goal.returns-in_default
returns-in_default c =
    none-entry (facts_of c.args.netlist.now) c.args.queue c.args.colour _
    (kind-decides (facts_of c.args.netlist.now) c.args.queue c.args.colour (omega arith) (omega arith) ∙ ap (λ (k : Kind). not (is_queue k)) (sym c.kind.ensures) ∙ ap not (sym (not-queue c.kind.result c.in_default.not-Queue)))
