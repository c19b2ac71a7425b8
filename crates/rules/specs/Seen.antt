-- How the code hands a rule the signals that it reads, and what it answers at an output and at an input port.
use Rattle.std.specs.Prelude.{◌≡◌, Bool, true, false, ℕ}
use Rattle.component.specs.declared.kinds.Kind.{Kind}
use Rattle.component.specs.declared.kinds.Kind.TheVariants.{Source, Sink, Queue, Function, Fork, Join, Switch, Merge}
use Rattle.component.specs.declared.kinds.Port.{Port}
use Rattle.component.specs.declared.kinds.Port.TheVariants.{A, B, C}
use Rattle.component.specs.Kind.{port_use, is_output, is_input}
use Rattle.wiring.specs.Signals.{Near, offer_a, offer_b, take_b, take_c}
use Rattle.rules.specs.declared.rule.Rule.{Rule}
use Rattle.rules.specs.declared.rule.Rule.TheVariants.{SourceOffer, SinkTake, QueueTake, QueueOffer, FunctionTake, FunctionOffer, ForkTake, ForkOfferB, ForkOfferC, JoinTakeA, JoinTakeB, JoinOffer, SwitchTake, SwitchOfferB, SwitchOfferC, MergeTakeA, MergeTakeB, MergeOffer}
use Rattle.rules.specs.Rules.{Component, rule}

abbrev pub seen : ℕ → ℕ → ℕ → ℕ → Near → ℕ
seen oa ob tb tc offer_a = oa
seen oa ob tb tc offer_b = ob
seen oa ob tb tc take_b = tb
seen oa ob tb tc take_c = tc

-- the name of the rule at a port of a kind; of an unused port it says nothing
abbrev pub named : Kind → Port → Rule
named Source p = SourceOffer
named Sink p = SinkTake
named Queue A = QueueTake
named Queue B = QueueOffer
named Queue C = QueueOffer
named Function A = FunctionTake
named Function B = FunctionOffer
named Function C = FunctionOffer
named Fork A = ForkTake
named Fork B = ForkOfferB
named Fork C = ForkOfferC
named Join A = JoinTakeA
named Join B = JoinTakeB
named Join C = JoinOffer
named Switch A = SwitchTake
named Switch B = SwitchOfferB
named Switch C = SwitchOfferC
named Merge A = MergeTakeA
named Merge B = MergeTakeB
named Merge C = MergeOffer

-- the rule of a name
abbrev pub rule_named : Rule → Component → (Near → ℕ) → ℕ
rule_named SourceOffer = rule Source A
rule_named SinkTake = rule Sink A
rule_named QueueTake = rule Queue A
rule_named QueueOffer = rule Queue B
rule_named FunctionTake = rule Function A
rule_named FunctionOffer = rule Function B
rule_named ForkTake = rule Fork A
rule_named ForkOfferB = rule Fork B
rule_named ForkOfferC = rule Fork C
rule_named JoinTakeA = rule Join A
rule_named JoinTakeB = rule Join B
rule_named JoinOffer = rule Join C
rule_named SwitchTake = rule Switch A
rule_named SwitchOfferB = rule Switch B
rule_named SwitchOfferC = rule Switch C
rule_named MergeTakeA = rule Merge A
rule_named MergeTakeB = rule Merge B
rule_named MergeOffer = rule Merge C

-- whether a rule gives an offer; else it gives a take
abbrev pub gives_offer : Rule → Bool
gives_offer SourceOffer = true
gives_offer SinkTake = false
gives_offer QueueTake = false
gives_offer QueueOffer = true
gives_offer FunctionTake = false
gives_offer FunctionOffer = true
gives_offer ForkTake = false
gives_offer ForkOfferB = true
gives_offer ForkOfferC = true
gives_offer JoinTakeA = false
gives_offer JoinTakeB = false
gives_offer JoinOffer = true
gives_offer SwitchTake = false
gives_offer SwitchOfferB = true
gives_offer SwitchOfferC = true
gives_offer MergeTakeA = false
gives_offer MergeTakeB = false
gives_offer MergeOffer = true

abbrev pub Offers : Kind → Port → Component → (Near → ℕ) → ℕ → Type 0
Offers k port c v r = is_output (port_use k port) ≡ true → r ≡ rule k port c v

abbrev pub Takes : Kind → Port → Component → (Near → ℕ) → ℕ → Type 0
Takes k port c v r = is_input (port_use k port) ≡ true → r ≡ rule k port c v
