-- The table of rules agrees with their names: each line computed.
use Rattle.std.proofs.Common.{◌≡◌, refl, List, [], ◌∷◌, slice_index_or}
use denote.Enum.Declared.{tag_of}
use Rattle.component.specs.contracts.kinds.Kind as kinds
use Rattle.component.specs.contracts.kinds.Port as ports
use Rattle.component.specs.declared.kinds.Kind.{Kind}
use Rattle.component.specs.declared.kinds.Kind.TheVariants.{Source, Sink, Queue, Function, Fork, Join, Switch, Merge}
use Rattle.component.specs.declared.kinds.Port.{Port}
use Rattle.component.specs.declared.kinds.Port.TheVariants.{A, B, C}
use Rattle.rules.specs.declared.rule.Rule.{Rule}
use Rattle.rules.specs.declared.rule.Rule.TheVariants.{SourceOffer, SinkTake, QueueTake, QueueOffer, FunctionTake, FunctionOffer, ForkTake, ForkOfferB, ForkOfferC, JoinTakeA, JoinTakeB, JoinOffer, SwitchTake, SwitchOfferB, SwitchOfferC, MergeTakeA, MergeTakeB, MergeOffer}
use Rattle.rules.specs.Seen.{named}
use Rattle.rules.proofs.rule.Rule.at.Goals as goal

line : (kind : Kind) (port : Port) (row : List Rule) (none : Rule) → slice_index_or {A = Rule} (slice_index_or {A = List Rule} ((SourceOffer ∷ SourceOffer ∷ SourceOffer ∷ []) ∷ (SinkTake ∷ SinkTake ∷ SinkTake ∷ []) ∷ (QueueTake ∷ QueueOffer ∷ QueueOffer ∷ []) ∷ (FunctionTake ∷ FunctionOffer ∷ FunctionOffer ∷ []) ∷ (ForkTake ∷ ForkOfferB ∷ ForkOfferC ∷ []) ∷ (JoinTakeA ∷ JoinTakeB ∷ JoinOffer ∷ []) ∷ (SwitchTake ∷ SwitchOfferB ∷ SwitchOfferC ∷ []) ∷ (MergeTakeA ∷ MergeTakeB ∷ MergeOffer ∷ []) ∷ [])
    (tag_of kinds.the_type kind) row) (tag_of ports.the_type port) none ≡ named kind port
line Source A row none = refl
line Source B row none = refl
line Source C row none = refl
line Sink A row none = refl
line Sink B row none = refl
line Sink C row none = refl
line Queue A row none = refl
line Queue B row none = refl
line Queue C row none = refl
line Function A row none = refl
line Function B row none = refl
line Function C row none = refl
line Fork A row none = refl
line Fork B row none = refl
line Fork C row none = refl
line Join A row none = refl
line Join B row none = refl
line Join C row none = refl
line Switch A row none = refl
line Switch B row none = refl
line Switch C row none = refl
line Merge A row none = refl
line Merge B row none = refl
line Merge C row none = refl

pub returns : goal.returns
returns c = line c.args.kind c.args.port _ _
