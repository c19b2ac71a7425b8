-- Each rule reads only the signals that the dependences name for its kind and port, and each has its name. Assumes nothing.
use mathlib.Core.Path.{◌≡◌, refl}
use mathlib.Core.Bool.{true, false≢true}
use Prim.Native.Nat.{ℕ}
use Rattle.component.specs.declared.kinds.Kind.{Kind}
use Rattle.component.specs.declared.kinds.Kind.TheVariants.{Source, Sink, Queue, Function, Fork, Join, Switch, Merge}
use Rattle.component.specs.declared.kinds.Port.{Port}
use Rattle.component.specs.declared.kinds.Port.TheVariants.{A, B, C}
use Rattle.component.specs.Kind.{port_use, is_used, is_output}
use Rattle.wiring.specs.Signals.{Near, offer_a, offer_b, take_b, take_c, depends_on, has}
use Rattle.rules.specs.Rules.{Component, rule}
use Rattle.rules.specs.Seen.{named, rule_named, gives_offer}

pub reads_only : (k : Kind) (p : Port) (c : Component) (v w : Near → ℕ) → ((n : Near) → has (depends_on k p) n ≡ true → v n ≡ w n) → rule k p c v ≡ rule k p c w
unfolding rule depends_on
reads_only Source A c v w h = refl
reads_only Source B c v w h = refl
reads_only Source C c v w h = refl
reads_only Sink A c v w h = refl
reads_only Sink B c v w h = refl
reads_only Sink C c v w h = refl
reads_only Queue A c v w h = refl
reads_only Queue B c v w h = refl
reads_only Queue C c v w h = refl
reads_only Function A c v w h = h take_b refl
reads_only Function B c v w h = cc (h offer_a refl)
reads_only Function C c v w h = refl
reads_only Fork A c v w h = cc (h take_b refl, h take_c refl)
reads_only Fork B c v w h = cc (h offer_a refl, h take_c refl)
reads_only Fork C c v w h = cc (h offer_a refl, h take_b refl)
reads_only Join A c v w h = cc (h offer_b refl, h take_c refl)
reads_only Join B c v w h = cc (h offer_a refl, h take_c refl)
reads_only Join C c v w h = cc (h offer_a refl, h offer_b refl)
reads_only Switch A c v w h = cc (h offer_a refl, h take_b refl, h take_c refl)
reads_only Switch B c v w h = cc (h offer_a refl)
reads_only Switch C c v w h = cc (h offer_a refl)
reads_only Merge A c v w h = cc (h offer_a refl, h offer_b refl, h take_c refl)
reads_only Merge B c v w h = cc (h offer_a refl, h offer_b refl, h take_c refl)
reads_only Merge C c v w h = cc (h offer_a refl, h offer_b refl)

-- the rule that goes by the name of a port's
pub rule_of_name : (k : Kind) (p : Port) → is_used (port_use k p) ≡ true → rule_named (named k p) ≡ rule k p
unfolding port_use
rule_of_name Source A u = refl
rule_of_name Source B u = absurd (false≢true u)
rule_of_name Source C u = absurd (false≢true u)
rule_of_name Sink A u = refl
rule_of_name Sink B u = absurd (false≢true u)
rule_of_name Sink C u = absurd (false≢true u)
rule_of_name Queue A u = refl
rule_of_name Queue B u = refl
rule_of_name Queue C u = absurd (false≢true u)
rule_of_name Function A u = refl
rule_of_name Function B u = refl
rule_of_name Function C u = absurd (false≢true u)
rule_of_name Fork A u = refl
rule_of_name Fork B u = refl
rule_of_name Fork C u = refl
rule_of_name Join A u = refl
rule_of_name Join B u = refl
rule_of_name Join C u = refl
rule_of_name Switch A u = refl
rule_of_name Switch B u = refl
rule_of_name Switch C u = refl
rule_of_name Merge A u = refl
rule_of_name Merge B u = refl
rule_of_name Merge C u = refl

-- at an output port it gives an offer, at an input port a take
pub offer_of_name : (k : Kind) (p : Port) → is_used (port_use k p) ≡ true → gives_offer (named k p) ≡ is_output (port_use k p)
unfolding port_use
offer_of_name Source A u = refl
offer_of_name Source B u = absurd (false≢true u)
offer_of_name Source C u = absurd (false≢true u)
offer_of_name Sink A u = refl
offer_of_name Sink B u = absurd (false≢true u)
offer_of_name Sink C u = absurd (false≢true u)
offer_of_name Queue A u = refl
offer_of_name Queue B u = refl
offer_of_name Queue C u = absurd (false≢true u)
offer_of_name Function A u = refl
offer_of_name Function B u = refl
offer_of_name Function C u = absurd (false≢true u)
offer_of_name Fork A u = refl
offer_of_name Fork B u = refl
offer_of_name Fork C u = refl
offer_of_name Join A u = refl
offer_of_name Join B u = refl
offer_of_name Join C u = refl
offer_of_name Switch A u = refl
offer_of_name Switch B u = refl
offer_of_name Switch C u = refl
offer_of_name Merge A u = refl
offer_of_name Merge B u = refl
offer_of_name Merge C u = refl
