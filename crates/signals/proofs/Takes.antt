-- A rule that gives a take gives 0 or 1. Assumes nothing.
use mathlib.Core.Path.{◌≡◌}
use mathlib.Core.Bool.{true, false≢true}
use Prim.Native.Nat.{ℕ, ◌≤◌}
use native.Mathlib.Omega.{arith}
use Rattle.component.specs.declared.kinds.Kind.{Kind}
use Rattle.component.specs.declared.kinds.Kind.TheVariants.{Source, Sink, Queue, Function, Fork, Join, Switch, Merge}
use Rattle.component.specs.declared.kinds.Port.{Port}
use Rattle.component.specs.declared.kinds.Port.TheVariants.{A, B, C}
use Rattle.component.specs.Kind.{port_use, is_input}
use Rattle.wiring.specs.Signals.{Near, take_b, take_c}
use Rattle.rules.specs.Rules.{Component, rule}
use Rattle.held.proofs.Bounds.{when-le, unless-le, either-le, offered-le, bit_le}

one-le : 1 ≤ 1
one-le = omega arith

ruleset flags = (one-le, when-le, unless-le, either-le, offered-le, bit_le)

pub take-le : (k : Kind) (p : Port) → is_input (port_use k p) ≡ true → (c : Component) (v : Near → ℕ) → v take_b ≤ 1 → v take_c ≤ 1 → rule k p c v ≤ 1
unfolding port_use rule
take-le Source A i c v hb hc = absurd (false≢true i)
take-le Source B i c v hb hc = absurd (false≢true i)
take-le Source C i c v hb hc = absurd (false≢true i)
take-le Sink A i c v hb hc = search flags
take-le Sink B i c v hb hc = absurd (false≢true i)
take-le Sink C i c v hb hc = absurd (false≢true i)
take-le Queue A i c v hb hc = search flags
take-le Queue B i c v hb hc = absurd (false≢true i)
take-le Queue C i c v hb hc = absurd (false≢true i)
take-le Function A i c v hb hc = hb
take-le Function B i c v hb hc = absurd (false≢true i)
take-le Function C i c v hb hc = absurd (false≢true i)
take-le Fork A i c v hb hc = search flags
take-le Fork B i c v hb hc = absurd (false≢true i)
take-le Fork C i c v hb hc = absurd (false≢true i)
take-le Join A i c v hb hc = search flags
take-le Join B i c v hb hc = search flags
take-le Join C i c v hb hc = absurd (false≢true i)
take-le Switch A i c v hb hc = search flags
take-le Switch B i c v hb hc = absurd (false≢true i)
take-le Switch C i c v hb hc = absurd (false≢true i)
take-le Merge A i c v hb hc = search flags
take-le Merge B i c v hb hc = search flags
take-le Merge C i c v hb hc = absurd (false≢true i)
