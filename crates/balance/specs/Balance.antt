-- What one step does to the flows and the counts. t x is 0, or 1 + the colour that moved on channel x; n and m are the counts before and after.
use Rattle.std.specs.Prelude.{◌≡◌, ◌⊎◌, true, List, ℕ, suc, ◌+◌, eqb, ℤ}
use Rattle.integers.specs.Sum.{same}
use Rattle.component.specs.declared.kinds.Kind.{Kind}
use Rattle.component.specs.declared.kinds.Kind.TheVariants.{Source, Sink, Queue, Function, Fork, Join, Switch, Merge}
use Rattle.component.specs.declared.kinds.Port.TheVariants.{A, B, C}
use Rattle.component.specs.Row.{port, first_map, second_map, masked}
use Rattle.held.specs.Values.{bit, when, unless, offered}
use Rattle.rules.specs.Rules.{mapped, to_b}

-- at one component: n d and m d are its counts of d
unfoldable pub Balanced : Kind → List ℕ → (ℕ → ℕ) → (ℕ → ℕ) → (ℕ → ℕ) → Type 0
-- what a source gives is emitted
Balanced Source r t n m = (d : ℕ) → t (port r A) ≡ suc d → masked r d ≡ true
Balanced Sink r t n m = Unit {0}
-- a queue has what it had, with what came in, without what went out
Balanced Queue r t n m = (d : ℕ) → m d + bit (eqb (t (port r B)) (suc d)) ≡ n d + bit (eqb (t (port r A)) (suc d))
Balanced Function r t n m = t (port r B) ≡ mapped (first_map r) (t (port r A))
Balanced Fork r t n m = (t (port r B) ≡ mapped (first_map r) (t (port r A))) × (t (port r C) ≡ mapped (second_map r) (t (port r A)))
-- a join takes data and token together
Balanced Join r t n m = (t (port r C) ≡ mapped (first_map r) (t (port r A))) × (offered (t (port r A)) ≡ offered (t (port r B)))
Balanced Switch r t n m =
    (t (port r B) ≡ when (to_b r (t (port r A))) (t (port r A))) × (t (port r C) ≡ unless (to_b r (t (port r A))) (t (port r A)))
-- a merge takes from one input only
Balanced Merge r t n m = ((t (port r C) ≡ t (port r A)) × (t (port r B) ≡ 0)) ⊎ ((t (port r C) ≡ t (port r B)) × (t (port r A) ≡ 0))

-- how often colour d moved on channel x in the step: 1 or 0
abbrev pub transfer : (ℕ → ℕ) → ℕ → ℕ → ℤ
transfer t x d = same (t x) (suc d)
