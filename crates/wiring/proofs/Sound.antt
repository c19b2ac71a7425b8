-- The three ways out of `wire`. Assumes nothing.
use mathlib.Core.Path.{◌≡◌, sym, ◌∙◌}
use Prim.Native.Nat.{ℕ, ◌+◌, ◌*◌, ◌≤◌}
use mathlib.Core.Bool.{Bool, true, false, not, ◌&&◌, cond}
use mathlib.Core.List.{List}
use Rattle.std.proofs.Common.{Ok, Err, Some, None}
use lib.ListN.{get_or}
use borrow.Author.Tests.{lt-ltb, le-ltb}
use native.Mathlib.Omega.{arith}
use Rattle.digits.specs.Least.{least}
use Rattle.search.specs.First.{first}
use Rattle.search.proofs.Laws.{first_least, none_least}
use Rattle.order.specs.Graph.{dep, has_circle, OrderOf}
use Rattle.order.proofs.Same.{order_same}
use Rattle.component.specs.Limits.{most_channels, most_components}
use Rattle.wiring.specs.Ends.{first_unmatched}
use Rattle.wiring.specs.Ports.{single}
use Rattle.wiring.specs.Signals.{dependence}
use Rattle.wiring.specs.Sound.{Ends, SoundWires}
use Rattle.wiring.specs.Stages.{wired, FoundEnds, Dependences}
use Rattle.wiring.specs.declared.Miswired.TheVariants.{Unmatched, Circular}
use Rattle.wiring.proofs.Ends.{first-same, all-ends}

module _ (table : List ℕ) (n channels : ℕ) (l : n ≤ most_components) (few : channels ≤ most_channels) (ends : List ℕ) (noted : FoundEnds table (3 * n) ends)
  where
    abbrev pub test : ℕ → Bool
    test x = not (single (get_or ends (2 * x) 0) && single (get_or ends (2 * x + 1) 0))

    same : least test channels ≡ first_unmatched table n channels
    same = first-same table n channels l few ends noted

    pub wire-channel : (x : ℕ) → first test channels ≡ Some x → Err (Unmatched x) ≡ wired table n channels
    unfolding wired
    wire-channel x e =
        let w = first_least test channels x e in
        sym (rw (← same, w.1, lt-ltb x channels w.0))

    module _ (none : first test channels ≡ None) where
      bad : first_unmatched table n channels ≡ channels
      bad = sym same ∙ none_least test channels none

      pub sound-ends : Ends table n channels ends
      sound-ends = all-ends table n channels l few ends noted (omega (arith, bad))

      rest : wired table n channels ≡ cond (has_circle (dependence table n) (2 * channels)) (Err Circular) (Ok tt)
      unfolding wired
      rest = rw (bad, le-ltb channels channels (omega arith))

      module _ (deps : List (List ℕ)) (order : List ℕ) (d : Dependences table n channels deps) where
        agrees : (b : Bool) → OrderOf (dep deps) (2 * channels) b order → OrderOf (dependence table n) (2 * channels) b order
        agrees b r = order_same (dep deps) (dependence table n) (2 * channels) (λ s k hs hk. d.at s k hs hk) b order r

        pub wire-circle : (b : Bool) → OrderOf (dep deps) (2 * channels) b order → b ≡ true → Err Circular ≡ wired table n channels
        wire-circle b r t = sym (rest ∙ rw (← (agrees b r).test, t))

        pub wire-sound : (b : Bool) → OrderOf (dep deps) (2 * channels) b order → b ≡ false → (Ok tt ≡ wired table n channels) × SoundWires table n channels ends order
        wire-sound b r f = (sym (rest ∙ rw (← (agrees b r).test, f)), record { matched = sound-ends; sorted = (agrees b r).order (sym (agrees b r).test ∙ f) })
