-- The indexes of a queue are its colours. Assumes nothing.
use mathlib.Core.Path.{◌≡◌, sym, ap, ◌∙◌}
use mathlib.Core.Bool.{Bool, true, ◌&&◌}
use Prim.Native.Nat.{ℕ, ◌<◌}
use lib.Dec.{ltb}
use borrow.Author.Tests.{ltb-true, lt-ltb}
use Rattle.digits.proofs.Bools.{and_both}
use Rattle.component.specs.declared.kinds.Kind.{Kind}
use Rattle.component.specs.Kind.{is_queue}
use Rattle.component.specs.Row.{kind}
use Rattle.component.proofs.ByKind.{is-queue}
use Rattle.netlist.specs.Netlist.{Netlist, row_of}
use Rattle.equations.specs.Equations.{has_index, has_equation}

module _ (f : Netlist) (q i : ℕ) where
  -- an equation's component is there
  pub known-place : has_equation f q i ≡ true → q < f.components
  unfolding has_equation
  known-place e = ltb-true q f.components (and_both (ltb q f.components) (has_index (kind (row_of f q)) (row_of f q) f.colours i) e).0

  -- a queue's index is a colour
  pub queue-low : has_equation f q i ≡ true → is_queue (kind (row_of f q)) ≡ true → i < f.colours
  unfolding has_equation has_index
  queue-low e k =
      ltb-true i f.colours
      (sym (ap (λ (d : Kind). has_index d (row_of f q) f.colours i) (is-queue (kind (row_of f q)) k)) ∙ (and_both (ltb q f.components) (has_index (kind (row_of f q)) (row_of f q) f.colours i) e).1)

  -- and every colour is a queue's index
  pub queue-has : q < f.components → is_queue (kind (row_of f q)) ≡ true → has_equation f q i ≡ ltb i f.colours
  unfolding has_equation has_index
  queue-has l k =
      ap (λ (b : Bool). b && has_index (kind (row_of f q)) (row_of f q) f.colours i) (lt-ltb q f.components l)
      ∙ ap (λ (d : Kind). has_index d (row_of f q) f.colours i) (is-queue (kind (row_of f q)) k)
