-- The input ports of a kind, and the component that takes from each channel. Assumes nothing.
use mathlib.Core.Path.{◌≡◌, refl, sym, subst, ◌∙◌}
use mathlib.Core.Logic.{◌⊎◌, inl, inr}
use mathlib.Core.Bool.{Bool, true, false, true≢false}
use mathlib.Core.List.{List}
use Prim.Native.Nat.{ℕ, ◌+◌, ◌<◌}
use native.Mathlib.Omega.{arith}
use lib.Dec.{eqb}
use lib.ListN.{length, get_or, set, length-set}
use lib.Seq.{lt-length-set, get_or-set_same, get_or-set_other}
use borrow.Author.Count.{below_more}
use borrow.Author.Tests.{eqb-true, eqb-false}
use Rattle.component.specs.declared.kinds.Kind.{Kind}
use Rattle.component.specs.declared.kinds.Kind.TheVariants.{Source, Sink, Queue, Function, Fork, Join, Switch, Merge}
use Rattle.component.specs.declared.kinds.Port.{Port}
use Rattle.component.specs.declared.kinds.Port.TheVariants.{A, B, C}
use Rattle.component.specs.Kind.{port_use, is_input}
use Rattle.component.specs.Row.{kind, port}
use Rattle.netlist.specs.Netlist.{Netlist, row_of}
use Rattle.netlist.specs.Accepted.{AcceptedNetlist}
use Rattle.netlist.proofs.Ends.{one-taker}
use Rattle.spread.specs.Spread.{Targets}

no : {X : Type 0} → false ≡ true → X
no e = absurd (true≢false (sym e))

-- ---- input ports
-- the first two as they are, and C, which is none
record Inputs (k : Kind) (one two : Bool) : Type 0 where
  pub first : is_input (port_use k A) ≡ one
  pub second : is_input (port_use k B) ≡ two
  pub third : is_input (port_use k C) ≡ false

takes_none : Inputs Source false false
unfolding port_use
takes_none = record { first = refl; second = refl; third = refl }

takes_one : (n : Kind) → (n ≡ Source → ⊥) → (n ≡ Join → ⊥) → (n ≡ Merge → ⊥) → Inputs n true false
unfolding port_use
takes_one Source s j m = absurd (s refl)
takes_one Sink s j m = record { first = refl; second = refl; third = refl }
takes_one Queue s j m = record { first = refl; second = refl; third = refl }
takes_one Function s j m = record { first = refl; second = refl; third = refl }
takes_one Fork s j m = record { first = refl; second = refl; third = refl }
takes_one Join s j m = absurd (j refl)
takes_one Switch s j m = record { first = refl; second = refl; third = refl }
takes_one Merge s j m = absurd (m refl)

takes_two_join : Inputs Join true true
unfolding port_use
takes_two_join = record { first = refl; second = refl; third = refl }

takes_two_merge : Inputs Merge true true
unfolding port_use
takes_two_merge = record { first = refl; second = refl; third = refl }

-- an entry that is there already stays
set_keeps : (l : List ℕ) (i j v : ℕ) → i < length l → get_or l i 0 ≡ v → get_or (set l j v) i 0 ≡ v
set_keeps l i j v h e = by-test (eqb i j) refl
  where
    by-test : (t : Bool) → eqb i j ≡ t → get_or (set l j v) i 0 ≡ v
    by-test true q = subst (λ (y : ℕ). get_or (set l y v) i 0 ≡ v) (eqb-true i j q) (get_or-set_same l i v 0 h)
    by-test false q = get_or-set_other l j i v 0 (eqb-false i j q) ∙ e

module _ (f : Netlist) (a : AcceptedNetlist f) (k : ℕ) (low : k < f.components) (targets : List ℕ) (h : Targets f k targets) where
  abbrev x : Port → ℕ
  x p = port (row_of f k) p

  abbrev In : Port → Type 0
  In p = is_input (port_use (kind (row_of f k)) p) ≡ true

  -- component k stands at its input channels, and nothing else has changed
  noted : (targets' : List ℕ) → length targets' ≡ 256 → ((p : Port) → In p → get_or targets' (x p) 0 ≡ k) → ((y : ℕ) → ((p : Port) → In p → y ≡ x p → ⊥) → get_or targets' y 0 ≡ get_or targets y 0)
      → Targets f (k + 1) targets'
  noted targets' l own other = record { long = l; at = below_more (λ j. (p : Port) → is_input (port_use (kind (row_of f j)) p) ≡ true → get_or targets' (port (row_of f j) p) 0 ≡ j) k before own }
    where
      before : (j : ℕ) → j < k → (p : Port) → is_input (port_use (kind (row_of f j)) p) ≡ true → get_or targets' (port (row_of f j) p) 0 ≡ j
      before j m p i =
          other (port (row_of f j) p) (λ q o e. absurd (omega (arith, one-taker f a.ends a.order a.facts j (omega arith) p i k low q o e)))
          ∙ h.at j m p i

  inside : (p : Port) → x p < length targets
  inside p = omega (arith, h.long, (a.facts.rows k low).ports p, a.facts.few_channels)

  -- it takes from no channel, from that at A, from those at A and B
  none : Inputs (kind (row_of f k)) false false → Targets f (k + 1) targets
  none i = noted targets h.long own (λ y o. refl)
    where
      own : (p : Port) → In p → get_or targets (x p) 0 ≡ k
      own A e = no (sym i.first ∙ e)
      own B e = no (sym i.second ∙ e)
      own C e = no (sym i.third ∙ e)

  abbrev at_a : List ℕ
  at_a = set targets (x A) k

  one : Inputs (kind (row_of f k)) true false → Targets f (k + 1) at_a
  one i = noted at_a (length-set targets (x A) k ∙ h.long) own (λ y o. get_or-set_other targets (x A) y k 0 (o A i.first))
    where
      own : (p : Port) → In p → get_or at_a (x p) 0 ≡ k
      own A e = get_or-set_same targets (x A) k 0 (inside A)
      own B e = no (sym i.second ∙ e)
      own C e = no (sym i.third ∙ e)

  two : Inputs (kind (row_of f k)) true true → Targets f (k + 1) (set at_a (x B) k)
  two i =
      noted (set at_a (x B) k) (length-set at_a (x B) k ∙ length-set targets (x A) k ∙ h.long) own
      (λ y o. get_or-set_other at_a (x B) y k 0 (o B i.second) ∙ get_or-set_other targets (x A) y k 0 (o A i.first))
    where
      own : (p : Port) → In p → get_or (set at_a (x B) k) (x p) 0 ≡ k
      own A e = set_keeps at_a (x A) (x B) k (lt-length-set targets (x A) k (inside A)) (get_or-set_same targets (x A) k 0 (inside A))
      own B e = get_or-set_same at_a (x B) k 0 (lt-length-set targets (x A) k (inside B))
      own C e = no (sym i.third ∙ e)

  -- by the kind and the ports that were read
  module _ {n : Kind} (e : n ≡ kind (row_of f k)) where
    of_kind : {m : Kind} {one two : Bool} → n ≡ m → Inputs m one two → Inputs (kind (row_of f k)) one two
    of_kind {m} {one} {two} q i = subst (λ (t : Kind). Inputs t one two) (sym q ∙ e) i

    pub note-none : n ≡ Source → Targets f (k + 1) targets
    note-none z = none (of_kind z takes_none)

    pub note-one : (n ≡ Source → ⊥) → (n ≡ Join → ⊥) → (n ≡ Merge → ⊥) → {u : ℕ} → u ≡ x A → Targets f (k + 1) (set targets u k)
    note-one s j m q = rw q (one (of_kind refl (takes_one n s j m)))

    pub note-two : (n ≡ Join) ⊎ (n ≡ Merge) → {u v : ℕ} → u ≡ x A → v ≡ x B → Targets f (k + 1) (set (set targets u k) v k)
    note-two (inl z) q r = rw (q, r) (two (of_kind z takes_two_join))
    note-two (inr z) q r = rw (q, r) (two (of_kind z takes_two_merge))
