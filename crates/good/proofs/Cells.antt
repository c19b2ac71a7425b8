-- Laws of a component's bytes that the functions' proofs cite. Assumes nothing.
use mathlib.Core.Path.{◌≡◌, refl, sym, ap, ◌∙◌}
use mathlib.Core.Bool.{Bool, true, false, cond, ◌&&◌}
use mathlib.Core.List.{List}
use Prim.Native.Nat.{ℕ, zero, suc, ◌+◌, ◌-◌, ◌<◌, min}
use native.Mathlib.Omega.{arith}
use native.Mathlib.Numerals.{add-one, one-add}
use native.Mathlib.Nat.{add-zero, add-suc}
use lib.Dec.{ltb, eqb}
use lib.ListN.{get_or}
use borrow.Author.Tests.{lt-ltb, le-ltb}
use Rattle.digits.proofs.Bools.{and-true}
use Rattle.component.specs.declared.kinds.Kind.{Kind}
use Rattle.component.specs.declared.kinds.Kind.TheVariants.{Source, Sink, Queue, Function, Fork, Join, Switch, Merge}
use Rattle.component.specs.Kind.{kind_of}
use Rattle.component.specs.Row.{kind}
use Rattle.component.proofs.ByKind.{middle-kind}
use Rattle.cells.specs.Good.{good_byte, all, good_cell}

-- byte 0 of function, fork, join and switch is good if it is 0
pub first_rest : (k : ℕ) (r : List ℕ) (c n b : ℕ) → (k ≡ 0 → ⊥) → (k ≡ 1 → ⊥) → (k ≡ 2 → ⊥) → k < 7 → eqb b 0 ≡ good_byte (kind_of k) r c n 0 b
unfolding good_byte
first_rest k r c n b = middle-kind (λ d. eqb b 0 ≡ good_byte d r c n 0 b) refl refl refl refl k

later-rest : (d : Kind) (r : List ℕ) (c n j b : ℕ) → (d ≡ Queue → ⊥) → eqb b 0 ≡ good_byte d r c n (suc j) b
unfolding good_byte
later-rest Source r c n j b h = refl
later-rest Sink r c n j b h = refl
later-rest Queue r c n j b h = absurd (h refl)
later-rest Function r c n j b h = refl
later-rest Fork r c n j b h = refl
later-rest Join r c n j b h = refl
later-rest Switch r c n j b h = refl
later-rest Merge r c n j b h = refl

-- a turn of a loop that tests all numbers below a bound
pub all-turn : (n : ℕ) (p : ℕ → Bool) (g t : Bool) → g ≡ all n p → t ≡ p n → (g && t) ≡ all (n + 1) p
unfolding all
all-turn n p g t e f = rw (add-one, e, f)

pub all_none : (p : ℕ → Bool) → true ≡ all 0 p
unfolding all
all_none p = refl

all_same : (n : ℕ) (p q : ℕ → Bool) → ((j : ℕ) → j < n → p j ≡ q j) → all n p ≡ all n q
unfolding all
all_same zero p q h = refl
all_same (suc n) p q h = rw (all_same n p q (λ j l. h j (omega arith)), h n (omega arith))

and_assoc : (a b c : Bool) → ((a && b) && c) ≡ (a && (b && c))
and_assoc true b c = refl
and_assoc false b c = refl

-- all numbers below a sum
all_split : (m n : ℕ) (p : ℕ → Bool) → all (m + n) p ≡ (all m p && all n (λ j. p (m + j)))
unfolding all
all_split m zero p = rw (add-zero, and-true)
all_split m (suc n) p = rw (add-suc, all_split m n p, and_assoc)

-- byte 0, then the rest
abbrev byte_good : ℕ → List ℕ → List ℕ → ℕ → Bool
byte_good c row s j = good_byte (kind row) row c (get_or s 0 0) j (get_or s j 0)

cell_parts : (c : ℕ) (row s : List ℕ) → good_cell c row s ≡ (good_byte (kind row) row c (get_or s 0 0) 0 (get_or s 0 0) && all 63 (λ j. byte_good c row s (1 + j)))
unfolding good_cell all
cell_parts c row s = all_split 1 63 (byte_good c row s)

-- byte 0 is not good
pub cell-bad : (c : ℕ) (row s : List ℕ) → good_byte (kind row) row c (get_or s 0 0) 0 (get_or s 0 0) ≡ false → false ≡ good_cell c row s
cell-bad c row s h = sym (cell_parts c row s ∙ rw h)

module _ (c : ℕ) (row s : List ℕ) (first : good_byte (kind row) row c (get_or s 0 0) 0 (get_or s 0 0) ≡ true) where
  -- of all but queues the rest is 0
  pub cell-zeros : (kind row ≡ Queue → ⊥) → all 63 (λ j. eqb (get_or s (1 + j) 0) 0) ≡ good_cell c row s
  cell-zeros h =
      sym (cell_parts c row s ∙ rw first (all_same 63 _ _ (λ j l. rw one-add (sym (later-rest (kind row) row c (get_or s 0 0) j (get_or s (suc j) 0) h)))))

  -- of queues the first n are colours
  pub cell-colours : (n : ℕ) → n ≡ min (get_or s 0 0) 63 → kind row ≡ Queue →
      (all n (λ j. ltb (get_or s (1 + j) 0) c) && all (63 - n) (λ j. eqb (get_or s (n + 1 + j) 0) 0)) ≡ good_cell c row s
  unfolding good_byte
  cell-colours n w e =
      let m : 63 ≡ n + (63 - n) = omega (arith, w) in
      sym (cell_parts c row s ∙ rw first
      (ap (λ (i : ℕ). all i (λ j. byte_good c row s (1 + j))) m ∙ all_split n (63 - n) (λ j. byte_good c row s (1 + j))
      ∙ both (all_same n _ _ front) (all_same (63 - n) _ _ rest)))
    where
      both : {a b d f : Bool} → a ≡ b → d ≡ f → (a && d) ≡ (b && f)
      both p q = cc

      at : (j : ℕ) → byte_good c row s (1 + j) ≡ cond (ltb j (get_or s 0 0)) (ltb (get_or s (1 + j) 0) c) (eqb (get_or s (1 + j) 0) 0)
      at j = rw (one-add, e)

      front : (j : ℕ) → j < n → byte_good c row s (1 + j) ≡ ltb (get_or s (1 + j) 0) c
      front j l = at j ∙ rw (lt-ltb j (get_or s 0 0) (omega (arith, w)))

      rest : (j : ℕ) → j < 63 - n → byte_good c row s (1 + (n + j)) ≡ eqb (get_or s (n + 1 + j) 0) 0
      rest j l =
          let q : n ≡ get_or s 0 0 = omega (arith, w) in
          let i : 1 + (n + j) ≡ n + 1 + j = omega arith in
          at (n + j) ∙ rw (le-ltb (n + j) (get_or s 0 0) (omega arith), i)
