-- An equation's side over one step: the few moves that it speaks of. Assumes nothing.
use mathlib.Core.Path.{◌≡◌, refl, sym, ap, ◌∙◌}
use mathlib.Core.Bool.{Bool, true, false, cond}
use Prim.Native.Nat.{ℕ, zero, suc, ◌+◌, ◌≤◌, ◌<◌}
use native.Mathlib.Omega.{arith}
use lib.Dec.{eqb}
use lib.IntN.{ℤ, pos, neg_ℤ, ◌+ℤ◌, ◌-ℤ◌, ◌*ℤ◌, +ℤ_invr, +ℤ-neg_ℤ_cancel, zero-*ℤ, *ℤ-zero, *ℤ-one, one, neg_ℤ-+ℤ, pos-+ℤ-pos}
use borrow.Author.Tests.{eq-eqb, ne_eqb}
use Rattle.integers.specs.Sum.{sum_to, same}
use Rattle.integers.proofs.Ring.{regroup, distrib-r, neg-*ℤ}
use Rattle.integers.proofs.Sum.{sum-cong, sum-zero, sum-add, sum-minus, sum-only, same-yes, same-no}
use Rattle.netlist.specs.Netlist.{Netlist}
use Rattle.equations.specs.Equations.{Side, less, side_if}
use Rattle.balance.specs.Balance.{transfer}

-- an equation's side, or part of one, over one step with the moves t
unfoldable pub total : Netlist → (ℕ → ℕ) → Side → ℤ
total f t a = sum_to f.channels (λ x. sum_to f.colours (λ d. a x d *ℤ transfer t x d))

-- over the step, a amounts to u
pub record Amounts (f : Netlist) (t : ℕ → ℕ) (a : Side) (u : ℕ) : Type 0 where
  pub is : total f t a ≡ pos u

module _ (f : Netlist) (t : ℕ → ℕ) where
  total-less : (a b : Side) → total f t (less a b) ≡ total f t a -ℤ total f t b
  unfolding total
  total-less a b =
      sum-cong f.channels _ _ (λ x l. row x) ∙ sum-add f.channels (λ x. at a x) (λ x. neg_ℤ (at b x))
      ∙ ap (λ (z : ℤ). sum_to f.channels (λ x. at a x) +ℤ z) (sum-minus f.channels (λ x. at b x))
    where
      at : Side → ℕ → ℤ
      at a x = sum_to f.colours (λ d. a x d *ℤ transfer t x d)

      row : (x : ℕ) → at (less a b) x ≡ at a x -ℤ at b x
      row x =
          sum-cong f.colours _ _ (λ d l. distrib-r (a x d) (neg_ℤ (b x d)) (transfer t x d) ∙ ap (λ (z : ℤ). a x d *ℤ transfer t x d +ℤ z) (neg-*ℤ (b x d) (transfer t x d)))
          ∙ sum-add f.colours (λ d. a x d *ℤ transfer t x d) (λ d. neg_ℤ (b x d *ℤ transfer t x d))
          ∙ ap (λ (z : ℤ). at a x +ℤ z) (sum-minus f.colours (λ d. b x d *ℤ transfer t x d))

module _ {f : Netlist} {t : ℕ → ℕ} where
  -- a part that speaks of channel y only, where u m is what it makes of a move m
  pub amounts-part : (y : ℕ) → y < f.channels → t y ≤ f.colours → (a : Side) (u : ℕ → ℕ) → u 0 ≡ 0 → ((x d : ℕ) → a x d ≡ cond (eqb x y) (pos (u (suc d))) (pos 0)) →
      Amounts f t a (u (t y))
  unfolding total one
  amounts-part y h l a u z s = record { is = sum-only f.channels y _ h (λ x m n. sum-zero f.colours _ (λ d m. rw (s, ne_eqb x y n) (zero-*ℤ (transfer t x d)))) ∙ move (t y) l }
    where
      move : (m : ℕ) → m ≤ f.colours → sum_to f.colours (λ d. a y d *ℤ same m (suc d)) ≡ pos (u m)
      move zero l = sum-zero f.colours _ (λ d n. rw (same-no 0 (suc d) (λ q. omega arith)) (*ℤ-zero (a y d))) ∙ ap pos (sym z)
      move (suc c) l =
          sum-only f.colours c _ l (λ d n e. rw (same-no (suc c) (suc d) (λ q. e (omega arith))) (*ℤ-zero (a y d)))
          ∙ rw (same-yes (suc c) (suc c) refl, s, eq-eqb y y refl) (*ℤ-one (pos (u (suc c))))

  -- a difference that is not below 0
  pub amounts-less : {a b : Side} {u v w : ℕ} → w ≡ u + v → Amounts f t a w → Amounts f t b v → Amounts f t (less a b) u
  amounts-less {a} {b} {u} {v} e p q = record {
    is = total-less f t a b ∙ rw (p.is, q.is, e) (ap (λ (z : ℤ). z -ℤ pos v) (sym (pos-+ℤ-pos u v)) ∙ +ℤ-neg_ℤ_cancel (pos u) (pos v));
  }

  pub amounts-even : {a b : Side} {u v : ℕ} → u ≡ v → Amounts f t a u → Amounts f t b v → Amounts f t (less a b) 0
  amounts-even e p q = amounts-less (omega arith) p q

  pub amounts-when : (b : Bool) {a : Side} {u : ℕ} → Amounts f t a u → Amounts f t (side_if b a) (cond b u 0)
  unfolding total
  amounts-when true p = p
  amounts-when false p = record { is = sum-zero f.channels _ (λ x l. sum-zero f.colours _ (λ d l. zero-*ℤ (transfer t x d))) }

  pub amounts-cond : (b : Bool) {a c : Side} {u : ℕ} → Amounts f t a u → Amounts f t c u → Amounts f t (cond b a c) u
  amounts-cond true p q = p
  amounts-cond false p q = q

  -- a difference beside what a count grew by
  pub grown-less : (m n : ℕ) {a b : Side} {u v : ℕ} → m + u ≡ n + v → Amounts f t a u → Amounts f t b v → pos m -ℤ pos n +ℤ total f t (less a b) ≡ pos 0
  grown-less m n {a} {b} {u} {v} e p q =
      ap (λ (z : ℤ). pos m -ℤ pos n +ℤ z) (total-less f t a b ∙ rw (p.is, q.is)) ∙ regroup (pos m) (neg_ℤ (pos n)) (pos u) (neg_ℤ (pos v))
      ∙ rw (pos-+ℤ-pos m u, e, ← neg_ℤ-+ℤ (pos n) (pos v), pos-+ℤ-pos n v) (+ℤ_invr (pos (n + v)))

  -- nothing grew
  pub still : {a : Side} → Amounts f t a 0 → pos 0 +ℤ total f t a ≡ pos 0
  still p = rw p.is
