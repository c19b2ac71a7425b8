-- Laws of `any` and `walks`. Assumes nothing.
use mathlib.Core.Path.{◌≡◌, refl, sym, ap, ◌∙◌}
use mathlib.Core.Logic.{◌⊎◌, inl, inr}
use mathlib.Core.Bool.{Bool, true, false, ◌&&◌, ◌||◌, false≢true}
use Prim.Native.Nat.{ℕ, zero, suc, ◌<◌}
use native.Mathlib.Nat.{eq-or-lt_of_le, le_of_suc-le-suc}
use native.Mathlib.Omega.{arith}
use borrow.Author.Tests.{ltb-true, lt-ltb}
use lib.Dec.{ltb}
use Rattle.order.specs.Graph.{Depends, any, walks}

or-true : (b : Bool) → (b || true) ≡ true
or-true true = refl
or-true false = refl

and_both : (a b : Bool) → (a && b) ≡ true → (a ≡ true) × (b ≡ true)
and_both true b e = (refl, e)
and_both false b e = absurd (false≢true e)

pub any_some : (m : ℕ) (p : ℕ → Bool) → any m p ≡ true → (j : ℕ) × (j < m) × (p j ≡ true)
unfolding any
any_some zero p e = absurd (false≢true e)
any_some (suc m) p e = go (p m) refl (any_some m p) e
  where
    go : (b : Bool) → p m ≡ b → (any m p ≡ true → (j : ℕ) × (j < m) × (p j ≡ true)) → (b || any m p) ≡ true → (j : ℕ) × (j < suc m) × (p j ≡ true)
    go true h rest e = (m, omega arith, h)
    go false h rest e = let r = rest e in (r.0, omega arith, r.2)

pub any-has : (m : ℕ) (p : ℕ → Bool) (j : ℕ) → j < m → p j ≡ true → any m p ≡ true
unfolding any
any-has zero p j h e = absurd (omega arith)
any-has (suc m) p j h e = go (eq-or-lt_of_le (le_of_suc-le-suc h)) (any-has m p j)
  where
    go : (j ≡ m) ⊎ (j < m) → (j < m → p j ≡ true → any m p ≡ true) → (p m || any m p) ≡ true
    go (inl q) rest = ap (λ (b : Bool). b || any m p) (sym (ap p q) ∙ e)
    go (inr q) rest = ap (λ (b : Bool). p m || b) (rest q e) ∙ or-true (p m)

pub any_same : (m : ℕ) (p q : ℕ → Bool) → ((j : ℕ) → j < m → p j ≡ q j) → any m p ≡ any m q
unfolding any
any_same zero p q h = refl
any_same (suc m) p q h = rw (h m (omega arith), any_same m p q (λ j l. h j (omega arith)))

module _ (D : ℕ → ℕ → ℕ) (n : ℕ) where
  pub walks-here : (k s : ℕ) → walks D n k s ≡ true → s < n
  unfolding walks
  walks-here zero s w = ltb-true s n w
  walks-here (suc k) s w = ltb-true s n (and_both _ _ w).0

  pub walks_next : (k s : ℕ) → walks D n (suc k) s ≡ true → (d : ℕ) × Depends D n s d × (walks D n k d ≡ true)
  unfolding walks
  walks_next k s w =
      let both = and_both (ltb s n) (any 4 (λ j. walks D n k (D s j))) w in
      let r = any_some 4 (λ j. walks D n k (D s j)) both.1 in
      (D s r.0, record { entry = r.0; below = r.1; is = refl; from = ltb-true s n both.0; to = walks-here k _ r.2 }, r.2)

  pub walks-zero : (s : ℕ) → s < n → walks D n 0 s ≡ true
  unfolding walks
  walks-zero s h = lt-ltb s n h

  pub walks-suc : (k s j : ℕ) → s < n → j < 4 → walks D n k (D s j) ≡ true → walks D n (suc k) s ≡ true
  unfolding walks
  walks-suc k s j hs hj w = ap (λ (b : Bool). b && any 4 (λ j. walks D n k (D s j))) (lt-ltb s n hs) ∙ any-has 4 (λ j. walks D n k (D s j)) j hj w
