-- Where the dependences hold no circle the values by fuel obey the rules, are the only ones that do, and are found by working
-- the signals out in a good order. Assumes nothing.
use mathlib.Core.Path.{◌≡◌, refl, sym, subst, ◌∙◌}
use mathlib.Core.List.{List}
use mathlib.Core.Bool.{Bool, true, false, true≢false}
use Prim.Native.Nat.{ℕ, zero, suc, ◌<◌, ◌≤◌}
use native.Mathlib.Omega.{arith}
use lib.ListN.{get_or}
use Rattle.order.specs.Graph.{Depends, walks, has_circle, Sorted}
use Rattle.order.specs.Values.{val}
use Rattle.order.proofs.Graph.{any_some, any-has, walks_next, walks-zero, walks-suc}

not-true-false : (b : Bool) → (b ≡ true → ⊥) → b ≡ false
not-true-false true h = absurd (h refl)
not-true-false false h = refl

-- no walk of k dependences from s
abbrev pub Stops : (ℕ → ℕ → ℕ) → ℕ → ℕ → ℕ → Type 0
Stops D n k s = walks D n k s ≡ true → ⊥

module _ (D : ℕ → ℕ → ℕ) (n : ℕ) where
  stops-next : (k s d : ℕ) → Depends D n s d → Stops D n (suc k) s → Stops D n k d
  stops-next k s d u h w = h (walks-suc D n k s u.entry u.from u.below (rw u.is w))

  stops-n : has_circle D n ≡ false → (s : ℕ) → s < n → Stops D n n s
  unfolding has_circle
  stops-n h s q w = true≢false (sym (any-has n (walks D n n) s q w) ∙ h)

  -- a walk from the p-th signal of a good order has at most p dependences
  sorted-rank : (O : List ℕ) → Sorted D n O → (k p : ℕ) → p < n → walks D n k (get_or O p 0) ≡ true → k ≤ p
  sorted-rank O o zero p q w = omega arith
  sorted-rank O o (suc k) p q w = go (walks_next D n k (get_or O p 0) w) (sorted-rank O o k)
    where
      go : (d : ℕ) × Depends D n (get_or O p 0) d × (walks D n k d ≡ true) → ((p : ℕ) → p < n → walks D n k (get_or O p 0) ≡ true → k ≤ p) → suc k ≤ p
      go (d, u, w') again =
          let r = o.after p d q u in
          omega (arith, again r.0 (omega (arith, r.1)) (rw r.2 w'), r.1)

  pub sorted-no-circle : (O : List ℕ) → Sorted D n O → has_circle D n ≡ false
  unfolding has_circle
  sorted-no-circle O o = not-true-false _ λ h.
      let r = any_some n (walks D n n) h in
      let e = o.each r.0 r.1 in
      absurd (omega (arith, sorted-rank O o n e.0 e.1 (rw e.2 r.2), e.1))

  module _ {A : Type 0} (rule : ℕ → (ℕ → A) → A) (v₀ : A)
      (only : (s : ℕ) → s < n → (f g : ℕ → A) → ((d : ℕ) → Depends D n s d → f d ≡ g d) → rule s f ≡ rule s g) where
    -- values that obey the rules are the values by fuel
    obeys : (f : ℕ → A) → ((s : ℕ) → s < n → f s ≡ rule s f) → (k s : ℕ) → s < n → Stops D n k s → f s ≡ val rule v₀ k s
    unfolding val
    obeys f ok zero s q h = absurd (h (walks-zero D n s q))
    obeys f ok (suc k) s q h = ok s q ∙ only s q f (val rule v₀ k) (λ d u. obeys f ok k d u.to (stops-next k s d u h))

    more-fuel : (k s : ℕ) → s < n → Stops D n k s → val rule v₀ k s ≡ val rule v₀ (suc k) s
    unfolding val
    more-fuel zero s q h = absurd (h (walks-zero D n s q))
    more-fuel (suc k) s q h = only s q (val rule v₀ k) (val rule v₀ (suc k)) (λ d u. more-fuel k d u.to (stops-next k s d u h))

    module _ (free : has_circle D n ≡ false) where
      pub val-rule : (s : ℕ) → s < n → val rule v₀ n s ≡ rule s (val rule v₀ n)
      unfolding val
      val-rule s q = more-fuel n s q (stops-n free s q)

      pub val-unique : (f : ℕ → A) → ((s : ℕ) → s < n → f s ≡ rule s f) → (s : ℕ) → s < n → f s ≡ val rule v₀ n s
      val-unique f ok s q = obeys f ok n s q (stops-n free s q)

    -- the p-th signal of a good order is worked out from values of those before it
    pub val-next : (O : List ℕ) → Sorted D n O → (f : ℕ → A) (p : ℕ) → p < n → ((q : ℕ) → q < p → f (get_or O q 0) ≡ val rule v₀ n (get_or O q 0)) → rule (get_or O p 0) f ≡ val rule v₀ n (get_or O p 0)
    val-next O o f p h before =
        only (get_or O p 0) (o.below p h) f (val rule v₀ n) (λ d u. let r = o.after p d h u in subst (λ (x : ℕ). f x ≡ val rule v₀ n x) r.2 (before r.0 r.1))
        ∙ sym (val-rule (sorted-no-circle O o) (get_or O p 0) (o.below p h))
