-- The test `has_circle` agrees with the relation `Circular`. Assumes nothing.
use mathlib.Core.Path.{◌≡◌, sym, subst, ◌∙◌}
use mathlib.Core.Logic.{◌↔◌}
use mathlib.Core.List.{List}
use mathlib.Core.Bool.{true}
use Prim.Native.Nat.{ℕ, zero, suc, ◌<◌, ◌≤◌}
use native.Mathlib.Decide.{dec_lt, ℕ_discrete}
use native.Mathlib.Omega.{arith}
use lib.ListN.{length, get_or, set, replicate, length-set, length-replicate}
use lib.Seq.{get_or-set_other}
use Rattle.order.specs.Graph.{Depends, Path⁺, one, more, Circular, walks, has_circle}
use Rattle.order.specs.Zeros.{zeros}
use Rattle.order.proofs.Graph.{any_some, any-has, walks-here, walks_next, walks-zero, walks-suc}
use Rattle.order.proofs.Zeros.{zeros-set, zeros-replicate, get_or-zeros}

module _ (D : ℕ → ℕ → ℕ) (n : ℕ) where
  from : {s e : ℕ} → Path⁺ D n s e → s < n
  from (one h) = h.from
  from (more h p) = h.from

  snoc : {s e d : ℕ} → Path⁺ D n s e → Depends D n e d → Path⁺ D n s d
  snoc (one h) g = more h (one g)
  snoc (more h p) g = more h (snoc p g)

  step : (k s d : ℕ) → Depends D n s d → walks D n k d ≡ true → walks D n (suc k) s ≡ true
  step k s d h w = walks-suc D n k s h.entry h.from h.below (rw h.is w)

  round : (s : ℕ) → Path⁺ D n s s → (k x : ℕ) → Path⁺ D n x s → walks D n k x ≡ true
  round s c zero x p = walks-zero D n x (from p)
  round s c (suc k) x (one h) = step k x s h (round s c k s c)
  round s c (suc k) x (more {d} h p) = step k x d h (round s c k d p)

  -- a circle can be walked for ever
  circular-has : Circular D n → has_circle D n ≡ true
  unfolding has_circle
  circular-has (s, c) = any-has n (walks D n n) s (from c) (round s c n s c)

  -- each signal marked in `seen` leads to s, and a walk from s has as many steps as signals are unmarked, or more
  stuck : (k s : ℕ) (seen : List ℕ) → length seen ≡ n → zeros seen ≤ k → ((x : ℕ) → 0 < get_or seen x 0 → Path⁺ D n x s) → walks D n k s ≡ true → Circular D n
  stuck zero s seen len z lead w = go (dec_lt 0 (get_or seen s 0))
    where
      go : Dec (0 < get_or seen s 0) → Circular D n
      go (yes h) = (s, lead s h)
      go (no h) = absurd (omega (arith, h, zeros-set seen s 1 (subst (λ (m : ℕ). s < m) (sym len) (walks-here D n 0 s w)) (omega arith) (omega arith)))
  stuck (suc k) s seen len z lead w = go (dec_lt 0 (get_or seen s 0)) (walks_next D n k s w) (stuck k)
    where
      lead' : (d x : ℕ) → Depends D n s d → Dec (x ≡ s) → 0 < get_or (set seen s 1) x 0 → Path⁺ D n x d
      lead' d x g (yes e) q = rw e (one g)
      lead' d x g (no e) q = snoc (lead x (subst (λ (m : ℕ). 0 < m) (get_or-set_other seen s x 1 0 e) q)) g

      go :
          Dec (0 < get_or seen s 0) →
          (d : ℕ) × Depends D n s d × (walks D n k d ≡ true) →
          ((d : ℕ) (next : List ℕ) → length next ≡ n → zeros next ≤ k → ((x : ℕ) → 0 < get_or next x 0 → Path⁺ D n x d) → walks D n k d ≡ true → Circular D n) →
          Circular D n
      go (yes h) r again = (s, lead s h)
      go (no h) (d, g, w') again =
          let fewer = zeros-set seen s 1 (subst (λ (m : ℕ). s < m) (sym len) g.from) (omega arith) (omega arith) in
          again d (set seen s 1) (length-set seen s 1 ∙ len) (omega arith) (λ x. lead' d x g (ℕ_discrete x s)) w'

  -- a walk of n dependences comes to some signal twice
  has-circular : has_circle D n ≡ true → Circular D n
  unfolding has_circle
  has-circular h =
      let r = any_some n (walks D n n) h in
      stuck n r.0 (replicate n 0) (length-replicate n 0) (omega (arith, zeros-replicate n)) (λ x q. absurd (omega (arith, get_or-zeros n x))) r.2

  pub circle-agrees : (has_circle D n ≡ true) ↔ Circular D n
  circle-agrees = (has-circular, circular-has)
