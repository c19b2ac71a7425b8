-- Sets of numbers below n that only grow, each worked out from the one before, have settled after n rounds. Assumes nothing.
use Rattle.std.proofs.Common.{◌≡◌, ℕ, zero, suc, ◌<◌, ◌≤◌, Bool, true, false, not, ◌&&◌, ◌⊎◌, refl, inl, inr, true≢false, arith}
use native.Mathlib.Decide.{le_ind}
use borrow.Author.Tests.{not-true}
use Rattle.digits.specs.Least.{some}
use Rattle.digits.specs.Count.{count}
use Rattle.digits.proofs.Bools.{and_both}
use Rattle.digits.proofs.Count.{count-le, count-new}
use Rattle.digits.proofs.Some.{some_is, some-none}

module _ (s : ℕ → ℕ → Bool) (n : ℕ) where
  -- nothing is new in the round after round i
  abbrev Still : ℕ → Type 0
  Still i = (v : ℕ) → v < n → s (suc i) v ≡ true → s i v ≡ true

  module _ (grows : (i v : ℕ) → v < n → s i v ≡ true → s (suc i) v ≡ true) (rests : (i : ℕ) → Still i → Still (suc i)) where
    -- some round before i was still, or there are i numbers at least
    abbrev Progress : ℕ → Type 0
    Progress i = ((j : ℕ) × (j < i) × Still j) ⊎ (i ≤ count (s i) n)

    fresh : ℕ → ℕ → Bool
    fresh i v = s (suc i) v && not (s i v)

    one-round : (i : ℕ) → Progress i → Progress (suc i)
    unfolding fresh
    one-round i (inl (j, l, q)) = inl (j, omega arith, q)
    one-round i (inr l) = go (some n (fresh i)) refl
      where
        still : some n (fresh i) ≡ false → Still i
        still e v m t = kept (s i v) refl
          where
            kept : (b : Bool) → s i v ≡ b → s i v ≡ true
            kept true q = q
            kept false q = absurd (true≢false (rw (t, q) at (some-none (fresh i) n e v m)))

        go : (b : Bool) → some n (fresh i) ≡ b → Progress (suc i)
        go true e =
            let v = some_is (fresh i) n e in
            let both = and_both (s (suc i) v.0) (not (s i v.0)) v.2 in
            inr (omega (arith, count-new (s i) (s (suc i)) n (grows i) v.0 v.1 (not-true (s i v.0) both.1) both.0))
        go false e = inl (i, omega arith, still e)

    progress : (i : ℕ) → Progress i
    progress zero = inr (omega arith)
    progress (suc i) = one-round i (progress i)

    pub settles : Still n
    settles = go (progress (suc n))
      where
        go : Progress (suc n) → Still n
        go (inl (j, l, q)) = le_ind Still q (λ i m. rests i) n (omega arith)
        go (inr l) = absurd (omega (arith, count-le (s (suc n)) n))
