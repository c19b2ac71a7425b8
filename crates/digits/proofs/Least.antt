-- Laws of the least number that passes a test. Assumes nothing.
use Rattle.std.proofs.Common.{◌≡◌, ℕ, zero, suc, ◌<◌, ◌≤◌, Bool, true, false, cond, ◌||◌, refl, ap, zero-le, arith}
use Rattle.digits.specs.Least.{least}

-- what a search that goes up finds
pub least_at : (p : ℕ → Bool) (n k : ℕ) → k < n → ((j : ℕ) → j < k → p j ≡ false) → p k ≡ true → least p n ≡ k
unfolding least
least_at p zero k h none e = absurd (omega arith)
least_at p (suc n) zero h none e = rw e
least_at p (suc n) (suc k) h none e =
    rw (none zero (omega arith)) (ap suc (least_at (λ j. p (suc j)) n k (omega arith) (λ j b. none (suc j) (omega arith)) e))

pub least-none : (p : ℕ → Bool) (n : ℕ) → ((j : ℕ) → j < n → p j ≡ false) → least p n ≡ n
unfolding least
least-none p zero none = refl
least-none p (suc n) none = rw (none zero (omega arith)) (ap suc (least-none (λ j. p (suc j)) n (λ j b. none (suc j) (omega arith))))

-- what it tells
pub least-le : (p : ℕ → Bool) (n : ℕ) → least p n ≤ n
unfolding least
least-le p zero = zero-le
least-le p (suc n) = go (p zero) (least-le (λ j. p (suc j)) n)
  where
    go : (b : Bool) → least (λ j. p (suc j)) n ≤ n → cond b zero (suc (least (λ j. p (suc j)) n)) ≤ suc n
    go true h = zero-le
    go false h = omega arith

pub least-before : (p : ℕ → Bool) (n j : ℕ) → j < least p n → p j ≡ false
unfolding least
least-before p zero j h = absurd (omega arith)
least-before p (suc n) j h = go (p zero) refl j h (least-before (λ k. p (suc k)) n)
  where
    go : (b : Bool) → p zero ≡ b → (i : ℕ) → i < cond b zero (suc (least (λ k. p (suc k)) n)) → ((i : ℕ) → i < least (λ k. p (suc k)) n → p (suc i) ≡ false) → p i ≡ false
    go true e i h again = absurd (omega arith)
    go false e zero h again = e
    go false e (suc i) h again = again i (omega arith)

pub least-true : (p : ℕ → Bool) (n : ℕ) → least p n < n → p (least p n) ≡ true
unfolding least
least-true p zero h = absurd (omega arith)
least-true p (suc n) h = go (p zero) refl h (least-true (λ k. p (suc k)) n)
  where
    go : (b : Bool) → p zero ≡ b → cond b zero (suc (least (λ k. p (suc k)) n)) < suc n
        → (least (λ k. p (suc k)) n < n → p (suc (least (λ k. p (suc k)) n)) ≡ true) → p (cond b zero (suc (least (λ k. p (suc k)) n))) ≡ true
    go true e h again = e
    go false e h again = again (omega arith)

-- tests that agree below n
pub least-same : (p q : ℕ → Bool) (n : ℕ) → ((j : ℕ) → j < n → p j ≡ q j) → least p n ≡ least q n
unfolding least
least-same p q zero h = refl
least-same p q (suc n) h = rw (h zero (omega arith), least-same (λ k. p (suc k)) (λ k. q (suc k)) n (λ j b. h (suc j) (omega arith)))

-- the least that passes one of two tests is the least that passes the second below the least that passes the first
pub least-or : (p q : ℕ → Bool) (n : ℕ) → least (λ k. p k || q k) n ≡ least q (least p n)
unfolding least
least-or p q zero = refl
least-or p q (suc n) = go (p zero) (q zero) refl (least-or (λ k. p (suc k)) (λ k. q (suc k)) n)
  where
    go : (a b : Bool) → q zero ≡ b → least (λ k. p (suc k) || q (suc k)) n ≡ least (λ k. q (suc k)) (least (λ k. p (suc k)) n)
        → cond (a || b) zero (suc (least (λ k. p (suc k) || q (suc k)) n)) ≡ least q (cond a zero (suc (least (λ k. p (suc k)) n)))
    go true b e again = refl
    go false true e again = rw e
    go false false e again = rw e (ap suc again)
