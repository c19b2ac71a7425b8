-- Laws of the lowest number that passes a test, if there is one. Assumes nothing.
use Rattle.std.proofs.Common.{◌≡◌, ℕ, ◌<◌, Bool, true, false, Some, None, unwrap_or, sym, ap, ◌∙◌, arith}
use Rattle.digits.specs.Least.{least}
use Rattle.digits.proofs.Least.{least_at, least-none, least-le, least-before, least-true, least-same}
use Rattle.search.specs.First.{first}

module _ (test : ℕ → Bool) (n : ℕ) where
  -- what a search that goes up finds
  pub first_at : (k : ℕ) → k < n → ((j : ℕ) → j < k → test j ≡ false) → test k ≡ true → first test n ≡ Some k
  first_at k h none e =
      let here : least test n ≡ k = least_at test n k h none e in
      rw here (grind arith)

  pub no_first : ((j : ℕ) → j < n → test j ≡ false) → first test n ≡ None
  no_first none = rw (least-none test n none) (grind arith)

  -- what it tells where it finds one
  pub first_least : (k : ℕ) → first test n ≡ Some k → (k < n) × (least test n ≡ k)
  first_least k e = grind arith

  pub first_true : (k : ℕ) → first test n ≡ Some k → test k ≡ true
  first_true k e =
      let (l, is) : (k < n) × (least test n ≡ k) = first_least k e in
      ap test (sym is) ∙ least-true test n (omega arith)

  pub first_before : (k : ℕ) → first test n ≡ Some k → (j : ℕ) → j < k → test j ≡ false
  first_before k e j h =
      let (l, is) : (k < n) × (least test n ≡ k) = first_least k e in
      least-before test n j (omega arith)

  -- and where it finds none
  pub none_least : first test n ≡ None → least test n ≡ n
  none_least e = grind (arith, least-le)

  pub none_passes : first test n ≡ None → (j : ℕ) → j < n → test j ≡ false
  none_passes e j h = least-before test n j (omega (arith, none_least e))

  -- the least number by what was found
  pub first_or_n : unwrap_or (first test n) n ≡ least test n
  first_or_n = grind (arith, least-le)

-- tests that agree below n
pub first_same : (p q : ℕ → Bool) (n : ℕ) → ((j : ℕ) → j < n → p j ≡ q j) → first p n ≡ first q n
first_same p q n h = rw (least-same p q n h)
