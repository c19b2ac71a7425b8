-- Laws of whether some number passes a test. Assumes nothing.
use Rattle.std.proofs.Common.{◌≡◌, ℕ, suc, ◌<◌, Bool, true, false, ◌||◌, ltb, ◌⊎◌, sym, refl, ap, ◌∙◌, inl, inr, true≢false, le_of_suc-le-suc, eq-or-lt_of_le, arith, ltb-false, ltb-true, le-ltb}
use Rattle.digits.specs.Least.{least, some}
use Rattle.digits.proofs.Least.{least-none, least-before, least-true}

module _ (p : ℕ → Bool) where
  pub some_at : (n e : ℕ) → e < n → p e ≡ true → some n p ≡ true
  some_at n e l t = go (ltb (least p n) n) refl
    where
      go : (b : Bool) → ltb (least p n) n ≡ b → b ≡ true
      go true q = refl
      go false q = absurd (true≢false (sym t ∙ least-before p n e (omega (arith, ltb-false (least p n) n q))))

  pub some_is : (n : ℕ) → some n p ≡ true → (e : ℕ) × (e < n) × (p e ≡ true)
  some_is n t =
      let l = ltb-true (least p n) n t in
      (least p n, l, least-true p n l)

  pub some-none : (n : ℕ) → some n p ≡ false → (e : ℕ) → e < n → p e ≡ false
  some-none n t e l = least-before p n e (omega (arith, ltb-false (least p n) n t))

  pub none-some : (n : ℕ) → ((e : ℕ) → e < n → p e ≡ false) → some n p ≡ false
  none-some n h = le-ltb (least p n) n (omega (arith, least-none p n h))

  -- and of one number more
  pub some_more : (n : ℕ) → some (suc n) p ≡ (some n p || p n)
  some_more n = go (some n p) refl (p n) refl
    where
      none : some n p ≡ false → p n ≡ false → (e : ℕ) → e < suc n → p e ≡ false
      none a b e l = pick (eq-or-lt_of_le (le_of_suc-le-suc l))
        where
          pick : (e ≡ n) ⊎ (e < n) → p e ≡ false
          pick (inl q) = ap p q ∙ b
          pick (inr m) = some-none n a e m

      go : (a : Bool) → some n p ≡ a → (b : Bool) → p n ≡ b → some (suc n) p ≡ (a || b)
      go true a b e =
          let s = some_is n a in
          some_at (suc n) s.0 (omega (arith, s.1)) s.2
      go false a true b = some_at (suc n) n (omega arith) b
      go false a false b = none-some (suc n) (none a b)

-- what passes one test passes another
pub some_mono : (p q : ℕ → Bool) (n : ℕ) → ((e : ℕ) → e < n → p e ≡ true → q e ≡ true) → some n p ≡ true → some n q ≡ true
some_mono p q n h t =
    let s = some_is p n t in
    some_at q n s.0 s.1 (h s.0 s.1 s.2)
