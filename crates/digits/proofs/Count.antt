-- Laws of counting. Assumes nothing.
use Rattle.std.proofs.Common.{◌≡◌, ℕ, zero, suc, ◌<◌, ◌≤◌, Bool, true, false, ◌⊎◌, sym, refl, ap, ◌∙◌, inl, inr, le_of_suc-le-suc, eq-or-lt_of_le, arith}
use mathlib.Core.Bool.{false≢true}
use Rattle.digits.specs.Count.{count}

pub count_same : (p q : ℕ → Bool) (n : ℕ) → ((j : ℕ) → j < n → p j ≡ q j) → count p n ≡ count q n
unfolding count
count_same p q zero h = refl
count_same p q (suc n) h = rw (h n (omega arith), count_same p q n (λ j b. h j (omega arith)))

pub count_none : (p : ℕ → Bool) (n : ℕ) → ((j : ℕ) → j < n → p j ≡ false) → count p n ≡ 0
unfolding count
count_none p zero h = refl
count_none p (suc n) h = rw (h n (omega arith)) (omega (arith, count_none p n (λ j b. h j (omega arith))))

module _ (p : ℕ → Bool) (n : ℕ) where
  pub count_yes : p n ≡ true → count p (suc n) ≡ suc (count p n)
  unfolding count
  count_yes e = rw e (omega arith)

  pub count_no : p n ≡ false → count p (suc n) ≡ count p n
  unfolding count
  count_no e = rw e (omega arith)

-- one that passes is counted
pub count-pos : (p : ℕ → Bool) (n e : ℕ) → e < n → p e ≡ true → 1 ≤ count p n
count-pos p zero e h t = absurd (omega arith)
count-pos p (suc n) e h t = go (p n) refl (eq-or-lt_of_le (le_of_suc-le-suc h)) (λ s. count-pos p n e s t)
  where
    go : (b : Bool) → p n ≡ b → (e ≡ n) ⊎ (e < n) → (e < n → 1 ≤ count p n) → 1 ≤ count p (suc n)
    go true q s again = omega (arith, count_yes p n q)
    go false q (inl s) again = absurd (false≢true (sym q ∙ ap p (sym s) ∙ t))
    go false q (inr s) again = omega (arith, count_no p n q, again s)

-- where one passes, all that pass are that one
pub count-only : (p : ℕ → Bool) (n : ℕ) → count p n ≡ 1 → (e : ℕ) → e < n → p e ≡ true → (d : ℕ) → d < n → p d ≡ true → d ≡ e
count-only p zero c e he te d hd td = absurd (omega arith)
count-only p (suc n) c e he te d hd td = go (p n) refl (eq-or-lt_of_le (le_of_suc-le-suc he)) (eq-or-lt_of_le (le_of_suc-le-suc hd)) (λ z s r. count-only p n z e s te d r td)
  where
    go : (b : Bool) → p n ≡ b → (e ≡ n) ⊎ (e < n) → (d ≡ n) ⊎ (d < n) → (count p n ≡ 1 → e < n → d < n → d ≡ e) → d ≡ e
    go true q (inl s) (inl r) again = r ∙ sym s
    go true q (inr s) r again = absurd (omega (arith, count_yes p n q, count-pos p n e s te))
    go true q (inl s) (inr r) again = absurd (omega (arith, count_yes p n q, count-pos p n d r td))
    go false q (inl s) r again = absurd (false≢true (sym q ∙ ap p (sym s) ∙ te))
    go false q (inr s) (inl r) again = absurd (false≢true (sym q ∙ ap p (sym r) ∙ td))
    go false q (inr s) (inr r) again = again (sym (count_no p n q) ∙ c) s r

pub count-le : (p : ℕ → Bool) (n : ℕ) → count p n ≤ n
unfolding count
count-le p zero = omega arith
count-le p (suc n) = go (p n) refl (count-le p n)
  where
    go : (b : Bool) → p n ≡ b → count p n ≤ n → count p (suc n) ≤ suc n
    go true q l = omega (arith, count_yes p n q)
    go false q l = omega (arith, count_no p n q)

-- where all that pass one test pass another, the other counts as many, and more where one is new
module _ (p q : ℕ → Bool) where
  pub count-more : (n : ℕ) → ((j : ℕ) → j < n → p j ≡ true → q j ≡ true) → count p n ≤ count q n
  count-more zero h = omega (arith, count_none p zero (λ j l. absurd (omega arith)))
  count-more (suc n) h = go (p n) refl (q n) refl (count-more n (λ j l. h j (omega arith)))
    where
      go : (a : Bool) → p n ≡ a → (b : Bool) → q n ≡ b → count p n ≤ count q n → count p (suc n) ≤ count q (suc n)
      go true s true r l = omega (arith, count_yes p n s, count_yes q n r)
      go true s false r l = absurd (false≢true (sym r ∙ h n (omega arith) s))
      go false s true r l = omega (arith, count_no p n s, count_yes q n r)
      go false s false r l = omega (arith, count_no p n s, count_no q n r)

  pub count-new : (n : ℕ) → ((j : ℕ) → j < n → p j ≡ true → q j ≡ true) → (v : ℕ) → v < n → p v ≡ false → q v ≡ true → count p n < count q n
  count-new zero h v l s r = absurd (omega arith)
  count-new (suc n) h v l s r = go (eq-or-lt_of_le (le_of_suc-le-suc l)) (p n) refl (q n) refl (count-more n below) (λ m. count-new n below v m s r)
    where
      below : (j : ℕ) → j < n → p j ≡ true → q j ≡ true
      below j m = h j (omega arith)

      go : (v ≡ n) ⊎ (v < n) → (a : Bool) → p n ≡ a → (b : Bool) → q n ≡ b → count p n ≤ count q n → (v < n → count p n < count q n) → count p (suc n) < count q (suc n)
      go (inl e) true s' b r' m again = absurd (false≢true (sym s ∙ ap p e ∙ s'))
      go (inl e) false s' true r' m again = omega (arith, count_no p n s', count_yes q n r')
      go (inl e) false s' false r' m again = absurd (false≢true (sym r' ∙ ap q (sym e) ∙ r))
      go (inr e) true s' true r' m again = omega (arith, count_yes p n s', count_yes q n r', again e)
      go (inr e) true s' false r' m again = absurd (false≢true (sym r' ∙ h n (omega arith) s'))
      go (inr e) false s' true r' m again = omega (arith, count_no p n s', count_yes q n r', again e)
      go (inr e) false s' false r' m again = omega (arith, count_no p n s', count_no q n r', again e)
