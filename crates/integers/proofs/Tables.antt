-- How growths of a table of sums compose. Assumes nothing.
use mathlib.Core.Path.{◌≡◌, refl, sym, ap, ◌∙◌, subst, subst⁻¹}
use mathlib.Core.Bool.{Bool, true, false, cond}
use mathlib.Core.List.{List}
use Prim.Native.Nat.{ℕ, ◌+◌, ◌*◌, ◌≤◌, ◌<◌}
use native.Mathlib.Omega.{arith}
use lib.Dec.{eqb}
use lib.ListN.{length, get_or, set, length-set, replicate, length-replicate, get_or-replicate}
use lib.Seq.{get_or-set_same, get_or-set_other}
use borrow.Author.Tests.{eqb-true, eqb-false}
use lib.IntN.{ℤ, pos, neg_ℤ, nat_abs, ◌+ℤ◌, ◌*ℤ◌, +ℤ_idr, +ℤ_assoc, zero-*ℤ, *ℤ-zero, *ℤ_comm, *ℤ-one, one}
use Rattle.integers.specs.Sum.{sum_to, same}
use Rattle.integers.specs.Tables.{Near, Grown, Summed}
use Rattle.integers.proofs.Ring.{distrib-l, neg-*ℤ}
use Rattle.integers.proofs.Sum.{sum-none, sum_more}
use Rattle.integers.proofs.Near.{nat_abs-add, nat_abs-mul-le, nat_abs-sum}

module _ {L : ℕ} {s t : List ℤ} {m : ℤ} where
  -- other names for the multiplier and the factors
  pub grown-is : {n : ℤ} {f g : ℕ → ℤ} → m ≡ n → ((v : ℕ) → v < L → f v ≡ g v) → Grown L s m f t → Grown L s n g t
  grown-is {n} {f} {g} e h r = record {
    long = r.long;
    at = λ v l. r.at v l ∙ ap (λ (z : ℤ). get_or s v (pos 0) +ℤ z *ℤ f v) e ∙ ap (λ (z : ℤ). get_or s v (pos 0) +ℤ n *ℤ z) (h v l);
  }

  pub grown-add : {f g : ℕ → ℤ} {u : List ℤ} → Grown L s m f t → Grown L t m g u → Grown L s m (λ v. f v +ℤ g v) u
  grown-add {f} {g} {u} p q = record {
    long = q.long;
    at = λ v l. q.at v l ∙ ap (λ (z : ℤ). z +ℤ m *ℤ g v) (p.at v l)
        ∙ +ℤ_assoc (get_or s v (pos 0)) (m *ℤ f v) (m *ℤ g v) ∙ ap (λ (z : ℤ). get_or s v (pos 0) +ℤ z) (sym (distrib-l m (f v) (g v)));
  }

  -- a loop over the numbers below a bound: one turn more
  pub grown-more : (d : ℕ) (f : ℕ → ℕ → ℤ) {u : List ℤ} → Grown L s m (λ v. sum_to d (f v)) t → Grown L t m (λ v. f v d) u → Grown L s m (λ v. sum_to (d + 1) (f v)) u
  grown-more d f p q = grown-trade (grown-add p q)
    where
      grown-trade : {u : List ℤ} → Grown L s m (λ v. sum_to d (f v) +ℤ f v d) u → Grown L s m (λ v. sum_to (d + 1) (f v)) u
      grown-trade r = record { long = r.long; at = λ v l. r.at v l ∙ ap (λ (z : ℤ). get_or s v (pos 0) +ℤ m *ℤ z) (sym (sum_more d (f v))) }

  -- the table that has grown is near 0 too
  pub near-grown : (B k c B' : ℕ) {f : ℕ → ℤ} → Near L B s → nat_abs m ≤ k → ((v : ℕ) → nat_abs (f v) ≤ c) → B + k * c ≤ B' → Grown L s m f t → Near L B' t
  near-grown B k c B' {f} n hm hf room r = record {
    long = r.long;
    near = λ v l. omega (arith, ap nat_abs (r.at v l), nat_abs-add (get_or s v (pos 0)) (m *ℤ f v), nat_abs-mul-le m (f v) k c hm (hf v), n.near v l);
  }

-- no turn yet
pub grown-none : {L : ℕ} (s : List ℤ) (m : ℤ) (f : ℕ → ℕ → ℤ) → length s ≡ L → Grown L s m (λ v. sum_to 0 (f v)) s
grown-none s m f h = record {
  long = h;
  at = λ v l. sym (ap (λ (z : ℤ). get_or s v (pos 0) +ℤ m *ℤ z) (sum-none (f v)) ∙ ap (λ (z : ℤ). get_or s v (pos 0) +ℤ z) (*ℤ-zero m) ∙ +ℤ_idr (get_or s v (pos 0)));
}

-- the other sign
pub grown-neg : {L : ℕ} {s t : List ℤ} (m : ℤ) (f : ℕ → ℤ) → Grown L s (neg_ℤ m) f t → Grown L s m (λ v. neg_ℤ (f v)) t
grown-neg {s} {t} m f r = record {
  long = r.long;
  at = λ v l. r.at v l ∙ ap (λ (z : ℤ). get_or s v (pos 0) +ℤ z) (neg-*ℤ m (f v) ∙ sym (mul-neg m (f v)));
}
  where
    mul-neg : (a b : ℤ) → a *ℤ neg_ℤ b ≡ neg_ℤ (a *ℤ b)
    mul-neg a b = *ℤ_comm a (neg_ℤ b) ∙ neg-*ℤ b a ∙ ap neg_ℤ (*ℤ_comm b a)

-- nothing is added
pub grown-still : {L : ℕ} {s : List ℤ} (m : ℤ) {f : ℕ → ℤ} → length s ≡ L → ((v : ℕ) → v < L → f v ≡ pos 0) → Grown L s m f s
grown-still {s} m h z = record {
  long = h;
  at = λ v l. sym (ap (λ (y : ℤ). get_or s v (pos 0) +ℤ m *ℤ y) (z v l) ∙ ap (λ (y : ℤ). get_or s v (pos 0) +ℤ y) (*ℤ-zero m) ∙ +ℤ_idr (get_or s v (pos 0)));
}

pub near-wider : {L : ℕ} {s : List ℤ} (B B' : ℕ) → B ≤ B' → Near L B s → Near L B' s
near-wider B B' h n = record { long = n.long; near = λ v l. omega (arith, n.near v l) }

-- one entry grows by m
stored : (s : List ℤ) (at v : ℕ) (m : ℤ) → at < length s → get_or (set s at (get_or s at (pos 0) +ℤ m)) v (pos 0) ≡ get_or s v (pos 0) +ℤ m *ℤ same at v
unfolding same one
stored s at v m h = by-test (eqb at v) refl
  where
    by-test : (t : Bool) → eqb at v ≡ t → get_or (set s at (get_or s at (pos 0) +ℤ m)) v (pos 0) ≡ get_or s v (pos 0) +ℤ m *ℤ cond t (pos 1) (pos 0)
    by-test true e =
        let k : at ≡ v = eqb-true at v e in
        subst (λ (w : ℕ). get_or (set s at (get_or s at (pos 0) +ℤ m)) w (pos 0) ≡ get_or s w (pos 0) +ℤ m *ℤ pos 1) k
        (get_or-set_same s at (get_or s at (pos 0) +ℤ m) (pos 0) h ∙ ap (λ (z : ℤ). get_or s at (pos 0) +ℤ z) (sym (*ℤ-one m)))
    by-test false e = get_or-set_other s at v (get_or s at (pos 0) +ℤ m) (pos 0) (λ k. eqb-false at v e (sym k)) ∙ sym (ap (λ (z : ℤ). get_or s v (pos 0) +ℤ z) (*ℤ-zero m) ∙ +ℤ_idr (get_or s v (pos 0)))

pub grown-at : {L : ℕ} (s : List ℤ) (at : ℕ) (m : ℤ) → length s ≡ L → at < L → Grown L s m (same at) (set s at (get_or s at (pos 0) +ℤ m))
grown-at s at m e h = record {
  long = length-set s at (get_or s at (pos 0) +ℤ m) ∙ e;
  at = λ v l. stored s at v m (subst⁻¹ (λ (k : ℕ). at < k) e h);
}

-- m or nothing is added
pub grown-if : {L : ℕ} {s t : List ℤ} (b : Bool) (m : ℤ) {f : ℕ → ℤ} → Grown L s (cond b m (pos 0)) f t → Grown L s m (λ v. cond b (f v) (pos 0)) t
grown-if true m r = r
grown-if {s} false m {f} r = record { long = r.long; at = λ v l. r.at v l ∙ ap (λ (z : ℤ). get_or s v (pos 0) +ℤ z) (zero-*ℤ (f v) ∙ sym (*ℤ-zero m)) }

-- a table of zeros
pub summed-zeros : (L : ℕ) → Summed L (λ v. pos 0) (replicate L (pos 0))
summed-zeros L = record { long = length-replicate L (pos 0); at = λ v l. get_or-replicate L v (pos 0) (pos 0) l }

-- a table that sums, over k terms, a multiplier times a factor
module _ (mult : ℕ → ℤ) (F : ℕ → ℕ → ℤ) {L : ℕ} where
  pub summed-none : {s : List ℤ} → Summed L (λ v. pos 0) s → Summed L (λ v. sum_to 0 (λ k. mult k *ℤ F k v)) s
  summed-none h = record { long = h.long; at = λ v l. h.at v l ∙ sym (sum-none (λ k. mult k *ℤ F k v)) }

  pub summed-more : (k : ℕ) {s t : List ℤ} → Summed L (λ v. sum_to k (λ j. mult j *ℤ F j v)) s → Grown L s (mult k) (F k) t → Summed L (λ v. sum_to (k + 1) (λ j. mult j *ℤ F j v)) t
  summed-more k h g = record {
    long = g.long;
    at = λ v l. g.at v l ∙ ap (λ (z : ℤ). z +ℤ mult k *ℤ F k v) (h.at v l) ∙ sym (sum_more k (λ j. mult j *ℤ F j v));
  }

  pub summed-near : (k B c : ℕ) {s : List ℤ} → ((j : ℕ) → nat_abs (mult j) ≤ B) → ((j v : ℕ) → nat_abs (F j v) ≤ c) → Summed L (λ v. sum_to k (λ j. mult j *ℤ F j v)) s → Near L (k * (B * c)) s
  summed-near k B c hm hf r = record { long = r.long; near = λ v l. omega (arith, ap nat_abs (r.at v l), nat_abs-sum k (B * c) (λ j. mult j *ℤ F j v) (λ j m. nat_abs-mul-le (mult j) (F j v) B c (hm j) (hf j v))) }
