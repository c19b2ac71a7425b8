-- Laws of `SoundPlaces`, which holds of the places, the order and its count. Assumes nothing.
use mathlib.Core.Path.{◌≡◌, refl, sym, ap, ◌∙◌}
use mathlib.Core.List.{List}
use mathlib.Core.Bool.{Bool, true, false}
use Prim.Native.Nat.{ℕ, zero, suc, ◌+◌, ◌-◌, ◌<◌, ◌≤◌}
use native.Mathlib.Decide.{dec_lt, ℕ_discrete}
use native.Mathlib.Omega.{arith}
use lib.ListN.{length, get_or, set, replicate, length-set, length-replicate}
use lib.Seq.{get_or-set_same, get_or-set_other}
use Rattle.order.specs.Graph.{Depends, walks, has_circle, Sorted, most_signals}
use Rattle.order.specs.Places.{SoundPlaces, Kept}
use Rattle.order.proofs.Graph.{any_some, walks_next}
use Rattle.order.proofs.Zeros.{zeros-set, zeros-all, zeros-replicate, get_or-zeros}

-- nothing is in the order yet
pub good_none : (D : ℕ → ℕ → ℕ) (O : List ℕ) (n : ℕ) → n ≤ length O → n ≤ most_signals → SoundPlaces D (replicate n 0) O 0
good_none D O n l h =
    let len = length-replicate {A = ℕ} n 0 in
    let z = get_or-zeros n in
    record {
      fits = omega arith;
      short = omega arith;
      full = omega (arith, zeros-replicate n);
      back = λ s p q. absurd (omega (arith, z s));
      fwd = λ p q. absurd (omega arith);
      after = λ s j q. absurd (omega (arith, z s));
    }

module _ {D : ℕ → ℕ → ℕ} {P O : List ℕ} {c : ℕ} (g : SoundPlaces D P O c) where
  -- a signal that is not in the order has room there
  pub room : (s : ℕ) → s < length P → get_or P s 0 ≡ 0 → c < length P
  room s h e = omega (arith, zeros-set P s 1 h e (omega arith), g.full)

  bound : (x : ℕ) → 0 < get_or P x 0 → get_or P x 0 ≤ c
  bound x q = omega (arith, g.back x (get_or P x 0 - 1) (omega arith))

  -- a signal that depends on the last one of the order is not in it
  pub not_yet : (s j : ℕ) → j < 4 → D s j < length P → get_or P (D s j) 0 ≡ c → get_or P s 0 ≡ 0
  not_yet s j hj hd e = go (dec_lt 0 (get_or P s 0))
    where
      go : Dec (0 < get_or P s 0) → get_or P s 0 ≡ 0
      go (yes q) = absurd (omega (arith, g.after s j q hj hd, bound s q))
      go (no q) = omega (arith, q)

  -- a walk from a signal in the order is no longer than its place
  pub rank : (k x : ℕ) → walks D (length P) k x ≡ true → 0 < get_or P x 0 → k < get_or P x 0
  rank zero x w q = q
  rank (suc k) x w q = go (walks_next D (length P) k x w) (rank k)
    where
      go : (d : ℕ) × Depends D (length P) x d × (walks D (length P) k d ≡ true) → ((d : ℕ) → walks D (length P) k d ≡ true → 0 < get_or P d 0 → k < get_or P d 0) → suc k < get_or P x 0
      go (d, u, w') again =
          let r = g.after x u.entry q u.below (rw u.is u.to) in
          let r' = rw u.is at r in
          omega (arith, again d w' r'.0)

  module _ (all : (x : ℕ) → x < length P → 0 < get_or P x 0) where
    -- where all signals are in the order there is no circle
    pub no-circle : has_circle D (length P) ≡ false
    unfolding has_circle
    no-circle = go (has_circle D (length P)) refl
      where
        go : (b : Bool) → has_circle D (length P) ≡ b → b ≡ false
        go false h = refl
        go true h =
            let r = any_some (length P) (walks D (length P) (length P)) h in
            absurd (omega (arith, rank (length P) r.0 r.2 (all r.0 r.1), bound r.0 (all r.0 r.1), g.full))

    -- and the order is a good one
    pub sorted : Sorted D (length P) O
    sorted =
        let n : c ≡ length P = omega (arith, g.full, zeros-all P all) in
        record {
          below = λ p q. (g.fwd p (omega arith)).0;
          each = λ s q. let r = g.back s (get_or P s 0 - 1) (omega (arith, all s q)) in (get_or P s 0 - 1, omega (arith, r.0), r.1);
          once = λ p q hp hq e. omega (arith, (g.fwd p (omega arith)).1, (g.fwd q (omega arith)).1, ap (λ (y : ℕ). get_or P y 0) e);
          after = λ p d q u.
              let at = g.fwd p (omega arith) in
              let r = rw u.is at (g.after (get_or O p 0) u.entry (omega arith) u.below (rw u.is u.to)) in
              let v = g.back d (get_or P d 0 - 1) (omega arith) in
              (get_or P d 0 - 1, omega arith, v.1);
        }

  -- a signal s that is not in the order is put there after all that it depends on
  module _ (s : ℕ) (h : s < length P) (e : get_or P s 0 ≡ 0) where
    other : (x : ℕ) → 0 < get_or P x 0 → get_or (set P s (c + 1)) x 0 ≡ get_or P x 0
    other x q = get_or-set_other P s x (c + 1) 0 (λ (i : x ≡ s). absurd (omega (arith, ap (λ (y : ℕ). get_or P y 0) i)))

    here : get_or (set P s (c + 1)) s 0 ≡ c + 1
    here = get_or-set_same P s (c + 1) 0 h

    last : get_or (set O c s) c 0 ≡ s
    last = get_or-set_same O c s 0 (omega (arith, room s h e, g.fits))

    earlier : (p : ℕ) → p < c → get_or (set O c s) p 0 ≡ get_or O p 0
    earlier p q = get_or-set_other O c p s 0 (λ (i : p ≡ c). absurd (omega arith))

    pub put-kept : Kept P (set P s (c + 1))
    put-kept x q = rw (other x q) q

    pub put-good : ((j : ℕ) → j < 4 → D s j < length P → 0 < get_or P (D s j) 0) → SoundPlaces D (set P s (c + 1)) (set O c s) (c + 1)
    put-good deps =
        let len = length-set P s (c + 1) in
        let len' = length-set O c s in
        record {
          fits = omega (arith, g.fits);
          short = omega (arith, g.short);
          full = omega (arith, g.full, zeros-set P s (c + 1) h e (omega arith));
          back = λ x p. back' x p (ℕ_discrete x s);
          fwd = λ p q. fwd' p (ℕ_discrete p c) q;
          after = λ x j q hj hd. after' x j (ℕ_discrete x s) q hj (omega arith);
        }
      where
        back' : (x p : ℕ) → Dec (x ≡ s) → get_or (set P s (c + 1)) x 0 ≡ p + 1 → (p < c + 1) × (get_or (set O c s) p 0 ≡ x)
        back' x p (yes i) q =
            let v : p ≡ c = omega (arith, ap (λ (y : ℕ). get_or (set P s (c + 1)) y 0) i, here) in
            (omega arith, rw (v, i) last)
        back' x p (no i) q =
            let r = g.back x p (sym (get_or-set_other P s x (c + 1) 0 i) ∙ q) in
            (omega arith, earlier p r.0 ∙ r.1)

        fwd' : (p : ℕ) → Dec (p ≡ c) → p < c + 1 → (get_or (set O c s) p 0 < length (set P s (c + 1))) × (get_or (set P s (c + 1)) (get_or (set O c s) p 0) 0 ≡ p + 1)
        fwd' p (yes i) q = rw (i, last, length-set) (h, here)
        fwd' p (no i) q =
            let r = g.fwd p (omega arith) in
            rw (earlier p (omega arith), length-set) (r.0, other (get_or O p 0) (omega arith) ∙ r.1)

        after' : (x j : ℕ) → Dec (x ≡ s) → 0 < get_or (set P s (c + 1)) x 0 → j < 4 → D x j < length P → (0 < get_or (set P s (c + 1)) (D x j) 0) × (get_or (set P s (c + 1)) (D x j) 0 < get_or (set P s (c + 1)) x 0)
        after' x j (yes i) q hj hd =
            let r = deps j hj (rw i at hd) in
            let k = other (D s j) r in
            rw i (omega (arith, bound (D s j) r, here))
        after' x j (no i) q hj hd =
            let same = get_or-set_other P s x (c + 1) 0 i in
            let r = g.after x j (omega arith) hj hd in
            let k = other (D x j) r.0 in
            omega arith
