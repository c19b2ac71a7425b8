-- Where the dependences hold no circle there is a good order. Assumes nothing.
use mathlib.Core.Path.{◌≡◌, refl, sym, ap, subst, ◌∙◌}
use mathlib.Core.Logic.{◌⊎◌, inl, inr}
use mathlib.Core.List.{List, [], ◌∷◌}
use mathlib.Core.Bool.{true, false, true≢false}
use Prim.Native.Nat.{ℕ, zero, suc, ◌+◌, ◌<◌, ◌≤◌}
use native.Mathlib.Decide.{dec_lt}
use native.Mathlib.Nat.{eq-or-lt_of_le, le_of_suc-le-suc}
use native.Mathlib.Omega.{arith}
use lib.ListN.{length, get_or, set, replicate, length-set, length-replicate}
use Rattle.order.specs.Graph.{dep, walks, has_circle, Sorted, most_signals}
use Rattle.order.specs.Places.{SoundPlaces}
use Rattle.order.specs.Zeros.{zeros}
use Rattle.order.proofs.Graph.{any-has, walks-zero, walks-suc}
use Rattle.order.proofs.Zeros.{zeros-set, zeros-replicate}
use Rattle.order.proofs.Places.{good_none, put-good, sorted}

-- one of the numbers below m is of one sort, or all are of the other
scan : (Q R : ℕ → Type 0) (m : ℕ) → ((j : ℕ) → j < m → Q j ⊎ R j) → ((j : ℕ) × (j < m) × Q j) ⊎ ((j : ℕ) → j < m → R j)
scan Q R zero f = inr (λ j h. absurd (omega arith))
scan Q R (suc m) f = go (f m (omega arith)) (scan Q R m (λ j h. f j (omega arith)))
  where
    go : Q m ⊎ R m → ((j : ℕ) × (j < m) × Q j) ⊎ ((j : ℕ) → j < m → R j) → ((j : ℕ) × (j < suc m) × Q j) ⊎ ((j : ℕ) → j < suc m → R j)
    go (inl q) rest = inl (m, omega arith, q)
    go (inr r) (inl s) = inl (s.0, omega (arith, s.1), s.2)
    go (inr r) (inr all) = inr (λ j h. here j (eq-or-lt_of_le (le_of_suc-le-suc h)))
      where
        here : (j : ℕ) → (j ≡ m) ⊎ (j < m) → R j
        here j (inl e) = subst R (sym e) r
        here j (inr h) = all j h

module _ (D : ℕ → ℕ → ℕ) (n : ℕ) where
  -- all entries of s are in the order
  abbrev Ready : List ℕ → ℕ → Type 0
  Ready P s = (j : ℕ) → j < 4 → D s j < n → 0 < get_or P (D s j) 0

  -- one is not
  abbrev Waits : List ℕ → ℕ → Type 0
  Waits P s = (j : ℕ) × (j < 4) × ((D s j < n) × (get_or P (D s j) 0 ≡ 0))

  entry : (P : List ℕ) (d : ℕ) → Dec (d < n) → Dec (0 < get_or P d 0) → ((d < n) × (get_or P d 0 ≡ 0)) ⊎ (d < n → 0 < get_or P d 0)
  entry P d (no h) q = inr (λ l. absurd (h l))
  entry P d (yes h) (yes q) = inr (λ l. q)
  entry P d (yes h) (no q) = inl (h, omega (arith, q))

  waits : (P : List ℕ) (s : ℕ) → Waits P s ⊎ Ready P s
  waits P s = scan (λ j. (D s j < n) × (get_or P (D s j) 0 ≡ 0)) (λ j. D s j < n → 0 < get_or P (D s j) 0) 4 (λ j h. entry P (D s j) (dec_lt _ _) (dec_lt _ _))

  signal : (P : List ℕ) (s : ℕ) → Dec (0 < get_or P s 0) → Waits P s ⊎ Ready P s → ((get_or P s 0 ≡ 0) × Ready P s) ⊎ (get_or P s 0 ≡ 0 → Waits P s)
  signal P s (yes q) w = inr (λ e. absurd (omega arith))
  signal P s (no q) (inl w) = inr (λ e. w)
  signal P s (no q) (inr r) = inl (omega (arith, q), r)

  -- a signal that can be put next, or each that is out waits for one that is out
  next : (P : List ℕ) → ((s : ℕ) × (s < n) × ((get_or P s 0 ≡ 0) × Ready P s)) ⊎ ((s : ℕ) → s < n → get_or P s 0 ≡ 0 → Waits P s)
  next P = scan (λ s. (get_or P s 0 ≡ 0) × Ready P s) (λ s. get_or P s 0 ≡ 0 → Waits P s) n (λ s h. signal P s (dec_lt _ _) (waits P s))

  -- then walks of every length start at it
  walks-on : (P : List ℕ) → ((s : ℕ) → s < n → get_or P s 0 ≡ 0 → Waits P s) → (k s : ℕ) → s < n → get_or P s 0 ≡ 0 → walks D n k s ≡ true
  walks-on P w zero s h e = walks-zero D n s h
  walks-on P w (suc k) s h e =
      let r = w s h e in
      walks-suc D n k s r.0 h r.1 (walks-on P w k (D s r.0) r.2.0 r.2.1)

  module _ (none : has_circle D n ≡ false) where
    -- so all are in
    all_in : (P : List ℕ) → ((s : ℕ) → s < n → get_or P s 0 ≡ 0 → Waits P s) → (s : ℕ) → s < n → 0 < get_or P s 0
    unfolding has_circle
    all_in P w s h = go (dec_lt 0 (get_or P s 0))
      where
        go : Dec (0 < get_or P s 0) → 0 < get_or P s 0
        go (yes q) = q
        go (no q) = absurd (true≢false (sym (any-has n (walks D n n) s h (walks-on P w n s h (omega (arith, q)))) ∙ none))

    done : {P O : List ℕ} {c : ℕ} → SoundPlaces D P O c → length P ≡ n → ((s : ℕ) → s < n → 0 < get_or P s 0) → Sorted D n O
    done {P} {O} g l all = rw l at (sorted g (λ x h. all x (omega arith)))

    -- k signals are out: each turn puts one
    grow : (k : ℕ) (P O : List ℕ) (c : ℕ) → zeros P ≡ k → length P ≡ n → SoundPlaces D P O c → (Q : List ℕ) × Sorted D n Q
    grow zero P O c z l g = (O, done g l (λ s h. put s h (dec_lt 0 (get_or P s 0))))
      where
        put : (s : ℕ) → s < n → Dec (0 < get_or P s 0) → 0 < get_or P s 0
        put s h (yes q) = q
        put s h (no q) = absurd (omega (arith, zeros-set P s 1 (omega arith) (omega (arith, q)) (omega arith)))
    grow (suc k) P O c z l g = go (next P) (grow k)
      where
        go :
            ((s : ℕ) × (s < n) × ((get_or P s 0 ≡ 0) × Ready P s)) ⊎ ((s : ℕ) → s < n → get_or P s 0 ≡ 0 → Waits P s) →
            ((P O : List ℕ) (c : ℕ) → zeros P ≡ k → length P ≡ n → SoundPlaces D P O c → (Q : List ℕ) × Sorted D n Q) →
            (Q : List ℕ) × Sorted D n Q
        go (inr w) again = (O, done g l (all_in P w))
        go (inl (s, h, (e, ready))) again =
            let b : s < length P = omega arith in
            again (set P s (c + 1)) (set O c s) (c + 1) (omega (arith, zeros-set P s (c + 1) b e (omega arith))) (length-set P s (c + 1) ∙ l)
            (put-good g s b e (λ j hj hd. ready j hj (omega arith)))

-- so there is a good order
pub sorted-exists : (D : ℕ → ℕ → ℕ) (n : ℕ) → n ≤ most_signals → has_circle D n ≡ false → (O : List ℕ) × Sorted D n O
sorted-exists D n h none =
    let len = length-replicate {A = ℕ} n 0 in
    grow D n none n (replicate n 0) (replicate n 0) 0 (zeros-replicate n) len (good_none D (replicate n 0) n (omega arith) h)

-- as of a table
pub order-exists : (T : List (List ℕ)) (n : ℕ) → n ≤ most_signals → has_circle (dep T) n ≡ false → (O : List ℕ) × Sorted (dep T) n O
order-exists T = sorted-exists (dep T)

-- there is a list of the first m values of a function
pub listed : (f : ℕ → ℕ) (m : ℕ) → (l : List ℕ) × (length l ≡ m) × ((i : ℕ) → i < m → get_or l i 0 ≡ f i)
listed f zero = ([], refl, λ i h. absurd (omega arith))
listed f (suc m) = go (listed (λ i. f (suc i)) m)
  where
    go : (l : List ℕ) × (length l ≡ m) × ((i : ℕ) → i < m → get_or l i 0 ≡ f (suc i)) → (l : List ℕ) × (length l ≡ suc m) × ((i : ℕ) → i < suc m → get_or l i 0 ≡ f i)
    go (l, n, at) = (f zero ∷ l, ap suc n, here)
      where
        here : (i : ℕ) → i < suc m → get_or (f zero ∷ l) i 0 ≡ f i
        here zero h = refl
        here (suc i) h = at i (omega arith)
