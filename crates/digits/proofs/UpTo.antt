-- A list by a function of the place, filled from the front, one store a turn. Assumes nothing.
use Rattle.std.proofs.Common.{◌≡◌, ℕ, zero, suc, ◌+◌, ◌<◌, ◌≤◌, List, [], ◌∷◌, ◌++◌, length, get_or, drop, set, sym, refl, ap, ◌∙◌, append_assoc, append-nil, add-zero, add-one, arith, length-append, length-drop, drop-cons, drop_at}
use native.Mathlib.Decide.{dec_lt}
use lib.ListN.{get_or-append}
use lib.Seq.{append_snoc, set_at, get_or_at}
use Rattle.digits.specs.UpTo.{up_to}

module _ {X : Type 0} (g : ℕ → X) where
  pub length-up_to : (n : ℕ) → length (up_to n g) ≡ n
  unfolding up_to
  length-up_to zero = refl
  length-up_to (suc n) = length-append (up_to n g) (g n ∷ []) ∙ omega (arith, length-up_to n)

  pub up_to-at : (d : X) (n i : ℕ) → i < n → get_or (up_to n g) i d ≡ g i
  unfolding up_to
  up_to-at d zero i h = absurd (omega arith)
  up_to-at d (suc n) i h = pick (up_to-at d n i) (dec_lt i n)
    where
      pick : (i < n → get_or (up_to n g) i d ≡ g i) → Dec (i < n) → get_or (up_to n g ++ (g n ∷ [])) i d ≡ g i
      pick r (yes l) = get_or-append (up_to n g) (g n ∷ []) d i (omega (arith, length-up_to n)) ∙ r l
      pick r (no l) =
          let e : i ≡ n = omega arith in
          rw e (get_or_at (up_to n g) (g n) [] d n (length-up_to n))

  pub filled_none : (s : List X) → s ≡ up_to 0 g ++ drop 0 s
  unfolding up_to
  filled_none s = refl

  pub filled_more : (s : List X) (d : X) (n : ℕ) → n < length s → set (up_to n g ++ drop n s) n (g n) ≡ up_to (n + 1) g ++ drop (n + 1) s
  unfolding up_to
  filled_more s d n h =
      ap (λ (l : List X). set (up_to n g ++ l) n (g n)) (drop-cons s n d h) ∙ set_at (up_to n g) (get_or s n d) (drop (suc n) s) (g n) n (length-up_to n)
      ∙ sym (append_snoc (up_to n g) (g n) (drop (suc n) s)) ∙ ap (λ (k : ℕ). up_to k g ++ drop k s) (sym (add-one n))

  pub length-filled : (s : List X) (n : ℕ) → n ≤ length s → length (up_to n g ++ drop n s) ≡ length s
  length-filled s n h = length-append (up_to n g) (drop n s) ∙ omega (arith, length-up_to n, length-drop n s)

  pub filled_at : (s : List X) (d : X) (n i : ℕ) → i < n → get_or (up_to n g ++ s) i d ≡ g i
  filled_at s d n i h = get_or-append (up_to n g) s d i (omega (arith, length-up_to n)) ∙ up_to-at d n i h

pub up_to-cong : {X : Type 0} (n : ℕ) (g k : ℕ → X) → ((i : ℕ) → i < n → g i ≡ k i) → up_to n g ≡ up_to n k
unfolding up_to
up_to-cong zero g k h = refl
up_to-cong (suc n) g k h = rw (up_to-cong n g k (λ i l. h i (omega arith)), h n (omega arith))

-- in two pieces
pub up_to-append : {X : Type 0} (g : ℕ → X) (m n : ℕ) → up_to (m + n) g ≡ up_to m g ++ up_to n (λ i. g (m + i))
unfolding up_to
up_to-append g m zero = rw (append-nil, add-zero) refl
up_to-append g m (suc n) =
    let e : m + suc n ≡ suc (m + n) = omega arith in
    ap (λ (k : ℕ). up_to k g) e ∙ ap (λ (l : List _). l ++ (g (m + n) ∷ [])) (up_to-append g m n) ∙ append_assoc (up_to m g) (up_to n (λ i. g (m + i))) (g (m + n) ∷ [])

-- a list whose first n entries are g's
pub filled_is : {X : Type 0} (g : ℕ → X) (s : List X) (d : X) (n : ℕ) → n ≤ length s → ((i : ℕ) → i < n → get_or s i d ≡ g i) → s ≡ up_to n g ++ drop n s
unfolding up_to
filled_is g s d zero h e = refl
filled_is g s d (suc n) h e =
    filled_is g s d n (omega arith) (λ i l. e i (omega arith)) ∙ ap (λ l. up_to n g ++ l) (drop-cons s n d h ∙ ap (λ x. x ∷ drop (suc n) s) (e n (omega arith)))
    ∙ sym (append_snoc (up_to n g) (g n) (drop (suc n) s))

-- what stands behind them
pub filled-rest : {X : Type 0} (g : ℕ → X) (s : List X) (n : ℕ) → drop n (up_to n g ++ s) ≡ s
filled-rest g s n = drop_at (up_to n g) s n (length-up_to g n)
