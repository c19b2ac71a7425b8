-- Dependences between signals, when they hold a circle, and what a good order is.
-- D s k is entry k of signal s, k below 4: a signal that s depends on, or any number from n on for none.
use Rattle.std.specs.Prelude.{◌≡◌, List, [], Bool, false, ◌&&◌, ◌||◌, ℕ, zero, suc, ◌<◌, ltb, get_or}

-- so many signals there are at most, two a channel; the code's constant stands in src/lib.rt
abbrev pub most_signals : ℕ
most_signals = 510

-- the dependences that a table holds, a row of four entries a signal
abbrev pub dep : List (List ℕ) → ℕ → ℕ → ℕ
dep T s k = get_or (get_or T s []) k 0

-- s depends on d
pub record Depends (D : ℕ → ℕ → ℕ) (n s d : ℕ) : Type 0 where
  pub entry : ℕ
  pub below : entry < 4
  pub is : D s entry ≡ d
  pub from : s < n
  pub to : d < n

-- a walk of one dependence or more from s to e
pub data Path⁺ (D : ℕ → ℕ → ℕ) (n : ℕ) : ℕ → ℕ → Type 0 where
  one : {s d : ℕ} → Depends D n s d → Path⁺ D n s d
  more : {s d e : ℕ} → Depends D n s d → Path⁺ D n d e → Path⁺ D n s e

-- the dependences hold a circle
abbrev pub Circular : (ℕ → ℕ → ℕ) → ℕ → Type 0
Circular D n = (s : ℕ) × Path⁺ D n s s

-- some number below m passes the test
unfoldable pub any : ℕ → (ℕ → Bool) → Bool
any zero p = false
any (suc m) p = p m || any m p

-- a walk of k dependences starts at s
unfoldable pub walks : (ℕ → ℕ → ℕ) → ℕ → ℕ → ℕ → Bool
walks D n zero s = ltb s n
walks D n (suc k) s = ltb s n && any 4 (λ j. walks D n k (D s j))

-- the dependences hold a circle, as a test: a walk of n dependences passes n + 1 signals, so one of them twice
unfoldable pub has_circle : (ℕ → ℕ → ℕ) → ℕ → Bool
has_circle D n = any n (walks D n n)

-- the first n entries of O are the signals below n, each just once, and each after all that it depends on
pub record Sorted (D : ℕ → ℕ → ℕ) (n : ℕ) (O : List ℕ) : Type 0 where
  pub below : (p : ℕ) → p < n → get_or O p 0 < n
  pub each : (s : ℕ) → s < n → (p : ℕ) × (p < n) × (get_or O p 0 ≡ s)
  pub once : (p q : ℕ) → p < n → q < n → get_or O p 0 ≡ get_or O q 0 → p ≡ q
  pub after : (p d : ℕ) → p < n → Depends D n (get_or O p 0) d → (q : ℕ) × (q < p) × (get_or O q 0 ≡ d)

-- the answer for a whole table
pub record OrderOf (D : ℕ → ℕ → ℕ) (n : ℕ) (circle : Bool) (O : List ℕ) : Type 0 where
  pub test : circle ≡ has_circle D n
  pub order : has_circle D n ≡ false → Sorted D n O
