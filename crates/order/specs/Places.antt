-- What holds of the places, the order and its count before and after each visit. It describes the code.
use Rattle.std.specs.Prelude.{◌≡◌, List, Option, None, Some, true, false, ℕ, ◌+◌, ◌<◌, ◌≤◌, length, get_or}
use Rattle.order.specs.Graph.{walks, has_circle, Sorted, most_signals}
use Rattle.order.specs.Zeros.{zeros}

-- D are the dependences. P has 0 for a signal that is not in the order, else 1 + its place; the order is the first c entries of O.
-- Each signal in the order stands after all that it depends on.
pub record SoundPlaces (D : ℕ → ℕ → ℕ) (P O : List ℕ) (c : ℕ) : Type 0 where
  pub fits : length P ≤ length O
  pub short : length P ≤ most_signals
  pub full : zeros P + c ≡ length P
  pub back : (s p : ℕ) → get_or P s 0 ≡ p + 1 → (p < c) × (get_or O p 0 ≡ s)
  pub fwd : (p : ℕ) → p < c → (get_or O p 0 < length P) × (get_or P (get_or O p 0) 0 ≡ p + 1)
  pub after : (s j : ℕ) → 0 < get_or P s 0 → j < 4 → D s j < length P → (0 < get_or P (D s j) 0) × (get_or P (D s j) 0 < get_or P s 0)

-- before a visit of s: s is not in the order
pub record Fresh (D : ℕ → ℕ → ℕ) (s : ℕ) (P O : List ℕ) (c : ℕ) : Type 0 where
  pub good : SoundPlaces D P O c
  pub below : s < length P
  pub out : get_or P s 0 ≡ 0

-- a signal that was in the order is still in it
abbrev pub Kept : List ℕ → List ℕ → Type 0
Kept P₀ P = (x : ℕ) → 0 < get_or P₀ x 0 → 0 < get_or P x 0

-- after a visit of s that extended the order to c signals: s is the last of them
pub record GrownOrder (D : ℕ → ℕ → ℕ) (s : ℕ) (P₀ P O : List ℕ) (c : ℕ) : Type 0 where
  pub good : SoundPlaces D P O c
  pub kept : Kept P₀ P
  pub some : 0 < c
  pub last : get_or P s 0 ≡ c

-- what a visit of s at the given depth answers
abbrev pub IsVisited : (ℕ → ℕ → ℕ) → ℕ → ℕ → List ℕ → List ℕ → List ℕ → Option ℕ → Type 0
IsVisited D s depth P₀ P O None = walks D (length P₀) depth s ≡ true
IsVisited D s depth P₀ P O (Some c) = GrownOrder D s P₀ P O c

-- what the visit of all signals answers
abbrev pub IsOrdered : (ℕ → ℕ → ℕ) → ℕ → List ℕ → Option ℕ → Type 0
IsOrdered D n O None = has_circle D n ≡ true
IsOrdered D n O (Some c) = (has_circle D n ≡ false) × Sorted D n O
