-- The last arm of a `match` on a number: it is none of the numbers of the arms before. Assumes nothing.
use Rattle.std.proofs.Common.{◌≡◌, ℕ, zero, suc, ◌<◌, List, [], ◌∷◌, length, get_or, arith}

abbrev pub Past : Type 0 → List ℕ → ℕ → Type 0
Past T [] n = T
Past T (k ∷ ks) n = Past (T × (n ≡ k → ⊥)) ks n

abbrev pub Rest : List ℕ → ℕ → Type 0
Rest ks n = Past (Unit {0}) ks n

earlier : (T : Type 0) (ks : List ℕ) (n : ℕ) → Past T ks n → T
earlier T [] n r = r
earlier T (k ∷ ks) n r = (earlier (T × (n ≡ k → ⊥)) ks n r).0

past-arm : (T : Type 0) (ks : List ℕ) (n : ℕ) → Past T ks n → (i : ℕ) → i < length ks → n ≡ get_or ks i 0 → ⊥
past-arm T [] n r i l = absurd (omega arith)
past-arm T (k ∷ ks) n r zero l = (earlier (T × (n ≡ k → ⊥)) ks n r).1
past-arm T (k ∷ ks) n r (suc i) l = past-arm (T × (n ≡ k → ⊥)) ks n r i (omega arith)

-- arm i is not taken
pub no_arm : (ks : List ℕ) (n : ℕ) → Rest ks n → (i : ℕ) → i < length ks → n ≡ get_or ks i 0 → ⊥
no_arm = past-arm (Unit {0})
