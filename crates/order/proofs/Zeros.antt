-- Laws of `zeros`. Assumes nothing.
use mathlib.Core.Path.{◌≡◌, refl, ap}
use mathlib.Core.List.{List, [], ◌∷◌}
use Prim.Native.Nat.{ℕ, zero, suc, ◌+◌, ◌<◌}
use native.Mathlib.Nat.{le_of_suc-le-suc}
use native.Mathlib.Omega.{arith}
use lib.ListN.{length, get_or, set, replicate}
use Rattle.order.specs.Zeros.{zeros}

pub zeros-set : (l : List ℕ) (i v : ℕ) → i < length l → get_or l i 0 ≡ 0 → 0 < v → zeros (set l i v) + 1 ≡ zeros l
unfolding zeros
zeros-set [] i v h e p = absurd (omega arith)
zeros-set (zero ∷ l) zero zero h e p = absurd (omega arith)
zeros-set (zero ∷ l) zero (suc v) h e p = omega arith
zeros-set (suc x ∷ l) zero v h e p = absurd (omega arith)
zeros-set (zero ∷ l) (suc i) v h e p = let r = zeros-set l i v (le_of_suc-le-suc h) e p in omega arith
zeros-set (suc x ∷ l) (suc i) v h e p = zeros-set l i v (le_of_suc-le-suc h) e p

pub zeros-all : (l : List ℕ) → ((i : ℕ) → i < length l → 0 < get_or l i 0) → zeros l ≡ 0
unfolding zeros
zeros-all [] h = refl
zeros-all (zero ∷ l) h = absurd (let r = h 0 (omega arith) in omega arith)
zeros-all (suc x ∷ l) h = zeros-all l (λ i q. h (suc i) (omega arith))

pub zeros-replicate : (n : ℕ) → zeros (replicate n 0) ≡ n
unfolding zeros
zeros-replicate zero = refl
zeros-replicate (suc n) = ap suc (zeros-replicate n)

pub get_or-zeros : (n x : ℕ) → ◌≡◌ {A = ℕ} (get_or (replicate n 0) x 0) 0
get_or-zeros zero x = refl
get_or-zeros (suc n) zero = refl
get_or-zeros (suc n) (suc x) = get_or-zeros n x
