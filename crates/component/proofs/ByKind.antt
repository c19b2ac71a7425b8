-- Laws by a kind and its number. Assumes nothing.
use mathlib.Core.Path.{◌≡◌, refl, sym}
use mathlib.Core.Bool.{true, true≢false}
use mathlib.Core.List.{[], ◌∷◌}
use Prim.Native.Nat.{ℕ, zero, suc, ◌≤◌, ◌<◌}
use native.Mathlib.Omega.{arith}
use Rattle.digits.proofs.Arms.{Rest}
use Rattle.component.specs.declared.kinds.Kind.{Kind}
use Rattle.component.specs.declared.kinds.Kind.TheVariants.{Source, Sink, Queue, Function, Fork, Join, Switch, Merge}
use Rattle.component.specs.Kind.{kind_of, is_queue}

pub is-queue : (k : Kind) → is_queue k ≡ true → k ≡ Queue
unfolding is_queue
is-queue Source e = absurd (true≢false (sym e))
is-queue Sink e = absurd (true≢false (sym e))
is-queue Queue e = refl
is-queue Function e = absurd (true≢false (sym e))
is-queue Fork e = absurd (true≢false (sym e))
is-queue Join e = absurd (true≢false (sym e))
is-queue Switch e = absurd (true≢false (sym e))
is-queue Merge e = absurd (true≢false (sym e))

-- a law of each kind with its number
pub by_number : (P : ℕ → Kind → Type 0) → P 0 Source → P 1 Sink → P 2 Queue → P 3 Function → P 4 Fork → P 5 Join → P 6 Switch → ((n : ℕ) → 7 ≤ n → P n Merge) → (n : ℕ) → P n (kind_of n)
unfolding kind_of
by_number P a b c d e f g h zero = a
by_number P a b c d e f g h (suc zero) = b
by_number P a b c d e f g h (suc (suc zero)) = c
by_number P a b c d e f g h (suc (suc (suc zero))) = d
by_number P a b c d e f g h (suc (suc (suc (suc zero)))) = e
by_number P a b c d e f g h (suc (suc (suc (suc (suc zero))))) = f
by_number P a b c d e f g h (suc (suc (suc (suc (suc (suc zero)))))) = g
by_number P a b c d e f g h (suc (suc (suc (suc (suc (suc (suc n))))))) = h (suc (suc (suc (suc (suc (suc (suc n))))))) (omega arith)

-- the last arms of a `match` on a kind: none of 0 to 6; none of 0 to 2 and below 7; from 7 on; not 2
pub kind-rest : (n : ℕ) → Rest (0 ∷ 1 ∷ 2 ∷ 3 ∷ 4 ∷ 5 ∷ 6 ∷ []) n → kind_of n ≡ Merge
kind-rest n r =
    by_number (λ i k. n ≡ i → k ≡ Merge) (λ q. absurd (r.0.0.0.0.0.0.1 q)) (λ q. absurd (r.0.0.0.0.0.1 q)) (λ q. absurd (r.0.0.0.0.1 q)) (λ q. absurd (r.0.0.0.1 q)) (λ q. absurd (r.0.0.1 q))
    (λ q. absurd (r.0.1 q)) (λ q. absurd (r.1 q)) (λ i l q. refl) n refl

pub middle-kind : (P : Kind → Type 0) → P Function → P Fork → P Join → P Switch → (n : ℕ) → (n ≡ 0 → ⊥) → (n ≡ 1 → ⊥) → (n ≡ 2 → ⊥) → n < 7 → P (kind_of n)
middle-kind P d e f g n x y z l =
    by_number (λ i k. n ≡ i → P k) (λ q. absurd (x q)) (λ q. absurd (y q)) (λ q. absurd (z q)) (λ q. d) (λ q. e) (λ q. f) (λ q. g) (λ i m q. absurd (omega arith)) n refl

pub last-kind : (n : ℕ) → 7 ≤ n → kind_of n ≡ Merge
last-kind n l =
    by_number (λ i k. n ≡ i → k ≡ Merge) (λ q. absurd (omega arith)) (λ q. absurd (omega arith)) (λ q. absurd (omega arith)) (λ q. absurd (omega arith)) (λ q. absurd (omega arith)) (λ q. absurd (omega arith))
    (λ q. absurd (omega arith)) (λ i m q. refl) n refl
