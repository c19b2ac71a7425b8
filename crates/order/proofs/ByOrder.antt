-- What holds of a signal whenever it holds of all that it depends on, holds of every signal in a good order. Assumes nothing.
use mathlib.Core.Path.{subst}
use mathlib.Core.List.{List}
use Prim.Native.Nat.{ℕ, zero, suc, ◌<◌}
use native.Mathlib.Omega.{arith}
use lib.ListN.{get_or}
use Rattle.order.specs.Graph.{Depends, Sorted}

pub by_order : (D : ℕ → ℕ → ℕ) (n : ℕ) (O : List ℕ) → Sorted D n O → (P : ℕ → Type 0) → ((s : ℕ) → s < n → ((d : ℕ) → Depends D n s d → P d) → P s) → (s : ℕ) → s < n → P s
by_order D n O o P turn s h = let e = o.each s h in subst P e.2 (place n e.0 e.1 e.1)
  where
    -- at the places below m
    place : (m p : ℕ) → p < m → p < n → P (get_or O p 0)
    place zero p l q = absurd (omega arith)
    place (suc m) p l q = turn (get_or O p 0) (o.below p q) (λ d u. let r = o.after p d q u in subst P r.2 (place m r.0 (omega (arith, r.1)) (omega (arith, r.1))))
