-- What holds of one account of the dependences holds of another that agrees with it below n, as a table and the definition that it was filled from.
-- Assumes nothing.
use mathlib.Core.Path.{◌≡◌, refl, ap, ◌∙◌}
use mathlib.Core.List.{List}
use mathlib.Core.Bool.{Bool, true, false, ◌&&◌}
use Prim.Native.Nat.{ℕ, zero, suc, ◌<◌}
use borrow.Author.Tests.{ltb-true}
use lib.Dec.{ltb}
use Rattle.order.specs.Graph.{Depends, any, walks, has_circle, Sorted, OrderOf}
use Rattle.order.proofs.Graph.{any_same}

module _ (D E : ℕ → ℕ → ℕ) (n : ℕ) (agree : (s k : ℕ) → s < n → k < 4 → D s k ≡ E s k) where
  depends-same : {s d : ℕ} → Depends E n s d → Depends D n s d
  depends-same {s} u = record { entry = u.entry; below = u.below; is = agree s u.entry u.from u.below ∙ u.is; from = u.from; to = u.to }

  walks_same : (k s : ℕ) → walks D n k s ≡ walks E n k s
  unfolding walks
  walks_same zero s = refl
  walks_same (suc k) s = go (ltb s n) refl (walks_same k)
    where
      go : (b : Bool) → ltb s n ≡ b → ((x : ℕ) → walks D n k x ≡ walks E n k x) → (b && any 4 (λ j. walks D n k (D s j))) ≡ (b && any 4 (λ j. walks E n k (E s j)))
      go false h again = refl
      go true h again = any_same 4 _ _ (λ j q. again (D s j) ∙ ap (walks E n k) (agree s j (ltb-true s n h) q))

  pub circle-same : has_circle D n ≡ has_circle E n
  unfolding has_circle
  circle-same = any_same n (walks D n n) (walks E n n) (λ s q. walks_same n s)

  pub sorted-same : (O : List ℕ) → Sorted D n O → Sorted E n O
  sorted-same O o = record { below = o.below; each = o.each; once = o.once; after = λ p d q u. o.after p d q (depends-same u) }

  pub order_same : (b : Bool) (O : List ℕ) → OrderOf D n b O → OrderOf E n b O
  order_same b O r = record { test = r.test ∙ circle-same; order = λ e. sorted-same O (r.order (circle-same ∙ e)) }
