-- What a source, a sink, a merge and a queue keep by their bytes after a step. Assumes nothing.
use mathlib.Core.Path.{◌≡◌, refl, sym, subst}
use mathlib.Core.Bool.{Bool, true, false}
use mathlib.Core.List.{List, [], ◌∷◌}
use Prim.Native.Nat.{ℕ, zero, suc, ◌≤◌, ◌<◌}
use native.Mathlib.Omega.{arith}
use lib.Dec.{ltb}
use lib.ListN.{length, get_or}
use borrow.Author.Tests.{ltb-true, lt-ltb}
use Rattle.cells.specs.Cells.{queue_colours, cell_with, Queue}
use Rattle.cells.proofs.Cells.{queue-count}
use Rattle.held.specs.Values.{bit, when, unless, offered, or_else, either}
use Rattle.held.specs.Picks.{picks_b}
use Rattle.held.proofs.Values.{when-none, when-open}
use Rattle.state.specs.Step.{dropped, appended}
use Rattle.state.proofs.Updatable.{dropped-le}
use Rattle.persistence.proofs.Lasts.{Lasts, lasts-never}

-- whatever the choice in the next step
module _ (choice : ℕ) where
  -- an offer that a source holds, and a take that a sink holds
  pub source-lasts : (o t : ℕ) → Lasts t o (or_else (unless t o) choice)
  source-lasts zero t = lasts-never (λ z. refl)
  source-lasts (suc o) t = record { same = λ z p. rw z }

  pub sink-lasts : (o t : ℕ) → Lasts o (offered t) (offered (or_else (unless (offered o) (offered t)) choice))
  sink-lasts o zero = lasts-never (λ z. refl)
  sink-lasts o (suc t) = record { same = λ z p. rw z }

  -- while the held input of a merge is offered it is picked again
  picks-A : (a b : ℕ) → 0 < a → picks_b 1 choice a b ≡ 0
  unfolding picks_b
  picks-A zero b p = absurd (omega arith)
  picks-A (suc a) b p = refl

  picks-B : (a b : ℕ) → 0 < b → picks_b 2 choice a b ≡ 1
  unfolding picks_b
  picks-B a zero p = absurd (omega arith)
  picks-B a (suc b) p = refl

  -- its offer, where p is its pick
  pub merge-lasts : {a b x y t : ℕ} (p : ℕ) → p ≤ 1 → Lasts (unless p (when (offered a) t)) a x → Lasts (when p (when (offered b) t)) b y →
      Lasts t (either p a b) (either (picks_b (unless t (when (either p a b) (suc p))) choice x y) x y)
  merge-lasts {a} {b} {x} {y} {t} zero l ka kb = record {
    same = λ z p.
        let e : x ≡ a = ka.same (rw z (when-none (offered a))) p in
        rw (z, ← when-open a 1 (λ q. omega arith), e, picks-A a y p);
  }
  merge-lasts {a} {b} {x} {y} {t} (suc zero) l ka kb = record {
    same = λ z p.
        let e : y ≡ b = kb.same (rw z (when-none (offered b))) p in
        rw (z, ← when-open b 2 (λ q. omega arith), e, picks-B x b p);
  }
  merge-lasts (suc (suc p)) l ka kb = absurd (omega arith)

-- what a queue offers, by its bytes
abbrev front_offer : List ℕ → ℕ
front_offer s = when (get_or s 0 0) (suc (get_or s 1 0))

-- a queue that lost nothing has its front, whatever came in
front-lasts : (cs : List ℕ) (m : ℕ) → 0 < front_offer (cell_with cs) → front_offer (cell_with (appended m cs)) ≡ front_offer (cell_with cs)
unfolding cell_with
front-lasts [] m p = absurd (omega arith)
front-lasts (c ∷ cs) zero p = refl
front-lasts (c ∷ cs) (suc d) p = refl

-- a count that is no larger leaves room where there was some
room-lasts : (n m most : ℕ) → n ≤ m → 0 < bit (ltb m most) → bit (ltb n most) ≡ bit (ltb m most)
room-lasts n m most l p = go (ltb m most) refl p
  where
    go : (b : Bool) → ltb m most ≡ b → 0 < bit b → bit (ltb n most) ≡ bit b
    go true e q = rw (lt-ltb n most (omega (arith, ltb-true m most e)))
    go false e q = absurd (omega arith)

-- a queue's offer if it was not taken, and its take if nothing was offered
module _ (s : List ℕ) (q : Queue s) (m o t : ℕ) where
  -- its bytes after the step
  abbrev left : List ℕ
  left = cell_with (appended m (dropped (when t o) (queue_colours s)))

  abbrev came : List ℕ
  came = cell_with (appended (when t o) (dropped m (queue_colours s)))

  pub queue-offer-lasts : Lasts t (front_offer s) (front_offer left)
  queue-offer-lasts = record {
    same = λ z p. rw z (subst (λ (l : List ℕ). 0 < front_offer l → front_offer (cell_with (appended m (queue_colours s))) ≡ front_offer l) (sym q.shape) (front-lasts (queue_colours s) m) p);
  }

  pub queue-take-lasts : (most : ℕ) → Lasts o (bit (ltb (get_or s 0 0) most)) (bit (ltb (get_or came 0 0) most))
  unfolding cell_with
  queue-take-lasts most = record {
    same = λ z p. rw (z, when-none t) (room-lasts (length (dropped m (queue_colours s))) (get_or s 0 0) most (omega (arith, dropped-le m (queue_colours s), queue-count s q)) p);
  }
