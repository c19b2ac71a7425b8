use Rattle.std.proofs.Common.{ℕ, ◌≡◌, ◌<◌, ◌≤◌, List, length, get_or, true, false, arith}
use Rattle.order.specs.Graph.{walks, has_circle, Sorted}
use Rattle.order.proofs.Graph.{any-has}
use Rattle.order.proofs.Places.{no-circle, sorted}
use Rattle.order.proofs.visit_all.Invariants.{Done}
use Rattle.order.proofs.visit_all.Goals as goal

module _ {D : ℕ → ℕ → ℕ} {P₀ P O : List ℕ} {c s : ℕ} (u : Done D P₀ P O c s) where
  -- a walk of as many dependences as there are signals starts at s
  done-circle : {depth : ℕ} → s < length P → walks D (length P) depth s ≡ true → depth ≡ length P → has_circle D (length P₀) ≡ true
  unfolding has_circle
  done-circle h w e = rw (← u.long) (any-has (length P) (walks D (length P) (length P)) s h (rw e at w))

  -- all signals are in the order
  done_all : length P ≤ s → (has_circle D (length P₀) ≡ false) × Sorted D (length P₀) O
  done_all h =
      let all : (x : ℕ) → x < length P → 0 < get_or P x 0 = λ x q. u.all x (omega arith) in
      rw (← u.long) (no-circle u.good all, sorted u.good all)

pub returns-in_err-c : goal.returns-in_err-c
returns-in_err-c c = rw c.from_residual.ensures (done-circle c.loop-s.invariant (omega (arith, c.loop-s.invariant.long)) c.in_err-c.ensures (omega arith))

pub returns : goal.returns
returns c = done_all c.loop-s.invariant (omega (arith, c.loop-s.invariant.long))
