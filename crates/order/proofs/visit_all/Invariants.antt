use Rattle.std.proofs.Common.{ℕ, ◌≡◌, ◌<◌, List, length, get_or}
use Rattle.order.specs.Graph.{dep}
use Rattle.order.specs.Places.{SoundPlaces}
use Rattle.order.proofs.visit_all.Given as goal

-- what holds at the loop's head
pub record Done (D : ℕ → ℕ → ℕ) (P₀ P O : List ℕ) (c s : ℕ) : Type 0 where
  pub good : SoundPlaces D P O c
  pub long : length P ≡ length P₀
  pub all : (x : ℕ) → x < s → 0 < get_or P x 0

abbrev pub invariant-loop-s : goal.invariant-loop-s
invariant-loop-s l = Done (dep l.deps) l.initial.place l.place l.order l.c l.s
