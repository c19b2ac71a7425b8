-- What is left waiting in one step stays in the next.
use Rattle.std.specs.Prelude.{◌≡◌, ℕ, ◌+◌, ◌*◌, ◌<◌}

-- What stays on channel x from a step with the signals v to the next one, with the signals w.
pub record Stays (v w : ℕ → ℕ) (x : ℕ) : Type 0 where
  -- An offer that was not taken is offered with the same colour in the next step.
  pub offer : v (2 * x + 1) ≡ 0 → 0 < v (2 * x) → w (2 * x) ≡ v (2 * x)
  -- A take without an offer is there in the next step.
  pub take : v (2 * x) ≡ 0 → 0 < v (2 * x + 1) → w (2 * x + 1) ≡ v (2 * x + 1)
