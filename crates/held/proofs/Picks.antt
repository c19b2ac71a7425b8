-- What a merge picks. Assumes nothing.
use mathlib.Core.Path.{◌≡◌, refl}
use Prim.Native.Nat.{ℕ, zero, suc, ◌≤◌, ◌<◌}
use native.Mathlib.Omega.{arith}
use Rattle.held.specs.Picks.{pick_number, pick_of, chosen_b, picks_b}
use Rattle.held.proofs.Bounds.{either-le, offered-le}

chosen-le : (choice a b : ℕ) → chosen_b choice a b ≤ 1
chosen-le choice zero b = omega arith
chosen-le choice (suc a) zero = omega arith
chosen-le choice (suc a) (suc b) = offered-le choice 1 (omega arith)

-- a pick that is read from the state
pub picks_read : (h choice a b : ℕ) → picks_b (pick_number (pick_of h)) choice a b ≡ picks_b h choice a b
unfolding picks_b
picks_read zero choice a b = refl
picks_read (suc zero) choice a b = refl
picks_read (suc (suc h)) choice a b = refl

-- where one input is offered, that one
pub only-b : (h choice b : ℕ) → picks_b h choice 0 b ≡ 1
unfolding picks_b
only-b zero choice b = refl
only-b (suc zero) choice b = refl
only-b (suc (suc h)) choice zero = refl
only-b (suc (suc h)) choice (suc b) = refl

pub only-a : (h choice a : ℕ) → picks_b h choice (suc a) 0 ≡ 0
unfolding picks_b
only-a zero choice a = refl
only-a (suc zero) choice a = refl
only-a (suc (suc h)) choice a = refl

-- B held and offered
pub held-b : (h choice a b : ℕ) → 1 < h → picks_b h choice a (suc b) ≡ 1
unfolding picks_b
held-b zero choice a b l = absurd (omega arith)
held-b (suc zero) choice a b l = absurd (omega arith)
held-b (suc (suc h)) choice a b l = refl

-- a pick held is none, A or B: what each of the three gives holds
pub by-held : {P : Type 0} (h : ℕ) → (h ≡ 0 → P) → (h ≡ 1 → P) → (1 < h → P) → P
by-held zero none held_a held_b = none refl
by-held (suc zero) none held_a held_b = held_a refl
by-held (suc (suc h)) none held_a held_b = held_b (omega arith)

-- it is 0 or 1
pub picks-le : (h choice a b : ℕ) → picks_b h choice a b ≤ 1
unfolding picks_b
picks-le zero choice a b = chosen-le choice a b
picks-le (suc zero) choice a b = either-le a (chosen_b choice a b) 0 1 (chosen-le choice a b) (omega arith)
picks-le (suc (suc h)) choice a b = either-le b (chosen_b choice a b) 1 1 (chosen-le choice a b) (omega arith)
