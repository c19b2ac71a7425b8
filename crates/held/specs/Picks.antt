-- What a merge picks.
use Rattle.std.specs.Prelude.{ℕ, zero, suc}
use Rattle.held.specs.declared.Pick.{Pick}
use Rattle.held.specs.declared.Pick.TheVariants.{Free, A, B}
use Rattle.held.specs.Values.{offered, either}

-- a merge's pick in the state: 1 A, 2 B, else 0
abbrev pub pick_number : Pick → ℕ
pick_number Free = 0
pick_number A = 1
pick_number B = 2

abbrev pub pick_of : ℕ → Pick
pick_of zero = Free
pick_of (suc zero) = A
pick_of (suc (suc h)) = B

-- 1 for B, 0 for A: if both inputs are offered the choice picks (0 A, 1 B), else the one offered
abbrev pub chosen_b : ℕ → ℕ → ℕ → ℕ
chosen_b choice zero b = 1
chosen_b choice (suc a) zero = 0
chosen_b choice (suc a) (suc b) = offered choice

-- 1 if a merge picks B, 0 if A: while the held input (1 A, 2 B) is offered it is picked over the choice
unfoldable pub picks_b : ℕ → ℕ → ℕ → ℕ → ℕ
picks_b zero choice a b = chosen_b choice a b
picks_b (suc zero) choice a b = either a (chosen_b choice a b) 0
picks_b (suc (suc h)) choice a b = either b (chosen_b choice a b) 1
