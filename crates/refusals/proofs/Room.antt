-- Space is tested last. Assumes nothing.
use Rattle.std.proofs.Common.{◌≡◌, sym, ◌∙◌, List, [], ◌∷◌, ◌++◌, ℕ, ◌≤◌, Ok}
use lib.Dec.{ltb}
use borrow.Author.Tests.{le-ltb, ltb-false}
use Rattle.refusals.specs.Refusals.{Test, test, first_refusal}
use Rattle.refusals.specs.Room.{room_for}
use Rattle.refusals.specs.declared.Refusal.TheVariants.{ResultSpace}
use Rattle.refusals.proofs.Refusals.{and_then, refusal-append, cond-accepted, then-accepted}

pub room-last : (ts : List Test) (space need : ℕ) → and_then (first_refusal ts) (room_for space need) ≡ first_refusal (ts ++ (test ResultSpace (ltb space need) ∷ []))
room-last ts space need = sym (refusal-append ts (test ResultSpace (ltb space need) ∷ []))

-- accepted with it last: accepted without, and there is room
pub last-accepted : (ts : List Test) (space need : ℕ) → first_refusal (ts ++ (test ResultSpace (ltb space need) ∷ [])) ≡ Ok tt → (first_refusal ts ≡ Ok tt) × (need ≤ space)
last-accepted ts space need e =
    let last : List Test = test ResultSpace (ltb space need) ∷ [] in
    let q = then-accepted (first_refusal ts) (first_refusal last) (sym (refusal-append ts last) ∙ e) in
    (q.0, ltb-false space need (cond-accepted ResultSpace (ltb space need) (Ok tt) q.1).0)

pub room-space : (space need : ℕ) → room_for space need ≡ Ok tt → need ≤ space
room-space space need e = ltb-false space need (cond-accepted ResultSpace (ltb space need) (Ok tt) e).0

-- enough of it changes nothing
pub room-given : (space need : ℕ) → need ≤ space → room_for space need ≡ Ok tt
room-given space need h = rw (le-ltb space need h)
