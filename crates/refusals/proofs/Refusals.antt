-- Laws of chains of tests. Assumes nothing.
use Rattle.std.proofs.Common.{◌≡◌, refl, ℕ, Bool, true, false, cond, List, [], ◌∷◌, ◌++◌, Result, Ok, Err, arith}
use Rattle.refusals.specs.Refusals.{Test, test, first_refusal}
use Rattle.refusals.specs.declared.Refusal.{Refusal}

-- what comes after a refusal is not looked at
abbrev pub and_then : Result Unit Refusal → Result Unit Refusal → Result Unit Refusal
and_then (Ok _) v = v
and_then (Err r) v = Err r

pub refusal-append : (ts us : List Test) → first_refusal (ts ++ us) ≡ and_then (first_refusal ts) (first_refusal us)
refusal-append [] us = refl
refusal-append (test r true ∷ ts) us = refl
refusal-append (test r false ∷ ts) us = refusal-append ts us

-- accepted: no test is met
pub cond-accepted : (r : Refusal) (b : Bool) (v : Result Unit Refusal) → cond b (Err r) v ≡ Ok tt → (b ≡ false) × (v ≡ Ok tt)
cond-accepted r true v e = let z : ◌≡◌ {A = ℕ} 0 1 = cc in absurd (omega arith)
cond-accepted r false v e = (refl, e)

pub then-accepted : (v w : Result Unit Refusal) → and_then v w ≡ Ok tt → (v ≡ Ok tt) × (w ≡ Ok tt)
then-accepted (Ok _) w e = (refl, e)
then-accepted (Err r) w e = let z : ◌≡◌ {A = ℕ} 0 1 = cc in absurd (omega arith)
