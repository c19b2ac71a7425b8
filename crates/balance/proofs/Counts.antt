-- The counts of a queue's colours after a step. Assumes nothing.
use mathlib.Core.Path.{◌≡◌, refl}
use mathlib.Core.Bool.{Bool, true, false, cond}
use mathlib.Core.List.{List, ◌∷◌}
use Prim.Native.Nat.{ℕ, zero, suc, ◌+◌, ◌<◌}
use native.Mathlib.Omega.{arith}
use lib.Dec.{eqb, eqb-zero-suc, eqb-suc-suc}
use Rattle.cells.specs.Counts.{count_in}
use Rattle.cells.proofs.Counts.{count-append}
use Rattle.held.specs.Values.{bit}
use Rattle.state.specs.Step.{dropped, appended}

flag : (b : Bool) → cond b 1 0 ≡ bit b
flag true = refl
flag false = refl

-- one colour leaves at the front, one comes in at the back
came : (m : ℕ) (cs : List ℕ) (d : ℕ) → count_in (appended m cs) d ≡ count_in cs d + bit (eqb m (suc d))
came zero cs d = rw (eqb-zero-suc d) (omega arith)
came (suc c) cs d = rw (eqb-suc-suc c d, ← flag (eqb c d)) (count-append cs c d)

-- what leaves is the first
pub record Front (m : ℕ) (cs : List ℕ) : Type 0 where
  pub colour : ℕ
  pub rest : List ℕ
  pub first : cs ≡ colour ∷ rest
  pub moves : m ≡ suc colour

left : (m : ℕ) (cs : List ℕ) (d : ℕ) → (0 < m → Front m cs) → count_in (dropped m cs) d + bit (eqb m (suc d)) ≡ count_in cs d
left zero cs d h = rw (eqb-zero-suc d) (omega arith)
left (suc m) cs d h = let r = h (omega arith) in rw (r.first, r.moves, eqb-suc-suc r.colour d) (omega (arith, flag (eqb r.colour d)))

pub count_next : (ma mb : ℕ) (cs : List ℕ) → (0 < mb → Front mb cs) → (d : ℕ) →
    count_in (appended ma (dropped mb cs)) d + bit (eqb mb (suc d)) ≡ count_in cs d + bit (eqb ma (suc d))
count_next ma mb cs h d = rw (came ma (dropped mb cs) d) (omega (arith, left mb cs d h))
