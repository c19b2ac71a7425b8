-- Entries laid down as bytes, one after the other. Assumes nothing.
use mathlib.Core.Path.{◌≡◌, refl, sym, ap, ◌∙◌}
use mathlib.Core.Bool.{Bool, true, false, cond}
use mathlib.Core.List.{List, ◌++◌}
use Prim.Native.Nat.{ℕ, ◌+◌, ◌*◌, ◌-◌, ◌/◌, ◌%◌, ◌≤◌, ◌<◌}
use native.Mathlib.Omega.{arith}
use lib.Dec.{ltb}
use lib.ListN.{get_or, drop}
use lib.Seq.{drop-drop}
use lib.IntN.{ℤ}
use borrow.Author.Tests.{ltb-true, ltb-false}
use Rattle.digits.specs.UpTo.{up_to}
use Rattle.digits.proofs.UpTo.{up_to-cong, filled_at, filled-rest}
use Rattle.flows.specs.Verdict.{byte_of, weight_byte}
use Rattle.judgement.specs.Judged.{laid}

-- ---- the first u entries, and one more
module _ (g : ℕ → ℤ) (l : List ℕ) (u : ℕ) where
  abbrev all : ℕ → ℕ
  all = weight_byte g

  pub entry_more : {v : ℤ} → v ≡ g u → laid (up_to (8 * u) all ++ drop (8 * u) l) u v ≡ up_to (8 * (u + 1)) all ++ drop (8 * (u + 1)) l
  unfolding laid
  entry_more {v} ev =
      let n : 8 * u + 8 ≡ 8 * (u + 1) = omega arith in
      ap (λ (a : List ℕ). a ++ drop (8 * u + 8) (up_to (8 * u) all ++ drop (8 * u) l)) (up_to-cong (8 * u + 8) (λ j. cond (ltb j (8 * u)) (get_or (up_to (8 * u) all ++ drop (8 * u) l) j 0) (byte_of v (j - 8 * u))) all (λ j h. same j h (ltb j (8 * u)) refl))
      ∙ ap (λ (a : List ℕ). up_to (8 * u + 8) all ++ a) rest ∙ ap (λ (k : ℕ). up_to k all ++ drop k l) n
    where
      same : (j : ℕ) → j < 8 * u + 8 → (b : Bool) → ltb j (8 * u) ≡ b → cond b (get_or (up_to (8 * u) all ++ drop (8 * u) l) j 0) (byte_of v (j - 8 * u)) ≡ all j
      same j h true e = filled_at all (drop (8 * u) l) 0 (8 * u) j (ltb-true j (8 * u) e)
      same j h false e =
          let m : 8 * u ≤ j = ltb-false j (8 * u) e in
          let d : u ≡ j / 8 = omega arith in
          let r : j - 8 * u ≡ j % 8 = omega arith in
          ap (λ (z : ℤ). byte_of z (j - 8 * u)) (ev ∙ ap g d) ∙ ap (byte_of (g (j / 8))) r

      rest : drop (8 * u + 8) (up_to (8 * u) all ++ drop (8 * u) l) ≡ drop (8 * u + 8) l
      rest =
          sym (drop-drop 8 (8 * u) (up_to (8 * u) all ++ drop (8 * u) l)) ∙ ap (drop 8) (filled-rest all (drop (8 * u) l) (8 * u)) ∙ drop-drop 8 (8 * u) l
