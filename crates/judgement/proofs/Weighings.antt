-- What a table of weights says of an entry that is asked for. Assumes nothing.
use mathlib.Core.Path.{◌≡◌, refl, sym, ap, ap₂, ◌∙◌}
use mathlib.Core.Bool.{Bool, true, false, cond}
use mathlib.Core.List.{List}
use Prim.Native.Nat.{ℕ, ◌+◌, ◌*◌, ◌≤◌}
use native.Mathlib.Omega.{arith}
use lib.Dec.{ltb, eqb}
use lib.ListN.{get_or}
use lib.IntN.{ℤ, pos}
use borrow.Author.Tests.{ltb-true, ne_eqb}
use Rattle.integers.specs.Sign.{above_zero, below_zero}
use Rattle.integers.proofs.Total.{total-cong}
use Rattle.component.specs.Row.{capacity}
use Rattle.component.specs.Limits.{most_colours}
use Rattle.netlist.specs.Netlist.{Netlist, row_of}
use Rattle.flows.specs.Flows.{entry, constant}
use Rattle.flows.proofs.Weights.{entry-weight}
use Rattle.headroom.specs.Headroom.{owed_of, owed}
use Rattle.judgement.specs.Judged.{Weighed, weight_at, weight_in, weighing_of, weighing_in}
use Rattle.judgement.specs.declared.Weighing.{Weighing}

-- of the weights in a table
pub owed-is : (f : Netlist) (p : List ℕ) → f.colours ≤ most_colours → {w : List ℤ} → Weighed f p w → owed_of f (λ q d. get_or w (8 * q + d) (pos 0)) ≡ owed f p
unfolding owed_of
owed-is f p few a =
    total-cong f.components _ _
    (λ q l. total-cong f.colours _ _ (λ d m. ap (λ (z : ℤ). below_zero z * capacity (row_of f q)) (a.at (8 * q + d) (omega arith) ∙ entry-weight f p q d (omega arith) m)))

-- the table's weighing is the proposal's
pub weighing-is : (f : Netlist) (p : List ℕ) → f.colours ≤ most_colours → {w : List ℤ} → Weighed f p w → (u : ℕ) → weighing_in (constant f p) f w u ≡ weighing_of f p u
unfolding weighing_in weighing_of weight_at
weighing-is f p few {w} a u =
    ap₂ (λ (x y : ℕ). record { constant = constant f p; weight = x; owed = cond (eqb x 0) 0 y }) (go (ltb u (8 * f.components)) refl) (owed-is f p few a)
  where
    go : (b : Bool) → ltb u (8 * f.components) ≡ b → cond b (above_zero (get_or w u (pos 0))) 0 ≡ cond b (above_zero (entry f p u)) 0
    go true e = ap above_zero (a.at u (ltb-true u (8 * f.components) e))
    go false e = refl

-- what the table says: with no weight above 0, and with one
module _ {k j : ℤ} (f : Netlist) (w : List ℤ) (u : ℕ) {x : ℕ} (ej : j ≡ k) (ex : x ≡ weight_in f w u) where
  pub weighing-none : x ≡ 0 → ◌≡◌ {A = Weighing} (record { constant = j; weight = x; owed = 0 }) (weighing_in k f w u)
  unfolding weighing_in
  weighing-none e = simp (ej, sym ex ∙ e, e)

  pub weighing-some : (x ≡ 0 → ⊥) → {o : ℕ} → o ≡ owed_of f (λ q d. get_or w (8 * q + d) (pos 0)) → ◌≡◌ {A = Weighing} (record { constant = j; weight = x; owed = o }) (weighing_in k f w u)
  unfolding weighing_in
  weighing-some ne eo = simp (ej, eo, sym ex, ne_eqb x 0 ne)
