-- Laws of the functions that write the state after a step. Assumes nothing.
use mathlib.Core.Path.{◌≡◌, refl}
use mathlib.Core.List.{List, [], ◌∷◌}
use mathlib.Core.Logic.{◌⊎◌, inl, inr}
use Prim.Native.Nat.{ℕ, zero, suc, ◌<◌}
use native.Mathlib.Omega.{arith}
use lib.ListN.{length, drop, set}
use Rattle.component.specs.declared.kinds.Kind.{Kind}
use Rattle.component.specs.declared.kinds.Kind.TheVariants.{Function, Fork, Join, Switch}
use Rattle.component.specs.declared.kinds.Port.{Port}
use Rattle.held.specs.Values.{when, unless, offered}
use Rattle.rules.specs.Rules.{Component}
use Rattle.state.specs.Step.{cell_next}

pub set_first : (q : List ℕ) (v : ℕ) → 0 < length q → set q 0 v ≡ v ∷ drop 1 q
set_first [] v h = absurd (omega arith)
set_first (x ∷ q) v h = refl

unless-offered : (m v : ℕ) → unless (offered m) v ≡ unless m v
unless-offered zero v = refl
unless-offered (suc m) v = refl

-- what a merge holds, where g is its pick: from a channel's signals as they are read, its offer, and its take as a flag
pub merge-holds : {offer taken : ℕ} (o t g : ℕ) → offer ≡ o → taken ≡ offered t → unless taken (when offer g) ≡ unless t (when o g)
merge-holds o t g p q = rw (p, q) (unless-offered t (when o g))

-- function, fork, join and switch keep their bytes
pub cell-kept : {k : Kind} (c : Component) (o t : Port → ℕ) → (k ≡ Function) ⊎ ((k ≡ Fork) ⊎ ((k ≡ Join) ⊎ (k ≡ Switch))) → c.cell ≡ cell_next k c o t
unfolding cell_next
cell-kept c o t (inl e) = rw e
cell-kept c o t (inr (inl e)) = rw e
cell-kept c o t (inr (inr (inl e))) = rw e
cell-kept c o t (inr (inr (inr e))) = rw e
