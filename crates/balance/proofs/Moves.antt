-- The kinds, each on numbers: what moves at one port, from what moves at the others. Assumes nothing.
use mathlib.Core.Path.{◌≡◌, refl, sym, ap}
use mathlib.Core.Logic.{◌⊎◌, inl, inr}
use mathlib.Core.Bool.{Bool, true, false}
use mathlib.Core.List.{List}
use Prim.Native.Nat.{ℕ, zero, suc}
use Rattle.component.specs.Row.{masked}
use Rattle.held.specs.Values.{when, unless, offered, either}
use Rattle.rules.specs.Rules.{mapped, to_b}
use Rattle.held.proofs.Values.{when-none}

-- a map, behind one gate, behind two, behind the two in the other order
pub mapped-one : (m : ℕ → ℕ) (g o : ℕ) → when g (mapped m o) ≡ mapped m (when g o)
mapped-one m zero o = refl
mapped-one m (suc g) o = refl

pub mapped-two : (m : ℕ → ℕ) (g h o : ℕ) → when g (when h (mapped m o)) ≡ mapped m (when (when g h) o)
mapped-two m zero h o = refl
mapped-two m (suc g) h o = mapped-one m h o

pub mapped-swap : (m : ℕ → ℕ) (g h o : ℕ) → when h (when g (mapped m o)) ≡ mapped m (when (when g h) o)
mapped-swap m zero h o = when-none h
mapped-swap m (suc g) h o = mapped-one m h o

-- a join moves both inputs or none
pub join-both : (a b g : ℕ) → offered (when (when (offered b) g) a) ≡ offered (when (when (offered a) g) b)
join-both zero zero g = refl
join-both zero (suc b) g = ap offered (when-none g)
join-both (suc a) zero g = ap offered (sym (when-none g))
join-both (suc a) (suc b) zero = refl
join-both (suc a) (suc b) (suc g) = refl

-- what moves into a switch, by the mask; it goes out at B or at C
abbrev sent : List ℕ → ℕ → ℕ → ℕ → ℕ
sent r o gb gc = when (when (offered o) (either (to_b r o) gc gb)) o

abbrev Sent : List ℕ → ℕ → ℕ → ℕ → Type 0
Sent r o gb gc =
    (when gb (when (to_b r o) o) ≡ when (to_b r (sent r o gb gc)) (sent r o gb gc)) × (when gc (unless (to_b r o) o) ≡ unless (to_b r (sent r o gb gc)) (sent r o gb gc))

pub switch-both : (r : List ℕ) (o gb gc : ℕ) → Sent r o gb gc
switch-both r zero gb gc = (when-none gb, when-none gc)
switch-both r (suc d) gb gc = go (masked r d) refl gb gc
  where
    go : (b : Bool) → masked r d ≡ b → (gb gc : ℕ) → Sent r (suc d) gb gc
    go true e zero gc = (rw e, rw e (when-none gc))
    go true e (suc gb) gc = (rw (e, e), rw (e, e) (when-none gc))
    go false e gb zero = (rw e (when-none gb), rw e)
    go false e gb (suc gc) = (rw (e, e) (when-none gb), rw (e, e))

-- a merge moves the one input that it picks, where p is 1 if that is B
abbrev Merged : ℕ → ℕ → ℕ → ℕ → Type 0
Merged p a b g =
    ((when g (either p a b) ≡ when (unless p (when (offered a) g)) a) × (when (when p (when (offered b) g)) b ≡ 0)) ⊎
    ((when g (either p a b) ≡ when (when p (when (offered b) g)) b) × (when (unless p (when (offered a) g)) a ≡ 0))

pub merge-one : (p a b g : ℕ) → Merged p a b g
merge-one zero zero b g = inl (when-none g, refl)
merge-one zero (suc a) b g = inl (refl, refl)
merge-one (suc p) a zero g = inr (when-none g, refl)
merge-one (suc p) a (suc b) g = inr (refl, refl)
