-- A signal that waits, and a rule that waits only while what it reads waits. Assumes nothing.
use mathlib.Core.Path.{◌≡◌}
use Prim.Native.Nat.{ℕ, zero, suc, ◌+◌, ◌-◌, ◌*◌, ◌/◌, ◌<◌}
use native.Mathlib.Omega.{arith}
use Rattle.held.specs.Values.{when}
use Rattle.state.proofs.Updatable.{when-open}

-- A signal is a before and b after a step; t is its twin before it, the other signal of its channel. If it waits, it stays.
pub record Lasts (t a b : ℕ) : Type 0 where
  pub same : t ≡ 0 → 0 < a → b ≡ a

-- the other signal of a signal's channel
unfoldable pub twin : ℕ → ℕ
twin s = 4 * (s / 2) + 1 - s

pub twin-offer : (x : ℕ) → twin (2 * x) ≡ 2 * x + 1
unfolding twin
twin-offer x = omega arith

pub twin-take : (x : ℕ) → twin (2 * x + 1) ≡ 2 * x
unfolding twin
twin-take x = omega arith

-- signal s, where v gives all signals before and w after the step
abbrev pub LastsAt : (ℕ → ℕ) → (ℕ → ℕ) → ℕ → Type 0
LastsAt v w s = Lasts (v (twin s)) (v s) (w s)

-- a signal that is never there without its twin never waits
pub lasts-never : {t a b : ℕ} → (t ≡ 0 → a ≡ 0) → Lasts t a b
lasts-never f = record { same = λ z p. absurd (omega (arith, f z)) }

-- what is 0 at 0 is above 0 only above 0
some : (g : ℕ → ℕ) → g 0 ≡ 0 → (a : ℕ) → 0 < g a → 0 < a
some g e zero p = absurd (omega arith)
some g e (suc a) p = omega arith

-- a rule that reads one signal, and a rule that reads two
pub lasts-one : {x z a b : ℕ} (g : ℕ → ℕ) → g 0 ≡ 0 → Lasts x a b → (z ≡ 0 → 0 < g a → x ≡ 0) → Lasts z (g a) (g b)
lasts-one {a = a} g e k f = record { same = λ z p. rw (k.same (f z p) (some g e a p)) }

pub lasts-both : {x y z a b s t : ℕ} (g h : ℕ → ℕ) → g 0 ≡ 0 → h 0 ≡ 0 → Lasts x a b → Lasts y s t → (z ≡ 0 → (x ≡ 0) × (y ≡ 0)) → Lasts z (when (g a) (h s)) (when (g b) (h t))
lasts-both {a = a} {s = s} g h e i k l f = record {
  same = λ z p.
      let o = when-open (g a) (h s) p in
      rw (k.same (f z).0 (some g e a o.0), l.same (f z).1 (some h i s o.1));
}
