-- That a used number is below n and an unused one is 0 is one comparison. Assumes nothing.
use mathlib.Core.Path.{◌≡◌, refl, sym, ◌∙◌}
use mathlib.Core.Bool.{Bool, true, false, cond, or-false}
use Prim.Native.Nat.{ℕ, zero, suc}
use native.Mathlib.Omega.{arith}
use lib.Dec.{ltb, eqb}
use borrow.Author.Tests.{le-ltb, ne_eqb}
use Rattle.component.specs.Row.{fits_below}

lt-one : (x : ℕ) → ltb x 1 ≡ eqb x 0
lt-one zero = refl
lt-one (suc x) = le-ltb (suc x) 1 (omega arith) ∙ sym (ne_eqb (suc x) 0 (λ e. omega arith))

pub below-limit : (used : Bool) (x n : ℕ) → ltb x (cond used n 1) ≡ fits_below used x n
below-limit true x n = sym (or-false (ltb x n))
below-limit false x n = lt-one x
