-- Laws of Bool: those of the library by the names that the crates above cite, and what it has not. Assumes nothing.
use Rattle.std.proofs.Common.{◌≡◌, Bool, true, false, ◌||◌, refl, true≢false}
pub use Rattle.std.proofs.Math.Bool.{and-true, and-false}
pub use Rattle.std.proofs.lemmas.Bool.{and_parts as and_both}
pub use Rattle.std.specs.Cmp.Derive.{both_true}
pub use Rattle.std.proofs.Math.Bool.{and_comm as and-swap}

pub or-false : (a b : Bool) → (a || b) ≡ false → (a ≡ false) × (b ≡ false)
or-false true b e = absurd (true≢false e)
or-false false b e = (refl, e)

-- a disjunction with what is true
pub or_left : (a b : Bool) → a ≡ true → (a || b) ≡ true
or_left a b e = rw e

pub or_right : (a b : Bool) → b ≡ true → (a || b) ≡ true
or_right true b e = refl
or_right false b e = e
