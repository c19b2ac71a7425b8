-- Refused if there is less space than is needed. It describes the code, and proofs/Room.antt ties it to the chain of tests.
use Rattle.std.specs.Prelude.{ℕ, Result, Ok, Err, cond, ltb}
use Rattle.refusals.specs.declared.Refusal.{Refusal}
use Rattle.refusals.specs.declared.Refusal.TheVariants.{ResultSpace}

abbrev pub room_for : ℕ → ℕ → Result Unit Refusal
room_for space need = cond (ltb space need) (Err ResultSpace) (Ok tt)
