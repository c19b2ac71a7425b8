-- What the stages of the code come to. It describes the code, and proofs/Unpacked.antt and Writing.antt tie it to the definitions.
use Rattle.refusals.specs.declared.Refusal.{Refusal}
use Rattle.std.specs.Prelude.{Result}
use Rattle.std.specs.Prelude.{ℕ, List, ◌∷◌, ltb}
use Rattle.refusals.specs.Refusals.{test, first_refusal}
use Rattle.refusals.specs.declared.Refusal.TheVariants.{BadField}
use Rattle.reader.specs.File.{wire_tests, first_bad_row}

-- the refusals 6 to 8 of a table
unfoldable pub table_verdict : ℕ → ℕ → List ℕ → ℕ → Result Unit Refusal
table_verdict colours channels table n =
    first_refusal (test (BadField (first_bad_row colours channels table n)) (ltb (first_bad_row colours channels table n) n) ∷ wire_tests table n channels)
