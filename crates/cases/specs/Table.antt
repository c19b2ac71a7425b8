-- A table of inputs and the answers expected of them.
use Rattle.std.specs.Prelude.{List, [], ◌∷◌}

infix 10 ◌gives◌
pub data Case (I A : Type 0) : Type 0 where
  ◌gives◌ : I → A → Case I A

abbrev pub found : {I A : Type 0} → (I → A) → List (Case I A) → List A
found answer_to [] = []
found answer_to ((i gives a) ∷ cs) = answer_to i ∷ found answer_to cs

abbrev pub expected : {I A : Type 0} → List (Case I A) → List A
expected [] = []
expected ((i gives a) ∷ cs) = a ∷ expected cs
