-- What the code asks for, and the tests that a step and a run share. It describes the code, and proofs/ ties it to the definitions of Tests.antt.
use Rattle.std.specs.Prelude.{Bool, List, [], ◌∷◌, ℕ, ◌≤◌, ◌<◌, length}
use Rattle.refusals.specs.Refusals.{Test, test}
use Rattle.refusals.specs.declared.Refusal.TheVariants.{ChoiceCount}
use Rattle.component.specs.Limits.{most_colours, most_components}
use Rattle.netlist.specs.Netlist.{Netlist}
use Rattle.verdicts.specs.Tests.{short_state, bad_state, wrong_choice}

-- the tests 21 and 22, and the test 10
abbrev pub state_tests : Netlist → List ℕ → List Test
state_tests f state = short_state f (length state) ∷ bad_state f state ∷ []

abbrev pub choice_tests : Netlist → List ℕ → List Test
choice_tests f choices = wrong_choice f choices ∷ []

-- the tests 21, 22, 9 and 10, where the number of choices is wrong or not
abbrev pub ready_tests : Netlist → List ℕ → List ℕ → Bool → List Test
ready_tests f state choices uneven = short_state f (length state) ∷ bad_state f state ∷ test ChoiceCount uneven ∷ wrong_choice f choices ∷ []

-- what the tests of a state and of choices stand on, beside a table of all rows
pub record Testable (f : Netlist) : Type 0 where
  pub some : 0 < f.components
  pub few : f.components ≤ most_components
  pub few_colours : f.colours ≤ most_colours
