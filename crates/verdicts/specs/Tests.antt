-- The tests of start, step and run on an accepted fabric, in their order.
use Rattle.std.specs.Prelude.{not, List, [], ◌∷◌, ℕ, ◌*◌, ◌%◌, ltb, eqb, length}
use Rattle.refusals.specs.Refusals.{Test, test}
use Rattle.refusals.specs.declared.Refusal.TheVariants.{StateShort, BadState, ChoiceCount, BadChoice, ResultSpace}
use Rattle.netlist.specs.Netlist.{Netlist}
use Rattle.cells.specs.Good.{bad_component}
use Rattle.cells.specs.Choices.{bad_choice}
use Rattle.cells.specs.Cells.{cell_size}

-- 21 state shorter than 64N
abbrev pub short_state : Netlist → ℕ → Test
short_state f space = test StateShort (ltb space (cell_size * f.components))

-- 22 state not good (lowest component)
abbrev pub bad_state : Netlist → List ℕ → Test
bad_state f state = test (BadState (bad_component f state)) (ltb (bad_component f state) f.components)

-- 9 choices not N long; in run, no multiple of N
abbrev pub uneven : ℕ → ℕ → Test
uneven count wanted = test ChoiceCount (not (eqb count wanted))

-- 10 a choice (lowest offset)
abbrev pub wrong_choice : Netlist → List ℕ → Test
wrong_choice f choices = test (BadChoice (bad_choice f choices)) (ltb (bad_choice f choices) (length choices))

-- ---- start 21
abbrev pub start_tests : Netlist → ℕ → List Test
start_tests f space = short_state f space ∷ []

-- ---- step 21, 22, 9, 10, 23
abbrev pub step_tests : Netlist → List ℕ → List ℕ → ℕ → List Test
step_tests f state choices space =
    short_state f (length state)
    ∷ bad_state f state
    ∷ uneven (length choices) f.components
    ∷ wrong_choice f choices
    ∷ test ResultSpace (ltb space f.channels)
    ∷ []

-- ---- run the same without 23
abbrev pub run_tests : Netlist → List ℕ → List ℕ → List Test
run_tests f state choices = short_state f (length state) ∷ bad_state f state ∷ uneven (length choices % f.components) 0 ∷ wrong_choice f choices ∷ []
