-- reach as a function of the bytes lent to it.
use Rattle.std.specs.Prelude.{List, [], ◌∷◌, ◌++◌, ℕ, ltb, length, drop, Result, Ok, Err}
use Rattle.digits.specs.UpTo.{up_to}
use Rattle.refusals.specs.Refusals.{Test, test, first_refusal}
use Rattle.refusals.specs.declared.Refusal.TheVariants.{ResultSpace}
use Rattle.refusals.specs.declared.Refusal.{Refusal}
use Rattle.netlist.specs.Netlist.{Netlist}
use Rattle.reach.specs.Rounds.{set_byte}
use Rattle.reader.specs.File.{netlist_in, file_tests}

-- ---- reach 1-8, 23; those of the file, 1-8, come first
abbrev pub reach_tests : Netlist → ℕ → List Test
reach_tests f space = test ResultSpace (ltb space f.channels) ∷ []

unfoldable pub reach_verdict : List ℕ → ℕ → Result Unit Refusal
reach_verdict file space = first_refusal (file_tests file ++ reach_tests (netlist_in file) space)

-- The list is M mask bytes; bytes past them, and all where the call is refused, are as they were.
abbrev pub sets_by : Result Unit Refusal → Netlist → List ℕ → List ℕ
sets_by (Ok _) f bytes = up_to f.channels (set_byte f) ++ drop f.channels bytes
sets_by (Err r) f bytes = bytes

unfoldable pub sets_after_reach : List ℕ → List ℕ → List ℕ
sets_after_reach file bytes = sets_by (reach_verdict file (length bytes)) (netlist_in file) bytes
