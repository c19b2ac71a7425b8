-- check as a function of the bytes lent to it.
use Rattle.std.specs.Prelude.{Result, List, [], ◌∷◌, ◌++◌, ℕ, ◌*◌, ◌/◌, ltb, length, ℤ}
use Rattle.refusals.specs.Refusals.{Test, test, first_refusal}
use Rattle.refusals.specs.declared.Refusal.{Refusal}
use Rattle.refusals.specs.declared.Refusal.TheVariants.{ResultSpace}
use Rattle.netlist.specs.Netlist.{Netlist}
use Rattle.reader.specs.File.{netlist_in, file_tests}
use Rattle.flows.specs.Verdict.{judge_tests, constant_by, table_by, bytes_by}

-- ---- check 1-8, 11-14, 23; those of the file, 1-8, come first
abbrev pub check_tests : Netlist → List ℕ → ℕ → List Test
check_tests f p space = judge_tests f p ++ (test ResultSpace (ltb space (8 * f.components)) ∷ [])

unfoldable pub check_verdict : List ℕ → List ℕ → ℕ → Result Unit Refusal
check_verdict file p space = first_refusal (file_tests file ++ check_tests (netlist_in file) p space)

-- K, 0 where the call is refused
unfoldable pub check_constant : List ℕ → List ℕ → ℕ → ℤ
check_constant file p space = constant_by (check_verdict file p space) (netlist_in file) p

-- entry 8 times q plus d of the lent table is the weight of n(q,d), other entries 0
unfoldable pub weights_after_check : List ℕ → List ℕ → List ℤ → List ℤ
weights_after_check file p table = table_by (check_verdict file p (length table)) (netlist_in file) p table

-- the same in lent bytes, which hold an entry in each whole 8
unfoldable pub bytes_after_check : List ℕ → List ℕ → List ℕ → List ℕ
bytes_after_check file p bytes = bytes_by (check_verdict file p (length bytes / 8)) (netlist_in file) p bytes
