-- Many proposals for one fabric: check_many as a function of the bytes lent to it.
use Rattle.std.specs.Prelude.{List, [], ◌∷◌, ◌++◌, ℕ, ◌*◌, ◌/◌, ltb, length, ℤ, Result, Ok, Err}
use Rattle.refusals.specs.Refusals.{Test, test, first_refusal}
use Rattle.refusals.specs.declared.Refusal.{Refusal}
use Rattle.refusals.specs.declared.Refusal.TheVariants.{BadBlocks, ResultSpace}
use Rattle.netlist.specs.Netlist.{Netlist}
use Rattle.reader.specs.File.{netlist_in, file_tests}
use Rattle.blocks.specs.Blocks.{blocks, bad_blocks, each_block}
use Rattle.result.specs.Result.{result_size, block_result, result_bytes, over}

-- After 8: 33 more than 64 blocks, a count over 4,096, or blocks that do not fill the file; then 23, for the results of all blocks together
abbrev pub many_tests : Netlist → List ℕ → ℕ → List Test
many_tests f file space = test BadBlocks (bad_blocks file) ∷ test ResultSpace (ltb space (blocks file * result_size f)) ∷ []

-- The fabric is read and tested once: its tests come first, and no block's verdict is among the tests
unfoldable pub many_verdict : List ℕ → List ℕ → ℕ → Result Unit Refusal
many_verdict fabric file space = first_refusal (file_tests fabric ++ many_tests (netlist_in fabric) file space)

-- lent memory after a verdict
unfoldable pub over_by : {X : Type 0} → Result Unit Refusal → List X → List X → List X
over_by (Ok _) new old = over new old
over_by (Err r) new old = old

-- each block gets the number, place, K and weights it would get alone, in file order: in a lent signed table,
unfoldable pub table_after_many : List ℕ → List ℕ → List ℤ → List ℤ
table_after_many fabric file table = over_by (many_verdict fabric file (length table)) (each_block (block_result (netlist_in fabric)) file (blocks file)) table

-- and in lent bytes, which hold an entry in each whole 8
unfoldable pub bytes_after_many : List ℕ → List ℕ → List ℕ → List ℕ
bytes_after_many fabric file bytes = over_by (many_verdict fabric file (length bytes / 8)) (each_block (result_bytes (netlist_in fabric)) file (blocks file)) bytes

-- the same of memory of either kind, in which an entry takes so much and entries are laid down so. It describes the code; proofs/Many ties it to both.
unfoldable pub after_many : {X : Type 0} → ℕ → (List ℤ → List X) → List ℕ → List ℕ → List X → List X
after_many width laid fabric file memory = over_by (many_verdict fabric file (length memory / width)) (laid (each_block (block_result (netlist_in fabric)) file (blocks file))) memory
