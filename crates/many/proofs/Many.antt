-- What `check_many` comes to, and leaves in lent memory, by what reading comes to. Assumes nothing.
use Rattle.std.proofs.Common.{◌≡◌, refl, sym, ap, ap₂, ◌∙◌, List, ℕ, ℤ, ◌*◌, ◌/◌, ◌≤◌, Bool, true, false, cond, ltb, length, Result, Ok, Err, arith}
use borrow.Author.Tests.{ltb-false}
use Rattle.refusals.specs.Refusals.{first_refusal}
use Rattle.refusals.specs.Room.{room_for}
use Rattle.refusals.specs.declared.Refusal.{Refusal}
use Rattle.refusals.specs.declared.Refusal.TheVariants.{BadBlocks, ResultSpace}
use Rattle.refusals.proofs.Refusals.{and_then, refusal-append}
use Rattle.record.specs.Table.{open_table}
use Rattle.netlist.specs.Netlist.{Netlist, netlist_of}
use Rattle.netlist.specs.declared.Size.{Size}
use Rattle.reader.specs.File.{header_fields, size_in, netlist_in, file_tests}
use Rattle.reader.specs.Reading.{read_as, reading}
use Rattle.reader.proofs.Opened.{after, judged_after}
use Rattle.blocks.specs.Blocks.{most_blocks, blocks, bad_blocks, blocks_found, each_block}
use Rattle.blocks.proofs.Blocks.{filled}
use Rattle.result.specs.Result.{result_size, block_result, over}
use Rattle.many.specs.Many.{many_tests, many_verdict, over_by, table_after_many, bytes_after_many, after_many}
use Rattle.judgement.specs.Memory.{bytes_of}
use Rattle.results.proofs.Written.{each-bytes}

-- ---- the tests of the blocks
counted-by : (b : Bool) {n m : ℕ} → ◌≡◌ {A = Result ℕ Refusal} (Ok n) (cond b (Err BadBlocks) (Ok m)) → (b ≡ false) × (n ≡ m)
counted-by true e = (cc, cc)
counted-by false e = (refl, cc)

accepted-by : (b c : Bool) → ◌≡◌ {A = Result Unit Refusal} (cond b (Err BadBlocks) (cond c (Err ResultSpace) (Ok tt))) (Ok tt) → (b ≡ false) × (c ≡ false)
accepted-by true c e = (cc, cc)
accepted-by false true e = (refl, cc)
accepted-by false false e = (refl, refl)

module _ (f : Netlist) (p : List ℕ) (space : ℕ) where
  -- so many blocks, and 23
  pub blocks-counted : {n size : ℕ} → Ok n ≡ blocks_found p → size ≡ result_size f → room_for space (n * size) ≡ first_refusal (many_tests f p space)
  blocks-counted {n} {size} e q =
      let z = counted-by (bad_blocks p) e in
      ap₂ (λ (a b : ℕ). room_for space (a * b)) z.1 q ∙ sym (ap (λ (b : Bool). cond b (Err BadBlocks) (room_for space (blocks p * result_size f))) z.0)

  -- where all is accepted
  pub blocks-accepted : first_refusal (many_tests f p space) ≡ Ok tt → (bad_blocks p ≡ false) × (blocks p * result_size f ≤ space)
  blocks-accepted e =
      let z = accepted-by (bad_blocks p) (ltb space (blocks p * result_size f)) e in
      (z.0, ltb-false space (blocks p * result_size f) z.1)

pub few-blocks : (p : List ℕ) {n : ℕ} → Ok n ≡ blocks_found p → n ≤ most_blocks
few-blocks p e =
    let z = counted-by (bad_blocks p) e in
    omega (arith, z.1, (filled p z.0).few)

-- ---- the call
pub many_outcome : (fabric file : List ℕ) (space : ℕ) → many_verdict fabric file space ≡ after (reading fabric) fabric (λ f. first_refusal (many_tests f file space))
unfolding many_verdict
many_outcome fabric file space = judged_after fabric (λ f. many_tests f file space)

-- what it leaves in lent memory
abbrev pub left_many : {X : Type 0} → Result Size Refusal → ℕ → (List ℤ → List X) → List ℕ → List ℕ → List X → List X
left_many (Ok s) width laid fabric file memory =
    over_by (first_refusal (many_tests (netlist_of s (open_table fabric s.components)) file (length memory / width))) (laid (each_block (block_result (netlist_of s (open_table fabric s.components))) file (blocks file))) memory
left_many (Err r) width laid fabric file memory = memory

read-many : {X : Type 0} (v : Result Unit Refusal) (s : Size) (width : ℕ) (laid : List ℤ → List X) (fabric file : List ℕ) (memory : List X)
    → over_by (and_then v (first_refusal (many_tests (netlist_of s (open_table fabric s.components)) file (length memory / width)))) (laid (each_block (block_result (netlist_of s (open_table fabric s.components))) file (blocks file))) memory
    ≡ left_many (read_as v s) width laid fabric file memory
unfolding over_by
read-many (Ok _) s width laid fabric file memory = refl
read-many (Err r) s width laid fabric file memory = refl

pub many_memory : {X : Type 0} (width : ℕ) (laid : List ℤ → List X) (fabric file : List ℕ) (memory : List X) → after_many width laid fabric file memory ≡ left_many (reading fabric) width laid fabric file memory
unfolding after_many many_verdict reading netlist_in
many_memory width laid fabric file memory =
    ap (λ (v : Result Unit Refusal). over_by v (laid (each_block (block_result (netlist_in fabric)) file (blocks file))) memory) (refusal-append (file_tests fabric) (many_tests (netlist_in fabric) file (length memory / width)))
    ∙ read-many (first_refusal (file_tests fabric)) (size_in (header_fields fabric)) width laid fabric file memory

-- of a fabric that was read: what the tests of the blocks leave
module _ {X : Type 0} (width : ℕ) (laid : List ℤ → List X) (fabric file : List ℕ) (memory : List X) {s : Size} {table : List ℕ} (e : Ok s ≡ reading fabric) (q : table ≡ open_table fabric s.components) where
  abbrev written : Netlist → List X
  written f = laid (each_block (block_result f) file (blocks file))

  abbrev outcome : Netlist → Result Unit Refusal
  outcome f = first_refusal (many_tests f file (length memory / width))

  by-outcome : {v : Result Unit Refusal} → v ≡ outcome (netlist_of s table) → over_by v (written (netlist_of s table)) memory ≡ after_many width laid fabric file memory
  by-outcome ev =
      ap (λ (v : Result Unit Refusal). over_by v (written (netlist_of s table)) memory) ev
      ∙ ap (λ (t : List ℕ). over_by (outcome (netlist_of s t)) (written (netlist_of s t)) memory) q
      ∙ ap (λ (r : Result Size Refusal). left_many r width laid fabric file memory) e
      ∙ sym (many_memory width laid fabric file memory)

  pub memory-kept : {r : Refusal} → Err r ≡ outcome (netlist_of s table) → memory ≡ after_many width laid fabric file memory
  unfolding over_by
  memory-kept er = by-outcome er

  pub memory-written : Ok tt ≡ outcome (netlist_of s table) → over (written (netlist_of s table)) memory ≡ after_many width laid fabric file memory
  unfolding over_by
  memory-written ok = by-outcome ok

-- ---- in a signed table, and in bytes
pub table-after : (fabric file : List ℕ) (table : List ℤ) → after_many 1 (λ entries. entries) fabric file table ≡ table_after_many fabric file table
unfolding after_many table_after_many
table-after fabric file table =
    let e : length table / 1 ≡ length table = omega arith in
    ap (λ (n : ℕ). over_by (many_verdict fabric file n) (each_block (block_result (netlist_in fabric)) file (blocks file)) table) e

pub bytes-after : (fabric file bytes : List ℕ) → after_many 8 bytes_of fabric file bytes ≡ bytes_after_many fabric file bytes
unfolding after_many bytes_after_many
bytes-after fabric file bytes = ap (λ (l : List ℕ). over_by (many_verdict fabric file (length bytes / 8)) l bytes) (each-bytes (netlist_in fabric) file (blocks file))
