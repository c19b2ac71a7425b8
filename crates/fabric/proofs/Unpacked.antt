-- What unpack comes to. Assumes nothing.
use mathlib.Core.Path.{sym}
use native.Mathlib.Omega.{arith}
use Rattle.std.proofs.Common.{Result, Ok, Err, append-nil}
use Rattle.std.proofs.Math.Seq.{drop-length}
use Rattle.digits.specs.UpTo.{up_to}
use Rattle.digits.proofs.UpTo.{filled_is}
use mathlib.Core.Path.{◌≡◌, refl, ap, ◌∙◌}
use Prim.Native.Nat.{ℕ, ◌*◌}
use mathlib.Core.List.{List, [], ◌∷◌, ◌++◌}
use lib.ListN.{length, get_or}
use lib.Dec.{ltb}
use Rattle.refusals.specs.Refusals.{test, first_refusal}
use Rattle.refusals.specs.Room.{room_for}
use Rattle.refusals.specs.declared.Refusal.{Refusal}
use Rattle.refusals.specs.declared.Refusal.TheVariants.{ResultSpace}
use Rattle.refusals.proofs.Refusals.{and_then, refusal-append}
use Rattle.record.specs.Sizes.{row_size}
use Rattle.netlist.specs.declared.Size.{Size}
use Rattle.reader.specs.File.{header_fields, components_in, size_in, file_tests}
use Rattle.reader.specs.Reading.{read_as, reading}
use Rattle.fabric.specs.Calls.{unpacked, table_after, unpacked_table}

-- a list, place by place
pub put_all : (s : List ℕ) → up_to (length s) (λ i. get_or s i 0) ≡ s
put_all s =
    sym (filled_is (λ i. get_or s i 0) s 0 (length s) (omega arith) (λ i l. refl) ∙ ap (λ (t : List ℕ). up_to (length s) (λ i. get_or s i 0) ++ t) (drop-length s) ∙ append-nil _)

module _ (file : List ℕ) where
  -- the last test of unpack
  abbrev room : ℕ → Result Unit Refusal
  room space = first_refusal (test ResultSpace (ltb space (row_size * components_in (header_fields file))) ∷ [])

  unpacked-is : (space : ℕ) → unpacked file space ≡ read_as (and_then (first_refusal (file_tests file)) (room space)) (size_in (header_fields file))
  unfolding unpacked
  unpacked-is space =
      ap (λ (v : Result Unit Refusal). read_as v (size_in (header_fields file))) (refusal-append (file_tests file) (test ResultSpace (ltb space (row_size * components_in (header_fields file))) ∷ []))

  -- what reading comes to, and then the test of the space
  abbrev pub roomy : Result Size Refusal → ℕ → Result Size Refusal
  roomy (Ok s) space = read_as (room_for space (row_size * s.components)) s
  roomy (Err r) space = Err r

  roomy-read : (v : Result Unit Refusal) (s : Size) (space : ℕ) → read_as (and_then v (room_for space (row_size * s.components))) s ≡ roomy (read_as v s) space
  roomy-read (Ok _) s space = refl
  roomy-read (Err r) s space = refl

  pub unpacked_roomy : (space : ℕ) → unpacked file space ≡ roomy (reading file) space
  unfolding reading
  unpacked_roomy space = unpacked-is space ∙ roomy-read (first_refusal (file_tests file)) (size_in (header_fields file)) space

  pub table_roomy : (table : List ℕ) → unpacked_table file table ≡ table_after (roomy (reading file) (length table)) file table
  unfolding unpacked_table
  table_roomy table = ap (λ (x : Result Size Refusal). table_after x file table) (unpacked_roomy (length table))

  pub unpacked-fabric : {s : Size} → reading file ≡ Ok s → (space : ℕ) → read_as (room_for space (row_size * s.components)) s ≡ unpacked file space
  unpacked-fabric e space = sym (unpacked_roomy space ∙ ap (λ (r : Result Size Refusal). roomy r space) e)

  pub table_of : (table : List ℕ) (a : Result Size Refusal) → a ≡ unpacked file (length table) → table_after a file table ≡ unpacked_table file table
  unfolding unpacked_table
  table_of table a e = ap (λ (x : Result Size Refusal). table_after x file table) e
