-- The calls as functions of the bytes lent to them.
use Rattle.netlist.specs.declared.Size.{Size}
use Rattle.refusals.specs.declared.Refusal.{Refusal}
use Rattle.std.specs.Prelude.{Result, Ok, Err}
use Rattle.std.specs.Prelude.{ℕ, ◌*◌, ◌/◌, ◌%◌, cond, not, ◌||◌, List, [], ◌∷◌, ◌++◌, length, drop, ltb, eqb}
use Rattle.refusals.specs.Refusals.{Test, test, first_refusal, kept}
use Rattle.refusals.specs.declared.Refusal.TheVariants.{CountRange, WrongLength, BadField, ResultSpace}
use Rattle.record.specs.Table.{open_table}
use Rattle.record.specs.Sizes.{file_size, row_size, record_size}
use Rattle.component.specs.Limits.{most_channels, most_colours, most_components}
use Rattle.reader.specs.Reading.{read_as, reading}
use Rattle.reader.specs.File.{header_fields, components_in, size_in, first_bad_row, wire_tests, file_tests}
use Rattle.fabric.specs.PackedFile.{packed_file}

-- ---- unpack 1-8, 23
abbrev pub unpack_tests : List ℕ → ℕ → List Test
unpack_tests file space = file_tests file ++ (test ResultSpace (ltb space (row_size * components_in (header_fields file))) ∷ [])

unfoldable pub unpacked : List ℕ → ℕ → Result Size Refusal
unpacked file space = read_as (first_refusal (unpack_tests file space)) (size_in (header_fields file))

-- lent memory keeps its former bytes if the call is refused, as do bytes past the written part on success
abbrev pub table_after : Result Size Refusal → List ℕ → List ℕ → List ℕ
table_after (Ok size) file table = open_table file size.components ++ drop (row_size * size.components) table
table_after (Err r) file table = table

unfoldable pub unpacked_table : List ℕ → List ℕ → List ℕ
unpacked_table file table = table_after (unpacked file (length table)) file table

-- ---- pack 4, 3, 6, 7, 8, 23
-- 4 in pack, first of all, not a multiple of 24. 3 N, M or (pack) C outside its range.
abbrev pub row_tests : ℕ → ℕ → List ℕ → ℕ → List Test
row_tests colours channels table n =
    test WrongLength (not (eqb (length table % row_size) 0))
    ∷ test CountRange (eqb n 0 || ltb most_components n || eqb channels 0 || ltb most_channels channels || eqb colours 0 || ltb most_colours colours)
    ∷ test (BadField (first_bad_row colours channels table n)) (ltb (first_bad_row colours channels table n) n)
    ∷ wire_tests table n channels

abbrev pub pack_tests : ℕ → ℕ → List ℕ → ℕ → List Test
pack_tests colours channels table space = row_tests colours channels table (length table / row_size) ++ (test ResultSpace (ltb space (file_size (length table / row_size))) ∷ [])

unfoldable pub packed : ℕ → ℕ → List ℕ → ℕ → Result Unit Refusal
packed colours channels table space = first_refusal (pack_tests colours channels table space)

unfoldable pub packed_into : ℕ → ℕ → List ℕ → List ℕ → List ℕ
packed_into colours channels table file =
    let n : ℕ = length table / row_size in
    kept (packed colours channels table (length file)) (packed_file colours channels table n ++ drop (file_size n) file) file

-- ---- record: the 13 bytes of component k in the lent file itself, or an empty part if the file is refused by one of 1-8 or k is N or more
abbrev pub part_start : Result Size Refusal → ℕ → ℕ
part_start (Ok size) k = cond (ltb k size.components) (file_size k) 0
part_start (Err r) k = 0

abbrev pub part_length : Result Size Refusal → ℕ → ℕ
part_length (Ok size) k = cond (ltb k size.components) record_size 0
part_length (Err r) k = 0

unfoldable pub record_start : List ℕ → ℕ → ℕ
record_start file k = part_start (reading file) k

unfoldable pub record_length : List ℕ → ℕ → ℕ
record_length file k = part_length (reading file) k
