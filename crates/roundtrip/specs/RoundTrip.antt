-- An accepted file and its open table turn into each other exactly, with one encoding each: the theorems that
-- proofs/RoundTrip.antt proves.
use Rattle.std.specs.Prelude.{Ok}
use Rattle.std.specs.Prelude.{◌≡◌, ℕ, ◌*◌, ◌/◌, ◌≤◌, ◌<◌, List, [], ◌∷◌, ◌++◌, length, get_or, drop, ltb}
use Rattle.refusals.specs.Refusals.{test, first_refusal}
use Rattle.refusals.specs.declared.Refusal.TheVariants.{ResultSpace}
use Rattle.record.specs.Table.{open_table}
use Rattle.record.specs.Sizes.{row_size}
use Rattle.netlist.specs.Netlist.{sized}
use Rattle.reader.specs.Reading.{verdict_of, reading}
use Rattle.fabric.specs.PackedFile.{packed_file}
use Rattle.fabric.specs.Calls.{unpacked, unpacked_table, packed, packed_into}

abbrev pub Bytes : List ℕ → Type 0
Bytes l = (k : ℕ) → get_or l k 0 < 256

-- what pack writes of a table
abbrev pub file_of : ℕ → ℕ → List ℕ → List ℕ
file_of colours channels table = packed_file colours channels table (length table / row_size)

-- for every accepted file, packing what unpacking it gives is the file again
abbrev pub RoundTripFile : Type 0
RoundTripFile = (file : List ℕ) → Bytes file → (C M N : ℕ) → reading file ≡ Ok (sized C M N) → (space : List ℕ) → length file ≤ length space
    → (packed C M (open_table file N) (length space) ≡ (Ok tt)) × (packed_into C M (open_table file N) space ≡ file ++ drop (length file) space)

-- for every accepted table, unpacking what packing it gives is the table again, with its C and M
abbrev pub RoundTripTable : Type 0
RoundTripTable = (C M : ℕ) (table : List ℕ) → Bytes table → (given : ℕ) → packed C M table given ≡ (Ok tt) → (space : List ℕ) → length table ≤ length space
    → (unpacked (file_of C M table) (length space) ≡ Ok (sized C M (length table / row_size))) × (unpacked_table (file_of C M table) space ≡ table ++ drop (length table) space)

-- a file that pack wrote is accepted by unpack, whatever space it is given: only 23 can refuse it
abbrev pub WrittenAccepted : Type 0
WrittenAccepted = (C M : ℕ) (table : List ℕ) → Bytes table → (given : ℕ) → packed C M table given ≡ (Ok tt) → (space : ℕ)
    → verdict_of (unpacked (file_of C M table) space) ≡ first_refusal (test ResultSpace (ltb space (row_size * (length table / row_size))) ∷ [])

-- one encoding each
abbrev pub OneFile : Type 0
OneFile = (file other : List ℕ) → Bytes file → Bytes other → (C M N : ℕ) → reading file ≡ Ok (sized C M N) → reading other ≡ Ok (sized C M N) → open_table file N ≡ open_table other N → file ≡ other

abbrev pub OneTable : Type 0
OneTable = (C M C' M' : ℕ) (table other : List ℕ) → Bytes table → Bytes other → (given given' : ℕ) → packed C M table given ≡ (Ok tt) → packed C' M' other given' ≡ (Ok tt)
    → file_of C M table ≡ file_of C' M' other → (C ≡ C') × (M ≡ M') × (table ≡ other)
