-- The packed fabric.
use Rattle.std.specs.Prelude.{ℕ, ◌+◌, ◌*◌, ◌%◌, Bool, not, ◌||◌, List, [], ◌∷◌, ◌++◌, length, get_or, ltb, eqb}
use Rattle.digits.specs.Packed.{joined, fields, bytes}
use Rattle.digits.specs.Least.{least}
use Rattle.digits.specs.Sum.{sum}
use Rattle.order.specs.Graph.{has_circle}
use Rattle.refusals.specs.Refusals.{Test, test}
use Rattle.refusals.specs.declared.Refusal.TheVariants.{FileShort, WrongEdition, CountRange, WrongLength, ByteSum, BadField, ChannelEnds, Circle}
use Rattle.record.specs.Record.{record_pad}
use Rattle.record.specs.Table.{row, record_at, open_table}
use Rattle.record.specs.Sizes.{file_size, header_size}
use Rattle.component.specs.Row.{row_ok}
use Rattle.component.specs.Limits.{most_components}
use Rattle.wiring.specs.Ends.{first_unmatched}
use Rattle.wiring.specs.Signals.{dependence}
use Rattle.netlist.specs.Netlist.{Netlist, sized, netlist_of}
use Rattle.netlist.specs.declared.Size.{Size}

-- Header, 4 bytes: edition 4 bits (1); C-1, 3 bits; one 0 bit; N, 8 bits (1..128); M, 8 bits (1..255); a check byte, 8 bits.
abbrev pub header_widths : List ℕ
header_widths = 4 ∷ 3 ∷ 1 ∷ 8 ∷ 8 ∷ 8 ∷ []

unfoldable pub header_fields : List ℕ → List ℕ
header_fields file = fields header_widths (joined (bytes header_size) file 0)

abbrev pub colours_in : List ℕ → ℕ
colours_in h = get_or h 1 0 + 1

abbrev pub components_in : List ℕ → ℕ
components_in h = get_or h 3 0

abbrev pub channels_in : List ℕ → ℕ
channels_in h = get_or h 4 0

abbrev pub size_in : List ℕ → Size
size_in h = sized (colours_in h) (channels_in h) (components_in h)

-- the netlist of a file
unfoldable pub netlist_in : List ℕ → Netlist
netlist_in file = let s : Size = size_in (header_fields file) in netlist_of s (open_table file s.components)

-- 6 a field, or a row's kind above 7 (lowest component)
abbrev pub bad_row : ℕ → ℕ → List ℕ → ℕ → Bool
bad_row colours channels table k = not (row_ok colours channels (row table k))

-- the six 0 bits of a record
abbrev pub bad_pad : List ℕ → ℕ → Bool
bad_pad file k = not (eqb (record_pad file (record_at k)) 0)

abbrev pub bad_record : ℕ → ℕ → List ℕ → List ℕ → ℕ → Bool
bad_record colours channels file table k = bad_pad file k || bad_row colours channels table k

unfoldable pub first_bad_row : ℕ → ℕ → List ℕ → ℕ → ℕ
first_bad_row colours channels table n = least (bad_row colours channels table) n

unfoldable pub first_bad_record : ℕ → ℕ → List ℕ → List ℕ → ℕ → ℕ
first_bad_record colours channels file table n = least (bad_record colours channels file table) n

-- ---- the tests of 1-8, those of the header with its fields h
-- 2 edition or the 0 bit wrong. 3 N, M outside its range. 4 length not 4+13N. 5 byte sum.
abbrev pub header_tests : List ℕ → List ℕ → List Test
header_tests h file =
    test WrongEdition (not (eqb (get_or h 0 0) 1) || not (eqb (get_or h 2 0) 0))
    ∷ test CountRange (eqb (components_in h) 0 || ltb most_components (components_in h) || eqb (channels_in h) 0)
    ∷ test WrongLength (not (eqb (length file) (file_size (components_in h))))
    ∷ test ByteSum (not (eqb (sum file % 256) 0))
    ∷ []

-- 7 a channel's ends (lowest channel). 8 a circle.
abbrev pub wire_tests : List ℕ → ℕ → ℕ → List Test
wire_tests table n channels =
    test (ChannelEnds (first_unmatched table n channels)) (ltb (first_unmatched table n channels) channels)
    ∷ test Circle (has_circle (dependence table n) (2 * channels))
    ∷ []

abbrev pub record_tests : ℕ → ℕ → List ℕ → List ℕ → ℕ → List Test
record_tests colours channels file table n =
    test (BadField (first_bad_record colours channels file table n)) (ltb (first_bad_record colours channels file table n) n) ∷ wire_tests table n channels

-- 1 under 4 bytes
abbrev pub file_tests : List ℕ → List Test
file_tests file =
    let h : List ℕ = header_fields file in
    (test FileShort (ltb (length file) header_size) ∷ header_tests h file) ++ record_tests (colours_in h) (channels_in h) file (open_table file (components_in h)) (components_in h)
