-- A row of the open table by the names of its fields, and when a fabric of C colours and M channels may have it.
use Rattle.std.specs.Prelude.{ℕ, zero, suc, ◌+◌, ◌-◌, ◌*◌, ◌/◌, ◌%◌, ◌^◌, Bool, cond, not, ◌&&◌, ◌||◌, List, get_or, leb, ltb, eqb}
use Rattle.component.specs.declared.kinds.Kind.{Kind}
use Rattle.component.specs.declared.kinds.Map.{Map}
use Rattle.component.specs.declared.kinds.Map.TheVariants.{First, Second}
use Rattle.component.specs.declared.kinds.Port.{Port}
use Rattle.component.specs.declared.kinds.Port.TheVariants.{A, B, C}
use Rattle.component.specs.Kind.{kind_of, port_use, is_used, uses_first_map, uses_second_map, uses_mask, is_source, is_queue}

-- kind, A, B, C, 8 and 8 map entries, mask, capacity, filling, fill colour
abbrev pub kind_number : List ℕ → ℕ
kind_number row = get_or row 0 0

abbrev pub kind : List ℕ → Kind
kind row = kind_of (kind_number row)

abbrev pub port : List ℕ → Port → ℕ
port row A = get_or row 1 0
port row B = get_or row 2 0
port row C = get_or row 3 0

abbrev pub first_map : List ℕ → ℕ → ℕ
first_map row d = get_or row (4 + d) 0

abbrev pub second_map : List ℕ → ℕ → ℕ
second_map row d = get_or row (12 + d) 0

-- the first map or the second
abbrev pub map_of : Map → List ℕ → ℕ → ℕ
map_of First row d = first_map row d
map_of Second row d = second_map row d

-- where it begins in a row
abbrev pub map_start : Map → ℕ
map_start First = 4
map_start Second = 12

abbrev pub mask : List ℕ → ℕ
mask row = get_or row 20 0

-- in a mask byte colour 0 is the highest bit
abbrev pub has_colour : ℕ → ℕ → Bool
has_colour bits d = eqb (bits / 2 ^ (7 - d) % 2) 1

-- the colours of a set below n as bits, and the mask byte of a set
unfoldable pub mask_bits : ℕ → (ℕ → Bool) → ℕ
mask_bits zero s = 0
mask_bits (suc n) s = 2 * mask_bits n s + cond (s n) 1 0

abbrev pub mask_byte : (ℕ → Bool) → ℕ
mask_byte s = mask_bits 8 s

abbrev pub masked : List ℕ → ℕ → Bool
masked row d = has_colour (mask row) d

abbrev pub capacity : List ℕ → ℕ
capacity row = get_or row 21 0

abbrev pub filling : List ℕ → ℕ
filling row = get_or row 22 0

abbrev pub fill_colour : List ℕ → ℕ
fill_colour row = get_or row 23 0

-- a used number is below its limit; unused fields are 0
abbrev pub fits_below : Bool → ℕ → ℕ → Bool
fits_below used x n = (used && ltb x n) || (not used && eqb x 0)

-- map entries are below C; map entries for colours from C on are 0
abbrev pub entry_ok : Bool → ℕ → (ℕ → ℕ) → ℕ → Bool
entry_ok used colours map d = fits_below (used && ltb d colours) (map d) colours

abbrev pub map_ok : Bool → ℕ → (ℕ → ℕ) → Bool
map_ok used n map =
    entry_ok used n map 0 && entry_ok used n map 1 && entry_ok used n map 2 && entry_ok used n map 3 && entry_ok used n map 4 && entry_ok used n map 5 && entry_ok used n map 6 && entry_ok used n map 7

-- mask bits for colours from C on are 0: nothing is left above them; a source emits at least one colour
abbrev pub mask_ok : Bool → Bool → ℕ → ℕ → Bool
mask_ok used some colours bits = (used && eqb (bits * 2 ^ colours % 256) 0 && (not some || ltb 0 bits)) || (not used && eqb bits 0)

-- capacity 1..63, filling 0..capacity
abbrev pub filling_ok : Bool → ℕ → ℕ → Bool
filling_ok used most now = (used && ltb 0 most && leb most 63 && leb now most) || (not used && eqb most 0 && eqb now 0)

abbrev pub port_ok : ℕ → List ℕ → Port → Bool
port_ok channels row p = fits_below (is_used (port_use (kind row) p)) (port row p) channels

-- the fill colour is below C, and 0 where the filling is 0
abbrev pub fill_colour_ok : Bool → ℕ → ℕ → ℕ → Bool
fill_colour_ok used colours now colour = fits_below (used && ltb 0 now) colour colours

unfoldable pub row_ok : ℕ → ℕ → List ℕ → Bool
row_ok colours channels row =
    leb (kind_number row) 7
    && (port_ok channels row A && port_ok channels row B && port_ok channels row C)
    && map_ok (uses_first_map (kind row)) colours (first_map row)
    && map_ok (uses_second_map (kind row)) colours (second_map row)
    && mask_ok (uses_mask (kind row)) (is_source (kind row)) colours (mask row)
    && filling_ok (is_queue (kind row)) (capacity row) (filling row)
    && fill_colour_ok (is_queue (kind row)) colours (filling row) (fill_colour row)
