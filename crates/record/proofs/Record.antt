-- A record in two words; bytes and fields of a record turn into each other exactly. Assumes nothing.
use mathlib.Core.Path.{◌≡◌, ap, sym, ◌∙◌}
use Prim.Native.Nat.{ℕ, ◌+◌, ◌*◌, ◌/◌, ◌%◌, ◌^◌, ◌≤◌, ◌<◌}
use native.Mathlib.Nat.{lt_of_lt_of_le, zero-add}
use Rattle.std.proofs.Common.{pow_mono}
use native.Mathlib.Omega.{arith}
use mathlib.Core.List.{List, [], ◌∷◌, ◌++◌}
use lib.ListN.{replicate, length, get_or, take, drop, length-drop}
use lib.Seq.{length-take-le, get_or-take, get_or-drop}
use Rattle.digits.specs.Packed.{joined, fields, Fit, bytes}
use Rattle.digits.proofs.Packed.{joined-lt, joined-more, bits-replicate, joined-append, fields-low, fields-append, joined-fields, fields-joined, joined-part, fit-replicate, length_fields}
use Rattle.record.specs.Record.{upper_widths, lower_widths, row_widths, record_row, record_pad, record_bytes}
use Rattle.record.specs.Sizes.{record_size, row_size}

pub length-row : (file : List ℕ) (at : ℕ) → length (record_row file at) ≡ row_size
unfolding record_row
length-row file at = length_fields row_widths (joined (bytes record_size) file at / 2 ^ 6)

pub length-record : (f : List ℕ) → length (record_bytes f) ≡ record_size
unfolding record_bytes
length-record f = length_fields (bytes record_size) (joined row_widths f 0 * 2 ^ 6)

-- ---- reading: the row of a record, from the words of 7 and of 6 bytes: its upper 51 bits and the lower 47
pub record_cut : (s : List ℕ) (at : ℕ) {u v : ℕ} {cut : List ℕ} → u ≡ joined (bytes 7) s at → v ≡ joined (bytes 6) s (at + 7)
    → cut ≡ fields upper_widths (u / 32) ++ fields lower_widths ((u % 32 * 281474976710656 + v) / 64) → cut ≡ record_row s at
unfolding record_row
record_cut s at {u} {v} eu ev is =
    let all : joined (bytes record_size) s at ≡ u * 281474976710656 + v = joined-append (bytes 7) (bytes 6) s at ∙ rw (eu, ev) in
    let low : v < 281474976710656 = rw ev (joined-lt (bytes 6) s (at + 7)) in
    let n : ℕ = joined (bytes record_size) s at / 64 in
    let y : ℕ = (u % 32 * 281474976710656 + v) / 64 in
    let ex : u / 32 ≡ n / 140737488355328 = omega arith in
    let ey : y % 140737488355328 ≡ n % 140737488355328 = omega arith in
    is ∙ rw (ex, ← fields-low lower_widths y, ey, fields-low lower_widths n, ← fields-append upper_widths lower_widths n)

-- the last six bits stand in the last byte
last-bits : (n u b : ℕ) → n ≡ u * 256 + b % 256 → b < 256 → b % 64 ≡ n % 64
last-bits n u b e h = omega arith

pub last_six : (s : List ℕ) (at : ℕ) → get_or s (at + 12) 0 < 256 → get_or s (at + 12) 0 % 64 ≡ record_pad s at
unfolding record_pad
last_six s at h = last-bits (joined (bytes record_size) s at) (joined (bytes 12) s at) (get_or s (at + 12) 0) (joined-append (bytes 12) (8 ∷ []) s at ∙ omega arith) h

-- ---- writing: 7 and 6 bytes, from the numbers of the upper and of the lower fields
module _ (n x y : ℕ) (e : n ≡ (x * 140737488355328 + y) * 64) where
  upper-join : x * 32 + y / 4398046511104 ≡ n / 281474976710656
  upper-join = omega arith

  lower-join : y * 64 % 281474976710656 ≡ n % 281474976710656
  lower-join = omega arith

pub record_join : (f : List ℕ) (x y : ℕ) → x ≡ joined upper_widths f 0 → y ≡ joined lower_widths f 12
    → fields (bytes 7) (x * 32 + y / 4398046511104) ++ fields (bytes 6) (y * 64) ≡ record_bytes f
unfolding record_bytes
record_join f x y ex ey =
    let n : ℕ = joined row_widths f 0 * 64 in
    let e : n ≡ (x * 2 ^ 47 + y) * 64 = ap (λ (k : ℕ). k * 64) (joined-append upper_widths lower_widths f 0 ∙ rw (ex, ey)) in
    rw (upper-join n x y e, ← fields-low (bytes 6) (y * 64), lower-join n x y e, fields-low (bytes 6) n, ← fields-append (bytes 7) (bytes 6) n)

-- the number of a map's entries, and a turn of the loop that makes it
pub map_fits : (s : List ℕ) (i : ℕ) → i ≤ 8 → joined (replicate i 3) s 0 < 16777216
map_fits s i h = lt_of_lt_of_le (rw (← bits-replicate i 3) (joined-lt (replicate i 3) s 0)) (pow_mono {i = i * 3} {j = 24} (omega arith))

pub map_more : (s : List ℕ) (i : ℕ) → joined (replicate i 3) s 0 * 8 + get_or s i 0 % 8 ≡ joined (replicate (i + 1) 3) s 0
map_more s i = rw (joined-more 3 i s 0, zero-add)

-- ---- both round trips
shift-lt : (j : ℕ) → j < 2 ^ 98 → j * 64 < 2 ^ 104
shift-lt j h = omega arith

unshift-lt : (n : ℕ) → n < 2 ^ 104 → n / 64 < 2 ^ 98
unshift-lt n h = omega arith

module _ (j : ℕ) where
  shift_back : j * 64 / 64 ≡ j
  shift_back = omega arith

  shift-pad : j * 64 % 64 ≡ 0
  shift-pad = omega arith

unshift-back : (n : ℕ) → n % 64 ≡ 0 → n / 64 * 64 ≡ n
unshift-back n h = omega arith

number-back : (row : List ℕ) → joined (bytes record_size) (record_bytes row) 0 ≡ joined row_widths row 0 * 64
unfolding record_bytes
number-back row = joined-fields (bytes record_size) (joined row_widths row 0 * 64) (shift-lt (joined row_widths row 0) (joined-lt row_widths row 0))

-- a row that fits, packed and unpacked
pub row_back : (row : List ℕ) → Fit row_widths row → record_row (record_bytes row) 0 ≡ row
unfolding record_row
row_back row h = ap (λ (n : ℕ). fields row_widths (n / 64)) (number-back row) ∙ ap (fields row_widths) (shift_back (joined row_widths row 0)) ∙ fields-joined row_widths row h

pub pad-back : (row : List ℕ) → record_pad (record_bytes row) 0 ≡ 0
unfolding record_pad
pad-back row = ap (λ (n : ℕ). n % 64) (number-back row) ∙ shift-pad (joined row_widths row 0)

-- 13 bytes, unpacked and packed
pub bytes_back : (file : List ℕ) (at : ℕ) → ((k : ℕ) → get_or file k 0 < 2 ^ 8) → at + record_size ≤ length file → record_pad file at ≡ 0 → record_bytes (record_row file at) ≡ take record_size (drop at file)
unfolding record_row record_bytes record_pad
bytes_back file at byte h pad =
    let n : ℕ = joined (bytes record_size) file at in
    let part : List ℕ = take record_size (drop at file) in
    let same : joined row_widths (fields row_widths (n / 64)) 0 * 64 ≡ n =
    ap (λ (k : ℕ). k * 64) (joined-fields row_widths (n / 64) (unshift-lt n (joined-lt (bytes record_size) file at))) ∙ unshift-back n pad in
    ap (fields (bytes record_size)) (same ∙ sym (joined-part (bytes record_size) file at))
    ∙ fields-joined (bytes record_size) part
    (fit-replicate record_size 8 part (length-take-le record_size (drop at file) (rw length-drop (omega arith)))
    (λ k b. rw (get_or-take record_size (drop at file) k 0, get_or-drop) (byte (at + k))))

-- only its own 13 bytes matter
pub record-part : (file : List ℕ) (at : ℕ) → (record_row (take record_size (drop at file)) 0 ≡ record_row file at) × (record_pad (take record_size (drop at file)) 0 ≡ record_pad file at)
unfolding record_row record_pad
record-part file at =
    let e = joined-part (bytes record_size) file at in
    (ap (λ (n : ℕ). fields row_widths (n / 64)) e, ap (λ (n : ℕ). n % 64) e)
