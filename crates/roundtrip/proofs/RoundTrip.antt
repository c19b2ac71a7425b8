-- The theorems of specs/RoundTrip.antt. Assumes nothing.
use Rattle.std.proofs.Common.{Result, Ok, Err}
use Rattle.refusals.specs.declared.Refusal.{Refusal}
use mathlib.Core.Path.{◌≡◌, refl, ap, ap₂, sym, ◌∙◌}
use Prim.Native.Nat.{ℕ, ◌*◌, ◌/◌, ◌≤◌}
use native.Mathlib.Omega.{arith}
use mathlib.Core.Bool.{false}
use mathlib.Core.List.{List, ◌++◌}
use lib.ListN.{length, drop}
use borrow.Author.Tests.{ne_eqb, le-ltb}
use Rattle.refusals.specs.Room.{room_for}
use Rattle.record.specs.Table.{open_table}
use Rattle.record.specs.Sizes.{file_size, row_size}
use Rattle.record.proofs.Table.{length-rows}
use Rattle.component.specs.Limits.{most_channels, most_colours, most_components}
use Rattle.netlist.specs.Netlist.{sized}
use Rattle.netlist.specs.declared.Size.{Size}
use Rattle.reader.specs.Reading.{read_as, verdict_of, colours_of, channels_of, reading}
use Rattle.fabric.specs.PackedFile.{packed_file}
use Rattle.fabric.specs.Calls.{unpacked, packed}
use Rattle.refusals.proofs.Room.{room-given}
use Rattle.fabric.proofs.Unpacked.{unpacked-fabric, table_of}
use Rattle.fabric.proofs.Writing.{outside, Inside, judged_room, PackFacts, pack-accepted, file-of}
use Rattle.roundtrip.specs.RoundTrip.{Bytes, file_of, RoundTripFile, RoundTripTable, WrittenAccepted, OneFile, OneTable}
use Rattle.roundtrip.proofs.Inverse.{reading-back, table-back, file-back, file-long, inside_back, verdict-back}

abbrev components_of : Result Size Refusal → ℕ
components_of (Ok s) = s.components
components_of (Err r) = 0

-- ---- an accepted table
module _ (C M : ℕ) (t : List ℕ) (byte : Bytes t) (given : ℕ) (a : packed C M t given ≡ (Ok tt)) where
  facts : PackFacts C M t given
  facts = pack-accepted C M t given a

  long : length t ≡ row_size * (length t / row_size)
  long = omega (arith, facts.even)

  read_back : reading (file_of C M t) ≡ Ok (sized C M (length t / row_size))
  read_back = reading-back C M (length t / row_size) t facts.inside long byte facts.verdict

  open-back : open_table (file_of C M t) (length t / row_size) ≡ t
  open-back = table-back C M (length t / row_size) t facts.inside long byte facts.verdict

  unpacked-back : (space : ℕ) → unpacked (file_of C M t) space ≡ read_as (room_for space (row_size * (length t / row_size))) (sized C M (length t / row_size))
  unpacked-back space = sym (unpacked-fabric (file_of C M t) read_back space)

verdict-read : (v : Result Unit Refusal) (s : Size) → verdict_of (read_as v s) ≡ v
verdict-read (Ok tt) s = refl
verdict-read (Err r) s = refl

pub written_accepted : WrittenAccepted
written_accepted C M t byte given a space = ap verdict_of (unpacked-back C M t byte given a space) ∙ verdict-read (room_for space (row_size * (length t / row_size))) (sized C M (length t / row_size))

pub round_trip_table : RoundTripTable
round_trip_table C M t byte given a space h =
    let n : ℕ = length t / row_size in
    let l = long C M t byte given a in
    let e : unpacked (file_of C M t) (length space) ≡ Ok (sized C M n) = unpacked-back C M t byte given a (length space) ∙ rw (le-ltb (length space) (row_size * n) (omega arith)) in
    (e, sym (table_of (file_of C M t) space _ (sym e)) ∙ ap₂ (λ (x : List ℕ) (k : ℕ). x ++ drop k space) (open-back C M t byte given a) (sym l))

pub one_table : OneTable
one_table C M C' M' t u bt bu g g' a b e =
    let f = ap reading e in
    let r = sym (read_back C M t bt g a) ∙ f ∙ read_back C' M' u bu g' b in
    let n : length t / row_size ≡ length u / row_size = ap components_of r in
    (ap colours_of r, ap channels_of r, sym (open-back C M t bt g a) ∙ ap₂ open_table e n ∙ open-back C' M' u bu g' b)

-- ---- an accepted file
not-outside : (C M N : ℕ) → Inside C M N → outside C M N ≡ false
not-outside C M N i =
    rw (
      ne_eqb N 0 (λ q. absurd (omega (arith, i.some_rows))),
      le-ltb most_components N i.few_rows,
      ne_eqb M 0 (λ q. absurd (omega (arith, i.some_channels))),
      le-ltb most_channels M i.few_channels,
      ne_eqb C 0 (λ q. absurd (omega (arith, i.some_colours))),
      le-ltb most_colours C i.few_colours,
    )

pub round_trip_file : RoundTripFile
round_trip_file f byte C M N e space h =
    let t : List ℕ = open_table f N in
    let n : length t / row_size ≡ N = omega (arith, length-rows f N) in
    let l = file-long f C M N byte e in
    let room : file_size (length t / row_size) ≤ length space = omega arith in
    let p : (Ok tt) ≡ packed C M t (length space) =
    judged_room C M t (length space) (omega (arith, length-rows f N)) (rw n (not-outside C M N (inside_back f C M N byte e))) (rw n (sym (verdict-back f C M N byte e)))
    (sym (room-given (length space) (file_size (length t / row_size)) room)) in
    let q : file_size (length t / row_size) ≡ length f = omega arith in
    (sym p, sym (file-of C M t space (Ok tt) p) ∙ ap₂ (λ (x : List ℕ) (k : ℕ). x ++ drop k space) (ap (packed_file C M t) n ∙ file-back f C M N byte e) q)

pub one_file : OneFile
one_file f g bf bg C M N e d s = sym (file-back f C M N bf e) ∙ ap (λ (t : List ℕ). packed_file C M t N) s ∙ file-back g C M N bg d
