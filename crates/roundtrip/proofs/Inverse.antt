-- What pack writes is read as it was, and what is read is packed as it was. Assumes nothing.
use Rattle.std.proofs.Common.{Ok}
use mathlib.Core.Path.{◌≡◌, refl, ap, ap₂, sym, subst, ◌∙◌}
use Prim.Native.Nat.{ℕ, zero, suc, ◌+◌, ◌-◌, ◌*◌, ◌%◌, ◌≤◌, ◌<◌}
use native.Mathlib.Nat.{le_of_eq, mod-lt}
use lib.Pow.{pow_pos}
use native.Mathlib.Omega.{arith}
use mathlib.Core.Bool.{false}
use mathlib.Core.List.{List, [], ◌∷◌, ◌++◌}
use lib.ListN.{length, get_or, take, drop, length-append, length-drop, take-append-drop}
use lib.Dec.{ltb}
use lib.Seq.{take_at, drop_at, take_all, drop-drop, length-take-le, get_or-take, take-add}
use borrow.Author.Tests.{ne_eqb, le-ltb, ltb-false}
use Rattle.digits.specs.Packed.{joined, fields, Fit, bytes}
use Rattle.digits.specs.Sum.{sum, negated}
use Rattle.digits.proofs.Packed.{recut, joined-take, joined-fields, joined-lt, fields-joined, fit-replicate}
use Rattle.digits.proofs.Sum.{sum-append, to-zero, negated-only}
use Rattle.digits.proofs.Least.{least-same, least-none}
use Rattle.refusals.specs.Refusals.{test, first_refusal}
use Rattle.refusals.specs.declared.Refusal.TheVariants.{BadField}
use Rattle.refusals.proofs.Refusals.{cond-accepted}
use Rattle.record.specs.Record.{row_widths, record_row, record_pad, record_bytes}
use Rattle.record.specs.Table.{row, record_at, open_table, records}
use Rattle.record.specs.Sizes.{file_size, row_size, header_size, record_size}
use Rattle.record.proofs.Record.{row_back, pad-back, bytes_back, record-part}
use Rattle.record.proofs.Table.{row-length, row_at, row_open, length-records, record-in}
use Rattle.component.specs.Limits.{most_components}
use Rattle.component.proofs.Facts.{row_fits}
use Rattle.netlist.specs.Netlist.{sized}
use Rattle.reader.specs.File.{header_widths, header_fields, colours_in, channels_in, components_in, bad_row, bad_record, first_bad_row, first_bad_record, record_tests, wire_tests}
use Rattle.reader.specs.Reading.{reading}
use Rattle.reader.specs.Stages.{header_read}
use Rattle.reader.proofs.Accepted.{accepted-header, accepted-size, accepted-records, accepted_long}
use Rattle.reader.proofs.Tests.{wrong_range, is_right, colours_lt, channels-lt}
use Rattle.reader.proofs.Facts.{HeaderFacts, reading-rest, records-accepted, good-records}
use Rattle.fabric.specs.PackedFile.{header_bytes, packed_file}
use Rattle.fabric.specs.Stages.{table_verdict}
use Rattle.fabric.proofs.Packing.{length-header, header-bytes}
use Rattle.fabric.proofs.Writing.{Inside, good-rows}

-- ---- the header's sum
header-sum : (c n m k : ℕ) → c < 8 → n < 256 → m < 256 → k < 256 → sum (header_bytes (c + 1) n m k) ≡ 16 + c * 2 + n + m + k
header-sum c n m k hc hn hm hk = ap sum (sym (header-bytes c n m k hc hn hm hk)) ∙ omega arith

-- the check byte adds to the sum of the file without it
file-sum : (c n m k : ℕ) (rest : List ℕ) → c < 8 → n < 256 → m < 256 → k < 256 → sum (header_bytes (c + 1) n m k ++ rest) ≡ sum (header_bytes (c + 1) n m 0 ++ rest) + k
file-sum c n m k rest hc hn hm hk =
    let a = sum-append (header_bytes (c + 1) n m k) rest in
    let b = sum-append (header_bytes (c + 1) n m 0) rest in
    let e = header-sum c n m k hc hn hm hk in
    let f = header-sum c n m 0 hc hn hm (omega arith) in
    total (16 + c * 2 + n + m) k (sum rest) _ _ _ _ a b e f
  where
    total : (a k r x y p q : ℕ) → x ≡ p + r → y ≡ q + r → p ≡ a + k → q ≡ a + 0 → x ≡ y + k
    total a k r x y p q e₁ e₂ e₃ e₄ = omega arith

-- ---- a table, packed and read
module _ (C M N : ℕ) (t : List ℕ) (i : Inside C M N) (long : length t ≡ row_size * N) (byte : (k : ℕ) → get_or t k 0 < 256) (ok : table_verdict C M t N ≡ (Ok tt)) where
  check : ℕ
  check = negated (sum (header_bytes C N M 0 ++ records t N))

  length-packed : length (packed_file C M t N) ≡ file_size N
  unfolding packed_file
  length-packed = length-append (header_bytes C N M _) (records t N) ∙ omega (arith, length-header C N M (negated (sum (header_bytes C N M 0 ++ records t N))), length-records t N)

  verdict : first_refusal (test (BadField (first_bad_row C M t N)) (ltb (first_bad_row C M t N) N) ∷ wire_tests t N M) ≡ (Ok tt)
  unfolding table_verdict
  verdict = ok

  good : N ≤ first_bad_row C M t N
  good = ltb-false (first_bad_row C M t N) N (cond-accepted (BadField (first_bad_row C M t N)) (ltb (first_bad_row C M t N) N) (first_refusal (wire_tests t N M)) verdict).0

  fits : (k : ℕ) → k < N → Fit row_widths (row t k)
  fits k h =
      row_fits C M (row t k) i.few_colours (omega (arith, i.few_channels)) (row-length t k (omega arith)) (rw (row_at t k 20 (omega arith)) (byte (row_size * k + 20))) (good-rows C M N t good k h)

  part : (k : ℕ) → k < N → take record_size (drop (record_at k) (packed_file C M t N)) ≡ record_bytes (row t k)
  unfolding packed_file check
  part k h =
      rw (← drop-drop (record_size * k) header_size (header_bytes C N M check ++ records t N), drop_at (header_bytes C N M check) (records t N) header_size (length-header C N M check)) (record-in t N k h)

  record-row : (k : ℕ) → k < N → record_row (packed_file C M t N) (record_at k) ≡ row t k
  record-row k h = sym (record-part (packed_file C M t N) (record_at k)).0 ∙ ap (λ (l : List ℕ). record_row l 0) (part k h) ∙ row_back (row t k) (fits k h)

  record-pad : (k : ℕ) → k < N → record_pad (packed_file C M t N) (record_at k) ≡ 0
  record-pad k h = sym (record-part (packed_file C M t N) (record_at k)).1 ∙ ap (λ (l : List ℕ). record_pad l 0) (part k h) ∙ pad-back (row t k)

  rows_back : (n : ℕ) → n ≤ N → open_table (packed_file C M t N) n ≡ take (row_size * n) t
  unfolding open_table
  rows_back zero h = refl
  rows_back (suc n) h =
      let e : row_size * suc n ≡ row_size * n + row_size = omega arith in
      rw (rows_back n (omega arith), record-row n h, e, take-add (row_size * n) row_size t)

  pub table-back : open_table (packed_file C M t N) N ≡ t
  table-back = rows_back N (omega arith) ∙ take_all (row_size * N) t (le_of_eq long)

  header-back : header_fields (packed_file C M t N) ≡ 1 ∷ (C - 1) ∷ 0 ∷ N ∷ M ∷ check ∷ []
  unfolding packed_file header_fields header_bytes check
  header-back =
      let vs : List ℕ = 1 ∷ (C - 1) ∷ 0 ∷ N ∷ M ∷ check ∷ [] in
      let file : List ℕ = header_bytes C N M check ++ records t N in
      ap (fields header_widths) (sym (joined-take (bytes header_size) file header_size 0 (omega arith)) ∙ ap (λ (l : List ℕ). joined (bytes header_size) l 0) (take_at (header_bytes C N M check) (records t N) header_size (length-header C N M check)))
      ∙ recut header_widths (bytes header_size) vs refl (omega arith, (omega (arith, i.few_colours), (omega arith, (omega (arith, i.few_rows), (omega (arith, i.few_channels), (omega arith, tt))))))

  sum_back : sum (packed_file C M t N) % 256 ≡ 0
  unfolding packed_file check
  sum_back =
      let c : C - 1 + 1 ≡ C = omega (arith, i.some_colours) in
      let e : sum (header_bytes C N M check ++ records t N) ≡ sum (header_bytes C N M 0 ++ records t N) + check =
      subst (λ (k : ℕ). sum (header_bytes k N M check ++ records t N) ≡ sum (header_bytes k N M 0 ++ records t N) + check) c
      (file-sum (C - 1) N M check (records t N) (omega (arith, i.few_colours)) (omega (arith, i.few_rows)) (omega (arith, i.few_channels)) (omega arith)) in
      ap (λ (x : ℕ). x % 256) e ∙ to-zero (sum (header_bytes C N M 0 ++ records t N))

  same_test : (k : ℕ) → k < N → bad_record C M (packed_file C M t N) t k ≡ bad_row C M t k
  same_test k h = rw (record-pad k h)

  first-same : first_bad_record C M (packed_file C M t N) t N ≡ first_bad_row C M t N
  unfolding first_bad_record first_bad_row
  first-same = least-same _ _ N same_test

  -- a file that pack wrote is read with the same counts
  pub reading-back : reading (packed_file C M t N) ≡ Ok (sized C M N)
  reading-back =
      let f : List ℕ = packed_file C M t N in
      let h : List ℕ = 1 ∷ (C - 1) ∷ 0 ∷ N ∷ M ∷ check ∷ [] in
      let c : C - 1 + 1 ≡ C = omega (arith, i.some_colours) in
      let e₂ : wrong_range h ≡ false = rw (ne_eqb N 0 (λ q. absurd (omega (arith, i.some_rows))), le-ltb most_components N i.few_rows, ne_eqb M 0 (λ q. absurd (omega (arith, i.some_channels)))) in
      let head : header_read (header_fields f) f ≡ Ok (sized C M N) =
      ap (λ (l : List ℕ). header_read l f) header-back ∙ is_right h f refl e₂ length-packed sum_back ∙ ap (λ (x : ℕ). Ok (sized x M N)) c in
      let tests : first_refusal (record_tests C M f t N) ≡ (Ok tt) = rw first-same verdict in
      reading-rest f (omega (arith, length-packed)) (sized C M N) head ∙ rw (table-back, tests)

-- ---- a file, read and packed
module _ (f : List ℕ) (C M N : ℕ) (byte : (k : ℕ) → get_or f k 0 < 256) (e : reading f ≡ Ok (sized C M N)) where
  facts : HeaderFacts (header_fields f) f
  facts = accepted-header f e

  counts : (colours_in (header_fields f) ≡ C) × (channels_in (header_fields f) ≡ M) × (components_in (header_fields f) ≡ N)
  counts = accepted-size f e

  pub file-long : length f ≡ file_size N
  file-long = (accepted_long f e).0

  pub inside_back : Inside C M N
  inside_back =
      let a : colours_in (header_fields f) ≡ C = counts.0 in
      let b : channels_in (header_fields f) ≡ M = counts.1 in
      let c : components_in (header_fields f) ≡ N = counts.2 in
      let p = colours_lt f in
      let q = channels-lt f in
      record {
        some_rows = omega (arith, facts.some_rows);
        few_rows = omega (arith, facts.few_rows);
        some_channels = omega (arith, facts.some_channels);
        few_channels = omega arith;
        some_colours = omega arith;
        few_colours = omega arith;
      }

  accepted : first_refusal (record_tests C M f (open_table f N) N) ≡ (Ok tt)
  accepted = accepted-records f e

  good-all : N ≤ first_bad_record C M f (open_table f N) N
  good-all = (records-accepted C M N f (open_table f N) accepted).0

  pub verdict-back : table_verdict C M (open_table f N) N ≡ (Ok tt)
  unfolding table_verdict first_bad_row
  verdict-back =
      let none : first_bad_row C M (open_table f N) N ≡ N = least-none (bad_row C M (open_table f N)) N (λ k h. rw (good-records C M N f (open_table f N) good-all k h).1) in
      rw (none, le-ltb N N (omega arith)) (records-accepted C M N f (open_table f N) accepted).1

  record_same : (k : ℕ) → k < N → record_bytes (row (open_table f N) k) ≡ take record_size (drop (record_at k) f)
  record_same k h = ap record_bytes (row_open f N k h) ∙ bytes_back f (record_at k) byte (omega (arith, file-long)) (good-records C M N f (open_table f N) good-all k h).0

  records-back : (n : ℕ) → n ≤ N → records (open_table f N) n ≡ take (record_size * n) (drop header_size f)
  unfolding records
  records-back zero h = refl
  records-back (suc n) h =
      let m : record_size * suc n ≡ record_size * n + record_size = omega arith in
      rw (records-back n (omega arith), record_same n h, m, take-add (record_size * n) record_size (drop header_size f), drop-drop (record_size * n) header_size f)

  records-all : records (open_table f N) N ≡ drop header_size f
  records-all = records-back N (omega arith) ∙ take_all (record_size * N) (drop header_size f) (rw length-drop (omega (arith, file-long)))

  -- the header's fields make its bytes
  check-lt : get_or (header_fields f) 5 0 < 256
  unfolding header_fields
  check-lt = mod-lt _ (pow_pos 8)

  header-list : 1 ∷ (C - 1) ∷ 0 ∷ N ∷ M ∷ get_or (header_fields f) 5 0 ∷ [] ≡ header_fields f
  unfolding header_fields
  header-list =
      let a : colours_in (header_fields f) ≡ C = counts.0 in
      let c : C - 1 ≡ get_or (header_fields f) 1 0 = omega arith in
      ap₂ ◌∷◌ (sym facts.edition.0) (ap₂ ◌∷◌ c (ap₂ ◌∷◌ (sym facts.edition.1) (ap₂ ◌∷◌ (sym counts.2) (ap₂ ◌∷◌ (sym counts.1) refl))))

  header-same : header_bytes C N M (get_or (header_fields f) 5 0) ≡ take header_size f
  unfolding header_bytes header_fields
  header-same =
      ap (λ (l : List ℕ). fields (bytes header_size) (joined header_widths l 0)) header-list
      ∙ ap (fields (bytes header_size)) (joined-fields header_widths (joined (bytes header_size) f 0) (joined-lt (bytes header_size) f 0) ∙ sym (joined-take (bytes header_size) f header_size 0 (omega arith)))
      ∙ fields-joined (bytes header_size) (take header_size f) (fit-replicate header_size 8 (take header_size f) (length-take-le header_size f (omega (arith, file-long))) (λ k b. rw (get_or-take header_size f k 0 b) (byte k)))

  whole : header_bytes C N M (get_or (header_fields f) 5 0) ++ records (open_table f N) N ≡ f
  whole = rw (header-same, records-all) (take-append-drop header_size f)

  -- no other check byte brings the sum to 0
  check-same : get_or (header_fields f) 5 0 ≡ negated (sum (header_bytes C N M 0 ++ records (open_table f N) N))
  check-same =
      let i = inside_back in
      let c : C - 1 + 1 ≡ C = omega (arith, i.some_colours) in
      let k : ℕ = get_or (header_fields f) 5 0 in
      let total : sum f ≡ sum (header_bytes C N M 0 ++ records (open_table f N) N) + k =
      ap sum (sym whole)
      ∙ subst (λ (x : ℕ). sum (header_bytes x N M k ++ records (open_table f N) N) ≡ sum (header_bytes x N M 0 ++ records (open_table f N) N) + k) c
      (file-sum (C - 1) N M k (records (open_table f N) N) (omega (arith, i.few_colours)) (omega (arith, i.few_rows)) (omega (arith, i.few_channels)) check-lt) in
      negated-only (sum (header_bytes C N M 0 ++ records (open_table f N) N)) k check-lt (ap (λ (x : ℕ). x % 256) (sym total) ∙ facts.sums)

  pub file-back : packed_file C M (open_table f N) N ≡ f
  unfolding packed_file
  file-back = ap (λ (k : ℕ). header_bytes C N M k ++ records (open_table f N) N) (sym check-same) ∙ whole
