-- Laws of the loops over records and rows. Assumes nothing.
use mathlib.Core.Path.{◌≡◌, refl, ap, sym, subst, ◌∙◌}
use Prim.Native.Nat.{ℕ, zero, suc, ◌+◌, ◌*◌, ◌≤◌, ◌<◌}
use native.Mathlib.Nat.{zero-add, add_assoc, mul-suc, mul-zero, mul-le-mul_left, le_of_eq}
use native.Mathlib.Numerals.{add-one}
use native.Mathlib.Decide.{dec_lt}
use native.Mathlib.Omega.{arith}
use mathlib.Core.List.{List, [], ◌++◌, append_assoc, append-nil}
use borrow.Rule.Slice.PartMut.{put_mid}
use Rattle.std.proofs.lemmas.Slice.{put_mid-paste}
use lib.ListN.{length, get_or, take, drop, length-append, length-drop, take-append-drop}
use lib.Seq.{paste, take_at, drop_at, length-take-le, drop-drop, get_or-drop, get_or-take, take_all, take-append-le, drop-append-le}
use Rattle.record.specs.Record.{record_row, record_bytes}
use Rattle.record.specs.Table.{row, record_at, open_table, records}
use Rattle.record.specs.Sizes.{header_size, record_size, file_size, row_size}
use Rattle.record.proofs.Record.{length-row, length-record}

-- field i of row k
pub row_at : (t : List ℕ) (k i : ℕ) → i < row_size → get_or (row t k) i 0 ≡ get_or t (row_size * k + i) 0
row_at t k i h = get_or-take row_size (drop (row_size * k) t) i 0 h ∙ get_or-drop (row_size * k) t i 0

pub row-length : (t : List ℕ) (k : ℕ) → row_size * k + row_size ≤ length t → length (row t k) ≡ row_size
row-length t k h = length-take-le row_size (drop (row_size * k) t) (rw length-drop (omega arith))

-- ---- parts of equal length, one behind the other
module _ (w : ℕ) (part : ℕ → List ℕ) (long : (k : ℕ) → length (part k) ≡ w) (whole : ℕ → List ℕ)
    (none : whole 0 ≡ []) (more : (k : ℕ) → whole (suc k) ≡ whole k ++ part k) where
  pub length-parts : (n : ℕ) → length (whole n) ≡ w * n
  length-parts zero = ap length none ∙ sym (mul-zero w)
  length-parts (suc n) = rw (more n) (length-append (whole n) (part n) ∙ rw (length-parts n, long n, mul-suc))

  -- part k of the whole
  pub part_in : (n k : ℕ) → k < n → take w (drop (w * k) (whole n)) ≡ part k
  part_in zero k h = absurd (omega arith)
  part_in (suc n) k h = rw (more n) (go (λ l. part_in n k l) (dec_lt k n))
    where
      go : (k < n → take w (drop (w * k) (whole n)) ≡ part k) → Dec (k < n) → take w (drop (w * k) (whole n ++ part n)) ≡ part k
      go again (yes l) =
          let room : w * k + w ≤ length (whole n) = rw (length-parts n, ← mul-suc w k) (mul-le-mul_left w l) in
          rw (
            drop-append-le (w * k) (whole n) (part n) (omega arith),
            take-append-le w (drop (w * k) (whole n)) (part n) (rw length-drop (omega arith)),
          )
          (again l)
      go again (no l) =
          let e : k ≡ n = omega arith in
          let r : length (whole n) ≡ w * k = length-parts n ∙ ap (λ (x : ℕ). w * x) (sym e) in
          rw (drop_at (whole n) (part n) (w * k) r, e) (take_all w (part n) (le_of_eq (long n)))

  -- the first k parts of the whole
  pub parts-front : (n k : ℕ) → k ≤ n → take (w * k) (whole n) ≡ whole k
  parts-front zero k h =
      let e : k ≡ 0 = omega arith in
      rw e (take_all (w * 0) (whole 0) (le_of_eq (length-parts 0)))
  parts-front (suc n) k h = go (λ l. parts-front n k l) (dec_lt k (suc n))
    where
      go : (k ≤ n → take (w * k) (whole n) ≡ whole k) → Dec (k < suc n) → take (w * k) (whole (suc n)) ≡ whole k
      go again (yes l) = rw (more n, take-append-le (w * k) (whole n) (part n) (rw (length-parts n) (mul-le-mul_left w (omega arith)))) (again (omega arith))
      go again (no l) =
          let e : k ≡ suc n = omega arith in
          rw e (take_all (w * suc n) (whole (suc n)) (le_of_eq (length-parts (suc n))))

  -- a turn of the loop that writes them behind what stands in front
  pub parts_more : (front rest : List ℕ) (k : ℕ) (b : List ℕ) → b ≡ part k
      → paste (front ++ whole k ++ drop (length front + w * k) rest) (length front + w * k) b w ≡ front ++ whole (suc k) ++ drop (length front + w * suc k) rest
  parts_more front rest k b eb =
      let f : ℕ = length front in
      let p : List ℕ = front ++ whole k in
      let d : List ℕ = drop (f + w * k) rest in
      let l : length p ≡ f + w * k = length-append front (whole k) ∙ ap (λ (x : ℕ). f + x) (length-parts k) in
      rw (
        eb,
        more k,
        mul-suc w k,
        ← add_assoc f (w * k) w,
        take_at p d (f + w * k) l,
        take_all w (part k) (le_of_eq (long k)),
        ← drop-drop w (f + w * k) (p ++ d),
        drop_at p d (f + w * k) l,
        drop-drop w (f + w * k) rest,
        ← append_assoc front (whole k) (part k),
      )

-- ---- the rows of a file's records
rows-suc : (file : List ℕ) (k : ℕ) → open_table file (suc k) ≡ open_table file k ++ record_row file (record_at k)
unfolding open_table
rows-suc file k = refl

rows-zero : (file : List ℕ) → open_table file 0 ≡ []
unfolding open_table
rows-zero file = refl

module _ (file : List ℕ) where
  pub length-rows : (n : ℕ) → length (open_table file n) ≡ row_size * n
  length-rows = length-parts row_size (λ k. record_row file (record_at k)) (λ k. length-row file (record_at k)) (open_table file) (rows-zero file) (rows-suc file)

  -- row k of the open table is that of record k
  pub row_open : (n k : ℕ) → k < n → row (open_table file n) k ≡ record_row file (record_at k)
  row_open = part_in row_size (λ k. record_row file (record_at k)) (λ k. length-row file (record_at k)) (open_table file) (rows-zero file) (rows-suc file)

  pub rows_none : (t : List ℕ) → t ≡ open_table file 0 ++ drop (row_size * 0) t
  unfolding open_table
  rows_none t = refl

  pub rows_more : (old : List ℕ) (k : ℕ) {w : ℕ} {t new b : List ℕ} → w ≡ row_size → t ≡ open_table file k ++ drop (row_size * k) old → new ≡ b → b ≡ record_row file (record_at k)
      → put_mid (row_size * k) w t new ≡ open_table file (k + 1) ++ drop (row_size * (k + 1)) old
  rows_more old k {w} {t} {new} {b} ew before en eb =
      let z : (n : ℕ) → 0 + row_size * n ≡ row_size * n = λ n. zero-add (row_size * n) in
      put_mid-paste (row_size * k) w t new b row_size en (sym ew) (rw eb (sym (length-row file (record_at k))))
      ∙ rw (before, add-one k, ← z k, ← z (suc k)) (parts_more row_size (λ k. record_row file (record_at k)) (λ k. length-row file (record_at k)) (open_table file) (rows-zero file) (rows-suc file) [] old k b eb)

-- ---- the records of a table's rows
module _ (t : List ℕ) where
  records-zero : records t 0 ≡ []
  unfolding records
  records-zero = refl

  records-suc : (k : ℕ) → records t (suc k) ≡ records t k ++ record_bytes (row t k)
  unfolding records
  records-suc k = refl

  pub length-records : (n : ℕ) → length (records t n) ≡ record_size * n
  length-records = length-parts record_size (λ k. record_bytes (row t k)) (λ k. length-record (row t k)) (records t) records-zero records-suc

  pub record-in : (n k : ℕ) → k < n → take record_size (drop (record_size * k) (records t n)) ≡ record_bytes (row t k)
  record-in = part_in record_size (λ k. record_bytes (row t k)) (λ k. length-record (row t k)) (records t) records-zero records-suc

  pub records-front : (n k : ℕ) → k ≤ n → take (record_size * k) (records t n) ≡ records t k
  records-front = parts-front record_size (λ k. record_bytes (row t k)) (λ k. length-record (row t k)) (records t) records-zero records-suc

  pub records_none : (o : List ℕ) → o ≡ take header_size o ++ records t 0 ++ drop header_size o
  unfolding records
  records_none o = sym (take-append-drop header_size o) ∙ ap (λ (l : List ℕ). l ++ drop header_size o) (sym (append-nil (take header_size o)))

  pub records_more : (old : List ℕ) (k : ℕ) {o new : List ℕ} → new ≡ paste o (file_size k) (record_bytes (row t k)) record_size → o ≡ take header_size old ++ records t k ++ drop (file_size k) old → header_size ≤ length old
      → new ≡ take header_size old ++ records t (k + 1) ++ drop (file_size (k + 1)) old
  records_more old k after before h =
      let four : length (take header_size old) ≡ header_size = length-take-le header_size old h in
      after
      ∙ rw (before, add-one k)
      (subst (λ (f : ℕ). paste (take header_size old ++ records t k ++ drop (f + record_size * k) old) (f + record_size * k) (record_bytes (row t k)) record_size ≡ take header_size old ++ records t (suc k) ++ drop (f + record_size * suc k) old) four
      (parts_more record_size (λ k. record_bytes (row t k)) (λ k. length-record (row t k)) (records t) records-zero records-suc (take header_size old) old k (record_bytes (row t k)) refl))
