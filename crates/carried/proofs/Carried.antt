-- Laws of the byte sum that pack carries. Assumes nothing.
use mathlib.Core.Path.{◌≡◌, refl, ap, ap₂, sym, subst, ◌∙◌}
use Prim.Native.Nat.{ℕ, ◌+◌, ◌*◌, ◌%◌, ◌≤◌}
use native.Mathlib.Nat.{zero-add, mod-add-mod, le_of_eq}
use native.Mathlib.Omega.{arith}
use mathlib.Core.List.{List, [], ◌∷◌, ◌++◌, append_assoc, append-nil}
use borrow.Rule.Slice.PartMut.{put_mid}
use Rattle.std.proofs.lemmas.Slice.{put_mid-paste}
use lib.ListN.{length, take, drop, length-append}
use lib.Seq.{paste, take_all, take_at, drop_at, take-append-le, take-append-add, drop-append-le, append_snoc, take-take, length-take-le, take-paste, slice_empty}
use Rattle.digits.specs.Sum.{sum}
use Rattle.digits.proofs.Sum.{sum-append}
use Rattle.record.specs.Record.{record_bytes}
use Rattle.record.specs.Table.{records}
use Rattle.record.specs.Sizes.{header_size, record_size, file_size}
use Rattle.record.proofs.Record.{length-record}
use Rattle.record.proofs.Table.{length-records, records-front}
use Rattle.carried.specs.Carried.{check_place, laid, carried_sum}

-- ---- before the first record: header bytes 0 to 2
pub carried_none : (o : List ℕ) → carried_sum o 0 ≡ sum (take check_place o) % 256
unfolding carried_sum
carried_none o = ap (λ (l : List ℕ). sum l % 256) (ap (λ (l : List ℕ). take check_place o ++ l) (slice_empty header_size o) ∙ append-nil (take check_place o))

-- ---- header bytes 0 to 2, laid
-- the sum starts at 0
pub from_zero : (s x : ℕ) → s ≡ (0 + x) % 256 → s ≡ x % 256
from_zero s x e = e ∙ ap (λ (y : ℕ). y % 256) (zero-add x)

-- three bytes pasted at the front stand there, with the rest as it was, and their sum is the sum carried
pub front-laid : (h o o₁ : List ℕ) (s : ℕ) → length h ≡ check_place → s ≡ sum (take check_place h) % 256 → o₁ ≡ paste o 0 h check_place
    → (o₁ ≡ h ++ drop check_place o) × (s ≡ carried_sum o₁ 0)
front-laid h o o₁ s three es e =
    let all : take check_place h ≡ h = take_all check_place h (le_of_eq three) in
    let put : o₁ ≡ h ++ drop check_place o = e ∙ ap (λ (l : List ℕ). l ++ drop check_place o) all in
    let same : take check_place h ≡ take check_place o₁ = rw (all, put) (sym (take_at h (drop check_place o) check_place three)) in
    (put, es ∙ ap (λ (l : List ℕ). sum l % 256) same ∙ sym (carried_none o₁))

-- the sum of the header's bytes, where what was read of it is the header
pub front_counted : (h rest : List ℕ) {l : List ℕ} {r : ℕ} → length h ≡ check_place → l ≡ h → r ≡ sum h % 256 → r ≡ carried_sum (l ++ rest) 0
front_counted h rest three e counted = counted ∙ rw e (sym (carried_none (h ++ rest) ∙ ap (λ (l : List ℕ). sum l % 256) (take_at h rest check_place three)))

-- ---- a record more
module _ (o : List ℕ) (k : ℕ) (b : List ℕ) (h : file_size k + record_size ≤ length o) (l : record_size ≤ length b) where
  pub laid_more : laid (paste o (file_size k) b record_size) (k + 1) ≡ laid o k ++ take record_size b
  laid_more =
      let long : length (take (file_size k) o) ≡ file_size k = length-take-le (file_size k) o (omega arith) in
      let e : file_size (k + 1) ≡ file_size k + record_size = omega arith in
      let front-stays : take check_place (paste o (file_size k) b record_size) ≡ take check_place o =
      rw (
        take-append-le check_place (take (file_size k) o ++ take record_size b) (drop (file_size k + record_size) o) (rw (length-append (take (file_size k) o) (take record_size b)) (omega arith)),
        take-append-le check_place (take (file_size k) o) (take record_size b) (omega arith),
      )
      (take-take check_place (file_size k) o (omega arith)) in
      let rest-longer : drop header_size (take (file_size (k + 1)) (paste o (file_size k) b record_size)) ≡ drop header_size (take (file_size k) o) ++ take record_size b =
      rw (e, take-paste o (file_size k) b record_size (omega arith) l) (drop-append-le header_size (take (file_size k) o) (take record_size b) (omega arith)) in
      ap₂ ◌++◌ front-stays rest-longer ∙ sym (append_assoc (take check_place o) (drop header_size (take (file_size k) o)) (take record_size b))

  pub carried-more : (s r : ℕ) → s ≡ carried_sum o k → r ≡ (s + sum (take record_size b)) % 256 → r ≡ carried_sum (paste o (file_size k) b record_size) (k + 1)
  unfolding carried_sum
  carried-more s r es er =
      er ∙ ap (λ (x : ℕ). (x + sum (take record_size b)) % 256) es ∙ mod-add-mod (sum (laid o k)) 256 (sum (take record_size b))
      ∙ ap (λ (x : ℕ). x % 256) (sym (sum-append (laid o k) (take record_size b)) ∙ ap sum (sym laid_more))

-- what is laid and what is carried, where the part of record k now has b
module _ (o : List ℕ) (k : ℕ) {w : ℕ} {new : List ℕ} where
  pub record_laid : (row : List ℕ) {b r : List ℕ} → new ≡ b → b ≡ record_bytes r → r ≡ row → w ≡ record_size → put_mid (file_size k) w o new ≡ paste o (file_size k) (record_bytes row) record_size
  record_laid row {b} {r} en eb er ew = put_mid-paste (file_size k) w o new b record_size en (sym ew) (rw eb (sym (length-record r))) ∙ ap (λ l. paste o (file_size k) l record_size) (eb ∙ ap record_bytes er)

  pub record_counted : (r : List ℕ) {b : List ℕ} {c s : ℕ} → s ≡ (c + sum b) % 256 → c ≡ carried_sum o k → new ≡ b → b ≡ record_bytes r → w ≡ record_size → file_size k + record_size ≤ length o → s ≡ carried_sum (put_mid (file_size k) w o new) (k + 1)
  record_counted r {b} {c} {s} es ec en eb ew h =
      let all : take record_size (record_bytes r) ≡ record_bytes r = take_all record_size (record_bytes r) (rw (length-record r) (omega arith)) in
      rw (record_laid r en eb refl ew) (carried-more o k (record_bytes r) h (rw (length-record r) (omega arith)) c s ec (rw all (es ∙ ap (λ (l : List ℕ). (c + sum l) % 256) eb)))

-- ---- the header: bytes 0 to 2, and the check byte
pub header-long : (front : List ℕ) (check : ℕ) → length front ≡ check_place → length (front ++ check ∷ []) ≡ header_size
header-long front check three = length-append front (check ∷ []) ∙ rw three

-- ---- in a file of n records: header bytes 0 to 2 and the first k records, whatever the check byte is
module _ (front : List ℕ) (check : ℕ) (t rest : List ℕ) (n k : ℕ) (three : length front ≡ check_place) (h : k ≤ n) where
  abbrev header : List ℕ
  header = front ++ check ∷ []

  first-records : take (record_size * k) (records t n ++ rest) ≡ records t k
  first-records = take-append-le (record_size * k) (records t n) rest (rw (length-records t n) (omega arith)) ∙ records-front t n k h

  pub laid_in : laid (front ++ check ∷ (records t n ++ rest)) k ≡ front ++ records t k
  laid_in =
      let file : List ℕ = header ++ (records t n ++ rest) in
      let four : length header ≡ header_size = header-long front check three in
      let up_to : take (file_size k) file ≡ header ++ records t k =
      subst (λ (m : ℕ). take (m + record_size * k) file ≡ header ++ records t k) four (take-append-add header (records t n ++ rest) (record_size * k) ∙ ap (λ (l : List ℕ). header ++ l) first-records) in
      ap₂ ◌++◌ (take_at front (check ∷ (records t n ++ rest)) check_place three)
      (ap (λ (l : List ℕ). drop header_size (take (file_size k) l)) (sym (append_snoc front check (records t n ++ rest))) ∙ ap (drop header_size) up_to ∙ drop_at header (records t k) header_size four)

  pub carried-in : carried_sum (front ++ check ∷ (records t n ++ rest)) k ≡ sum (front ++ records t k) % 256
  unfolding carried_sum
  carried-in = ap (λ (l : List ℕ). sum l % 256) laid_in
