-- What pack writes. Assumes nothing.
use mathlib.Core.Path.{◌≡◌, refl, ap, ap₂, sym, ◌∙◌}
use Prim.Native.Nat.{ℕ, ◌+◌, ◌-◌, ◌*◌, ◌≤◌, ◌<◌}
use native.Mathlib.Nat.{add-zero, le_refl}
use native.Mathlib.Omega.{arith}
use mathlib.Core.List.{List, [], ◌∷◌, ◌++◌, append_assoc}
use lib.ListN.{length, get_or, take, drop}
use lib.Seq.{take_at, drop_at, drop-cons, drop-drop, append_snoc, length-take-le}
use Rattle.digits.specs.Packed.{joined, fields, bytes}
use Rattle.digits.specs.Sum.{sum, negated}
use Rattle.digits.proofs.Packed.{length_fields}
use Rattle.digits.proofs.Sum.{sum-append, negated-wraps}
use Rattle.record.specs.Table.{records}
use Rattle.record.specs.Sizes.{file_size, header_size, record_size}
use Rattle.carried.specs.Carried.{check_place, carried_sum}
use Rattle.carried.proofs.Carried.{header-long, carried-in}
use Rattle.reader.specs.File.{header_widths}
use Rattle.fabric.specs.PackedFile.{header_bytes, packed_file}

-- ---- the header
header-number : (c n m k : ℕ) → c < 8 → n < 256 → m < 256 → k < 256
    → joined header_widths (1 ∷ (c + 1 - 1) ∷ 0 ∷ n ∷ m ∷ k ∷ []) 0 ≡ 268435456 + c * 33554432 + n * 65536 + m * 256 + k
header-number c n m k hc hn hm hk = omega arith

module _ (x c n m k : ℕ) (hc : c < 8) (hn : n < 256) (hm : m < 256) (hk : k < 256) (e : x ≡ 268435456 + c * 33554432 + n * 65536 + m * 256 + k) where
  four : (16 + c * 2) ∷ n ∷ m ∷ k ∷ [] ≡ fields (bytes header_size) x
  four = ap₂ ◌∷◌ (omega arith) (ap₂ ◌∷◌ (omega arith) (ap₂ ◌∷◌ (omega arith) (ap₂ ◌∷◌ (omega arith) refl)))

pub header-bytes : (c n m k : ℕ) → c < 8 → n < 256 → m < 256 → k < 256 → (16 + c * 2) ∷ n ∷ m ∷ k ∷ [] ≡ header_bytes (c + 1) n m k
unfolding header_bytes
header-bytes c n m k hc hn hm hk = four _ c n m k hc hn hm hk (header-number c n m k hc hn hm hk)

pub length-header : (C N M k : ℕ) → length (header_bytes C N M k) ≡ header_size
unfolding header_bytes
length-header C N M k = length_fields (bytes header_size) (joined header_widths (1 ∷ (C - 1) ∷ 0 ∷ N ∷ M ∷ k ∷ []) 0)

-- bytes 0 to 2, whatever the check byte is
module _ (c n m : ℕ) (hc : c < 8) (hn : n < 256) (hm : m < 256) where
  pub header_front : (16 + c * 2) ∷ n ∷ m ∷ [] ≡ take check_place (header_bytes (c + 1) n m 0)
  header_front = ap (take check_place) (header-bytes c n m 0 hc hn hm (omega arith))

  header-whole : (k : ℕ) → k < 256 → take check_place (header_bytes (c + 1) n m 0) ++ k ∷ [] ≡ header_bytes (c + 1) n m k
  header-whole k hk = ap (λ (l : List ℕ). l ++ k ∷ []) (sym header_front) ∙ header-bytes c n m k hc hn hm hk

-- ---- the whole file: header bytes 0 to 2, the check byte, the records
module _ (c M N : ℕ) (t : List ℕ) (hc : c < 8) (h_n : N < 256) (h_m : M < 256) where
  abbrev pub header : ℕ → List ℕ
  header check = header_bytes (c + 1) N M check

  abbrev pub front : List ℕ
  front = take check_place (header 0)

  abbrev pub check_byte : ℕ
  check_byte = negated (sum (front ++ records t N))

  pub three : length front ≡ check_place
  three = length-take-le check_place (header 0) (omega (arith, length-header (c + 1) N M 0))

  -- a 0 in the check byte's place adds nothing
  sum-front : sum (header 0 ++ records t N) ≡ sum (front ++ records t N)
  sum-front =
      ap (λ (l : List ℕ). sum (l ++ records t N)) (sym (header-whole c N M hc h_n h_m 0 (omega arith)))
      ∙ sum-append (front ++ 0 ∷ []) (records t N)
      ∙ ap (λ (x : ℕ). x + sum (records t N)) (sum-append front (0 ∷ []) ∙ add-zero (sum front))
      ∙ sym (sum-append front (records t N))

  pub file-parts : (rest : List ℕ) → packed_file (c + 1) M t N ++ rest ≡ front ++ check_byte ∷ (records t N ++ rest)
  unfolding packed_file
  file-parts rest =
      append_assoc (header (negated (sum (header 0 ++ records t N)))) (records t N) rest
      ∙ ap (λ (x : ℕ). header (negated x) ++ (records t N ++ rest)) sum-front
      ∙ ap (λ (l : List ℕ). l ++ (records t N ++ rest)) (sym (header-whole c N M hc h_n h_m check_byte (omega arith)))
      ∙ append_snoc front check_byte (records t N ++ rest)

  -- ---- what pack lays: o₁ has header bytes 0 to 2, o₂ the records too, and s is the sum carried
  module _ (o o₁ o₂ : List ℕ) (s : ℕ) (h : file_size N ≤ length o) (e₁ : o₁ ≡ front ++ drop check_place o) (e₂ : o₂ ≡ take header_size o₁ ++ records t N ++ drop (file_size N) o₁) (es : s ≡ carried_sum o₂ N) where
    -- the byte that stood in the check byte's place
    abbrev old : ℕ
    old = get_or o check_place 0

    abbrev behind : List ℕ
    behind = records t N ++ drop (file_size N) o

    split : o₁ ≡ (front ++ old ∷ []) ++ drop header_size o
    split = e₁ ∙ ap (λ (l : List ℕ). front ++ l) (drop-cons o check_place 0 (omega arith)) ∙ sym (append_snoc front old (drop header_size o))

    ends : drop (file_size N) o₁ ≡ drop (file_size N) o
    ends =
        sym (drop-drop (record_size * N) header_size o₁)
        ∙ ap (drop (record_size * N)) (ap (drop header_size) split ∙ drop_at (front ++ old ∷ []) (drop header_size o) header_size (header-long front old three))
        ∙ drop-drop (record_size * N) header_size o

    laid-parts : o₂ ≡ front ++ old ∷ behind
    laid-parts =
        e₂
        ∙ ap₂ (λ (p q : List ℕ). p ++ records t N ++ q) (ap (take header_size) split ∙ take_at (front ++ old ∷ []) (drop header_size o) header_size (header-long front old three)) ends
        ∙ append_assoc (front ++ old ∷ []) (records t N) (drop (file_size N) o)
        ∙ append_snoc front old behind

    check-right : negated s ≡ check_byte
    check-right =
        ap negated (es ∙ ap (λ (l : List ℕ). carried_sum l N) laid-parts ∙ carried-in front old t (drop (file_size N) o) N N three (le_refl N))
        ∙ negated-wraps (sum (front ++ records t N))

    pub file_done : (o₃ : List ℕ) → o₃ ≡ take check_place o₂ ++ negated s ∷ drop header_size o₂ → o₃ ≡ packed_file (c + 1) M t N ++ drop (file_size N) o
    file_done o₃ e₃ =
        let begins-so : take check_place o₂ ≡ front = ap (take check_place) laid-parts ∙ take_at front (old ∷ behind) check_place three in
        let ends_so : drop header_size o₂ ≡ behind = ap (drop header_size) (laid-parts ∙ sym (append_snoc front old behind)) ∙ drop_at (front ++ old ∷ []) behind header_size (header-long front old three) in
        e₃ ∙ rw (begins-so, ends_so, check-right) (sym (file-parts (drop (file_size N) o)))
