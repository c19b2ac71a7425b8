-- What holds of memory of entries. Assumes nothing.
use mathlib.Core.Path.{◌≡◌, refl, sym, ap, ap₂, ◌∙◌}
use mathlib.Core.List.{List, [], ◌∷◌, ◌++◌}
use Prim.Native.Nat.{ℕ, zero, suc, ◌+◌, ◌*◌, ◌/◌, ◌%◌, ◌<◌}
use native.Mathlib.Numerals.{add-one}
use native.Mathlib.Omega.{arith}
use lib.IntN.{ℤ, pos}
use lib.ListN.{length, drop, replicate}
use mir.Syntax.{w64}
use mir.Val.{of_z}
use Rattle.std.proofs.lemmas.List.{append-nil, replicate-append-replicate}
use Rattle.digits.specs.UpTo.{up_to}
use Rattle.digits.proofs.UpTo.{up_to-cong, up_to-append}
use Rattle.flows.specs.Verdict.{byte_of, weight_byte}
use Rattle.judgement.specs.Entries.{entries_filled, bytes_filled}
use Rattle.judgement.specs.Memory.{entry_bytes, bytes_of}

pub bytes_more : (xs ys : List ℤ) → bytes_of (xs ++ ys) ≡ bytes_of xs ++ bytes_of ys
unfolding bytes_of
bytes_more [] ys = refl
bytes_more (v ∷ vs) ys = ap (λ (r : List ℕ). entry_bytes v ++ r) (bytes_more vs ys)

pub bytes_length : (xs : List ℤ) → length (bytes_of xs) ≡ 8 * length xs
unfolding bytes_of
bytes_length [] = refl
bytes_length (v ∷ vs) = omega (arith, bytes_length vs)

pub bytes_zeros : (n : ℕ) → bytes_of (replicate n (pos 0)) ≡ replicate (8 * n) 0
unfolding bytes_of
bytes_zeros zero = refl
bytes_zeros (suc n) =
    let e : 8 * suc n ≡ suc (suc (suc (suc (suc (suc (suc (suc (8 * n)))))))) = omega arith in
    ap (λ (r : List ℕ). 0 ∷ 0 ∷ 0 ∷ 0 ∷ 0 ∷ 0 ∷ 0 ∷ 0 ∷ r) (bytes_zeros n) ∙ sym (ap (λ (m : ℕ). replicate m 0) e)

-- of one entry
one_entry : (v : ℤ) → entry_bytes v ≡ up_to 8 (byte_of v)
unfolding up_to
one_entry v =
    let e : of_z w64 v ≡ of_z w64 v / 1 = omega arith in
    ap (λ (x : ℕ). x % 256 ∷ drop 1 (entry_bytes v)) e

-- byte j of a table of entries
pub bytes_up_to : (g : ℕ → ℤ) (n : ℕ) → bytes_of (up_to n g) ≡ up_to (8 * n) (weight_byte g)
unfolding up_to bytes_of
bytes_up_to g zero = refl
bytes_up_to g (suc n) =
    let width : 8 * n + 8 ≡ 8 * suc n = omega arith in
    bytes_more (up_to n g) (g n ∷ []) ∙ ap₂ (λ (a b : List ℕ). a ++ b) (bytes_up_to g n) (append-nil (entry_bytes (g n)) ∙ one_entry (g n) ∙ up_to-cong 8 (byte_of (g n)) (λ i. weight_byte g (8 * n + i)) same)
    ∙ sym (up_to-append (weight_byte g) (8 * n) 8) ∙ ap (λ (m : ℕ). up_to m (weight_byte g)) width
  where
    same : (i : ℕ) → i < 8 → byte_of (g n) i ≡ weight_byte g (8 * n + i)
    same i h =
        let d : n ≡ (8 * n + i) / 8 = omega arith in
        let r : i ≡ (8 * n + i) % 8 = omega arith in
        ap (λ (k : ℕ). byte_of (g k) i) d ∙ ap (byte_of (g ((8 * n + i) / 8))) r

-- entries, and then what was there
pub entries_is : (g : ℕ → ℤ) (s : List ℤ) (n : ℕ) → entries_filled n g s ≡ up_to n g ++ drop (1 * n) s
unfolding entries_filled
entries_is g s n =
    let e : n ≡ 1 * n = omega arith in
    ap (λ (m : ℕ). up_to n g ++ drop m s) e

pub bytes_is : (g : ℕ → ℤ) (s : List ℕ) (n : ℕ) → bytes_filled n g s ≡ bytes_of (up_to n g) ++ drop (8 * n) s
unfolding bytes_filled
bytes_is g s n = ap (λ (l : List ℕ). l ++ drop (8 * n) s) (sym (bytes_up_to g n))

-- zeros as a list by place
pub zeros : (n : ℕ) → up_to n (λ u. pos 0) ≡ replicate n (pos 0)
unfolding up_to
zeros zero = refl
zeros (suc n) = ap (λ (l : List ℤ). l ++ (pos 0 ∷ [])) (zeros n) ∙ replicate-append-replicate n 1 (pos 0) ∙ ap (λ (m : ℕ). replicate m (pos 0)) (add-one n)

pub entry_zeros : (n : ℕ) → up_to n (λ u. pos 0) ≡ replicate (1 * n) (pos 0)
entry_zeros n =
    let e : n ≡ 1 * n = omega arith in
    zeros n ∙ ap (λ (m : ℕ). replicate m (pos 0)) e

pub byte_zeros : (n : ℕ) → bytes_of (up_to n (λ u. pos 0)) ≡ replicate (8 * n) 0
byte_zeros n = ap bytes_of (zeros n) ∙ bytes_zeros n

pub one_long : (l : List ℤ) → length l ≡ 1 * length l
one_long l = omega arith
