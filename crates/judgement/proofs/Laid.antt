-- Bytes in which one entry is written. Assumes nothing.
use mathlib.Core.Path.{◌≡◌, sym, ap, ap₂, ◌∙◌}
use mathlib.Core.Bool.{Bool, cond}
use mathlib.Core.List.{List, ◌∷◌, ◌++◌, append_assoc}
use Prim.Native.Nat.{ℕ, ◌+◌, ◌*◌, ◌-◌, ◌/◌, ◌%◌, ◌≤◌}
use native.Mathlib.Omega.{arith}
use lib.Dec.{ltb}
use lib.ListN.{length, get_or, take, drop}
use lib.IntN.{ℤ}
use lib.Seq.{drop-drop}
use borrow.Rule.Slice.PartMut.{put_mid}
use mir.Syntax.{w64}
use mir.Val.{of_z}
use borrow.Author.Tests.{lt-ltb, le-ltb}
use Rattle.std.specs.Int.{to_le_bytes}
use Rattle.std.proofs.lemmas.List.{take-append-le, take_all}
use Rattle.digits.specs.UpTo.{up_to}
use Rattle.digits.proofs.UpTo.{length-up_to, up_to-cong, up_to-append, filled_is}
use Rattle.flows.specs.Verdict.{byte_of}
use Rattle.judgement.specs.Judged.{laid}

low-bytes : (v : ℤ) → to_le_bytes w64 (of_z w64 v) ≡ up_to 8 (byte_of v)
unfolding up_to
low-bytes v =
    let e : of_z w64 v % 256 ≡ of_z w64 v / 1 % 256 = omega arith in
    ap (λ (b : ℕ). b ∷ drop 1 (to_le_bytes w64 (of_z w64 v))) e

module _ (l : List ℕ) (u : ℕ) (v : ℤ) (room : 8 * u + 8 ≤ length l) where
  abbrev byte : ℕ → ℕ
  byte j = cond (ltb j (8 * u)) (get_or l j 0) (byte_of v (j - 8 * u))

  before : take (8 * u) l ≡ up_to (8 * u) byte
  before =
      ap (take (8 * u)) (filled_is byte l 0 (8 * u) (omega arith) (λ i h. sym (ap (λ (b : Bool). cond b (get_or l i 0) (byte_of v (i - 8 * u))) (lt-ltb i (8 * u) h))))
      ∙ take-append-le (8 * u) (up_to (8 * u) byte) (drop (8 * u) l) (omega (arith, length-up_to byte (8 * u))) ∙ take_all (8 * u) (up_to (8 * u) byte) (omega (arith, length-up_to byte (8 * u)))

  here : up_to 8 (λ i. byte (8 * u + i)) ≡ up_to 8 (byte_of v)
  here = up_to-cong 8 (λ i. byte (8 * u + i)) (byte_of v)
      (λ i h. let m : 8 * u + i - 8 * u ≡ i = omega arith in
      ap (λ (b : Bool). cond b (get_or l (8 * u + i) 0) (byte_of v (8 * u + i - 8 * u))) (le-ltb (8 * u + i) (8 * u) (omega arith)) ∙ ap (byte_of v) m)

  pub put-laid : {k : ℕ} {new : List ℕ} → k ≡ 8 → new ≡ to_le_bytes w64 (of_z w64 v) → put_mid (8 * u) k l new ≡ laid l u v
  unfolding laid
  put-laid {k} {new} ek e =
      ap (λ (n : ℕ). put_mid (8 * u) n l new) ek ∙ ap (λ (t : List ℕ). take (8 * u) l ++ (new ++ t)) (drop-drop 8 (8 * u) l)
      ∙ ap₂ (λ (a b : List ℕ). a ++ (b ++ drop (8 * u + 8) l)) before (e ∙ low-bytes v ∙ sym here)
      ∙ sym (append_assoc (up_to (8 * u) byte) (up_to 8 (λ i. byte (8 * u + i))) (drop (8 * u + 8) l))
      ∙ ap (λ (a : List ℕ). a ++ drop (8 * u + 8) l) (sym (up_to-append byte (8 * u) 8))
