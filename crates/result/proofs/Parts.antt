-- A part of lent memory, from a on, and the whole when it is back. Assumes nothing.
use mathlib.Core.Path.{◌≡◌, ap, ◌∙◌}
use mathlib.Core.List.{List, ◌++◌, append-nil}
use Prim.Native.Nat.{ℕ, ◌-◌}
use native.Mathlib.Omega.{arith}
use lib.ListN.{length, take, drop, length-drop, drop_of_length-le}
use lib.Seq.{take_all}

module _ {X : Type 0} (a : ℕ) (l : List X) where
  -- the part, as it is lent, is all from a on
  pub part-is : take (length l - a) (drop a l) ≡ drop a l
  part-is = take_all (length l - a) (drop a l) (omega (arith, length-drop a l))

  -- the whole is its front and the part that came back
  pub part-back : (new : List X) → take a l ++ (new ++ drop (length l - a) (drop a l)) ≡ take a l ++ new
  part-back new =
      ap (λ (r : List X). take a l ++ (new ++ r)) (drop_of_length-le (drop a l) {i = length l - a} (omega (arith, length-drop a l))) ∙ ap (λ (r : List X). take a l ++ r) (append-nil new)
