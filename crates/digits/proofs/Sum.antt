-- Laws of byte sums. Assumes nothing.
use Rattle.std.proofs.Common.{◌≡◌, ℕ, ◌+◌, ◌%◌, ◌<◌, List, [], ◌∷◌, ◌++◌, length, get_or, take, sym, ap, ◌∙◌, add-zero, add_assoc, zero-add, add-one, arith, take-suc}
use native.Mathlib.Nat.{mod-add-mod}
use Rattle.digits.specs.Sum.{sum, negated}

pub sum-append : (xs ys : List ℕ) → sum (xs ++ ys) ≡ sum xs + sum ys
sum-append [] ys = sym (zero-add (sum ys))
sum-append (x ∷ xs) ys = ap (λ (k : ℕ). x + k) (sum-append xs ys) ∙ sym (add_assoc x (sum xs) (sum ys))

-- a turn of the loop of `add_bytes`
pub sum_more : (c : ℕ) (l : List ℕ) (i t : ℕ) → i < length l → t ≡ (c + sum (take i l)) % 256 → (t + get_or l i 0) % 256 ≡ (c + sum (take (i + 1) l)) % 256
sum_more c l i t h e =
    rw (add-one, take-suc l i 0 h, sum-append (take i l) (get_or l i 0 ∷ []), add-zero, e, ← add_assoc c (sum (take i l)) (get_or l i 0)) (mod-add-mod (c + sum (take i l)) 256 (get_or l i 0))

pub negated-wraps : (s : ℕ) → negated (s % 256) ≡ negated s
negated-wraps s = omega arith

-- the negated sum brings it to 0, and no other byte does
pub to-zero : (s : ℕ) → (s + negated s) % 256 ≡ 0
to-zero s = omega arith

pub negated-only : (s b : ℕ) → b < 256 → (s + b) % 256 ≡ 0 → b ≡ negated s
negated-only s b h e = omega arith
