-- Laws of decimal numbers: they are what std prints, read back as the number, in digits alone, with no zero in front, and are short. Assumes nothing.
use mathlib.Core.Path.{◌≡◌, refl, sym, ap, ◌∙◌}
use mathlib.Core.List.{List, [], ◌∷◌, ◌++◌}
use Prim.Native.Nat.{ℕ, zero, suc, ◌+◌, ◌*◌, ◌-◌, ◌/◌, ◌%◌, ◌^◌, ◌≤◌, ◌<◌}
use native.Mathlib.Decide.{dec_lt}
use native.Mathlib.Omega.{arith}
use lib.ListN.{length, get_or, length-append}
use lib.IntN.{ℤ, pos, negsuc, nat_abs}
use mir.Syntax.{w64}
use mir.Val.{SFits}
use borrow.Author.Tests.{lt-ltb, le-ltb}
use Rattle.std.specs.Fmt.{decimal as printed, signed_decimal}
use Rattle.std.proofs.lemmas.Fmt.{decimal_by_steps_wide}
use Rattle.lines.specs.Decimal.{digit, spelled, decimal, integer, read_after, Digits}

-- what holds of one digit, and of one digit more, holds of the numbers of k + 1 digits at most
by_digits : (P : ℕ → ℕ → Type 0) → ((k n : ℕ) → n < 10 → P k n) → ((k n : ℕ) → 10 ≤ n → P k (n / 10) → P (suc k) n) → (k n : ℕ) → n < 10 ^ suc k → P k n
by_digits P one more zero n h = one zero n (omega arith)
by_digits P one more (suc k) n h = go (dec_lt n 10) (by_digits P one more k (n / 10) (omega arith))
  where
    go : Dec (n < 10) → P k (n / 10) → P (suc k) n
    go (yes l) r = one (suc k) n l
    go (no g) r = more k n (omega arith) r

one-digit : (k n : ℕ) → n < 10 → spelled (suc k) n ≡ digit n ∷ []
unfolding spelled
one-digit k n h = rw (lt-ltb n 10 h)

more-digits : (k n : ℕ) → 10 ≤ n → spelled (suc k) n ≡ spelled k (n / 10) ++ digit (n % 10) ∷ []
unfolding spelled
more-digits k n h = rw (le-ltb n 10 h)

-- ---- as many digits as the number needs, and no more
length-one : (m n : ℕ) → n < 10 → length (spelled m n) ≤ 1
unfolding spelled
length-one zero n l = omega arith
length-one (suc m) n l = rw (one-digit m n l) (omega arith)

length_more : (k m n : ℕ) → 10 ≤ n → ((m : ℕ) → length (spelled m (n / 10)) ≤ suc k) → length (spelled m n) ≤ suc (suc k)
unfolding spelled
length_more k zero n g r = omega arith
length_more k (suc m) n g r = rw (more-digits m n g, length-append) (omega (arith, r m))

pub decimal-short : (k n : ℕ) → n < 10 ^ suc k → length (decimal n) ≤ suc k
unfolding decimal
decimal-short k n h =
    by_digits (λ k n. (m : ℕ) → length (spelled m n) ≤ suc k) (λ k n l m. omega (arith, length-one m n l)) (λ k n g r m. length_more k m n g r) k n h 20

-- no number has more than 20
spelled-few : (k n : ℕ) → length (spelled k n) ≤ k
unfolding spelled
spelled-few zero n = omega arith
spelled-few (suc k) n = go (dec_lt n 10) (spelled-few k (n / 10))
  where
    go : Dec (n < 10) → length (spelled k (n / 10)) ≤ k → length (spelled (suc k) n) ≤ suc k
    go (yes l) r = rw (one-digit k n l) (omega arith)
    go (no g) r = rw (more-digits k n (omega arith), length-append) (omega arith)

pub decimal-few : (n : ℕ) → length (decimal n) ≤ 20
unfolding decimal
decimal-few n = spelled-few 20 n

-- ---- digit by digit, as the code writes them
pub decimal-one : (n : ℕ) → n < 10 → decimal n ≡ digit n ∷ []
unfolding decimal
decimal-one n l = one-digit 19 n l

-- a further place changes nothing
enough : (k n : ℕ) → n < 10 ^ suc k → spelled (suc (suc k)) n ≡ spelled (suc k) n
enough =
    by_digits (λ k n. spelled (suc (suc k)) n ≡ spelled (suc k) n)
    (λ k n l. one-digit (suc k) n l ∙ sym (one-digit k n l))
    (λ k n g r. more-digits (suc (suc k)) n g ∙ ap (λ (ds : List ℕ). ds ++ digit (n % 10) ∷ []) r ∙ sym (more-digits (suc k) n g))

pub decimal-more : (n : ℕ) → 10 ≤ n → n < 10 ^ 20 → decimal n ≡ decimal (n / 10) ++ digit (n % 10) ∷ []
unfolding decimal
decimal-more n g h = more-digits 19 n g ∙ ap (λ (ds : List ℕ). ds ++ digit (n % 10) ∷ []) (sym (enough 18 (n / 10) (omega arith)))

-- ---- what std prints
pub decimal-printed : (n : ℕ) → n < 10 ^ 20 → decimal n ≡ printed n
decimal-printed n h =
    decimal_by_steps_wide (λ m ds. m < 10 ^ 20 → decimal m ≡ ds)
    (λ m l b. decimal-one m l)
    (λ m ds g r b. decimal-more m g b ∙ ap (λ (ds : List ℕ). ds ++ digit (m % 10) ∷ []) (r (omega arith)))
    n (omega arith) h

pub integer-printed : (z : ℤ) → nat_abs z < 10 ^ 20 → integer z ≡ signed_decimal z
integer-printed (pos n) h = decimal-printed n h
integer-printed (negsuc n) h = ap (λ (ds : List ℕ). 45 ∷ ds) (decimal-printed (suc n) h)

-- as every 64-bit number is
pub signed-printed : (z : ℤ) → SFits w64 z → integer z ≡ signed_decimal z
signed-printed (pos n) f = integer-printed (pos n) (omega (arith, f.sfits))
signed-printed (negsuc n) f = integer-printed (negsuc n) (omega (arith, f.sfits))

-- ---- read back; of what std prints, for more numbers
read-last : (m : ℕ) (ds : List ℕ) (d : ℕ) → read_after m (ds ++ d ∷ []) ≡ 10 * read_after m ds + (d - 48)
unfolding read_after
read-last m [] d = refl
read-last m (e ∷ ds) d = read-last (10 * m + (e - 48)) ds d

read_one : (n : ℕ) → read_after 0 (digit n ∷ []) ≡ n
unfolding read_after
read_one n = omega arith

pub decimal-reads : (n : ℕ) → n < 10 ^ 20 → read_after 0 (decimal n) ≡ n
unfolding decimal
decimal-reads =
    by_digits (λ k n. read_after 0 (spelled (suc k) n) ≡ n)
    (λ k n l. ap (read_after 0) (one-digit k n l) ∙ read_one n)
    (λ k n g r. rw (more-digits (suc k) n g, read-last 0 (spelled (suc k) (n / 10)) (digit (n % 10)), r) (omega arith))
    19

pub printed-reads : (n : ℕ) → n < 10 ^ 64 → read_after 0 (printed n) ≡ n
printed-reads =
    decimal_by_steps_wide (λ n ds. read_after 0 ds ≡ n) (λ n l. read_one n) (λ n ds g r. rw (read-last 0 ds (digit (n % 10)), r) (omega arith))

-- ---- digits alone
digits_last : (ds : List ℕ) (d : ℕ) → Digits ds → 48 ≤ d → d ≤ 57 → Digits (ds ++ d ∷ [])
digits_last [] d h l m = (l, m, tt)
digits_last (e ∷ ds) d h l m = (h.0, h.1, digits_last ds d h.2 l m)

pub decimal-digits : (n : ℕ) → n < 10 ^ 20 → Digits (decimal n)
unfolding decimal
decimal-digits =
    by_digits (λ k n. Digits (spelled (suc k) n))
    (λ k n l. rw (one-digit k n l) (omega arith, omega arith, tt))
    (λ k n g r. rw (more-digits (suc k) n g) (digits_last (spelled (suc k) (n / 10)) (digit (n % 10)) r (omega arith) (omega arith)))
    19

pub printed-digits : (n : ℕ) → n < 10 ^ 64 → Digits (printed n)
printed-digits =
    decimal_by_steps_wide (λ n ds. Digits ds) (λ n l. (omega arith, omega arith, tt)) (λ n ds g r. digits_last ds (digit (n % 10)) r (omega arith) (omega arith))

-- ---- no `0` in front, but for 0 itself
front : (ds : List ℕ) (d : ℕ) → 48 < get_or ds 0 0 → 48 < get_or (ds ++ d ∷ []) 0 0
front [] d r = absurd (omega arith)
front (e ∷ ds) d r = r

leads-more : (k n : ℕ) → 10 ≤ n → 48 < get_or (spelled (suc k) (n / 10)) 0 0 → 48 < get_or (spelled (suc (suc k)) n) 0 0
leads-more k n g r = rw (more-digits (suc k) n g) (front (spelled (suc k) (n / 10)) (digit (n % 10)) r)

pub decimal-leads : (n : ℕ) → n < 10 ^ 20 → 0 < n → 48 < get_or (decimal n) 0 0
unfolding decimal
decimal-leads =
    by_digits (λ k n. 0 < n → 48 < get_or (spelled (suc k) n) 0 0)
    (λ k n l p. rw (one-digit k n l) (omega arith))
    (λ k n g r p. leads-more k n g (r (omega arith)))
    19

pub printed-leads : (n : ℕ) → n < 10 ^ 64 → 0 < n → 48 < get_or (printed n) 0 0
printed-leads =
    decimal_by_steps_wide (λ n ds. 0 < n → 48 < get_or ds 0 0) (λ n l p. omega arith) (λ n ds g r p. front ds (digit (n % 10)) (r (omega arith)))
