-- Numbers in decimal, as bytes, and how a decimal number is read. proofs/Decimal shows that the digits read back as the number, that none is in front in vain, and that they are what std prints of it.
use Rattle.std.specs.Prelude.{cond, List, [], ◌∷◌, ◌++◌, ℕ, zero, suc, ◌+◌, ◌*◌, ◌-◌, ◌/◌, ◌%◌, ◌≤◌, ltb, ℤ, pos, negsuc}

-- `0` is 48
abbrev pub digit : ℕ → ℕ
digit d = 48 + d

-- the digits of n, the last k at most
unfoldable pub spelled : ℕ → ℕ → List ℕ
spelled zero n = []
spelled (suc k) n = cond (ltb n 10) (digit n ∷ []) (spelled k (n / 10) ++ digit (n % 10) ∷ [])

-- a number below 10 ^ 20, as every 64-bit number is
unfoldable pub decimal : ℕ → List ℕ
decimal n = spelled 20 n

-- `-` is 45
abbrev pub integer : ℤ → List ℕ
integer (pos n) = decimal n
integer (negsuc n) = 45 ∷ decimal (suc n)

-- the number that digits say, after others that say n
unfoldable pub read_after : ℕ → List ℕ → ℕ
read_after n [] = n
read_after n (d ∷ ds) = read_after (10 * n + (d - 48)) ds

-- each byte is a digit
abbrev pub Digits : List ℕ → Type 0
Digits [] = Unit {0}
Digits (d ∷ ds) = (48 ≤ d) × (d ≤ 57) × Digits ds
