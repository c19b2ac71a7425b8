-- The weights that check writes read back, from bytes as from a table. Assumes nothing.
use mathlib.Core.Path.{◌≡◌, ap, sym, ◌∙◌}
use mathlib.Core.Bool.{Bool, true, false, cond, not, ◌&&◌, ◌||◌, true≢false}
use mathlib.Core.List.{List, ◌++◌}
use Prim.Native.Nat.{ℕ, zero, suc, ◌+◌, ◌-◌, ◌*◌, ◌/◌, ◌%◌, ◌^◌, ◌≤◌, ◌<◌}
use native.Mathlib.Nat.{mod-eq_of_lt}
use native.Mathlib.Omega.{arith}
use lib.Dec.{ltb, eqb}
use lib.ListN.{length, get_or}
use lib.IntN.{ℤ, pos, negsuc, nat_abs, sub_ℕ, ◌*ℤ◌}
use lib.Pow.{shr-shr, mod-pow-add}
use mir.Syntax.{w64}
use mir.Val.{SFits, of_z}
use mir.ValLaws.{of_z_fits}
use borrow.Author.Tests.{lt-ltb, le-ltb, ltb-false}
use Rattle.digits.specs.UpTo.{up_to}
use Rattle.digits.proofs.UpTo.{filled_at}
use Rattle.integers.specs.Sum.{sum_to}
use Rattle.integers.proofs.Sum.{sum-cong}
use Rattle.integers.proofs.Near.{nat_abs-sum, near_fits, if-near}
use Rattle.std.proofs.Common.{Ok}
use Rattle.component.specs.Kind.{is_queue}
use Rattle.component.specs.Row.{kind}
use Rattle.component.specs.Limits.{most_colours}
use Rattle.netlist.specs.Netlist.{Netlist, row_of}
use Rattle.cells.specs.Counts.{counts}
use Rattle.flows.specs.Terms.{signed, terms, component_of, index, multiplier}
use Rattle.flows.specs.Flows.{weight, entry, accepted_sum}
use Rattle.flows.specs.Verdict.{judged, byte_of, weight_byte}
use Rattle.flows.proofs.Exactly.{accepted-formed}
use Rattle.flows.proofs.Terms.{multiplier-near}
use Rattle.flows.proofs.Weights.{entry-weight}
use Rattle.demands.specs.Demands.{lowest_first, entry_of_bytes, entry_of, sum_read}

-- ---- a number from its bytes
-- its n lowest bytes
lowest : (n x : ℕ) (bytes : List ℕ) (i : ℕ) → ((j : ℕ) → j < n → get_or bytes (i + j) 0 ≡ x / 2 ^ (8 * j) % 256) → lowest_first n bytes i ≡ x % 2 ^ (8 * n)
lowest zero x bytes i at = omega arith
lowest (suc n) x bytes i at =
    let e : i + 0 ≡ i = omega arith in
    let first : get_or bytes i 0 ≡ x % 256 = ap (λ (k : ℕ). get_or bytes k 0) (sym e) ∙ at 0 (omega arith) ∙ omega arith in
    let more : lowest_first n bytes (suc i) ≡ x / 2 ^ 8 % 2 ^ (8 * n) = lowest n (x / 2 ^ 8) bytes (suc i) next in
    let whole : x % 2 ^ (8 * n + 8) ≡ (x / 2 ^ 8 % 2 ^ (8 * n)) * 2 ^ 8 + x % 2 ^ 8 = mod-pow-add x (8 * n) 8 in
    let size : 8 * suc n ≡ 8 * n + 8 = omega arith in
    rw (size, whole) (omega (arith, first, more))
  where
    next : (j : ℕ) → j < n → get_or bytes (suc i + j) 0 ≡ x / 2 ^ 8 / 2 ^ (8 * j) % 256
    next j l =
        let e : suc i + j ≡ i + suc j = omega arith in
        let d : 8 + 8 * j ≡ 8 * suc j = omega arith in
        ap (λ (k : ℕ). get_or bytes k 0) e ∙ at (suc j) (omega arith) ∙ ap (λ (y : ℕ). y % 256) (ap (λ (k : ℕ). x / 2 ^ k) (sym d) ∙ sym (shr-shr x 8 (8 * j)))

-- two's complement
less : (a b k : ℕ) → a + suc k ≡ b → sub_ℕ a b ≡ negsuc k
less a b k e =
    let l : a < b = omega arith in
    let d : b - suc a ≡ k = omega arith in
    rw (lt-ltb a b l, d)

signed_back : (z : ℤ) → SFits w64 z → signed 64 (of_z w64 z) ≡ z
signed_back (pos n) f = rw (lt-ltb n (2 ^ 63) f.sfits)
signed_back (negsuc k) f =
    let l : k < 2 ^ 63 = f.sfits in
    let h : 2 ^ 63 ≤ 2 ^ 64 - suc k = omega arith in
    rw (le-ltb (2 ^ 64 - suc k) (2 ^ 63) h) (less (2 ^ 64 - suc k) (2 ^ 64) k (omega arith))

pub entry-back : (bytes : List ℕ) (u : ℕ) (z : ℤ) → SFits w64 z → ((j : ℕ) → j < 8 → get_or bytes (8 * u + j) 0 ≡ byte_of z j) → entry_of_bytes bytes u ≡ z
unfolding entry_of_bytes
entry-back bytes u z f at =
    let e : lowest_first 8 bytes (8 * u) ≡ of_z w64 z = lowest 8 (of_z w64 z) bytes (8 * u) at ∙ mod-eq_of_lt (of_z_fits w64 z f).fits in
    ap (signed 64) e ∙ signed_back z f

-- ---- the weights are near 0: 4,096 multipliers of 21 bits
few-terms : (f : Netlist) (p : List ℕ) → judged f p ≡ Ok tt → terms p ≤ 4096
few-terms f p e = let l = ltb-false 16384 (length p) (or_right (not (eqb (length p % 4) 0)) (ltb 16384 (length p)) (accepted-formed f p e).lengths) in omega arith
  where
    or_right : (a b : Bool) → (a || b) ≡ false → b ≡ false
    or_right true b h = absurd (true≢false h)
    or_right false b h = h

module _ (f : Netlist) (p : List ℕ) (accepted : judged f p ≡ Ok tt) where
  pub weight-near : (q d : ℕ) → nat_abs (weight f p q d) ≤ 2 ^ 40
  unfolding weight
  weight-near q d =
      let near = nat_abs-sum (terms p) (2 ^ 22) (λ k. cond (eqb (component_of p k) q && eqb (index p k) d) (multiplier p k) (pos 0))
      (λ k l. if-near (eqb (component_of p k) q && eqb (index p k) d) (multiplier p k) (2 ^ 22) (multiplier-near p k)) in
      if-near (is_queue (kind (row_of f q))) _ (2 ^ 40) (omega (arith, near, few-terms f p accepted))

  pub entry-near : (u : ℕ) → nat_abs (entry f p u) ≤ 2 ^ 40
  unfolding entry
  entry-near u = if-near (ltb (u % 8) f.colours) (weight f p (u / 8) (u % 8)) (2 ^ 40) (weight-near (u / 8) (u % 8))

  -- entry u of the bytes that are written
  pub bytes_back : (rest : List ℕ) (u : ℕ) → u < 8 * f.components → entry_of_bytes (up_to (8 * (8 * f.components)) (weight_byte (entry f p)) ++ rest) u ≡ entry f p u
  bytes_back rest u l = entry-back (up_to (8 * (8 * f.components)) (weight_byte (entry f p)) ++ rest) u (entry f p u) (near_fits (entry f p u) (2 ^ 40) (entry-near u) (omega arith)) at
    where
      at : (j : ℕ) → j < 8 → get_or (up_to (8 * (8 * f.components)) (weight_byte (entry f p)) ++ rest) (8 * u + j) 0 ≡ byte_of (entry f p u) j
      at j h =
          let d : (8 * u + j) / 8 ≡ u = omega arith in
          let m : (8 * u + j) % 8 ≡ j = omega arith in
          filled_at (weight_byte (entry f p)) rest 0 (8 * (8 * f.components)) (8 * u + j) (omega arith)
          ∙ ap (λ (v : ℕ). byte_of (entry f p v) ((8 * u + j) % 8)) d ∙ ap (byte_of (entry f p u)) m

-- and of the table
pub table-back : (f : Netlist) (p : List ℕ) (rest : List ℤ) (u : ℕ) → u < 8 * f.components → entry_of (up_to (8 * f.components) (entry f p) ++ rest) u ≡ entry f p u
table-back f p rest u l = filled_at (entry f p) rest (pos 0) (8 * f.components) u l

-- ---- the sum that is read
-- of entries that are the weights, it is the accepted sum
pub sum_is : (f : Netlist) → f.colours ≤ most_colours → (p : List ℕ) (entries : ℕ → ℤ) → ((u : ℕ) → u < 8 * f.components → entries u ≡ entry f p u) → (state : List ℕ)
    → sum_read f entries state ≡ accepted_sum f p (counts state)
unfolding sum_read accepted_sum
sum_is f few p entries is state =
    sum-cong f.components (λ q. sum_to f.colours (λ d. entries (8 * q + d) *ℤ pos (counts state q d))) (λ q. sum_to f.colours (λ d. weight f p q d *ℤ pos (counts state q d)))
    (λ q h. sum-cong f.colours (λ d. entries (8 * q + d) *ℤ pos (counts state q d)) (λ d. weight f p q d *ℤ pos (counts state q d))
    (λ d l. ap (λ (z : ℤ). z *ℤ pos (counts state q d)) (is (8 * q + d) (omega arith) ∙ entry-weight f p q d (omega arith) l)))
