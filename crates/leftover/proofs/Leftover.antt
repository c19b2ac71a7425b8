-- Laws of the search for a flow that is left. Assumes nothing.
use Rattle.std.proofs.Common.{Some, None}
use mathlib.Core.Path.{◌≡◌, sym, ap, ◌∙◌}
use mathlib.Core.Bool.{Bool, false, ◌&&◌}
use mathlib.Core.List.{List}
use Prim.Native.Nat.{ℕ, ◌+◌, ◌-◌, ◌*◌, ◌/◌, ◌%◌, ◌≤◌, ◌<◌}
use native.Mathlib.Omega.{arith}
use native.Mathlib.Decide.{dec_lt}
use lib.ListN.{length, get_or}
use lib.IntN.{ℤ}
use Rattle.search.specs.First.{first}
use Rattle.search.proofs.Laws.{first_at, first_least, first_true, first_before, no_first, none_passes, first_same}
use Rattle.component.specs.Row.{has_colour}
use Rattle.component.proofs.Sets.{has-byte}
use Rattle.netlist.specs.Netlist.{Netlist}
use Rattle.reach.specs.Rounds.{reachable, set_byte}
use Rattle.reach.specs.Known.{SetBytes}
use Rattle.leftover.specs.Leftover.{not_zero, Zeros, left_in, NoneIn, left_inside}

-- the first that is not 0
module _ (s : List ℤ) (n : ℕ) {v : ℕ} (e : Some v ≡ first (not_zero s) n) where
  pub first-below : v < n
  first-below = (first_least (not_zero s) n v (sym e)).0

  -- below it
  pub zeros-below : Zeros s v
  zeros-below = record { zeros = first_before (not_zero s) n v (sym e) }

-- ---- a search inside sets that starts at flow `from`, below which none is left
module _ (s : List ℤ) (sets : List ℕ) (from n : ℕ) (l : from ≤ n) (z : Zeros s from) where
  abbrev pub left_here : ℕ → Bool
  left_here i = left_in s sets (from + i)

  none-in : (m : ℕ) → ((i : ℕ) → i < m → left_here i ≡ false) → NoneIn s sets (from + m)
  none-in m h = record { none = λ j b. below j b (dec_lt j from) }
    where
      below : (j : ℕ) → j < from + m → Dec (j < from) → left_in s sets j ≡ false
      below j b (yes k) = ap (λ (some : Bool). some && has_colour (get_or sets (j / 8) 0) (j % 8)) (z.zeros j k)
      below j b (no k) =
          let e : from + (j - from) ≡ j = omega arith in
          ap (left_in s sets) (sym e) ∙ h (j - from) (omega arith)

  pub found-in : (o : ℕ) → first left_here (n - from) ≡ Some o → Some (from + o) ≡ first (left_in s sets) n
  found-in o e =
      let few = (first_least left_here (n - from) o e).0 in
      sym (first_at (left_in s sets) n (from + o) (omega arith) (none-in o (first_before left_here (n - from) o e)).none (first_true left_here (n - from) o e))

  pub none-found : first left_here (n - from) ≡ None → None ≡ first (left_in s sets) n
  none-found e = sym (no_first (left_in s sets) n (λ j h. (none-in (n - from) (none_passes left_here (n - from) e)).none j (omega arith)))

-- as many flows as the sets have bits
pub flows-in : {f : Netlist} {sets : List ℕ} → SetBytes f sets → 8 * f.channels ≤ 8 * length sets
flows-in h = omega (arith, h.long)

-- ---- the sets as they are defined
module _ (f : Netlist) (s : List ℤ) where
  pub inside-none : None ≡ first (not_zero s) (8 * f.channels) → None ≡ first (left_inside f s) (8 * f.channels)
  unfolding left_inside
  inside-none e =
      sym (no_first (left_inside f s) (8 * f.channels) (λ j l. ap (λ (b : Bool). b && reachable f (j / 8) (j % 8)) (none_passes (not_zero s) (8 * f.channels) (sym e) j l)))

  pub inside_is : {sets : List ℕ} → SetBytes f sets → first (left_in s sets) (8 * f.channels) ≡ first (left_inside f s) (8 * f.channels)
  unfolding left_inside set_byte
  inside_is {sets} h =
      first_same (left_in s sets) (left_inside f s) (8 * f.channels)
      (λ v l. ap (λ (b : Bool). not_zero s v && b) (ap (λ (b : ℕ). has_colour b (v % 8)) (h.at (v / 8) (omega arith)) ∙ has-byte (reachable f (v / 8)) (v % 8) (omega arith)))
