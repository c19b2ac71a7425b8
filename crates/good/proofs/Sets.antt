-- Laws of the sets of choices. Assumes nothing.
use mathlib.Core.Path.{◌≡◌, refl, sym, ap, ◌∙◌}
use mathlib.Core.Bool.{Bool, true, false, not}
use mathlib.Core.List.{List}
use Prim.Native.Nat.{ℕ, zero, suc, ◌+◌, ◌-◌, ◌*◌, ◌/◌, ◌%◌, ◌^◌, ◌≤◌, ◌<◌}
use native.Mathlib.Omega.{arith}
use native.Mathlib.Nat.{mod-lt, mul-le-mul, div-add-mod, lt_of_mul-lt-mul_left}
use native.Mathlib.Decide.{ℕ_discrete, dec_lt}
use lib.Dec.{ltb, eqb}
use lib.ListN.{length, get_or, set, length-set}
use lib.Seq.{get_or-set_same, get_or-set_other}
use borrow.Author.Tests.{lt-ltb, le-ltb, eq-eqb, ne_eqb, not-false}
use Rattle.digits.specs.Least.{least}
use Rattle.digits.proofs.Least.{least-le, least-before}
use Rattle.record.specs.Table.{row}
use Rattle.component.specs.declared.kinds.Kind.{Kind}
use Rattle.component.specs.declared.kinds.Kind.TheVariants.{Source, Sink, Queue, Function, Fork, Join, Switch, Merge}
use Rattle.component.specs.Row.{kind, mask}
use Rattle.component.specs.Limits.{most_components}
use Rattle.component.proofs.Row.{each-kind}
use Rattle.netlist.specs.Netlist.{Netlist}
use Rattle.cells.specs.Choices.{good_choice, choice_at, bad_choice}
use Rattle.cells.specs.Good.{emitted, all}
use Rattle.cells.proofs.Good.{all-at}
use Rattle.std.proofs.Common.{Some, None}
use Rattle.search.specs.First.{first}
use Rattle.good.specs.First.{first_below}
use Rattle.good.proofs.First.{found_from, none_from}
use Rattle.good.specs.Sets.{in_set, choice_set, ChoiceSets}

-- bit 8 - b
set-bit : (set b : ℕ) → b < 9 → in_set set b ≡ eqb (set / 2 ^ (8 - b) % 2) 1
unfolding in_set
set-bit set b h =
    let e : (24 - b % 16) % 16 ≡ 8 - b = omega arith in
    rw (lt-ltb b 9 h, e)

set_past : (set b : ℕ) → 9 ≤ b → in_set set b ≡ false
unfolding in_set
set_past set b h = rw (le-ltb b 9 h)

-- a source's mask, below the bit of 0
source-bit : (m d : ℕ) → d < 8 → (256 + m) / 2 ^ (7 - d) % 2 ≡ m / 2 ^ (7 - d) % 2
source-bit m d h =
    each-kind (λ d. (256 + m) / 2 ^ (7 - d) % 2 ≡ m / 2 ^ (7 - d) % 2) (omega arith) (omega arith) (omega arith) (omega arith) (omega arith) (omega arith) (omega arith) (omega arith) d (omega arith)

source_in : (row : List ℕ) (b : ℕ) → mask row < 256 → in_set (256 + mask row) b ≡ emitted row b
source_in row zero h = set-bit (256 + mask row) 0 (omega arith) ∙ eq-eqb ((256 + mask row) / 256 % 2) 1 (omega arith)
source_in row (suc d) h = go (dec_lt d 8)
  where
    go : Dec (d < 8) → in_set (256 + mask row) (suc d) ≡ emitted row (suc d)
    go (yes l) =
        let e : 8 - suc d ≡ 7 - d = omega arith in
        set-bit (256 + mask row) (suc d) (omega arith) ∙ rw (e, source-bit (mask row) d l, lt-ltb d 8 l)
    go (no l) = set_past (256 + mask row) (suc d) (omega arith) ∙ rw (le-ltb d 8 (omega arith))

each-byte : (P : ℕ → Type 0) → P 0 → P 1 → P 2 → P 3 → P 4 → P 5 → P 6 → P 7 → P 8 → (b : ℕ) → b < 9 → P b
each-byte P a b c d e f g h i zero l = a
each-byte P a b c d e f g h i (suc j) l = each-kind (λ j. P (suc j)) b c d e f g h i j (omega arith)

-- a set of 0 and 1, and of 0 alone
two_in : (b : ℕ) → in_set 384 b ≡ ltb b 2
unfolding in_set
two_in b = go (dec_lt b 9)
  where
    go : Dec (b < 9) → in_set 384 b ≡ ltb b 2
    go (yes l) = each-byte (λ b. in_set 384 b ≡ ltb b 2) refl refl refl refl refl refl refl refl refl b l
    go (no l) = set_past 384 b (omega arith) ∙ sym (le-ltb b 2 (omega arith))

one_in : (b : ℕ) → in_set 256 b ≡ eqb b 0
unfolding in_set
one_in b = go (dec_lt b 9)
  where
    go : Dec (b < 9) → in_set 256 b ≡ eqb b 0
    go (yes l) = each-byte (λ b. in_set 256 b ≡ eqb b 0) refl refl refl refl refl refl refl refl refl b l
    go (no l) = set_past 256 b (omega arith) ∙ sym (ne_eqb b 0 (λ q. absurd (omega arith)))

-- a choice is in the set of a component where it is allowed
pub set-good : (k : Kind) (row : List ℕ) (b : ℕ) → mask row < 256 → in_set (choice_set k (mask row)) b ≡ good_choice k row b
unfolding choice_set good_choice
set-good Source row b h = source_in row b h
set-good Sink row b h = two_in b
set-good Queue row b h = one_in b
set-good Function row b h = one_in b
set-good Fork row b h = one_in b
set-good Join row b h = one_in b
set-good Switch row b h = one_in b
set-good Merge row b h = two_in b

-- a turn of `choice_sets`
pub no-sets : (table sets : List ℕ) → length sets ≡ most_components → ChoiceSets table 0 sets
no-sets table sets l = record { long = l; at = λ k b h. absurd (omega arith) }

pub more-sets : (table sets : List ℕ) (k v : ℕ) → k < most_components → mask (row table k) < 256 →
    v ≡ choice_set (kind (row table k)) (mask (row table k)) → ChoiceSets table k sets → ChoiceSets table (k + 1) (set sets k v)
more-sets table sets k v h l is z = record { long = simp length-set z.long; at = λ i b l. go i b l (ℕ_discrete i k) }
  where
    go : (i b : ℕ) → i < k + 1 → Dec (i ≡ k) → in_set (get_or (set sets k v) i 0) b ≡ good_choice (kind (row table i)) (row table i) b
    go i b j (yes q) = rw (q, get_or-set_same sets k v 0 (omega (arith, z.long)), is) (set-good (kind (row table k)) (row table k) b l)
    go i b l (no q) = rw (get_or-set_other sets k i v 0 q) (z.at i b (omega (arith, q)))

module _ (f : Netlist) (sets choices : List ℕ) (z : ChoiceSets f.table f.components sets) (some : 0 < f.components) where
  -- the choice at an offset
  pub choice-is : (o : ℕ) → in_set (get_or sets (o % f.components) 0) (get_or choices o 0) ≡ choice_at f choices o
  unfolding choice_at
  choice-is o = z.at (o % f.components) (get_or choices o 0) (mod-lt o some)

  abbrev bad_step : ℕ → Bool
  bad_step j = not (all f.components (λ k. in_set (get_or sets k 0) (get_or choices (f.components * j + k) 0)))

  -- the steps before the first that has a choice which is not allowed
  module _ (m : ℕ) (is : m ≡ least bad_step (length choices / f.components)) where
    pub steps-fit : f.components * m ≤ length choices
    steps-fit =
        let n = f.components in
        let few : m ≤ length choices / n = rw is (least-le bad_step (length choices / n)) in
        let k : n ≤ n = omega arith in
        let l : n * m ≤ n * (length choices / n) = mul-le-mul k few in
        omega (arith, l, div-add-mod (length choices) n)

    pub steps-allowed : (o : ℕ) → o < f.components * m → choice_at f choices o ≡ true
    steps-allowed o h =
        let n = f.components in
        let e : n * (o / n) + o % n ≡ o = div-add-mod o n in
        let j : o / n < m = lt_of_mul-lt-mul_left n (omega (arith, h, e)) in
        let good = not-false _ (least-before bad_step (length choices / n) (o / n) (rw is at j)) in
        sym (choice-is o) ∙ (rw e at (all-at n (λ k. in_set (get_or sets k 0) (get_or choices (n * (o / n) + k) 0)) good (o % n) (mod-lt o some)))

    -- then the other choices, one after the other
    abbrev pub bad_here : ℕ → Bool
    bad_here i = not (in_set (get_or sets ((f.components * m + i) % f.components) 0) (get_or choices (f.components * m + i) 0))

    here : (i : ℕ) → bad_here i ≡ not (choice_at f choices (f.components * m + i))
    here i = ap not (choice-is (f.components * m + i))

    before : (j : ℕ) → j < f.components * m → not (choice_at f choices j) ≡ false
    before j h = ap not (steps-allowed j h)

    pub choice-found : (o : ℕ) → first bad_here (length choices - f.components * m) ≡ Some o → Some (f.components * m + o) ≡ first_below (bad_choice f choices) (length choices)
    unfolding bad_choice
    choice-found o e = sym (found_from (λ o. not (choice_at f choices o)) (length choices) (f.components * m) steps-fit before bad_here here o e)

    pub none-found : first bad_here (length choices - f.components * m) ≡ None → None ≡ first_below (bad_choice f choices) (length choices)
    unfolding bad_choice
    none-found e = sym (none_from (λ o. not (choice_at f choices o)) (length choices) (f.components * m) steps-fit before bad_here here e)
