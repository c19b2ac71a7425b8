-- The code's account of an equation, `equation_named`, is the definition's, `has_equation` and `factor`. Assumes nothing.
use Rattle.std.proofs.Common.{Result, Ok}
use mathlib.Core.Path.{◌≡◌, refl, sym, ap, ◌∙◌}
use mathlib.Core.Bool.{Bool, true, false, cond, not, ◌&&◌, ◌||◌, true≢false}
use mathlib.Core.List.{List}
use Prim.Native.Nat.{ℕ, ◌+◌, ◌*◌, ◌-◌, ◌/◌, ◌%◌, ◌≤◌, ◌<◌}
use native.Mathlib.Omega.{arith}
use lib.Dec.{ltb, eqb}
use lib.IntN.{ℤ, pos, ◌-ℤ◌, +ℤ_idr}
use borrow.Author.Tests.{ltb-true, ltb-false, lt-ltb, le-ltb, eqb-true, eqb-false, ne_eqb}
use Rattle.digits.proofs.Bools.{and-true}
use Rattle.integers.specs.Sum.{sum_to, same}
use Rattle.integers.proofs.Sum.{sum-only, sum-zero, same-yes, same-no, cond-zero}
use Rattle.record.specs.Table.{row}
use Rattle.component.specs.declared.kinds.Kind.{Kind}
use Rattle.component.specs.declared.kinds.Kind.TheVariants.{Source, Sink, Queue, Function, Fork, Join, Switch, Merge}
use Rattle.component.specs.declared.kinds.Port.TheVariants.{A, B, C}
use Rattle.component.specs.declared.kinds.Map.{Map}
use Rattle.component.specs.declared.kinds.Map.TheVariants.{First, Second}
use Rattle.component.specs.Row.{kind, port, map_of, first_map, second_map, mask, masked}
use Rattle.component.specs.Facts.{RowFacts}
use Rattle.component.specs.Limits.{most_channels, most_colours}
use Rattle.netlist.specs.Netlist.{Netlist, row_of}
use Rattle.equations.specs.Equations.{Side, flow, mapped_to, all_of, none, side_if, less, side, has_index, has_equation, factor}
use Rattle.equations.specs.Numbers.{missing, low_equation, high_equation, equation_of, equation_at, equation_named, name_verdict, equation_verdict, mapped_factor, all_factor, factor_of, equation_factor, numbered, NamedIn, mapped_flows, switch_flows}
use Rattle.refusals.specs.declared.Refusal.{Refusal}
use Rattle.equations.specs.declared.Equation.{Equation}
use Rattle.equations.specs.declared.Equation.TheVariants.{One, Two, Three, Mapped, All}

-- ---- flows by number
-- L(y,e)
module _ (c : ℕ) (h : c ≤ most_colours) (y : ℕ) (v : ℕ) where
  pub flow-number : (e : ℕ) → e < c → same (8 * y + e) v ≡ numbered c (flow y e) v
  unfolding same numbered
  flow-number e l = go (ltb (v % 8) c) refl (eqb (8 * y + e) v) refl (eqb (v / 8) y) refl (eqb (v % 8) e) refl
    where
      go : (r : Bool) → ltb (v % 8) c ≡ r → (p : Bool) → eqb (8 * y + e) v ≡ p → (q : Bool) → eqb (v / 8) y ≡ q → (s : Bool) → eqb (v % 8) e ≡ s
          → cond p (pos 1) (pos 0) ≡ cond r (cond (q && s) (pos 1) (pos 0)) (pos 0)
      go r er true ep true eq true es = let k : v % 8 < c = omega (arith, eqb-true (v % 8) e es) in ap (λ (b : Bool). cond b (pos 1) (pos 0)) (sym (lt-ltb (v % 8) c k) ∙ er)
      go r er true ep true eq false es = absurd (omega (arith, eqb-true (8 * y + e) v ep, eqb-false (v % 8) e es))
      go r er true ep false eq s es = absurd (omega (arith, eqb-true (8 * y + e) v ep, eqb-false (v / 8) y eq))
      go r er false ep true eq true es = absurd (omega (arith, eqb-true (v / 8) y eq, eqb-true (v % 8) e es, eqb-false (8 * y + e) v ep))
      go r er false ep true eq false es = sym (cond-zero r (pos 0) refl)
      go r er false ep false eq s es = sym (cond-zero r (pos 0) refl)

  -- the flows of the channel whose colours pass a test
  flows-number : (p : ℕ → Bool) → sum_to c (λ d. cond (p d) (same (8 * y + d) v) (pos 0)) ≡ numbered c (λ x d. cond (eqb x y && p d) (pos 1) (pos 0)) v
  unfolding numbered
  flows-number p = go (ltb (v % 8) c) refl
    where
      miss : (j : ℕ) → j < c → (j ≡ v % 8 → ⊥) → cond (p j) (same (8 * y + j) v) (pos 0) ≡ pos 0
      miss j l n = ap (λ (z : ℤ). cond (p j) z (pos 0)) (same-no (8 * y + j) v (λ e. omega arith)) ∙ cond-zero (p j) (pos 0) refl

      hit : (q : Bool) → eqb (v / 8) y ≡ q → (r : Bool) → cond r (same (8 * y + v % 8) v) (pos 0) ≡ cond (q && r) (pos 1) (pos 0)
      hit true e true = same-yes (8 * y + v % 8) v (omega (arith, eqb-true (v / 8) y e))
      hit false e true = same-no (8 * y + v % 8) v (λ k. omega (arith, eqb-false (v / 8) y e))
      hit true e false = refl
      hit false e false = refl

      go : (r : Bool) → ltb (v % 8) c ≡ r → sum_to c (λ d. cond (p d) (same (8 * y + d) v) (pos 0)) ≡ cond r (cond (eqb (v / 8) y && p (v % 8)) (pos 1) (pos 0)) (pos 0)
      go true e = sum-only c (v % 8) (λ d. cond (p d) (same (8 * y + d) v) (pos 0)) (ltb-true (v % 8) c e) miss ∙ hit (eqb (v / 8) y) refl (p (v % 8))
      go false e = sum-zero c (λ d. cond (p d) (same (8 * y + d) v) (pos 0)) (λ j l. miss j l (λ k. omega (arith, ltb-false (v % 8) c e)))

  all-number : all_factor c (8 * y) v ≡ numbered c (all_of y) v
  unfolding all_factor numbered
  all-number = flows-number (λ d. true) ∙ ap (λ (b : Bool). cond (ltb (v % 8) c) (cond b (pos 1) (pos 0)) (pos 0)) (and-true (eqb (v / 8) y))

  -- those that a map takes to e
  mapped-number : (t : List ℕ) (q : ℕ) (map : Map) (e : ℕ) → mapped_factor t c (8 * y) q map e v ≡ numbered c (mapped_to y (map_of map (row t q)) e) v
  unfolding mapped_factor numbered
  mapped-number t q map e = flows-number (λ d. eqb (map_of map (row t q) d) e)

-- a difference, by number
less-number : (c : ℕ) (a b : Side) (v : ℕ) → numbered c (less a b) v ≡ numbered c a v -ℤ numbered c b v
unfolding numbered
less-number c a b v = go (ltb (v % 8) c)
  where
    go : (r : Bool) → cond r (a (v / 8) (v % 8) -ℤ b (v / 8) (v % 8)) (pos 0) ≡ cond r (a (v / 8) (v % 8)) (pos 0) -ℤ cond r (b (v / 8) (v % 8)) (pos 0)
    go true = refl
    go false = refl

none_number : (c v : ℕ) → numbered c none v ≡ pos 0
unfolding numbered
none_number c v = cond-zero (ltb (v % 8) c) (pos 0) refl

-- ---- the code's equation, whether the definition has one, and its side
pub record Agrees (t : List ℕ) (c k : ℕ) (e : Result Equation Refusal) (b : Bool) (s : Side) : Type 0 where
  pub verdict : equation_verdict e ≡ name_verdict b k
  pub factors : (v : ℕ) → equation_factor t c e v ≡ numbered c (side_if b s) v

module _ (t : List ℕ) (c : ℕ) (h : c ≤ most_colours) (k : ℕ) where
  none-agrees : (b : Bool) (s : Side) → b ≡ false → Agrees t c k (missing k) b s
  unfolding factor_of
  none-agrees true s e = absurd (true≢false e)
  none-agrees false s e = record { verdict = refl; factors = λ v. sym (none_number c v) }

  -- an index that is below C, or not
  guard : (b : Bool) {e : Result Equation Refusal} {s : Side} → (b ≡ true → Agrees t c k e true s) → Agrees t c k (cond b e (missing k)) b s
  guard true m = m refl
  guard false {e} {s} m = none-agrees false s refl

  guard-not : (b m : Bool) {e : Result Equation Refusal} {s : Side} → (b ≡ true → Agrees t c k e true s) → Agrees t c k (cond b (cond m (missing k) e) (missing k)) (b && not m) s
  guard-not true true {e} {s} n = none-agrees false s refl
  guard-not true false n = n refl
  guard-not false m {e} {s} n = none-agrees false s refl

  one : (y d : ℕ) → d < c → Agrees t c k (Ok (One (8 * y + d))) true (flow y d)
  unfolding factor_of
  one y d l = record { verdict = refl; factors = λ v. flow-number c h y v d l }

  two : (x y d : ℕ) → d < c → Agrees t c k (Ok (Two (8 * x + d) (8 * y + d))) true (less (flow x d) (flow y d))
  unfolding factor_of
  two x y d l = record {
    verdict = refl;
    factors = λ v. ap (λ (z : ℤ). z -ℤ same (8 * y + d) v) (flow-number c h x v d l) ∙ ap (λ (z : ℤ). numbered c (flow x d) v -ℤ z) (flow-number c h y v d l)
        ∙ sym (less-number c (flow x d) (flow y d) v);
  }

  three : (x y z d : ℕ) → d < c → Agrees t c k (Ok (Three (8 * x + d) (8 * y + d) (8 * z + d))) true (less (less (flow x d) (flow y d)) (flow z d))
  unfolding factor_of
  three x y z d l = record {
    verdict = refl;
    factors = λ v. ap (λ (w : ℤ). w -ℤ same (8 * z + d) v) ((two x y d l).factors v) ∙ ap (λ (w : ℤ). numbered c (less (flow x d) (flow y d)) v -ℤ w) (flow-number c h z v d l)
        ∙ sym (less-number c (less (flow x d) (flow y d)) (flow z d) v);
  }

  mapped-agrees : (x y q : ℕ) (map : Map) (e : ℕ) → e < c → Agrees t c k (Ok (Mapped (8 * x + e) (8 * y) q map e)) true (less (flow x e) (mapped_to y (map_of map (row t q)) e))
  unfolding factor_of
  mapped-agrees x y q map e l = record {
    verdict = refl;
    factors = λ v. ap (λ (z : ℤ). z -ℤ mapped_factor t c (8 * y) q map e v) (flow-number c h x v e l) ∙ ap (λ (z : ℤ). numbered c (flow x e) v -ℤ z) (mapped-number c h y v t q map e)
        ∙ sym (less-number c (flow x e) (mapped_to y (map_of map (row t q)) e) v);
  }

  all-agrees : (x y : ℕ) → Agrees t c k (Ok (All (8 * x) (8 * y))) true (less (all_of x) (all_of y))
  unfolding factor_of
  all-agrees x y = record {
    verdict = refl;
    factors = λ v. ap (λ (z : ℤ). z -ℤ all_factor c (8 * y) v) (all-number c h x v) ∙ ap (λ (z : ℤ). numbered c (all_of x) v -ℤ z) (all-number c h y v)
        ∙ sym (less-number c (all_of x) (all_of y) v);
  }

  sent : (goes : Bool) (x y d : ℕ) → d < c → Agrees t c k (cond goes (Ok (Two (8 * x + d) (8 * y + d))) (Ok (One (8 * x + d)))) true (less (flow x d) (side_if goes (flow y d)))
  unfolding factor_of
  sent true x y d l = two x y d l
  sent false x y d l = record {
    verdict = refl;
    factors = λ v. flow-number c h x v d l ∙ sym (less-number c (flow x d) none v ∙ ap (λ (z : ℤ). numbered c (flow x d) v -ℤ z) (none_number c v) ∙ +ℤ_idr (numbered c (flow x d) v));
  }

  -- every kind, for a component q
  module _ (q i : ℕ) where
    abbrev r : List ℕ
    r = row t q

    -- an index below 8
    module _ (low : ltb i 8 ≡ true) where
      not-8 : eqb i 8 ≡ false
      not-8 = ne_eqb i 8 (λ e. omega (arith, ltb-true i 8 low))

      low-join : (b q : Bool) (u : Side) {e : Result Equation Refusal} {s : Side} → q ≡ false → (b ≡ true → Agrees t c k e true s) → Agrees t c k (cond b e (missing k)) (b || q) (cond q u s)
      low-join true false u e m = m refl
      low-join false false u {e} {s} f m = none-agrees false s refl
      low-join b true u f m = absurd (true≢false f)

      low_half : (a b d : Bool) (u : Side) {e : Result Equation Refusal} {s : Side} → a ≡ true → (b ≡ true → Agrees t c k e true s) → Agrees t c k (cond b e (missing k)) (cond a b d) (cond a s u)
      low_half true b d u e m = guard b m
      low_half false b d u e m = absurd (true≢false (sym e))

      low-kind : (n : Kind) → Agrees t c k (low_equation n (port r A) (port r B) (port r C) (mask r) q c i k) (has_index n r c i) (side n r i)
      unfolding low_equation has_index side
      low-kind Source = guard-not (ltb i c) (masked r i) (λ b. one (port r A) i (ltb-true i c b))
      low-kind Sink = none-agrees false none refl
      low-kind Queue = guard (ltb i c) (λ b. two (port r B) (port r A) i (ltb-true i c b))
      low-kind Function = guard (ltb i c) (λ b. mapped-agrees (port r B) (port r A) q First i (ltb-true i c b))
      low-kind Fork = low_half (ltb i 8) (ltb i c) (ltb (i - 8) c) (less (flow (port r C) (i - 8)) (mapped_to (port r A) (second_map r) (i - 8))) low (λ b. mapped-agrees (port r B) (port r A) q First i (ltb-true i c b))
      low-kind Join = low-join (ltb i c) (eqb i 8) (less (all_of (port r A)) (all_of (port r B))) not-8 (λ b. mapped-agrees (port r C) (port r A) q First i (ltb-true i c b))
      low-kind Switch = low_half (ltb i 8) (ltb i c) (ltb (i - 8) c) (less (flow (port r C) (i - 8)) (side_if (not (masked r (i - 8))) (flow (port r A) (i - 8)))) low (λ b. sent (masked r i) (port r B) (port r A) i (ltb-true i c b))
      low-kind Merge = guard (ltb i c) (λ b. three (port r C) (port r A) (port r B) i (ltb-true i c b))

    -- an index from 8 on
    module _ (high : ltb i 8 ≡ false) where
      past : ltb i c ≡ false
      past = le-ltb i c (omega (arith, ltb-false i 8 high))

      past-and : (b m : Bool) (s : Side) → b ≡ false → Agrees t c k (missing k) (b && m) s
      past-and true m s e = absurd (true≢false e)
      past-and false m s e = none-agrees false s refl

      high_half : (a b d : Bool) (s : Side) {e : Result Equation Refusal} {u : Side} → a ≡ false → (d ≡ true → Agrees t c k e true u) → Agrees t c k (cond d e (missing k)) (cond a b d) (cond a s u)
      high_half true b d s e m = absurd (true≢false e)
      high_half false b d s e m = guard d m

      high-join : (b q : Bool) (s : Side) {e : Result Equation Refusal} {u : Side} → b ≡ false → Agrees t c k e true u → Agrees t c k (cond q e (missing k)) (b || q) (cond q u s)
      high-join true q s e m = absurd (true≢false e)
      high-join false true s e m = m
      high-join false false s f m = none-agrees false s refl

      high-kind : (n : Kind) → Agrees t c k (high_equation n (port r A) (port r B) (port r C) (mask r) q c i k) (has_index n r c i) (side n r i)
      unfolding high_equation has_index side
      high-kind Source = past-and (ltb i c) (not (masked r i)) (flow (port r A) i) past
      high-kind Sink = none-agrees false none refl
      high-kind Queue = none-agrees (ltb i c) (side Queue r i) past
      high-kind Function = none-agrees (ltb i c) (side Function r i) past
      high-kind Fork = high_half (ltb i 8) (ltb i c) (ltb (i - 8) c) (less (flow (port r B) i) (mapped_to (port r A) (first_map r) i)) high (λ b. mapped-agrees (port r C) (port r A) q Second (i - 8) (ltb-true (i - 8) c b))
      high-kind Join = high-join (ltb i c) (eqb i 8) (less (flow (port r C) i) (mapped_to (port r A) (first_map r) i)) past (all-agrees (port r A) (port r B))
      high-kind Switch = high_half (ltb i 8) (ltb i c) (ltb (i - 8) c) (less (flow (port r B) i) (side_if (masked r i) (flow (port r A) i))) high (λ b. sent (not (masked r (i - 8))) (port r C) (port r A) (i - 8) (ltb-true (i - 8) c b))
      high-kind Merge = none-agrees (ltb i c) (side Merge r i) past

      -- none from 16 on
      module _ (out : ltb i 16 ≡ false) where
        past-half : ltb (i - 8) c ≡ false
        past-half = le-ltb (i - 8) c (omega (arith, ltb-false i 16 out))

        out-half : (a b d : Bool) → a ≡ false → d ≡ false → cond a b d ≡ false
        out-half true b d e f = absurd (true≢false e)
        out-half false b d e f = f

        out-kind : (n : Kind) → has_index n r c i ≡ false
        unfolding has_index
        out-kind Source = ap (λ (b : Bool). b && not (masked r i)) past
        out-kind Sink = refl
        out-kind Queue = past
        out-kind Function = past
        out-kind Fork = out-half (ltb i 8) (ltb i c) (ltb (i - 8) c) high past-half
        out-kind Join = ap (λ (b : Bool). b || eqb i 8) past ∙ ne_eqb i 8 (λ e. omega (arith, ltb-false i 16 out))
        out-kind Switch = out-half (ltb i 8) (ltb i c) (ltb (i - 8) c) high past-half
        out-kind Merge = past

    by_index : (n : Kind) (a b : Bool) → ltb i 8 ≡ a → ltb i 16 ≡ b
        → Agrees t c k (cond a (low_equation n (port r A) (port r B) (port r C) (mask r) q c i k) (cond b (high_equation n (port r A) (port r B) (port r C) (mask r) q c i k) (missing k))) (has_index n r c i) (side n r i)
    by_index n true b ea eb = low-kind ea n
    by_index n false true ea eb = high-kind ea n
    by_index n false false ea eb = none-agrees (has_index n r c i) (side n r i) (out-kind ea eb n)

    equation-agrees : Agrees t c k (equation_at t q c i k) (has_index (kind r) r c i) (side (kind r) r i)
    unfolding equation_at equation_of
    equation-agrees = by_index (kind r) (ltb i 8) (ltb i 16) refl refl

    -- every flow is in the table of sums
    module _ (a : port r A < most_channels) (b : port r B < most_channels) (d : port r C < most_channels) {rows : ℕ} (known : q < rows) where
      none_within : NamedIn rows (missing k)
      none_within = record { in_table = tt }

      pick-within : (u : Bool) {e f : Result Equation Refusal} → (u ≡ true → NamedIn rows e) → (u ≡ false → NamedIn rows f) → NamedIn rows (cond u e f)
      pick-within true m n = m refl
      pick-within false m n = n refl

      -- an equation of an index below a bound, or none
      low-within : (n j : ℕ) (e : Result Equation Refusal) → (j < n → NamedIn rows e) → NamedIn rows (cond (ltb j n) e (missing k))
      low-within n j e m = pick-within (ltb j n) (λ l. m (ltb-true j n l)) (λ l. none_within)

      mapped-within : (x j : ℕ) (map : Map) → x < most_channels → j < 8 → NamedIn rows (mapped_flows x (port r A) map q c j k)
      mapped-within x j map l m = low-within c j (Ok (Mapped (8 * x + j) (8 * port r A) q map j)) (λ n. record { in_table = record { within = (omega arith, omega arith, known) } })

      sent-within : (x j : ℕ) (goes : Bool) → x < most_channels → j < 8 → NamedIn rows (switch_flows x (port r A) goes c j k)
      sent-within x j goes l m = low-within c j (cond goes (Ok (Two (8 * x + j) (8 * port r A + j))) (Ok (One (8 * x + j))))
          (λ n. pick-within goes (λ g. record { in_table = record { within = (omega arith, omega arith) } }) (λ g. record { in_table = record { within = omega arith } }))

      within_low : (n : Kind) → i < 8 → NamedIn rows (low_equation n (port r A) (port r B) (port r C) (mask r) q c i k)
      unfolding low_equation
      within_low Source l =
          low-within c i (cond (masked r i) (missing k) (Ok (One (8 * port r A + i)))) (λ m. pick-within (masked r i) (λ n. none_within) (λ n. record { in_table = record { within = omega arith } }))
      within_low Sink l = none_within
      within_low Queue l = low-within c i (Ok (Two (8 * port r B + i) (8 * port r A + i))) (λ m. record { in_table = record { within = (omega arith, omega arith) } })
      within_low Function l = mapped-within (port r B) i First b l
      within_low Fork l = mapped-within (port r B) i First b l
      within_low Join l = mapped-within (port r C) i First d l
      within_low Switch l = sent-within (port r B) i (masked r i) b l
      within_low Merge l = low-within c i (Ok (Three (8 * port r C + i) (8 * port r A + i) (8 * port r B + i))) (λ m. record { in_table = record { within = (omega arith, omega arith, omega arith) } })

      within-high : (n : Kind) → i < 16 → NamedIn rows (high_equation n (port r A) (port r B) (port r C) (mask r) q c i k)
      unfolding high_equation
      within-high Source l = none_within
      within-high Sink l = none_within
      within-high Queue l = none_within
      within-high Function l = none_within
      within-high Fork l = mapped-within (port r C) (i - 8) Second d (omega arith)
      within-high Join l = pick-within (eqb i 8) (λ n. record { in_table = record { within = (omega arith, omega arith) } }) (λ n. none_within)
      within-high Switch l = sent-within (port r C) (i - 8) (not (masked r (i - 8))) d (omega arith)
      within-high Merge l = none_within

      equation-within : NamedIn rows (equation_at t q c i k)
      unfolding equation_at equation_of
      equation-within =
          (pick-within (ltb i 8) (λ l. within_low (kind r) (ltb-true i 8 l)) (λ l. low-within 16 i (high_equation (kind r) (port r A) (port r B) (port r C) (mask r) q c i k) (within-high (kind r))))

-- ---- the equation that a term names
module _ (f : Netlist) (few : f.colours ≤ most_colours) (q i k : ℕ) where
  -- whether there is one, and its flows
  pub named-agrees : Agrees f.table f.colours k (equation_named f q i k) (has_equation f q i) (side (kind (row_of f q)) (row_of f q) i)
  unfolding equation_named has_equation
  named-agrees = go (ltb q f.components)
    where
      go : (b : Bool) → Agrees f.table f.colours k (cond b (equation_at f.table q f.colours i k) (missing k)) (b && has_index (kind (row_of f q)) (row_of f q) f.colours i) (side (kind (row_of f q)) (row_of f q) i)
      go true = equation-agrees f.table f.colours few k q i
      go false = none-agrees f.table f.colours few k false (side (kind (row_of f q)) (row_of f q) i) refl

  pub named-verdict : equation_verdict (equation_named f q i k) ≡ name_verdict (has_equation f q i) k
  named-verdict = named-agrees.verdict

  pub named-factor : (v : ℕ) → equation_factor f.table f.colours (equation_named f q i k) v ≡ numbered f.colours (factor f q i) v
  unfolding factor
  named-factor v = named-agrees.factors v

  pub named-within : f.channels ≤ most_channels → ((j : ℕ) → j < f.components → RowFacts f.colours f.channels (row_of f j)) → NamedIn f.components (equation_named f q i k)
  unfolding equation_named
  named-within few-channels rows = go (ltb q f.components) refl
    where
      go : (b : Bool) → ltb q f.components ≡ b → NamedIn f.components (cond b (equation_at f.table q f.colours i k) (missing k))
      go true e =
          let l = ltb-true q f.components e in
          let r = rows q l in
          equation-within f.table f.colours few k q i
          (omega (arith, r.ports A)) (omega (arith, r.ports B)) (omega (arith, r.ports C)) l
      go false e = record { in_table = tt }
