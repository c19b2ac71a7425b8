-- Laws of the ends that are found. Assumes nothing.
use mathlib.Core.Path.{◌≡◌, refl, sym, ap, subst, ◌∙◌}
use Prim.Native.Nat.{ℕ, zero, suc, ◌+◌, ◌*◌, ◌/◌, ◌%◌, ◌≤◌, ◌<◌}
use native.Mathlib.Numerals.{add-one}
use native.Mathlib.Decide.{ℕ_discrete}
use native.Mathlib.Omega.{arith}
use mathlib.Core.Bool.{Bool, true, false, not, cond, ◌&&◌, false≢true}
use mathlib.Core.List.{List, []}
use lib.Dec.{eqb}
use lib.ListN.{length, get_or, set, replicate, length-set, length-replicate}
use lib.Seq.{get_or-set_same, get_or-set_other}
use borrow.Author.Tests.{eq-eqb, ne_eqb, eqb-true, lt-ltb}
use Rattle.digits.specs.Least.{least}
use Rattle.digits.specs.Count.{count}
use Rattle.digits.proofs.Count.{count_yes, count_no, count-only}
use Rattle.digits.proofs.Least.{least_at, least-before, least-same}
use Rattle.order.proofs.Zeros.{get_or-zeros}
use Rattle.order.specs.Graph.{dep}
use Rattle.component.specs.Kind.{Use, input, output, unused, is_output, is_input, port_use}
use Rattle.component.specs.Row.{kind, port}
use Rattle.component.specs.Limits.{most_channels, most_components}
use Rattle.wiring.specs.Ends.{end_row, end_port, on_side, is_end, unmatched, first_unmatched}
use Rattle.wiring.specs.Ports.{marked, found, single}
use Rattle.wiring.specs.Sound.{Ends}
use Rattle.wiring.specs.Stages.{signal_at, FoundEnds, entries, ends_size}
use Rattle.wiring.specs.Signals.{is_offer, gives, end_of, depends_at, dependence}

-- ---- what is found, by the count of ends
data Tally (p : ℕ → Bool) (n : ℕ) : Type 0 where
  none : count p n ≡ 0 → found p n ≡ 0 → Tally p n
  one : (e : ℕ) → e < n → count p n ≡ 1 → found p n ≡ suc e → p e ≡ true → Tally p n
  more : 2 ≤ count p n → found p n ≡ 512 → Tally p n

pub found-suc : (p : ℕ → Bool) (n : ℕ) → found p (suc n) ≡ cond (p n) (marked n (found p n)) (found p n)
unfolding found
found-suc p n = refl

count-zero : (p : ℕ → Bool) → count p zero ≡ 0
unfolding count
count-zero p = refl

pub found-zero : (p : ℕ → Bool) → found p zero ≡ 0
unfolding found
found-zero p = refl

tally : (p : ℕ → Bool) (n : ℕ) → Tally p n
tally p zero = none (count-zero p) (found-zero p)
tally p (suc n) = go (p n) refl (tally p n)
  where
    go : (b : Bool) → p n ≡ b → Tally p n → Tally p (suc n)
    go false q (none c f) = none (count_no p n q ∙ c) (found-suc p n ∙ rw (q, f))
    go false q (one e h c f t) = one e (omega arith) (count_no p n q ∙ c) (found-suc p n ∙ rw (q, f)) t
    go false q (more c f) = more (omega (arith, count_no p n q)) (found-suc p n ∙ rw (q, f))
    go true q (none c f) = one n (omega arith) (count_yes p n q ∙ ap suc c) (found-suc p n ∙ rw (q, f)) q
    go true q (one e h c f t) = more (omega (arith, count_yes p n q)) (found-suc p n ∙ rw (q, f, ne_eqb (suc e) 0 (λ (z : suc e ≡ 0). absurd (omega arith))))
    go true q (more c f) = more (omega (arith, count_yes p n q)) (found-suc p n ∙ rw (q, f))

-- just one is found where just one passes
pub single-count : (p : ℕ → Bool) (n : ℕ) → n ≤ 384 → single (found p n) ≡ eqb (count p n) 1
single-count p n l = go (tally p n)
  where
    go : Tally p n → single (found p n) ≡ eqb (count p n) 1
    go (none c f) = rw (c, f)
    go (one e h c f t) = rw (c, f, lt-ltb 0 (suc e) (omega arith), lt-ltb (suc e) 512 (omega arith))
    go (more c f) = rw (f, ne_eqb (count p n) 1 (λ (z : count p n ≡ 1). absurd (omega arith)))

-- and it is the least
pub found-least : (p : ℕ → Bool) (n : ℕ) → count p n ≡ 1
    → (found p n ≡ suc (least p n)) × (least p n < n) × (p (least p n) ≡ true) × ((e : ℕ) → e < n → p e ≡ true → e ≡ least p n)
found-least p n c = go (tally p n)
  where
    other : (e : ℕ) → e < n → p e ≡ true → (j : ℕ) → j < e → (b : Bool) → p j ≡ b → b ≡ false
    other e h t j l true q = absurd (omega (arith, count-only p n c e h t j (omega arith) q))
    other e h t j l false q = refl

    go : Tally p n → (found p n ≡ suc (least p n)) × (least p n < n) × (p (least p n) ≡ true) × ((e : ℕ) → e < n → p e ≡ true → e ≡ least p n)
    go (none c' f) = absurd (omega arith)
    go (more c' f) = absurd (omega arith)
    go (one e h c' f t) =
        let is : least p n ≡ e = least_at p n e h (λ j l. other e h t j l (p j) refl) t in
        rw is (f, h, t, λ d hd td. count-only p n c e h t d hd td)

-- ---- where an end is noted
abbrev pub use_slot : Use → ℕ → ℕ
use_slot u x = cond (is_output u) (2 * x) (cond (is_input u) (2 * x + 1) 512)

same_test : (a b c d : ℕ) → (a ≡ b → c ≡ d) → (c ≡ d → a ≡ b) → eqb a b ≡ eqb c d
same_test a b c d f g = go (ℕ_discrete a b)
  where
    go : Dec (a ≡ b) → eqb a b ≡ eqb c d
    go (yes q) = eq-eqb a b q ∙ sym (eq-eqb c d (f q))
    go (no q) = ne_eqb a b q ∙ sym (ne_eqb c d (λ z. q (g z)))

-- it is the place of a signal where it is the end that gives it
slot-hit : (u : Use) (side : Bool) (x y : ℕ) → x < 256 → eqb (use_slot u y) (signal_at side x) ≡ (on_side side u && eqb y x)
slot-hit output true x y h = same_test (2 * y) (2 * x) y x (λ q. omega arith) (λ q. omega arith)
slot-hit output false x y h = ne_eqb (2 * y) (2 * x + 1) (λ q. absurd (omega arith))
slot-hit input true x y h = ne_eqb (2 * y + 1) (2 * x) (λ q. absurd (omega arith))
slot-hit input false x y h = same_test (2 * y + 1) (2 * x + 1) y x (λ q. omega arith) (λ q. omega arith)
slot-hit unused true x y h = ne_eqb 512 (2 * x) (λ q. absurd (omega arith))
slot-hit unused false x y h = ne_eqb 512 (2 * x + 1) (λ q. absurd (omega arith))

-- nothing is noted before the first
pub ends-none : (table : List ℕ) → FoundEnds table 0 (replicate ends_size 0)
ends-none table = record { long = length-replicate {A = ℕ} ends_size 0; at = λ side x h. get_or-zeros ends_size (signal_at side x) ∙ sym (found-zero (is_end table side x)) }

-- one end more is noted
pub ends_more : (table ends : List ℕ) (e y at v : ℕ) → at < ends_size
    → y ≡ port (end_row table e) (end_port e) → at ≡ use_slot (port_use (kind (end_row table e)) (end_port e)) y → v ≡ marked e (get_or ends at 0)
    → FoundEnds table e ends → FoundEnds table (e + 1) (set ends at v)
ends_more table ends e y at v ha ey ea ev noted = record {
  long = length-set ends at v ∙ noted.long;
  at = λ side x hx. rw (add-one e) (go side x hx (ℕ_discrete at (signal_at side x)));
}
  where
    hit : (side : Bool) (x : ℕ) → x < 256 → is_end table side x e ≡ eqb at (signal_at side x)
    hit side x hx =
        sym (ap (λ (i : ℕ). eqb i (signal_at side x)) ea ∙ slot-hit (port_use (kind (end_row table e)) (end_port e)) side x y hx ∙ ap (λ (i : ℕ). on_side side (port_use (kind (end_row table e)) (end_port e)) && eqb i x) ey)

    next : (side : Bool) (x : ℕ) (b : Bool) → is_end table side x e ≡ b → found (is_end table side x) (suc e) ≡ cond b (marked e (found (is_end table side x) e)) (found (is_end table side x) e)
    next side x b q = found-suc (is_end table side x) e ∙ ap (λ (c : Bool). cond c (marked e (found (is_end table side x) e)) (found (is_end table side x) e)) q

    go : (side : Bool) (x : ℕ) → x < 256 → Dec (at ≡ signal_at side x) → get_or (set ends at v) (signal_at side x) 0 ≡ found (is_end table side x) (suc e)
    go side x hx (yes q) =
        subst (λ (i : ℕ). get_or (set ends at v) i 0 ≡ v) q (get_or-set_same ends at v 0 (omega (arith, noted.long))) ∙ ev
        ∙ ap (marked e) (ap (λ (i : ℕ). get_or ends i 0) q ∙ noted.at side x hx)
        ∙ sym (next side x true (hit side x hx ∙ eq-eqb at (signal_at side x) q))
    go side x hx (no q) =
        get_or-set_other ends at (signal_at side x) v 0 (λ z. q (sym z)) ∙ noted.at side x hx ∙ sym (next side x false (hit side x hx ∙ ne_eqb at (signal_at side x) q))

-- ---- the entries of the signals
pub suc_inj : {a b : ℕ} → suc a ≡ suc b → a ≡ b
suc_inj e = omega arith

-- a turn of the loop over the signals
pub signals-more : (table : List ℕ) (n s e : ℕ) (deps : List (List ℕ)) → s < length deps → e ≡ end_of table n s
    → ((t j : ℕ) → t < s → j < 4 → dep deps t j ≡ dependence table n t j)
    → (t j : ℕ) → t < s + 1 → j < 4 → dep (set deps s (entries table e)) t j ≡ dependence table n t j
unfolding dependence
signals-more table n s e deps h q inv t j ht hj = go (ℕ_discrete t s)
  where
    four : (j : ℕ) → j < 4 → get_or (entries table e) j 0 ≡ depends_at table e j
    four zero h = refl
    four (suc zero) h = refl
    four (suc (suc zero)) h = refl
    four (suc (suc (suc zero))) h = refl
    four (suc (suc (suc (suc j)))) h = absurd (omega arith)

    go : Dec (t ≡ s) → dep (set deps s (entries table e)) t j ≡ depends_at table (end_of table n t) j
    go (yes z) = rw (z, get_or-set_same deps s (entries table e) [] h) (four j hj ∙ ap (λ (x : ℕ). depends_at table x j) q)
    go (no z) = rw (get_or-set_other deps s t (entries table e) [] z) (inv t j (omega (arith, z)) hj)

-- ---- from the ends that are noted
signal-of : (s : ℕ) → signal_at (is_offer s) (s / 2) ≡ s
signal-of s = go (ℕ_discrete (s % 2) 0)
  where
    go : Dec (s % 2 ≡ 0) → signal_at (is_offer s) (s / 2) ≡ s
    go (yes z) = ap (λ (b : Bool). signal_at b (s / 2)) (eq-eqb (s % 2) 0 z) ∙ omega arith
    go (no z) = ap (λ (b : Bool). signal_at b (s / 2)) (ne_eqb (s % 2) 0 z) ∙ omega (arith, z)

module _ (table : List ℕ) (n channels : ℕ) (l : n ≤ most_components) (few : channels ≤ most_channels) (ends : List ℕ) (noted : FoundEnds table (3 * n) ends) where
  same-channel : (x : ℕ) → x < channels → not (single (get_or ends (2 * x) 0) && single (get_or ends (2 * x + 1) 0)) ≡ unmatched table n x
  same-channel x h =
      rw (
        noted.at true x (omega arith),
        noted.at false x (omega arith),
        single-count (is_end table true x) (3 * n) (omega arith),
        single-count (is_end table false x) (3 * n) (omega arith),
      )

  pub first-same : least (λ x. not (single (get_or ends (2 * x) 0) && single (get_or ends (2 * x + 1) 0))) channels ≡ first_unmatched table n channels
  unfolding first_unmatched
  first-same = least-same _ _ channels same-channel

  -- no channel is unmatched
  module _ (all : channels ≤ first_unmatched table n channels) where
    matched : (side : Bool) (x : ℕ) → x < channels → count (is_end table side x) (3 * n) ≡ 1
    unfolding first_unmatched
    matched side x h = pick side (both _ _ (least-before (unmatched table n) channels x (omega arith)))
      where
        pick : (b : Bool) → (count (is_end table true x) (3 * n) ≡ 1) × (count (is_end table false x) (3 * n) ≡ 1) → count (is_end table b x) (3 * n) ≡ 1
        pick true r = r.0
        pick false r = r.1

        both : (a b : ℕ) → not (eqb a 1 && eqb b 1) ≡ false → (a ≡ 1) × (b ≡ 1)
        both a b e = go (eqb a 1) refl (eqb b 1) refl
          where
            go : (p : Bool) → eqb a 1 ≡ p → (q : Bool) → eqb b 1 ≡ q → (a ≡ 1) × (b ≡ 1)
            go true ea true eb = (eqb-true a 1 ea, eqb-true b 1 eb)
            go true ea false eb = absurd (false≢true (sym (rw (ea, eb) at e)))
            go false ea q eb = absurd (false≢true (sym (rw ea at e)))

    pub all-ends : Ends table n channels ends
    unfolding end_of
    all-ends = record {
      at = λ s h. sym (ap (λ (i : ℕ). get_or ends i 0) (signal-of s)) ∙ noted.at (is_offer s) (s / 2) (omega arith) ∙ (one s h).0;
      inside = λ s h. (one s h).1;
      is = λ s h. (one s h).2;
      only = λ s e h. (one s h).3 e;
    }
      where
        one : (s : ℕ) → s < 2 * channels
            → (found (gives table s) (3 * n) ≡ suc (least (gives table s) (3 * n))) × (least (gives table s) (3 * n) < 3 * n)
            × (gives table s (least (gives table s) (3 * n)) ≡ true) × ((e : ℕ) → e < 3 * n → gives table s e ≡ true → e ≡ least (gives table s) (3 * n))
        one s h = found-least (gives table s) (3 * n) (matched (is_offer s) (s / 2) (omega arith))
