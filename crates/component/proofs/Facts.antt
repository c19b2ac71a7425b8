-- The facts of a row that is right, and that it fits its widths. Assumes nothing.
use mathlib.Core.Path.{◌≡◌, refl, ap, sym, subst, ◌∙◌}
use mathlib.Core.Bool.{Bool, true, false, not, ◌&&◌, ◌||◌, or-false}
use mathlib.Core.List.{List, [], ◌∷◌}
use Prim.Native.Nat.{ℕ, suc, ◌+◌, ◌-◌, ◌*◌, ◌/◌, ◌%◌, ◌^◌, ◌≤◌, ◌<◌}
use native.Mathlib.Omega.{arith}
use lib.ListN.{length, get_or, drop}
use lib.Seq.{drop-cons, drop-length}
use lib.Dec.{leb, ltb, eqb}
use borrow.Author.Tests.{ltb-true, leb-true, eqb-true}
use Rattle.digits.specs.Packed.{Fit}
use Rattle.digits.proofs.Bools.{and_both}
use Rattle.record.specs.Record.{row_widths}
use Rattle.record.specs.Sizes.{row_size}
use Rattle.component.specs.declared.kinds.Kind.{Kind}
use Rattle.component.specs.declared.kinds.Kind.TheVariants.{Queue}
use Rattle.component.specs.declared.kinds.Port.{Port}
use Rattle.component.specs.declared.kinds.Port.TheVariants.{A, B, C}
use Rattle.component.specs.Kind.{port_use, is_used, uses_first_map, uses_second_map, uses_mask, is_source, is_queue}
use Rattle.component.specs.Row.{kind, kind_number, port, first_map, second_map, mask, masked, capacity, filling, fill_colour, fits_below, entry_ok, map_ok, mask_ok, filling_ok, fill_colour_ok, port_ok, row_ok}
use Rattle.component.specs.Facts.{RowFacts}
use Rattle.component.specs.Limits.{most_colours}
use Rattle.component.proofs.FitsBelow.{below-limit}
use Rattle.component.proofs.Masks.{bit_below, some-bit}
use Rattle.component.proofs.Row.{each-kind}

-- ---- tests
-- used or not, the number is below a limit m that is not 0 and at least n
below-lt : (used : Bool) (x n m : ℕ) → fits_below used x n ≡ true → n ≤ m → 0 < m → x < m
below-lt true x n m e l p = omega (arith, ltb-true x n (below-limit true x n ∙ e))
below-lt false x n m e l p = omega (arith, eqb-true x 0 e)

-- the parts of `row_ok`
pub record RowOk (colours channels : ℕ) (row : List ℕ) : Type 0 where
  pub kinds : leb (kind_number row) 7 ≡ true
  pub ports : (p : Port) → port_ok channels row p ≡ true
  pub first : map_ok (uses_first_map (kind row)) colours (first_map row) ≡ true
  pub second : map_ok (uses_second_map (kind row)) colours (second_map row) ≡ true
  pub masks : mask_ok (uses_mask (kind row)) (is_source (kind row)) colours (mask row) ≡ true
  pub fillings : filling_ok (is_queue (kind row)) (capacity row) (filling row) ≡ true
  pub fill_colours : fill_colour_ok (is_queue (kind row)) colours (filling row) (fill_colour row) ≡ true

pub row-parts : (colours channels : ℕ) (row : List ℕ) → row_ok colours channels row ≡ true → RowOk colours channels row
unfolding row_ok
row-parts n m row e =
    let s₆ = and_both _ (fill_colour_ok (is_queue (kind row)) n (filling row) (fill_colour row)) e in
    let s₅ = and_both _ (filling_ok (is_queue (kind row)) (capacity row) (filling row)) s₆.0 in
    let s₄ = and_both _ (mask_ok (uses_mask (kind row)) (is_source (kind row)) n (mask row)) s₅.0 in
    let s₃ = and_both _ (map_ok (uses_second_map (kind row)) n (second_map row)) s₄.0 in
    let s₂ = and_both _ (map_ok (uses_first_map (kind row)) n (first_map row)) s₃.0 in
    let s₁ = and_both (leb (kind_number row) 7) (port_ok m row A && port_ok m row B && port_ok m row C) s₂.0 in
    let p₂ = and_both (port_ok m row A && port_ok m row B) (port_ok m row C) s₁.1 in
    let p₁ = and_both (port_ok m row A) (port_ok m row B) p₂.0 in
    record {
      kinds = s₁.0;
      ports = λ p. each p₁.0 p₁.1 p₂.1 p;
      first = s₂.1;
      second = s₃.1;
      masks = s₄.1;
      fillings = s₅.1;
      fill_colours = s₆.1;
    }
  where
    each : port_ok m row A ≡ true → port_ok m row B ≡ true → port_ok m row C ≡ true → (p : Port) → port_ok m row p ≡ true
    each a b c A = a
    each a b c B = b
    each a b c C = c

pub kind-le : {colours channels : ℕ} {row : List ℕ} → RowOk colours channels row → kind_number row ≤ 7
kind-le {row = row} ok = leb-true (kind_number row) 7 ok.kinds

-- ---- the parts of each test
map-parts : (used : Bool) (n : ℕ) (map : ℕ → ℕ) → map_ok used n map ≡ true → (d : ℕ) → d < 8 → entry_ok used n map d ≡ true
map-parts used n map e =
    let s₇ = and_both _ (entry_ok used n map 7) e in
    let s₆ = and_both _ (entry_ok used n map 6) s₇.0 in
    let s₅ = and_both _ (entry_ok used n map 5) s₆.0 in
    let s₄ = and_both _ (entry_ok used n map 4) s₅.0 in
    let s₃ = and_both _ (entry_ok used n map 3) s₄.0 in
    let s₂ = and_both _ (entry_ok used n map 2) s₃.0 in
    let s₁ = and_both (entry_ok used n map 0) (entry_ok used n map 1) s₂.0 in
    λ d l. each-kind (λ d. entry_ok used n map d ≡ true) s₁.0 s₁.1 s₂.1 s₃.1 s₄.1 s₅.1 s₆.1 s₇.1 d (omega arith)

entry_lt : (used : Bool) (n m : ℕ) (map : ℕ → ℕ) → map_ok used n map ≡ true → n ≤ m → 0 < m → (d : ℕ) → d < 8 → map d < m
entry_lt used n m map e l p d h = below-lt (used && ltb d n) (map d) n m (map-parts used n map e d h) l p

-- the bits for colours from n on are 0, of an unused mask too
mask_low : (used some : Bool) (n bits : ℕ) → mask_ok used some n bits ≡ true → bits * 2 ^ n % 256 ≡ 0
mask_low true some n bits e =
    let s = rw or-false at e in
    eqb-true (bits * 2 ^ n % 256) 0 (and_both (eqb (bits * 2 ^ n % 256) 0) (not some || ltb 0 bits) s).0
mask_low false some n bits e = rw (eqb-true bits 0 e) (omega arith)

mask-some : (n bits : ℕ) → mask_ok true true n bits ≡ true → 0 < bits
mask-some n bits e = ltb-true 0 bits (and_both (eqb (bits * 2 ^ n % 256) 0) (ltb 0 bits) (rw or-false at e)).1

-- a queue's capacity and filling
record Filled (capacity filling : ℕ) : Type 0 where
  low : 0 < capacity
  high : capacity ≤ 63
  most : filling ≤ capacity

filled : (c x : ℕ) → filling_ok true c x ≡ true → Filled c x
filled c x e =
    let s = and_both (ltb 0 c && leb c 63) (leb x c) (rw or-false at e) in
    let r = and_both (ltb 0 c) (leb c 63) s.0 in
    record { low = ltb-true 0 c r.0; high = leb-true c 63 r.1; most = leb-true x c s.1 }

filling-lt : (used : Bool) (c x : ℕ) → filling_ok used c x ≡ true → (c < 64) × (x < 64)
filling-lt true c x e =
    let f = filled c x e in
    (omega arith, omega arith)
filling-lt false c x e =
    let s = and_both (eqb c 0) (eqb x 0) e in
    (omega (arith, eqb-true c 0 s.0), omega (arith, eqb-true x 0 s.1))

-- ---- the facts of a row that is right
pub row-facts : (colours channels : ℕ) (row : List ℕ) → 0 < colours → colours ≤ most_colours → 0 < channels → get_or row 20 0 < 256 → row_ok colours channels row ≡ true → RowFacts colours channels row
unfolding is_source uses_mask is_queue
row-facts n m row p l q byte e =
    let r = row-parts n m row e in
    let low = mask_low (uses_mask (kind row)) (is_source (kind row)) n (mask row) r.masks in
    let masks : (d : ℕ) → d < 8 → masked row d ≡ true → d < n = λ d b o. bit_below (mask row) n d l low b (eqb-true (mask row / 2 ^ (7 - d) % 2) 1 o) in
    let queues : kind row ≡ Queue → Filled (capacity row) (filling row) = λ k. filled (capacity row) (filling row) (subst (λ (k : Kind). filling_ok (is_queue k) (capacity row) (filling row) ≡ true) k r.fillings) in
    record {
      kinds = kind-le r;
      ports = λ p. below-lt (is_used (port_use (kind row) p)) (port row p) m m (r.ports p) (omega arith) q;
      first_maps = λ d h. entry_lt (uses_first_map (kind row)) n n (first_map row) r.first (omega arith) p d (omega arith);
      second_maps = λ d h. entry_lt (uses_second_map (kind row)) n n (second_map row) r.second (omega arith) p d (omega arith);
      masks = masks;
      some_mask = λ k.
          let some = mask-some n (mask row) (subst (λ (k : Kind). mask_ok (uses_mask k) (is_source k) n (mask row) ≡ true) k r.masks) in
          let b = some-bit (mask row) byte some in
          (b.0, masks b.0 b.1 b.2, b.2);
      capacities = λ k. ((queues k).low, (queues k).high);
      fillings = λ k. (queues k).most;
      fill_colours = below-lt (is_queue (kind row) && ltb 0 (filling row)) (fill_colour row) n n r.fill_colours (omega arith) p;
    }

-- ---- a row that is right fits its widths
abbrev FitAt : List ℕ → List ℕ → ℕ → Type 0
FitAt [] vs i = Unit {0}
FitAt (w ∷ ws) vs i = (get_or vs i 0 < 2 ^ w) × FitAt ws vs (suc i)

fit_at : (ws vs : List ℕ) (i : ℕ) → length vs ≡ i + length ws → FitAt ws vs i → Fit ws (drop i vs)
fit_at [] vs i e h =
    let n : i ≡ length vs = omega arith in
    subst (λ (l : List ℕ). Fit [] l) (sym (ap (λ (k : ℕ). drop k vs) n ∙ drop-length vs)) tt
fit_at (w ∷ ws) vs i e h =
    subst (λ (l : List ℕ). Fit (w ∷ ws) l) (sym (drop-cons vs i 0 (omega arith))) (h.0, fit_at ws vs (suc i) (omega arith) h.1)

pub row_fits : (colours channels : ℕ) (f : List ℕ) → colours ≤ most_colours → channels ≤ 256 → length f ≡ row_size → get_or f 20 0 < 256 → row_ok colours channels f ≡ true → Fit row_widths f
row_fits n m f hc hm l byte e =
    let r = row-parts n m f e in
    let port : (p : Port) → port f p < 256 = λ p. below-lt (is_used (port_use (kind f) p)) (port f p) m 256 (r.ports p) hm (omega arith) in
    let map₁ : (d : ℕ) → ltb d 8 ≡ true → first_map f d < 8 = λ d t. entry_lt (uses_first_map (kind f)) n 8 (first_map f) r.first hc (omega arith) d (ltb-true d 8 t) in
    let map₂ : (d : ℕ) → ltb d 8 ≡ true → second_map f d < 8 = λ d t. entry_lt (uses_second_map (kind f)) n 8 (second_map f) r.second hc (omega arith) d (ltb-true d 8 t) in
    let q = filling-lt (is_queue (kind f)) (get_or f 21 0) (get_or f 22 0) r.fillings in
    let colour : get_or f 23 0 < 8 = below-lt (is_queue (kind f) && ltb 0 (get_or f 22 0)) (get_or f 23 0) n 8 r.fill_colours hc (omega arith) in
    let k : get_or f 0 0 < 8 = omega (arith, kind-le r) in
    fit_at row_widths f 0 l (k, (port A, (port B, (port C, (map₁ 0 refl, (map₁ 1 refl, (map₁ 2 refl, (map₁ 3 refl, (map₁ 4 refl, (map₁ 5 refl, (map₁ 6 refl, (map₁ 7 refl, (map₂ 0 refl, (map₂ 1 refl, (map₂ 2 refl, (map₂ 3 refl, (map₂ 4 refl, (map₂ 5 refl, (map₂ 6 refl, (map₂ 7 refl, (byte, (q.0, (q.1, (colour, tt))))))))))))))))))))))))
