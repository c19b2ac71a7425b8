-- What each way through `ceiling` comes to. Assumes nothing.
use Rattle.std.proofs.Common.{Result, Ok, Err, Some, None}
use mathlib.Core.Path.{◌≡◌, refl, ap, ap₂, sym, ◌∙◌}
use mathlib.Core.Bool.{Bool, true, false, cond, not, ◌&&◌, ◌||◌, or-true, or-false, true≢false}
use mathlib.Core.List.{List}
use Prim.Native.Nat.{ℕ, ◌+◌, ◌*◌, ◌/◌, min, ◌≤◌, ◌<◌}
use native.Mathlib.Omega.{arith}
use lib.Dec.{ltb, eqb}
use lib.IntN.{ℤ, pos, ◌+ℤ◌}
use borrow.Author.Tests.{ltb-true, lt-ltb, le-ltb, eqb-false, eq-eqb, ne_eqb}
use Rattle.integers.specs.Sign.{above_zero}
use Rattle.refusals.specs.Refusals.{first_refusal}
use Rattle.refusals.specs.declared.Refusal.{Refusal}
use Rattle.refusals.specs.declared.Refusal.TheVariants.{NotAQueue, WeightNotPositive}
use Rattle.refusals.proofs.Refusals.{and_then, refusal-append, cond-accepted, then-accepted}
use Rattle.record.specs.Table.{open_table}
use Rattle.component.specs.Kind.{is_queue}
use Rattle.component.specs.Row.{kind, capacity}
use Rattle.netlist.specs.Netlist.{Netlist, netlist_of, row_of}
use Rattle.netlist.specs.Accepted.{AcceptedNetlist}
use Rattle.netlist.specs.declared.Size.{Size}
use Rattle.reader.specs.File.{header_fields, size_in, netlist_in, file_tests}
use Rattle.reader.specs.Reading.{read_as, reading}
use Rattle.reader.proofs.Opened.{after-file}
use Rattle.flows.specs.Flows.{weight, entry, constant}
use Rattle.flows.specs.Verdict.{giving, judge_tests, judged}
use Rattle.flows.proofs.Weights.{entry-weight}
use Rattle.headroom.specs.Headroom.{owed, headroom}
use Rattle.judgement.specs.Judged.{weight_at}
use Rattle.ceiling.specs.Ceiling.{ceiling, no_place, not_above, place_tests, ceiling_tests, placed, ceiling_verdict}

-- ---- on a fabric that was read
module _ (f : Netlist) (p : List ℕ) (q d : ℕ) where
  -- 11-14 first
  pub judged-first : {r : Refusal} → Err r ≡ judged f p → Err r ≡ placed f p q d
  unfolding judged placed
  judged-first e = ap (λ (v : Result Unit Refusal). and_then v (first_refusal (place_tests f p q d))) e ∙ sym (refusal-append (judge_tests f p) (place_tests f p q d))

  module _ (ok : judged f p ≡ Ok tt) where
    -- then 31, then 32
    pub place-tests : {a b : Bool} → no_place f q d ≡ a → not_above f p q d ≡ b → cond a (Err NotAQueue) (cond b (Err WeightNotPositive) (Ok tt)) ≡ placed f p q d
    unfolding judged placed
    place-tests x y =
        sym (ap₂ (λ (a b : Bool). cond a (Err NotAQueue) (cond b (Err WeightNotPositive) (Ok tt))) x y)
        ∙ sym (refusal-append (judge_tests f p) (place_tests f p q d) ∙ ap (λ (v : Result Unit Refusal). and_then v (first_refusal (place_tests f p q d))) ok)

  -- 32, by the weight
  pub above-none : {k : ℕ} → k ≡ above_zero (weight f p q d) → k ≡ 0 → not_above f p q d ≡ true
  unfolding not_above
  above-none e z = eq-eqb (above_zero (weight f p q d)) 0 (sym e ∙ z)

  pub above-some : {k : ℕ} → k ≡ above_zero (weight f p q d) → (k ≡ 0 → ⊥) → not_above f p q d ≡ false
  unfolding not_above
  above-some e z = ne_eqb (above_zero (weight f p q d)) 0 (λ x. z (e ∙ x))

  -- the value from the constant, what is owed, the weight and the capacity
  pub value-is : {k : ℤ} {o h w c : ℕ} → k ≡ constant f p → o ≡ owed f p → h ≡ above_zero (k +ℤ pos o) → w ≡ above_zero (weight f p q d) → c ≡ capacity (row_of f q)
      → min (h / w) c ≡ ceiling f p q d
  unfolding ceiling headroom
  value-is ek eo eh ew ec = ap₂ min (ap₂ (λ (a b : ℕ). a / b) (eh ∙ ap₂ (λ (z : ℤ) (n : ℕ). above_zero (z +ℤ pos n)) ek eo) ew) ec

-- ---- 31
module _ (f : Netlist) (q d : ℕ) where
  pub out-queue : f.components ≤ q → no_place f q d ≡ true
  unfolding no_place
  out-queue l = rw (le-ltb q f.components l)

  pub out-colour : f.colours ≤ d → no_place f q d ≡ true
  unfolding no_place
  out-colour l = rw (le-ltb d f.colours l) (or-true (not (ltb q f.components && is_queue (kind (row_of f q)))))

  -- then the kind
  pub kind-decides : q < f.components → d < f.colours → no_place f q d ≡ not (is_queue (kind (row_of f q)))
  unfolding no_place
  kind-decides l m = rw (lt-ltb q f.components l, lt-ltb d f.colours m) (or-false (not (is_queue (kind (row_of f q)))))

  pub none-entry : (u : ℕ) → no_place f q d ≡ true → None ≡ cond (no_place f q d) None (Some u)
  none-entry u e = sym (ap (λ (b : Bool). cond b None (Some u)) e)

  pub some-entry : {u : ℕ} → no_place f q d ≡ false → Some u ≡ cond (no_place f q d) None (Some u)
  some-entry {u} e = sym (ap (λ (b : Bool). cond b None (Some u)) e)

-- a place: a queue and a colour of the fabric
pub place-of : (f : Netlist) (q d : ℕ) → no_place f q d ≡ false → (q < f.components) × (is_queue (kind (row_of f q)) ≡ true) × (d < f.colours)
unfolding no_place
place-of f q d e = go (ltb q f.components) refl (is_queue (kind (row_of f q))) refl (ltb d f.colours) refl e
  where
    go : (a : Bool) → ltb q f.components ≡ a → (b : Bool) → is_queue (kind (row_of f q)) ≡ b → (c : Bool) → ltb d f.colours ≡ c → (not (a && b) || not c) ≡ false → (q < f.components) × (is_queue (kind (row_of f q)) ≡ true) × (d < f.colours)
    go true x true y true z h = (ltb-true q f.components x, y, ltb-true d f.colours z)
    go true x true y false z h = absurd (true≢false h)
    go true x false y c z h = absurd (true≢false h)
    go false x b y c z h = absurd (true≢false h)

-- ---- the entry
module _ (f : Netlist) (h : AcceptedNetlist f) (q d : ℕ) where
  -- none, or the entry of the place, and its weight
  pub no-entry : None ≡ cond (no_place f q d) None (Some (8 * q + d)) → no_place f q d ≡ true
  no-entry e = go (no_place f q d) e
    where
      go : (b : Bool) → None ≡ cond b None (Some (8 * q + d)) → b ≡ true
      go true x = refl
      go false x = absurd cc

  pub an-entry : {u : ℕ} → Some u ≡ cond (no_place f q d) None (Some (8 * q + d)) → (no_place f q d ≡ false) × (u ≡ 8 * q + d)
  an-entry {u} e = go (no_place f q d) e
    where
      go : (b : Bool) → Some u ≡ cond b None (Some (8 * q + d)) → (b ≡ false) × (u ≡ 8 * q + d)
      go true x = absurd cc
      go false x = (refl, cc)

  pub weight-there : (p : List ℕ) → no_place f q d ≡ false → weight_at f p (8 * q + d) ≡ above_zero (weight f p q d)
  unfolding weight_at
  weight-there p e =
      let r = place-of f q d e in
      let l : 8 * q + d < 8 * f.components = omega (arith, r.0, r.2, h.facts.few_colours) in
      ap (λ (b : Bool). cond b (above_zero (entry f p (8 * q + d))) 0) (lt-ltb (8 * q + d) (8 * f.components) l)
      ∙ ap above_zero (entry-weight f p q d (omega (arith, r.2, h.facts.few_colours)) r.2)

-- what is owed, where the weight is above 0
pub owed-there : (n : ℕ) {k o : ℕ} → o ≡ cond (eqb k 0) 0 n → (k ≡ 0 → ⊥) → o ≡ n
owed-there n {k} e h = e ∙ ap (λ (b : Bool). cond b 0 n) (ne_eqb k 0 h)

-- ---- the call, by what reading comes to
abbrev pub ceiling_read : Result Size Refusal → List ℕ → List ℕ → ℕ → ℕ → Result ℕ Refusal
ceiling_read (Ok s) file p q d = giving (placed (netlist_of s (open_table file s.components)) p q d) (ceiling (netlist_of s (open_table file s.components)) p q d)
ceiling_read (Err r) file p q d = Err r

pub ceiling_by_reading : (file p : List ℕ) (q d : ℕ) → giving (ceiling_verdict file p q d) (ceiling (netlist_in file) p q d) ≡ ceiling_read (reading file) file p q d
unfolding ceiling_verdict placed netlist_in reading
ceiling_by_reading file p q d =
    ap (λ (v : Result Unit Refusal). giving v (ceiling (netlist_in file) p q d)) (refusal-append (file_tests file) (ceiling_tests (netlist_in file) p q d)) ∙ go (first_refusal (file_tests file))
  where
    go : (v : Result Unit Refusal) → giving (and_then v (placed (netlist_in file) p q d)) (ceiling (netlist_in file) p q d) ≡ ceiling_read (read_as v (size_in (header_fields file))) file p q d
    go (Ok tt) = refl
    go (Err r) = refl

-- ---- what an accepted call gives
pub record Granted (f : Netlist) (p : List ℕ) (q d : ℕ) : Type 0 where
  pub accepted : judged f p ≡ Ok tt
  pub component : q < f.components
  pub queue : is_queue (kind (row_of f q)) ≡ true
  pub colour : d < f.colours
  pub above : 0 < above_zero (weight f p q d)

pub granted : (file p : List ℕ) (q d : ℕ) → ceiling_verdict file p q d ≡ Ok tt → Granted (netlist_in file) p q d
unfolding ceiling_verdict judged not_above
granted file p q d e =
    let f : Netlist = netlist_in file in
    let t = (after-file file (ceiling_tests f p q d) e).1 in
    let j = then-accepted (first_refusal (judge_tests f p)) (first_refusal (place_tests f p q d)) (sym (refusal-append (judge_tests f p) (place_tests f p q d)) ∙ t) in
    let a = cond-accepted NotAQueue (no_place f q d) _ j.1 in
    let b = cond-accepted WeightNotPositive (not_above f p q d) (Ok tt) a.1 in
    let r = place-of f q d a.0 in
    record { accepted = j.0; component = r.0; queue = r.1; colour = r.2; above = positive (eqb-false (above_zero (weight f p q d)) 0 b.0) }
  where
    positive : {n : ℕ} → (n ≡ 0 → ⊥) → 0 < n
    positive h = omega arith
