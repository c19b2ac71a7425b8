-- The tables of sums tell the verdict, the weights and the constant. Assumes nothing.
use Rattle.std.proofs.Common.{Result, Ok, Err, Option, Some, None, is_some, IfOk}
use mathlib.Core.Path.{◌≡◌, refl, sym, ap, ◌∙◌}
use mathlib.Core.Bool.{Bool, true, false, cond, not, ◌&&◌, ◌||◌, true≢false}
use mathlib.Core.List.{List, [], ◌∷◌}
use Prim.Native.Nat.{ℕ, ◌+◌, ◌*◌, ◌/◌, ◌%◌, ◌^◌, ◌≤◌, ◌<◌}
use native.Mathlib.Omega.{arith}
use lib.Dec.{ltb, eqb}
use lib.ListN.{length, get_or, take}
use Rattle.std.proofs.lemmas.List.{get_or-take, length-take-le}
use lib.IntN.{ℤ, pos, ◌*ℤ◌, zero-*ℤ, *ℤ-zero}
use borrow.Author.Tests.{ltb-false, lt-ltb, le-ltb, eq-eqb, ne_eqb}
use Rattle.digits.specs.Least.{least}
use Rattle.digits.proofs.Least.{least-same}
use Rattle.search.specs.First.{first}
use Rattle.search.proofs.Laws.{first_least, none_least}
use Rattle.integers.specs.Sum.{sum_to, is_zero}
use Rattle.integers.specs.Tables.{Near}
use Rattle.integers.proofs.Sum.{sum-cong, sum-only}
use Rattle.refusals.specs.Refusals.{test, first_refusal}
use Rattle.refusals.specs.Room.{room_for}
use Rattle.refusals.specs.declared.Refusal.{Refusal}
use Rattle.refusals.specs.declared.Refusal.TheVariants.{ProposalLength, NoEquation, FlowLeft, NoWeight}
use Rattle.refusals.proofs.Room.{room-last, room-given}
use Rattle.refusals.proofs.Refusals.{and_then}
use Rattle.record.specs.Table.{row}
use Rattle.component.specs.Kind.{is_queue}
use Rattle.component.specs.Row.{kind, filling, fill_colour}
use Rattle.component.specs.Limits.{most_entries}
use Rattle.netlist.specs.Netlist.{Netlist, row_of}
use Rattle.netlist.specs.Accepted.{AcceptedNetlist}
use Rattle.reach.specs.Rounds.{reachable}
use Rattle.flows.specs.Terms.{terms, most_terms}
use Rattle.flows.specs.Flows.{flow_sum, weight, entry, accepted_sum, start_count, constant}
use Rattle.flows.specs.Verdict.{bad_length, first_bad_term, is_left, lowest_left, is_weight, weightless, judge_tests, judged, judged_within, giving, table_by, bytes_by}
use Rattle.flows.proofs.Weights.{weight-other, entry-weight}
use Rattle.sums.specs.Sums.{Added, terms_verdict}
use Rattle.sums.proofs.Sums.{never, flows-sum, counts-sum}
use Rattle.leftover.specs.Leftover.{not_zero, left_inside}
use Rattle.judgement.specs.Entries.{entries_filled, bytes_filled}
use Rattle.judgement.specs.Judged.{sums_verdict, share_of, Weighed, written_by}

-- ---- what the tables tell
left-if : (b : Bool) (z : ℤ) (r : Bool) → (not (is_zero (cond b z (pos 0))) && r) ≡ (b && (not (is_zero z) && r))
unfolding is_zero
left-if true z r = refl
left-if false z r = refl

-- a component's share: of a queue, and of another
module _ (t : List ℕ) (w : List ℤ) (q : ℕ) where
  pub share-queue : is_queue (kind (row t q)) ≡ true → share_of t w q ≡ get_or w (8 * q + fill_colour (row t q)) (pos 0) *ℤ pos (filling (row t q))
  unfolding share_of
  share-queue e = ap (λ (b : Bool). cond b (get_or w (8 * q + fill_colour (row t q)) (pos 0) *ℤ pos (filling (row t q))) (pos 0)) e

  pub share-other : is_queue (kind (row t q)) ≡ false → share_of t w q ≡ pos 0
  unfolding share_of
  share-other e = ap (λ (b : Bool). cond b (get_or w (8 * q + fill_colour (row t q)) (pos 0) *ℤ pos (filling (row t q))) (pos 0)) e

module _ (f : Netlist) (h : AcceptedNetlist f) (p : List ℕ) {s w : List ℤ} (a : Added f p (terms p) s w) where
  left_is : least (left_inside f s) (8 * f.channels) ≡ lowest_left f p
  unfolding is_left left_inside
  left_is = least-same (left_inside f s) (is_left f p) (8 * f.channels)
      (λ v l. ap (λ (z : ℤ). not (is_zero z) && reachable f (v / 8) (v % 8)) (a.flows.at v (omega (arith, h.facts.few_channels)) ∙ flows-sum f p v)
      ∙ left-if (ltb (v % 8) f.colours) (flow_sum f p (v / 8) (v % 8)) (reachable f (v / 8) (v % 8)))

  entry-is : (u : ℕ) → u < 8 * f.components → get_or w u (pos 0) ≡ entry f p u
  entry-is u l = a.counts.at u (omega (arith, h.facts.few_rows)) ∙ counts-sum f p h u l

  weight_is : least (not_zero w) (8 * f.components) ≡ least (is_weight f p) (8 * f.components)
  unfolding is_weight
  weight_is = least-same (not_zero w) (is_weight f p) (8 * f.components) (λ u l. ap (λ (z : ℤ). not (is_zero z)) (entry-is u l))

  pub all-weighed : Near most_entries (2 ^ 40) w → Weighed f p w
  all-weighed near = record { near = near; at = entry-is }

  -- a component's share: its weight of its fill colour, times its filling
  share-sum : (q : ℕ) → q < f.components → share_of f.table w q ≡ sum_to f.colours (λ d. weight f p q d *ℤ pos (start_count f q d))
  share-sum q l =
      let c : fill_colour (row_of f q) < f.colours = (h.facts.rows q l).fill_colours in
      share-weight c (is_queue (kind (row_of f q))) refl
      ∙ sym (sum-only f.colours (fill_colour (row_of f q)) (λ d. weight f p q d *ℤ pos (start_count f q d)) c
      (λ d m n. ap (λ (b : Bool). weight f p q d *ℤ pos (cond b (filling (row_of f q)) 0)) (ne_eqb d (fill_colour (row_of f q)) n) ∙ *ℤ-zero (weight f p q d))
      ∙ ap (λ (b : Bool). weight f p q (fill_colour (row_of f q)) *ℤ pos (cond b (filling (row_of f q)) 0)) (eq-eqb (fill_colour (row_of f q)) (fill_colour (row_of f q)) refl))
    where
      share-weight : fill_colour (row_of f q) < f.colours → (b : Bool) → is_queue (kind (row_of f q)) ≡ b
          → share_of f.table w q ≡ weight f p q (fill_colour (row_of f q)) *ℤ pos (filling (row_of f q))
      share-weight c true e = share-queue f.table w q e ∙ ap (λ (z : ℤ). z *ℤ pos (filling (row_of f q))) (entry-is (8 * q + fill_colour (row_of f q)) (omega (arith, h.facts.few_colours)) ∙ entry-weight f p q (fill_colour (row_of f q)) (omega (arith, h.facts.few_colours)) c)
      share-weight c false e = share-other f.table w q e ∙ sym (ap (λ (z : ℤ). z *ℤ pos (filling (row_of f q))) (weight-other f p q (fill_colour (row_of f q)) e) ∙ zero-*ℤ (pos (filling (row_of f q))))

  pub constant-is : sum_to f.components (share_of f.table w) ≡ constant f p
  unfolding constant accepted_sum
  constant-is = sum-cong f.components (share_of f.table w) (λ q. sum_to f.colours (λ d. weight f p q d *ℤ pos (start_count f q d))) share-sum

  -- the verdict of the sums is that of the proposal
  last-tests : sums_verdict f s w ≡ first_refusal (test (FlowLeft (lowest_left f p)) (ltb (lowest_left f p) (8 * f.channels)) ∷ test NoWeight (weightless f p) ∷ [])
  unfolding sums_verdict
  last-tests =
      ap (λ (x : ℕ). first_refusal (test (FlowLeft x) (ltb x (8 * f.channels)) ∷ test NoWeight (eqb (least (not_zero w) (8 * f.components)) (8 * f.components)) ∷ [])) left_is
      ∙ ap (λ (x : ℕ). first_refusal (test (FlowLeft (lowest_left f p)) (ltb (lowest_left f p) (8 * f.channels)) ∷ test NoWeight (eqb x (8 * f.components)) ∷ [])) weight_is

  pub sums-judged : bad_length p ≡ false → Ok tt ≡ terms_verdict f p → sums_verdict f s w ≡ judged f p
  unfolding judged terms_verdict
  sums-judged short named = last-tests ∙ go (bad_length p) short (ltb (first_bad_term f p) (terms p)) named
    where
      go : (b : Bool) → b ≡ false → (n : Bool) → Ok tt ≡ first_refusal (test (NoEquation (first_bad_term f p)) n ∷ [])
          → first_refusal (test (FlowLeft (lowest_left f p)) (ltb (lowest_left f p) (8 * f.channels)) ∷ test NoWeight (weightless f p) ∷ [])
          ≡ first_refusal (test ProposalLength b ∷ test (NoEquation (first_bad_term f p)) n ∷ test (FlowLeft (lowest_left f p)) (ltb (lowest_left f p) (8 * f.channels)) ∷ test NoWeight (weightless f p) ∷ [])
      go true e n d = absurd (true≢false e)
      go false e true d = absurd (never (sym d))
      go false e false d = refl

-- ---- the ways out before the sums are looked at
module _ (f : Netlist) (p : List ℕ) where
  pub judged-length : bad_length p ≡ true → Err ProposalLength ≡ judged f p
  unfolding judged
  judged-length e = sym (ap (λ (b : Bool). cond b (Err ProposalLength) (first_refusal (test (NoEquation (first_bad_term f p)) (ltb (first_bad_term f p) (terms p)) ∷ test (FlowLeft (lowest_left f p)) (ltb (lowest_left f p) (8 * f.channels)) ∷ test NoWeight (weightless f p) ∷ []))) e)

  pub judged-term : {r : Refusal} → bad_length p ≡ false → Err r ≡ terms_verdict f p → Err r ≡ judged f p
  unfolding judged terms_verdict
  judged-term {r} short e = go (bad_length p) short (ltb (first_bad_term f p) (terms p)) e
    where
      go : (b : Bool) → b ≡ false → (n : Bool) → Err r ≡ first_refusal (test (NoEquation (first_bad_term f p)) n ∷ [])
          → Err r ≡ first_refusal (test ProposalLength b ∷ test (NoEquation (first_bad_term f p)) n ∷ test (FlowLeft (lowest_left f p)) (ltb (lowest_left f p) (8 * f.channels)) ∷ test NoWeight (weightless f p) ∷ [])
      go true x n d = absurd (true≢false x)
      go false x true d = d
      go false x false d = absurd (never d)

-- ---- a value that is handed back with a verdict
pub giving-refused : {T : Type 0} {v : Result Unit Refusal} (x : T) {r : Refusal} → Err r ≡ v → ◌≡◌ {A = Result T Refusal} (Err r) (giving v x)
giving-refused x e = ap (λ (u : Result Unit Refusal). giving u x) e

pub giving-given : {T : Type 0} {v : Result Unit Refusal} {x : T} → Ok tt ≡ v → ◌≡◌ {A = Result T Refusal} (Ok x) (giving v x)
giving-given {x = x} e = ap (λ (u : Result Unit Refusal). giving u x) e

pub refused-back : {T : Type 0} (v : Result Unit Refusal) (x : T) {r : Refusal} → ◌≡◌ {A = Result T Refusal} (Err r) (giving v x) → Err r ≡ v
refused-back (Ok tt) x e = cc
refused-back (Err s) x e = cc

pub given-back : {T : Type 0} (v : Result Unit Refusal) {x k : T} → ◌≡◌ {A = Result T Refusal} (Ok k) (giving v x) → (Ok tt ≡ v) × (k ≡ x)
given-back (Ok tt) e = (refl, cc)
given-back (Err s) e = (cc, cc)

-- whatever comes out
pub if-ok : {T : Type 0} {P : Type 0} (r : Result T Refusal) → P → IfOk r (λ k. P)
if-ok (Ok k) h = h
if-ok (Err r) h = tt

-- ---- with room for so many entries
module _ (f : Netlist) (p : List ℕ) (space : ℕ) where
  pub within-is : and_then (judged f p) (room_for space (8 * f.components)) ≡ judged_within f p space
  unfolding judged_within judged
  within-is = room-last (judge_tests f p) space (8 * f.components)

  pub within-refused : {r : Refusal} → Err r ≡ judged f p → Err r ≡ judged_within f p space
  within-refused e = ap (λ (v : Result Unit Refusal). and_then v (room_for space (8 * f.components))) e ∙ within-is

  module _ (e : Ok tt ≡ judged f p) where
    pub within-room-for : {v : Result Unit Refusal} → v ≡ room_for space (8 * f.components) → v ≡ judged_within f p space
    within-room-for d = d ∙ ap (λ (v : Result Unit Refusal). and_then v (room_for space (8 * f.components))) e ∙ within-is

-- with room for all of them: as without
pub within-given : (f : Netlist) (p : List ℕ) (space : ℕ) → 8 * f.components ≤ space → judged_within f p space ≡ judged f p
within-given f p space h = go (judged f p) refl
  where
    go : (v : Result Unit Refusal) → judged f p ≡ v → judged_within f p space ≡ v
    go (Ok tt) e = sym (within-room-for f p space (sym e) (sym (room-given space (8 * f.components) h)))
    go (Err r) e = sym (within-refused f p space (sym e))

-- ---- what is written
module _ {E : Type 0} (filled : ℕ → (ℕ → ℤ) → List E → List E) (f : Netlist) (p : List ℕ) (old : List E) {v : Result Unit Refusal} where
  pub written-refused : {r : Refusal} → Err r ≡ v → old ≡ written_by filled v f p old
  unfolding written_by
  written-refused e = ap (λ (x : Result Unit Refusal). written_by filled x f p old) e

  pub written-given : Ok tt ≡ v → filled (8 * f.components) (entry f p) old ≡ written_by filled v f p old
  unfolding written_by
  written-given e = ap (λ (x : Result Unit Refusal). written_by filled x f p old) e

-- the first entries of a table of weights are the proposal's
pub first-entries : {E : Type 0} (filled : ℕ → (ℕ → ℤ) → List E → List E) → ((g h : ℕ → ℤ) (s : List E) (n : ℕ) → ((u : ℕ) → u < n → g u ≡ h u) → filled n g s ≡ filled n h s)
    → (f : Netlist) (p : List ℕ) {w : List ℤ} → 8 * f.components ≤ most_entries → Weighed f p w → (old : List E)
    → filled (length (take (8 * f.components) w)) (λ u. get_or (take (8 * f.components) w) u (pos 0)) old ≡ filled (8 * f.components) (entry f p) old
first-entries {E} filled same f p {w} few a old =
    let n = 8 * f.components in
    ap (λ (k : ℕ). filled k (λ u. get_or (take n w) u (pos 0)) old) (length-take-le n w (omega (arith, a.near.long)))
    ∙ same (λ u. get_or (take n w) u (pos 0)) (entry f p) old n (λ u l. get_or-take n w u (pos 0) l ∙ a.at u l)

-- as entries, and as bytes
pub table-written : (v : Result Unit Refusal) (f : Netlist) (p : List ℕ) (old : List ℤ) → written_by entries_filled v f p old ≡ table_by v f p old
unfolding written_by table_by entries_filled
table-written (Ok tt) f p old = refl
table-written (Err r) f p old = refl

pub bytes-written : (v : Result Unit Refusal) (f : Netlist) (p : List ℕ) (old : List ℕ) → written_by bytes_filled v f p old ≡ bytes_by v f p old
unfolding written_by bytes_by bytes_filled
bytes-written (Ok tt) f p old = refl
bytes-written (Err r) f p old = refl

-- ---- the ways out of the search
module _ (f : Netlist) (s w : List ℤ) where
  pub sums-flow : {v : ℕ} → Some v ≡ first (left_inside f s) (8 * f.channels) → Err (FlowLeft v) ≡ sums_verdict f s w
  unfolding sums_verdict
  sums-flow {v} e =
      let l = first_least (left_inside f s) (8 * f.channels) v (sym e) in
      simp (l.1, lt-ltb v (8 * f.channels) l.0)

  module _ (none : None ≡ first (left_inside f s) (8 * f.channels)) where
    abbrev none-left : least (left_inside f s) (8 * f.channels) ≡ 8 * f.channels
    none-left = none_least (left_inside f s) (8 * f.channels) (sym none)

    pub sums-weightless : {o : Option ℕ} → o ≡ first (not_zero w) (8 * f.components) → is_some o ≡ false → Err NoWeight ≡ sums_verdict f s w
    unfolding sums_verdict
    sums-weightless {o = None} e z = simp (le-ltb (least (left_inside f s) (8 * f.channels)) (8 * f.channels) (omega (arith, none-left)), eq-eqb (least (not_zero w) (8 * f.components)) (8 * f.components) (none_least (not_zero w) (8 * f.components) (sym e)))
    sums-weightless {o = Some u} e z = absurd (true≢false z)

    pub sums-accepted : {o : Option ℕ} → o ≡ first (not_zero w) (8 * f.components) → is_some o ≡ true → Ok tt ≡ sums_verdict f s w
    unfolding sums_verdict
    sums-accepted {o = None} e z = absurd (true≢false (sym z))
    sums-accepted {o = Some u} e z =
        let l = first_least (not_zero w) (8 * f.components) u (sym e) in
        simp (le-ltb (least (left_inside f s) (8 * f.channels)) (8 * f.channels) (omega (arith, none-left)), ne_eqb (least (not_zero w) (8 * f.components)) (8 * f.components) (λ z. omega (arith, l.0, l.1, z)))

pub length-short : (p : List ℕ) → bad_length p ≡ false → length p ≤ 4 * most_terms
length-short p e = go (not (eqb (length p % 4) 0)) (ltb (4 * most_terms) (length p)) refl e
  where
    go : (a b : Bool) → ltb (4 * most_terms) (length p) ≡ b → (a || b) ≡ false → length p ≤ 4 * most_terms
    go true b x y = absurd (true≢false y)
    go false b x y = ltb-false (4 * most_terms) (length p) (x ∙ y)
