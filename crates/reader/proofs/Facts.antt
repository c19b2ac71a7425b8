-- What a file that passed its tests gives. Assumes nothing.
use Rattle.std.proofs.Common.{Option, Some, None}
use Rattle.std.proofs.Common.{Result, Ok, Err, IfErr, IfOk}
use mathlib.Core.Path.{◌≡◌, refl, ap, ap₂, sym, ◌∙◌}
use Prim.Native.Nat.{ℕ, ◌*◌, ◌%◌, ◌≤◌, ◌<◌}
use native.Mathlib.Nat.{mod-lt}
use lib.Pow.{pow_pos}
use native.Mathlib.Omega.{arith}
use mathlib.Core.Bool.{Bool, true, cond, not, ◌||◌}
use mathlib.Core.List.{List, ◌++◌}
use lib.ListN.{length, get_or, take, drop}
use lib.Seq.{take_at}
use lib.Dec.{ltb, eqb}
use borrow.Author.Tests.{lt-ltb, le-ltb, eqb-true, not-false, ltb-false}
use Rattle.digits.specs.Sum.{sum}
use Rattle.digits.proofs.Least.{least-before}
use Rattle.digits.proofs.Bools.{or-false}
use Rattle.refusals.specs.Refusals.{first_refusal}
use Rattle.refusals.specs.declared.Refusal.{Refusal}
use Rattle.refusals.specs.declared.Refusal.TheVariants.{FileShort, WrongEdition, CountRange, WrongLength, ByteSum, BadField}
use Rattle.refusals.proofs.Refusals.{and_then, refusal-append, cond-accepted}
use Rattle.record.specs.Record.{record_row, record_pad}
use Rattle.record.specs.Table.{row, record_at, open_table}
use Rattle.record.specs.Sizes.{file_size, header_size, row_size}
use Rattle.record.proofs.Table.{length-rows, row_open}
use Rattle.component.specs.Row.{row_ok}
use Rattle.component.specs.Limits.{most_channels, most_colours, most_components}
use Rattle.component.proofs.Facts.{row-parts, kind-le, row-facts}
use Rattle.wiring.specs.Stages.{Kinds, wired}
use Rattle.wiring.specs.Sound.{SoundWires}
use Rattle.wiring.specs.Refused.{refusal_of}
use Rattle.wiring.specs.declared.Miswired.{Miswired}
use Rattle.netlist.specs.Netlist.{netlist_of}
use Rattle.netlist.specs.declared.Size.{Size}
use Rattle.netlist.specs.declared.Fabric.{Fabric}
use Rattle.reader.specs.View.{size_of}
use Rattle.netlist.specs.Accepted.{AcceptedFabric, AcceptedNetlist}
use Rattle.search.specs.First.{first}
use Rattle.search.proofs.Laws.{first_least, none_least}
use Rattle.reader.specs.File.{header_fields, colours_in, channels_in, components_in, size_in, bad_row, bad_record, first_bad_record, header_tests, record_tests, wire_tests}
use Rattle.reader.specs.Reading.{read_as, reading}
use Rattle.reader.specs.Stages.{header_read, wired_verdict, Headed}
use Rattle.reader.proofs.Tests.{wire-tests, wrong_edition, wrong_range, positive, colours_lt, channels-lt}

-- ---- answers, taken apart
pub read-fabric : (v : Result Unit Refusal) (t : Size) {s : Size} → read_as v t ≡ Ok s → (v ≡ (Ok tt)) × (t ≡ s)
read-fabric (Ok tt) t e = (refl, cc)
read-fabric (Err r) t e = let z : ◌≡◌ {A = ℕ} 0 1 = cc in absurd (omega arith)

pub read-rejected : (v : Result Unit Refusal) (t : Size) {r : Refusal} → read_as v t ≡ Err r → v ≡ Err r
read-rejected (Ok tt) t e = let z : ◌≡◌ {A = ℕ} 0 1 = cc in absurd (omega arith)
read-rejected (Err q) t {r} e = let z : q ≡ r = cc in ap Err z

-- ---- the records
module _ (colours channels n : ℕ) (file table : List ℕ) where
  pub good-records : n ≤ first_bad_record colours channels file table n → (k : ℕ) → k < n → (record_pad file (record_at k) ≡ 0) × (row_ok colours channels (row table k) ≡ true)
  unfolding first_bad_record
  good-records h k l =
      let s = or-false (not (eqb (record_pad file (record_at k)) 0)) (bad_row colours channels table k) (least-before (bad_record colours channels file table) n k (omega arith)) in
      (eqb-true (record_pad file (record_at k)) 0 (not-false _ s.0), not-false _ s.1)

  pub table-kinds : n ≤ most_components → length table ≡ row_size * n → n ≤ first_bad_record colours channels file table n → Kinds table n
  table-kinds few l h = record { long = omega arith; few = few; kinds = λ k b. kind-le (row-parts colours channels (row table k) (good-records h k b).1) }

  pub records-accepted : first_refusal (record_tests colours channels file table n) ≡ (Ok tt) → (n ≤ first_bad_record colours channels file table n) × (first_refusal (wire_tests table n channels) ≡ (Ok tt))
  records-accepted e =
      let s = cond-accepted (BadField (first_bad_record colours channels file table n)) (ltb (first_bad_record colours channels file table n) n) (first_refusal (wire_tests table n channels)) e in
      (ltb-false (first_bad_record colours channels file table n) n s.0, s.1)

  -- the three ways through the records and the channels
  pub field-refused : (bad : ℕ) → bad ≡ first_bad_record colours channels file table n → bad < n → first_refusal (record_tests colours channels file table n) ≡ Err (BadField bad)
  field-refused bad eb h = rw (← eb, lt-ltb bad n h)

  module _ (bad : ℕ) (eb : bad ≡ first_bad_record colours channels file table n) (h : n ≤ bad) where
    pub table-wired : wired_verdict (wired table n channels) ≡ first_refusal (record_tests colours channels file table n)
    table-wired = wire-tests table n channels ∙ sym (rw (← eb, le-ltb bad n h))

    pub wires-refused : {m : Miswired} → Err m ≡ wired table n channels → first_refusal (record_tests colours channels file table n) ≡ Err (refusal_of m)
    wires-refused e = sym (ap wired_verdict e ∙ table-wired)

    pub wires-passed : Ok tt ≡ wired table n channels → first_refusal (record_tests colours channels file table n) ≡ Ok tt
    wires-passed e = sym (ap wired_verdict e ∙ table-wired)

-- ---- the header
pub record HeaderFacts (h file : List ℕ) : Type 0 where
  pub some_rows : 0 < components_in h
  pub few_rows : components_in h ≤ most_components
  pub some_channels : 0 < channels_in h
  pub long : length file ≡ file_size (components_in h)
  pub sums : sum file % 256 ≡ 0
  pub edition : (get_or h 0 0 ≡ 1) × (get_or h 2 0 ≡ 0)

pub header-facts : (h file : List ℕ) → first_refusal (header_tests h file) ≡ (Ok tt) → HeaderFacts h file
header-facts h file e =
    let s₁ = cond-accepted WrongEdition (wrong_edition h) _ e in
    let s₂ = cond-accepted CountRange (wrong_range h) _ s₁.1 in
    let s₃ = cond-accepted WrongLength (not (eqb (length file) (file_size (components_in h)))) _ s₂.1 in
    let s₄ = cond-accepted ByteSum (not (eqb (sum file % 256) 0)) (Ok tt) s₃.1 in
    let r = or-false (eqb (get_or h 3 0) 0 || ltb most_components (get_or h 3 0)) (eqb (get_or h 4 0) 0) s₂.0 in
    let q = or-false (eqb (get_or h 3 0) 0) (ltb most_components (get_or h 3 0)) r.0 in
    let d = or-false (not (eqb (get_or h 0 0) 1)) (not (eqb (get_or h 2 0) 0)) s₁.0 in
    record {
      some_rows = positive (get_or h 3 0) q.0;
      few_rows = ltb-false most_components (get_or h 3 0) q.1;
      some_channels = positive (get_or h 4 0) r.1;
      long = eqb-true (length file) (file_size (components_in h)) (not-false _ s₃.0);
      sums = eqb-true (sum file % 256) 0 (not-false _ s₄.0);
      edition = (eqb-true (get_or h 0 0) 1 (not-false _ d.0), eqb-true (get_or h 2 0) 0 (not-false _ d.1));
    }

-- ---- the rows
pub mask-byte : (file : List ℕ) (n k : ℕ) → k < n → get_or (row (open_table file n) k) 20 0 < 256
unfolding record_row
mask-byte file n k h = rw (row_open file n k h) (mod-lt _ (pow_pos 8))

-- ---- the whole file
-- what the header's fields come to, from what was read of them
pub headed : (file : List ℕ) {h : List ℕ} {r x : Result Size Refusal} → h ≡ header_fields file → r ≡ header_read h file → r ≡ x → header_read (header_fields file) file ≡ x
headed f eh er ex = ap (λ (h : List ℕ). header_read h f) (sym eh) ∙ sym er ∙ ex

module _ (file : List ℕ) where
  -- the tests of the records, with a header's numbers
  abbrev records_of : Size → Result Unit Refusal
  records_of s = first_refusal (record_tests s.colours s.channels file (open_table file s.components) s.components)

  pub is_short : length file < header_size → reading file ≡ Err FileShort
  unfolding reading
  is_short l = rw (lt-ltb (length file) header_size l)

  module _ (l : 4 ≤ length file) where
    pub reading-is : reading file ≡ read_as (and_then (first_refusal (header_tests (header_fields file) file)) (records_of (size_in (header_fields file)))) (size_in (header_fields file))
    unfolding reading
    reading-is =
        let h : List ℕ = header_fields file in
        let rest = record_tests (colours_in h) (channels_in h) file (open_table file (components_in h)) (components_in h) in
        ap (λ (v : Result Unit Refusal). read_as v (size_in h))
        (ap (λ (b : Bool). cond b (Err FileShort) (first_refusal (header_tests h file ++ rest))) (le-ltb (length file) 4 l) ∙ refusal-append (header_tests h file) rest)

    pub is-rejected : (r : Refusal) → header_read (header_fields file) file ≡ Err r → reading file ≡ Err r
    unfolding header_read
    is-rejected r e = reading-is ∙ rw (read-rejected (first_refusal (header_tests (header_fields file) file)) _ e)

    -- a file whose header is right
    module _ (s : Size) (e : header_read (header_fields file) file ≡ Ok s) where
      head : (first_refusal (header_tests (header_fields file) file) ≡ (Ok tt)) × (size_in (header_fields file) ≡ s)
      unfolding header_read
      head = read-fabric (first_refusal (header_tests (header_fields file) file)) _ e

      pub reading-rest : reading file ≡ read_as (records_of s) s
      reading-rest = reading-is ∙ ap₂ (λ (v : Result Unit Refusal) (t : Size). read_as (and_then v (records_of t)) t) head.0 head.1

      pub header-few : (s.components ≤ most_components) × (s.colours ≤ most_colours) × (s.channels ≤ most_channels) × (length file ≡ file_size s.components) × (0 < s.colours) × (0 < s.channels) × (0 < s.components)
      header-few =
          let f = header-facts (header_fields file) file head.0 in
          let a : colours_in (header_fields file) ≡ s.colours = ap (λ (t : Size). t.colours) head.1 in
          let b : channels_in (header_fields file) ≡ s.channels = ap (λ (t : Size). t.channels) head.1 in
          let c : components_in (header_fields file) ≡ s.components = ap (λ (t : Size). t.components) head.1 in
          let ca = colours_lt file in
          let cb = channels-lt file in
          (omega (arith, f.few_rows), omega arith, omega arith, omega (arith, f.long), omega arith, omega (arith, f.some_channels), omega (arith, f.some_rows))

      pub headed-facts : Headed file s
      headed-facts = let w = header-few in record { enough = l; is = e; few = w.0; few_colours = w.1; few_channels = w.2; long = w.3 }

      -- what the tests behind the header come to is what reading comes to
      pub rest-refused : {r : Refusal} → records_of s ≡ Err r → Err r ≡ reading file
      rest-refused r = sym (reading-rest ∙ rw r)

      pub rest-passed : records_of s ≡ Ok tt → Ok s ≡ reading file
      rest-passed r = sym (reading-rest ∙ rw r)

      -- and then all that an accepted fabric gives holds
      pub fabric-facts : (ends order : List ℕ) → s.components ≤ first_bad_record s.colours s.channels file (open_table file s.components) s.components
          → SoundWires (open_table file s.components) s.components s.channels ends order → AcceptedFabric (netlist_of s (open_table file s.components)) ends order
      fabric-facts ends order a wires =
          let w = header-few in
          record {
            some_colours = w.4;
            few_colours = w.1;
            some_channels = w.5;
            few_channels = w.2;
            some_rows = w.6;
            few_rows = w.0;
            long = length-rows file s.components;
            rows = λ k h. row-facts s.colours s.channels (row (open_table file s.components) k) w.4 w.1 w.5 (mask-byte file s.components k h) (good-records s.colours s.channels s.components file (open_table file s.components) a k h).1;
            wires = wires;
          }

-- what the header's fields come to
module _ (file : List ℕ) (l : header_size ≤ length file) where
  refused_as : (r : Result Size Refusal) → header_read (header_fields file) file ≡ r → IfErr r (λ refusal. reading file ≡ Err refusal)
  refused_as (Ok s) e = tt
  refused_as (Err r) e = is-rejected file l r e

  read_right : (r : Result Size Refusal) → header_read (header_fields file) file ≡ r → IfOk r (λ size. Headed file size)
  read_right (Ok s) e = headed-facts file l s e
  read_right (Err r) e = tt

  module _ {h : List ℕ} {r : Result Size Refusal} (eh : h ≡ header_fields file) (er : r ≡ header_read h file) where
    pub size_refused : IfErr r (λ refusal. reading file ≡ Err refusal)
    size_refused = refused_as r (sym (rw eh at er))

    pub size_read : IfOk r (λ size. Headed file size)
    size_read = read_right r (sym (rw eh at er))

-- ---- the ways through a file whose header is right, with the rows that were laid down
abbrev laid_rows : Size → List ℕ → List ℕ
laid_rows s after = take (row_size * s.components) after

abbrev pub bad : List ℕ → Size → List ℕ → ℕ → Bool
bad file s after = bad_record s.colours s.channels file (laid_rows s after)

module _ (file : List ℕ) {s : Size} (h : Headed file s) (before : List ℕ) {after : List ℕ} (laid : after ≡ open_table file s.components ++ drop (row_size * s.components) before) where
  -- the rows stand in front
  pub rows_front : laid_rows s after ≡ open_table file s.components
  rows_front = ap (take (row_size * s.components)) laid ∙ take_at (open_table file s.components) (drop (row_size * s.components) before) (row_size * s.components) (length-rows file s.components)

  pub rows_long : length (laid_rows s after) ≡ row_size * s.components
  rows_long = ap length rows_front ∙ length-rows file s.components

  same : first_bad_record s.colours s.channels file (laid_rows s after) s.components ≡ first_bad_record s.colours s.channels file (open_table file s.components) s.components
  same = ap (λ u. first_bad_record s.colours s.channels file u s.components) rows_front

  module _ {found : Option ℕ} (is : found ≡ first (bad file s after) s.components) where
    pub read_field : {k : ℕ} → found ≡ Some k → Err (BadField k) ≡ reading file
    unfolding first_bad_record
    read_field {k} e =
        let w = first_least (bad file s after) s.components k (sym is ∙ e) in
        rest-refused file h.enough s h.is (field-refused s.colours s.channels s.components file (open_table file s.components) k (sym w.1 ∙ same) w.0)

    module _ (none : found ≡ None) where
      all : s.components ≤ first_bad_record s.colours s.channels file (laid_rows s after) s.components
      unfolding first_bad_record
      all = omega (arith, none_least (bad file s after) s.components (sym is ∙ none))

      all-open : s.components ≤ first_bad_record s.colours s.channels file (open_table file s.components) s.components
      all-open = rw same at all

      pub read_kinds : Kinds (laid_rows s after) s.components
      read_kinds = table-kinds s.colours s.channels s.components file (laid_rows s after) h.few rows_long all

      pub read_miswired : {m : Miswired} {r : Result Fabric Refusal} → Err m ≡ wired (laid_rows s after) s.components s.channels → r ≡ Err (refusal_of m) → size_of r ≡ reading file
      read_miswired e er = ap size_of er ∙ rest-refused file h.enough s h.is (wires-refused s.colours s.channels s.components file (open_table file s.components) _ refl all-open (rw rows_front at e))

      pub read_passed : Ok tt ≡ wired (laid_rows s after) s.components s.channels → Ok s ≡ reading file
      read_passed e = rest-passed file h.enough s h.is (wires-passed s.colours s.channels s.components file (open_table file s.components) _ refl all-open (rw rows_front at e))

      pub read_facts : {ends order : List ℕ} → SoundWires (laid_rows s after) s.components s.channels ends order → AcceptedFabric (netlist_of s (laid_rows s after)) ends order
      read_facts w = rw rows_front (fabric-facts file h.enough s h.is _ _ all-open (rw rows_front at w))

      pub netlist_holds : {ends order : List ℕ} → SoundWires (laid_rows s after) s.components s.channels ends order → ∥ AcceptedNetlist (netlist_of s (laid_rows s after)) ∥₁
      netlist_holds w = ∣ record { ends = _; order = _; facts = read_facts w } ∣₁

      pub fabric_holds : {ends order : List ℕ} → SoundWires (laid_rows s after) s.components s.channels ends order → ∥ AcceptedFabric (netlist_of s (laid_rows s after)) ends order ∥₁
      fabric_holds w = ∣ read_facts w ∣₁
