-- What pack comes to. Assumes nothing.
use Rattle.std.proofs.Common.{Option, Some, None}
use Rattle.search.specs.First.{first}
use Rattle.search.proofs.Laws.{first_least, none_least}
use Rattle.refusals.specs.declared.Refusal.{Refusal}
use Rattle.std.proofs.Common.{Result, Ok, Err}
use mathlib.Core.Path.{◌≡◌, ap, sym, ◌∙◌}
use Prim.Native.Nat.{ℕ, ◌*◌, ◌/◌, ◌%◌, ◌≤◌, ◌<◌}
use native.Mathlib.Omega.{arith}
use mathlib.Core.Bool.{Bool, true, false, not, ◌||◌}
use mathlib.Core.List.{List, [], ◌∷◌, ◌++◌}
use lib.ListN.{length, drop}
use lib.Dec.{ltb, eqb}
use borrow.Author.Tests.{eq-eqb, lt-ltb, le-ltb, eqb-true, not-false, ltb-false}
use Rattle.digits.proofs.Least.{least-before}
use Rattle.digits.proofs.Bools.{or-false}
use Rattle.refusals.specs.Refusals.{Test, test, first_refusal, kept}
use Rattle.refusals.specs.Room.{room_for}
use Rattle.refusals.specs.declared.Refusal.TheVariants.{WrongLength, CountRange, BadField, ResultSpace}
use Rattle.refusals.proofs.Refusals.{and_then, cond-accepted}
use Rattle.refusals.proofs.Room.{room-last, last-accepted}
use Rattle.record.specs.Table.{row}
use Rattle.record.specs.Sizes.{file_size, row_size}
use Rattle.component.specs.Row.{row_ok}
use Rattle.component.specs.Limits.{most_channels, most_colours, most_components}
use Rattle.component.proofs.Facts.{row-parts, kind-le}
use Rattle.wiring.specs.Stages.{Kinds, wired}
use Rattle.reader.specs.File.{bad_row, first_bad_row, wire_tests}
use Rattle.reader.specs.Stages.{wired_verdict}
use Rattle.wiring.specs.Refused.{refusal_of}
use Rattle.wiring.specs.declared.Miswired.{Miswired}
use Rattle.reader.proofs.Tests.{wire-tests, positive}
use Rattle.fabric.specs.PackedFile.{packed_file}
use Rattle.fabric.specs.Calls.{packed, packed_into}
use Rattle.fabric.specs.Stages.{table_verdict}

-- ---- the rows
module _ (colours channels n : ℕ) (table : List ℕ) where
  pub good-rows : n ≤ first_bad_row colours channels table n → (k : ℕ) → k < n → row_ok colours channels (row table k) ≡ true
  unfolding first_bad_row
  good-rows h k l = not-false _ (least-before (bad_row colours channels table) n k (omega arith))

  module _ {found : Option ℕ} (is : found ≡ first (bad_row colours channels table) n) where
    pub is_field : {k : ℕ} → found ≡ Some k → Err (BadField k) ≡ table_verdict colours channels table n
    unfolding table_verdict first_bad_row
    is_field {k} e = let w = first_least (bad_row colours channels table) n k (sym is ∙ e) in rw (w.1, lt-ltb k n w.0)

    module _ (none : found ≡ None) where
      all : n ≤ first_bad_row colours channels table n
      unfolding first_bad_row
      all = omega (arith, none_least (bad_row colours channels table) n (sym is ∙ none))

      pub row_kinds : n ≤ most_components → row_size * n ≤ length table → Kinds table n
      row_kinds few l = record { long = omega arith; few = few; kinds = λ k b. kind-le (row-parts colours channels (row table k) (good-rows all k b)) }

      judged-is : wired_verdict (wired table n channels) ≡ table_verdict colours channels table n
      unfolding table_verdict
      judged-is = wire-tests table n channels ∙ sym (rw (le-ltb (first_bad_row colours channels table n) n all))

      pub is_miswired : {m : Miswired} → Err m ≡ wired table n channels → {r : Result Unit Refusal} → r ≡ Err (refusal_of m) → r ≡ table_verdict colours channels table n
      is_miswired e er = er ∙ ap wired_verdict e ∙ judged-is

      pub is_wired : Ok tt ≡ wired table n channels → Ok tt ≡ table_verdict colours channels table n
      is_wired e = ap wired_verdict e ∙ judged-is

-- ---- the call
abbrev pub outside : ℕ → ℕ → ℕ → Bool
outside colours channels n = eqb n 0 || ltb most_components n || eqb channels 0 || ltb most_channels channels || eqb colours 0 || ltb most_colours colours

pub record Inside (colours channels n : ℕ) : Type 0 where
  pub some_rows : 0 < n
  pub few_rows : n ≤ most_components
  pub some_channels : 0 < channels
  pub few_channels : channels ≤ most_channels
  pub some_colours : 0 < colours
  pub few_colours : colours ≤ most_colours

pub inside : (colours channels n : ℕ) → outside colours channels n ≡ false → Inside colours channels n
inside c m n e =
    let s₅ = or-false (eqb n 0 || ltb most_components n || eqb m 0 || ltb most_channels m || eqb c 0) (ltb most_colours c) e in
    let s₄ = or-false (eqb n 0 || ltb most_components n || eqb m 0 || ltb most_channels m) (eqb c 0) s₅.0 in
    let s₃ = or-false (eqb n 0 || ltb most_components n || eqb m 0) (ltb most_channels m) s₄.0 in
    let s₂ = or-false (eqb n 0 || ltb most_components n) (eqb m 0) s₃.0 in
    let s₁ = or-false (eqb n 0) (ltb most_components n) s₂.0 in
    record {
      some_rows = positive n s₁.0;
      few_rows = ltb-false most_components n s₁.1;
      some_channels = positive m s₂.1;
      few_channels = ltb-false most_channels m s₃.1;
      some_colours = positive c s₄.1;
      few_colours = ltb-false most_colours c s₅.1;
    }

module _ (colours channels : ℕ) (table : List ℕ) (space : ℕ) where
  module _ (even : length table % row_size ≡ 0) where
    pub is-judged : outside colours channels (length table / row_size) ≡ false
        → and_then (table_verdict colours channels table (length table / row_size)) (room_for space (file_size (length table / row_size))) ≡ packed colours channels table space
    unfolding packed table_verdict
    is-judged h =
        let n : ℕ = length table / row_size in
        let last : List Test = test ResultSpace (ltb space (file_size n)) ∷ [] in
        let rest : List Test = test (BadField (first_bad_row colours channels table n)) (ltb (first_bad_row colours channels table n) n) ∷ wire_tests table n channels in
        let passed : first_refusal (rest ++ last) ≡ packed colours channels table space = rw (eq-eqb (length table % row_size) 0 even, h) in
        room-last rest space (file_size n) ∙ passed

    module _ (h : outside colours channels (length table / row_size) ≡ false) where
      pub judged_refused : {r : Refusal} → Err r ≡ table_verdict colours channels table (length table / row_size) → {v : Result Unit Refusal} → v ≡ Err r → v ≡ packed colours channels table space
      judged_refused e ev = ev ∙ ap (λ (v : Result Unit Refusal). and_then v (room_for space (file_size (length table / row_size)))) e ∙ is-judged h

      pub judged_room : Ok tt ≡ table_verdict colours channels table (length table / row_size) → {v : Result Unit Refusal} → v ≡ room_for space (file_size (length table / row_size)) → v ≡ packed colours channels table space
      judged_room e ev = ev ∙ ap (λ (v : Result Unit Refusal). and_then v (room_for space (file_size (length table / row_size)))) e ∙ is-judged h

  -- an accepted table
  pub record PackFacts : Type 0 where
    pub even : length table % row_size ≡ 0
    pub inside : Inside colours channels (length table / row_size)
    pub verdict : table_verdict colours channels table (length table / row_size) ≡ (Ok tt)
    pub room : file_size (length table / row_size) ≤ space

  pub pack-accepted : packed colours channels table space ≡ (Ok tt) → PackFacts
  unfolding packed table_verdict
  pack-accepted e =
      let n : ℕ = length table / row_size in
      let last : List Test = test ResultSpace (ltb space (file_size n)) ∷ [] in
      let rest : List Test = test (BadField (first_bad_row colours channels table n)) (ltb (first_bad_row colours channels table n) n) ∷ wire_tests table n channels in
      let s₁ = cond-accepted WrongLength (not (eqb (length table % row_size) 0)) _ e in
      let s₂ = cond-accepted CountRange (outside colours channels n) (first_refusal (rest ++ last)) s₁.1 in
      let s₃ = last-accepted rest space (file_size n) s₂.1 in
      record {
        even = eqb-true (length table % row_size) 0 (not-false _ s₁.0);
        inside = inside colours channels n s₂.0;
        verdict = s₃.0;
        room = s₃.1;
      }

pub file-of : (colours channels : ℕ) (table file : List ℕ) (v : Result Unit Refusal) → v ≡ packed colours channels table (length file)
    → kept v (packed_file colours channels table (length table / row_size) ++ drop (file_size (length table / row_size)) file) file ≡ packed_into colours channels table file
unfolding packed_into
file-of colours channels table file v e =
    ap (λ (x : Result Unit Refusal). kept x (packed_file colours channels table (length table / row_size) ++ drop (file_size (length table / row_size)) file) file) e
