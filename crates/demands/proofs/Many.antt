-- The theorems of specs/Many.antt. Assumes nothing.
use mathlib.Core.Path.{◌≡◌, refl, ap, sym, ◌∙◌}
use mathlib.Core.Bool.{Bool, true, false, cond, not, ◌||◌, true≢false}
use mathlib.Core.List.{List}
use Prim.Native.Nat.{ℕ, zero, suc, ◌+◌, ◌*◌, ◌/◌, ◌%◌, ◌^◌, ◌≤◌, ◌<◌}
use native.Mathlib.Nat.{mul_left_comm}
use native.Mathlib.Omega.{arith}
use lib.Dec.{ltb, eqb}
use lib.ListN.{length, get_or, drop}
use lib.IntN.{ℤ, pos, nat_abs, ◌*ℤ◌, zero-*ℤ}
use mir.Syntax.{w64}
use mir.Val.{SFits}
use borrow.Author.Tests.{le-ltb, eq-eqb}
use Rattle.digits.specs.UpTo.{up_to}
use Rattle.digits.proofs.UpTo.{length-up_to, up_to-at}
use Rattle.integers.specs.Sum.{sum_to}
use Rattle.integers.proofs.Near.{nat_abs-sum, nat_abs-mul-le, near_fits}
use Rattle.refusals.specs.Refusals.{first_refusal, outcome_number, outcome_place}
use Rattle.refusals.specs.declared.Refusal.{Refusal}
use Rattle.refusals.specs.declared.Refusal.TheVariants.{BadBlocks}
use Rattle.std.proofs.Common.{Err, Ok, Result}
use Rattle.refusals.proofs.Refusals.{and_then, cond-accepted}
use Rattle.refusals.proofs.Room.{room-last, room-given}
use Rattle.component.specs.Kind.{is_queue}
use Rattle.component.specs.Row.{kind, filling, fill_colour}
use Rattle.component.specs.Facts.{RowFacts}
use Rattle.component.specs.Limits.{most_colours, most_components}
use Rattle.component.proofs.ByKind.{is-queue}
use Rattle.netlist.specs.Netlist.{Netlist, row_of}
use Rattle.reader.specs.File.{netlist_in, file_tests}
use Rattle.reader.proofs.Opened.{after-file, rest_of, facts}
use Rattle.flows.specs.Terms.{most_terms}
use Rattle.flows.specs.Flows.{weight, entry, accepted_sum, start_count, constant}
use Rattle.flows.specs.Verdict.{bad_length, judge_tests, judged, constant_by, byte_of, weight_byte}
use Rattle.flows.proofs.Verdict.{judged-by}
use Rattle.flows.proofs.Weights.{weight-other}
use Rattle.checking.specs.Check.{check_tests, check_verdict, check_constant}
use Rattle.blocks.specs.Blocks.{block, blocks, bad_blocks, each_block, Fills}
use Rattle.blocks.proofs.Blocks.{filled, block-length}
use Rattle.result.specs.Result.{result_size, entry_by, block_result, result_bytes, over}
use Rattle.result.proofs.Result.{Small, judged-small, length-result, length-bytes, weight-at}
use Rattle.results.proofs.Written.{each-length, each_at}
use Rattle.many.specs.Many.{many_tests, many_verdict, over_by, table_after_many, bytes_after_many}
use Rattle.stepping.proofs.Calls.{started-file}
use Rattle.demands.proofs.ReadBack.{entry-back, weight-near, entry-near}
use Rattle.demands.proofs.Demands.{checked, weights_read, sums-read}
use Rattle.demands.specs.Many.{Alone, EachAlone, NoSuchRefusal, BlockAccepted, BlockSums, block_bytes, block_entries}

-- ---- what the number of a block's verdict says
module _ (f : Netlist) (p : List ℕ) where
  -- number 0 is Accepted
  judged-zero : outcome_number (judged f p) ≡ 0 → judged f p ≡ Ok tt
  judged-zero =
      judged-by f p (λ v. outcome_number v ≡ 0 → v ≡ Ok tt) (λ e z. absurd (omega arith)) (λ k l z. absurd (omega arith)) (λ v l z. absurd (omega arith)) (λ z. absurd (omega arith)) (λ z. refl)

  -- where its length is right, its number is neither 11 nor 23
  judged-numbers : bad_length p ≡ false → (outcome_number (judged f p) ≡ 11 → ⊥) × (outcome_number (judged f p) ≡ 23 → ⊥)
  judged-numbers right =
      judged-by f p (λ v. (outcome_number v ≡ 11 → ⊥) × (outcome_number v ≡ 23 → ⊥)) (λ e. absurd (true≢false (sym e ∙ right))) (λ k l. ((λ z. omega arith), (λ z. omega arith)))
      (λ v l. ((λ z. omega arith), (λ z. omega arith))) ((λ z. omega arith), (λ z. omega arith)) ((λ z. omega arith), (λ z. omega arith))

-- ---- the entries of a result fit 64 bits
module _ (f : Netlist) (p : List ℕ) (rows : (q : ℕ) → q < f.components → RowFacts f.colours f.channels (row_of f q)) (few : f.components ≤ most_components) (narrow : f.colours ≤ most_colours) where
  product-near : judged f p ≡ Ok tt → (q d : ℕ) → q < f.components → nat_abs (weight f p q d *ℤ pos (start_count f q d)) ≤ 2 ^ 46
  product-near ok q d l = by_kind (is_queue (kind (row_of f q))) refl
    where
      at_most : (b : Bool) → filling (row_of f q) ≤ 63 → cond b (filling (row_of f q)) 0 ≤ 63
      at_most true h = h
      at_most false h = omega arith

      by_kind : (b : Bool) → is_queue (kind (row_of f q)) ≡ b → nat_abs (weight f p q d *ℤ pos (start_count f q d)) ≤ 2 ^ 46
      by_kind true e =
          let k = is-queue (kind (row_of f q)) e in
          let n : start_count f q d ≤ 63 = at_most (eqb d (fill_colour (row_of f q))) (omega (arith, (rows q l).fillings k, ((rows q l).capacities k).1)) in
          omega (arith, nat_abs-mul-le (weight f p q d) (pos (start_count f q d)) (2 ^ 40) 63 (weight-near f p ok q d) n)
      by_kind false e =
          let z : weight f p q d *ℤ pos (start_count f q d) ≡ pos 0 = ap (λ (w : ℤ). w *ℤ pos (start_count f q d)) (weight-other f p q d e) ∙ zero-*ℤ (pos (start_count f q d)) in
          omega (arith, ap nat_abs z)

  constant-near : (v : Result Unit Refusal) → v ≡ judged f p → nat_abs (constant_by v f p) ≤ 2 ^ 56
  unfolding constant_by constant accepted_sum
  constant-near (Ok tt) e =
      omega (
        arith,
        nat_abs-sum f.components (2 ^ 49) (λ q. sum_to f.colours (λ d. weight f p q d *ℤ pos (start_count f q d)))
            (λ q l. omega (arith, nat_abs-sum f.colours (2 ^ 46) (λ d. weight f p q d *ℤ pos (start_count f q d)) (λ d m. product-near (sym e) q d l))),
      )
  constant-near (Err r) e = omega arith

  entry-by-near : (v : Result Unit Refusal) → v ≡ judged f p → (u : ℕ) → nat_abs (entry_by v f p u) ≤ 2 ^ 56
  unfolding entry_by
  entry-by-near (Ok tt) e u = omega (arith, entry-near f p (sym e) u)
  entry-by-near (Err r) e u = omega arith

  result_fits : Small (judged f p) → (i : ℕ) → i < result_size f → SFits w64 (get_or (block_result f p) i (pos 0))
  unfolding block_result result_size
  result_fits s i l = near_fits (get_or (block_result f p) i (pos 0)) (2 ^ 56) (near i l) (omega arith)
    where
      near : (i : ℕ) → i < result_size f → nat_abs (get_or (block_result f p) i (pos 0)) ≤ 2 ^ 56
      near zero l = omega (arith, s.number)
      near (suc zero) l = omega (arith, s.place)
      near (suc (suc zero)) l = constant-near (judged f p) refl
      near (suc (suc (suc u))) l = omega (arith, ap nat_abs (up_to-at (entry_by (judged f p) f p) (pos 0) (8 * f.components) u (omega arith)), entry-by-near (judged f p) refl u)

-- ---- a proposal for an accepted fabric, with space given
module _ (fabric p : List ℕ) (ok : first_refusal (file_tests fabric) ≡ Ok tt) where
  abbrev f : Netlist
  f = netlist_in fabric

  verdict-alone : (space : ℕ) → 8 * f.components ≤ space → check_verdict fabric p space ≡ judged f p
  unfolding check_verdict judged
  verdict-alone space room =
      rest_of fabric ok (check_tests f p space) ∙ sym (room-last (judge_tests f p) space (8 * f.components)) ∙ ap (and_then (judged f p)) (room-given space (8 * f.components) room)
      ∙ then-none (judged f p)
    where
      then-none : (v : Result Unit Refusal) → and_then v (Ok tt) ≡ v
      then-none (Ok tt) = refl
      then-none (Err r) = refl

  -- entries that are those of its result
  alone : (entries : ℕ → ℤ) → ((i : ℕ) → i < result_size f → entries i ≡ get_or (block_result f p) i (pos 0)) → Alone fabric p entries
  unfolding block_result result_size check_constant entry_by
  alone entries is = record {
    number = λ space room. is 0 (omega arith) ∙ sym (ap (λ (v : Result Unit Refusal). pos (outcome_number v)) (verdict-alone space room));
    place = λ space room. is 1 (omega arith) ∙ sym (ap (λ (v : Result Unit Refusal). pos (outcome_place v)) (verdict-alone space room));
    constant = λ space room. is 2 (omega arith) ∙ sym (ap (λ (v : Result Unit Refusal). constant_by v f p) (verdict-alone space room));
    weights = λ table accepted u l. weighed u l (checked fabric p (length table) accepted) ∙ sym (weights_read.1 fabric p table accepted u l);
    zeros = λ space room r e u l. zero-weight u l r (sym (verdict-alone space room) ∙ e);
  }
    where
      weighed : (u : ℕ) → u < 8 * f.components → judged f p ≡ Ok tt → entries (3 + u) ≡ entry f p u
      weighed u l e = is (3 + u) (omega arith) ∙ weight-at f p u l ∙ ap (λ (v : Result Unit Refusal). entry_by v f p u) e

      zero-weight : (u : ℕ) → u < 8 * f.components → (r : Refusal) → judged f p ≡ Err r → entries (3 + u) ≡ pos 0
      zero-weight u l r e = is (3 + u) (omega arith) ∙ weight-at f p u l ∙ ap (λ (v : Result Unit Refusal). entry_by v f p u) e

-- ---- what an accepted call gives
module _ (fabric file : List ℕ) (space : ℕ) (accepted : many_verdict fabric file space ≡ Ok tt) where
  fabric-accepted : first_refusal (file_tests fabric) ≡ Ok tt
  unfolding many_verdict
  fabric-accepted = (after-file fabric (many_tests (netlist_in fabric) file space) accepted).0

  file-filled : Fills file (blocks file)
  unfolding many_verdict
  file-filled = filled file (cond-accepted BadBlocks (bad_blocks file) _ (after-file fabric (many_tests (netlist_in fabric) file space) accepted).1).0

  block-short : (b : ℕ) → b < blocks file → length (block file b) ≤ 4 * most_terms
  block-short b l = omega (arith, block-length file-filled b l, file-filled.short b l)

  -- an entry of a block's result fits
  block-fits : (b : ℕ) → b < blocks file → (i : ℕ) → i < result_size (netlist_in fabric) → SFits w64 (get_or (block_result (netlist_in fabric) (block file b)) i (pos 0))
  block-fits b l =
      let x = (facts fabric fabric-accepted).2 in
      result_fits (netlist_in fabric) (block file b) x.rows x.few_rows x.few_colours (judged-small (netlist_in fabric) (block file b) x.few_channels (block-short b l))

-- ---- what is read of the results
byte_at : (f : Netlist) (p : List ℕ) (i : ℕ) → i < result_size f → (j : ℕ) → j < 8 → get_or (result_bytes f p) (8 * i + j) 0 ≡ byte_of (get_or (block_result f p) i (pos 0)) j
unfolding result_bytes
byte_at f p i h j m =
    let d : (8 * i + j) / 8 ≡ i = omega arith in
    let r : (8 * i + j) % 8 ≡ j = omega arith in
    up_to-at (weight_byte (λ k. get_or (block_result f p) k (pos 0))) 0 (8 * result_size f) (8 * i + j) (omega arith) ∙ ap (λ (k : ℕ). byte_of (get_or (block_result f p) k (pos 0)) ((8 * i + j) % 8)) d
    ∙ ap (byte_of (get_or (block_result f p) i (pos 0))) r

module _ (fabric file : List ℕ) (b : ℕ) (l : b < blocks file) (i : ℕ) (h : i < result_size (netlist_in fabric)) where
  table-entry : (table : List ℤ) → many_verdict fabric file (length table) ≡ Ok tt → block_entries fabric file table b i ≡ get_or (block_result (netlist_in fabric) (block file b)) i (pos 0)
  unfolding table_after_many over_by over
  table-entry table ok =
      let g = block_result (netlist_in fabric) in
      let n : ℕ = blocks file in
      ap (λ (v : Result Unit Refusal). get_or (over_by v (each_block g file n) table) (b * result_size (netlist_in fabric) + i) (pos 0)) ok
      ∙ ap (λ (k : ℕ). get_or (over (each_block g file n) table) (k + i) (pos 0)) (sym (each-length g (result_size (netlist_in fabric)) (length-result (netlist_in fabric)) file b))
      ∙ each_at g (result_size (netlist_in fabric)) (length-result (netlist_in fabric)) file (pos 0) n b i l h (drop (length (each_block g file n)) table)

  bytes-entry : (bytes : List ℕ) → many_verdict fabric file (length bytes / 8) ≡ Ok tt → block_bytes fabric file bytes b i ≡ get_or (block_result (netlist_in fabric) (block file b)) i (pos 0)
  unfolding bytes_after_many over_by over
  bytes-entry bytes ok = entry-back (bytes_after_many fabric file bytes) (b * size + i) z (block-fits fabric file (length bytes / 8) ok b l i h) at
    where
      size : ℕ
      size = result_size (netlist_in fabric)

      z : ℤ
      z = get_or (block_result (netlist_in fabric) (block file b)) i (pos 0)

      at : (j : ℕ) → j < 8 → get_or (bytes_after_many fabric file bytes) (8 * (b * size + i) + j) 0 ≡ byte_of z j
      at j m =
          let g = result_bytes (netlist_in fabric) in
          let n : ℕ = blocks file in
          let e : length (each_block g file b) + (8 * i + j) ≡ 8 * (b * size + i) + j = omega (arith, each-length g (8 * size) (length-bytes (netlist_in fabric)) file b, mul_left_comm b 8 size) in
          ap (λ (v : Result Unit Refusal). get_or (over_by v (each_block g file n) bytes) (8 * (b * size + i) + j) 0) ok ∙ ap (λ (k : ℕ). get_or (over (each_block g file n) bytes) k 0) (sym e)
          ∙ each_at g (8 * size) (length-bytes (netlist_in fabric)) file 0 n b (8 * i + j) l (omega arith) (drop (length (each_block g file n)) bytes) ∙ byte_at (netlist_in fabric) (block file b) i h j m

pub each_alone : EachAlone
each_alone = (
  (λ fabric file bytes ok b l. alone fabric (block file b) (fabric-accepted fabric file (length bytes / 8) ok) (block_bytes fabric file bytes b) (λ i h. bytes-entry fabric file b l i h bytes ok)),
  (λ fabric file table ok b l. alone fabric (block file b) (fabric-accepted fabric file (length table) ok) (block_entries fabric file table b) (λ i h. table-entry fabric file b l i h table ok)),
)

pub no_such_refusal : NoSuchRefusal
no_such_refusal fabric file space ok b l s room =
    let p : List ℕ = block file b in
    let v = verdict-alone fabric p (fabric-accepted fabric file space ok) s room in
    let whole : length p % 4 ≡ 0 = omega (arith, block-length (file-filled fabric file space ok) b l) in
    let right : bad_length p ≡ false = ap (λ (x : Bool). not x || ltb (4 * most_terms) (length p)) (eq-eqb (length p % 4) 0 whole) ∙ le-ltb (4 * most_terms) (length p) (block-short fabric file space ok b l) in
    let n = judged-numbers (netlist_in fabric) p right in
    ((λ e. n.0 (ap outcome_number (sym v ∙ e))), (λ e. n.1 (ap outcome_number (sym v ∙ e))))

pub block_accepted : BlockAccepted
block_accepted fabric p entries ok a zero_number space room =
    let v = verdict-alone fabric p ok space room in
    v ∙ judged-zero (netlist_in fabric) p (sym (ap outcome_number v) ∙ sym (ap nat_abs (a.number space room)) ∙ ap nat_abs zero_number)

pub block_sums : BlockSums
block_sums fabric p entries a zero_number state began calls =
    let f : Netlist = netlist_in fabric in
    let table : List ℤ = up_to (8 * f.components) (λ u. pos 0) in
    let room : 8 * f.components ≤ length table = omega (arith, length-up_to (λ (u : ℕ). pos 0) (8 * f.components)) in
    let accepted = block_accepted fabric p entries (started-file fabric (length state) began).0 a zero_number (length table) room in
    sums-read fabric p (length table) accepted (λ u. entries (3 + u)) (λ u l. a.weights table accepted u l ∙ weights_read.1 fabric p table accepted u l) state began calls ∙ sym (a.constant (length table) room)
