-- Laws of the blocks of a file. Assumes nothing.
use mathlib.Core.Path.{◌≡◌, refl, sym, ap, ap₂, ◌∙◌, subst}
use mathlib.Core.Bool.{Bool, true, false, cond, not, ◌||◌, or-true, true≢false}
use mathlib.Core.List.{List}
use Prim.Native.Nat.{ℕ, zero, suc, ◌+◌, ◌*◌, ◌≤◌, ◌<◌}
use native.Mathlib.Decide.{dec_lt}
use native.Mathlib.Numerals.{add-one}
use native.Mathlib.Omega.{arith}
use lib.ListN.{length, get_or, take, drop, length-drop}
use Rattle.std.proofs.Common.{Ok, Err}
use Rattle.std.proofs.lemmas.List.{get_or-drop}
use Rattle.refusals.specs.declared.Refusal.TheVariants.{BadBlocks}
use lib.Seq.{length-take-le, drop-drop}
use borrow.Author.Tests.{ltb-false, lt-ltb, le-ltb, eqb-true, eq-eqb, ne_eqb}
use Rattle.digits.specs.Least.{least}
use Rattle.digits.proofs.Bools.{or-false}
use Rattle.digits.proofs.Least.{least_at, least-none, least-before, least-true}
use Rattle.flows.specs.Terms.{most_terms}
use Rattle.blocks.specs.Blocks.{most_blocks, term_count, block_start, block, past_end, blocks, too_many, overlong, some_overlong, not_filled, bad_blocks, blocks_found, Fills, StartsWhole, behind}

-- ---- where blocks begin
module _ (file : List ℕ) where
  pub start_none : block_start file 0 ≡ 0
  unfolding block_start
  start_none = refl

  start-suc : (b : ℕ) → block_start file (suc b) ≡ block_start file b + 2 + 4 * term_count file (block_start file b)
  unfolding block_start
  start-suc b = refl

  pub start-more : (b : ℕ) → block_start file (b + 1) ≡ block_start file b + 2 + 4 * term_count file (block_start file b)
  start-more b = ap (block_start file) (add-one b) ∙ start-suc b

  -- the count of block b, at the front of what is left
  pub count-behind : (b : ℕ) → term_count (behind file b) 0 ≡ term_count file (block_start file b)
  unfolding term_count
  count-behind b = ap₂ (λ (x y : ℕ). 256 * x + y) (get_or-drop (block_start file b) file 0 0 ∙ ap (λ (i : ℕ). get_or file i 0) (omega arith)) (get_or-drop (block_start file b) file 1 0)

  -- and what is left behind it
  pub behind-more : (b : ℕ) → drop (2 + 4 * term_count (behind file b) 0) (behind file b) ≡ behind file (b + 1)
  behind-more b = drop-drop (2 + 4 * term_count (behind file b) 0) (block_start file b) file ∙ ap (λ (i : ℕ). drop i file) (omega (arith, count-behind b, start-more b))

  start_up : (k j : ℕ) → j ≤ k → block_start file j ≤ block_start file k
  start_up zero j h =
      let e : j ≡ 0 = omega arith in
      omega (arith, ap (block_start file) e)
  start_up (suc k) j h = pick (start_up k j) (dec_lt j (suc k))
    where
      pick : (j ≤ k → block_start file j ≤ block_start file k) → Dec (j < suc k) → block_start file j ≤ block_start file (suc k)
      pick below (yes l) = omega (arith, below (omega arith), start-suc k)
      pick below (no l) =
          let e : j ≡ suc k = omega arith in
          omega (arith, ap (block_start file) e)

-- ---- the walk over the blocks: b of them lie in the file
pub record Walked (file : List ℕ) (b : ℕ) : Type 0 where
  pub few : b ≤ most_blocks
  pub inside : block_start file b ≤ length file
  pub before : (j : ℕ) → j < b → block_start file j < length file
  pub short : (j : ℕ) → j < b → term_count file (block_start file j) ≤ most_terms

none_below : (P : ℕ → Type 0) (j : ℕ) → j < 0 → P j
none_below P j l = absurd (omega arith)

-- a law of all numbers below b, and of b
one_more : (P : ℕ → Type 0) (b : ℕ) → ((j : ℕ) → j < b → P j) → P b → (j : ℕ) → j < b + 1 → P j
one_more P b h p j l = pick (dec_lt j b)
  where
    pick : Dec (j < b) → P j
    pick (yes m) = h j m
    pick (no m) =
        let e : b ≡ j = omega arith in
        subst P e p

pub walked_none : (file : List ℕ) → Walked file 0
walked_none file = record {
  few = omega arith;
  inside = omega (arith, start_none file);
  before = none_below (λ j. block_start file j < length file);
  short = none_below (λ j. term_count file (block_start file j) ≤ most_terms);
}

module _ (file : List ℕ) {b : ℕ} (w : Walked file b) where
  -- behind them begins a further block
  module _ (starts : block_start file b < length file) where
    pub walked_more : b < most_blocks → StartsWhole (behind file b) → Walked file (b + 1)
    walked_more few s =
        let l = length-drop (block_start file b) file in
        record {
          few = omega arith;
          inside = omega (arith, start-more file b, s.inside, count-behind file b, l);
          before = one_more (λ j. block_start file j < length file) b w.before starts;
          short = one_more (λ j. term_count file (block_start file j) ≤ most_terms) b w.short (omega (arith, s.short, count-behind file b));
        }

    -- all b begin in the file, and so does the next
    all_start : (j : ℕ) → j < b + 1 → past_end file j ≡ false
    all_start = one_more (λ j. past_end file j ≡ false) b
        (λ j m. ap not (lt-ltb (block_start file j) (length file) (w.before j m))) (ap not (lt-ltb (block_start file b) (length file) starts))

    counted : b < blocks file
    unfolding blocks
    counted = pick (dec_lt b (blocks file))
      where
        pick : Dec (b < least (past_end file) (suc most_blocks)) → b < least (past_end file) (suc most_blocks)
        pick (yes m) = m
        pick (no m) =
            absurd (true≢false (sym (least-true (past_end file) (suc most_blocks) (omega (arith, w.few))) ∙ all_start (least (past_end file) (suc most_blocks)) (omega arith)))

    -- 65 begin
    pub bad-many : b ≡ most_blocks → bad_blocks file ≡ true
    unfolding bad_blocks
    bad-many e = ap (λ (x : Bool). x || some_overlong file || not_filled file) (lt-ltb most_blocks (blocks file) (omega (arith, counted)))

    pub bad-count : most_terms < term_count file (block_start file b) → bad_blocks file ≡ true
    unfolding bad_blocks overlong
    bad-count c =
        ap (λ (x : Bool). too_many file || x || not_filled file) (lt-ltb (least (overlong file) (blocks file)) (blocks file) (pick (dec_lt (least (overlong file) (blocks file)) (blocks file))))
        ∙ ap (λ (x : Bool). x || not_filled file) (or-true (too_many file))
      where
        over : overlong file b ≡ true
        over = lt-ltb most_terms (term_count file (block_start file b)) c

        pick : Dec (least (overlong file) (blocks file) < blocks file) → least (overlong file) (blocks file) < blocks file
        pick (yes m) = m
        pick (no m) = absurd (true≢false (sym over ∙ least-before (overlong file) (blocks file) b (omega (arith, counted))))

    pub bad-end : b < most_blocks → length file < block_start file b + 2 + 4 * term_count file (block_start file b) → bad_blocks file ≡ true
    unfolding bad_blocks
    bad-end few e =
        let past : length file < block_start file (b + 1) = omega (arith, start-more file b) in
        let far : block_start file (b + 1) ≤ block_start file (blocks file) = start_up file (blocks file) (b + 1) (omega (arith, counted)) in
        ap (λ (x : Bool). too_many file || some_overlong file || not x) (ne_eqb (block_start file (blocks file)) (length file) (λ q. omega arith))
        ∙ or-true (too_many file || some_overlong file)

    -- it is overlong, or the file ends before it does
    pub bad-split : b < most_blocks → (StartsWhole (behind file b) → ⊥) → bad_blocks file ≡ true
    bad-split few bad = pick (dec_lt most_terms (term_count file (block_start file b))) (dec_lt (length file) (block_start file b + 2 + 4 * term_count file (block_start file b)))
      where
        pick : Dec (most_terms < term_count file (block_start file b)) → Dec (length file < block_start file b + 2 + 4 * term_count file (block_start file b)) → bad_blocks file ≡ true
        pick (yes l) e = bad-count l
        pick (no l) (yes e) = bad-end few e
        pick (no l) (no e) = absurd (bad (record { short = omega (arith, count-behind file b); inside = omega (arith, count-behind file b, length-drop (block_start file b) file) }))

  -- the walk ends with the file
  pub walked_all : length file ≤ block_start file b → blocks file ≡ b
  unfolding blocks
  walked_all l = least_at (past_end file) (suc most_blocks) b (omega (arith, w.few))
      (λ j m. ap not (lt-ltb (block_start file j) (length file) (w.before j m))) (ap not (le-ltb (block_start file b) (length file) (omega arith)))

  pub walked-good : length file ≤ block_start file b → bad_blocks file ≡ false
  unfolding bad_blocks overlong
  walked-good l =
      let n : blocks file ≡ b = walked_all l in
      let none : least (overlong file) (blocks file) ≡ blocks file = least-none (overlong file) (blocks file) (λ j m. below j (omega arith)) in
      ap (λ (x : Bool). x || some_overlong file || not_filled file) (le-ltb most_blocks (blocks file) (omega (arith, w.few)))
      ∙ ap (λ (x : Bool). x || not_filled file) (le-ltb (least (overlong file) (blocks file)) (blocks file) (omega arith))
      ∙ ap not (eq-eqb (block_start file (blocks file)) (length file) (ap (block_start file) n ∙ omega (arith, w.inside)))
    where
      below : (j : ℕ) → j < b → overlong file j ≡ false
      below j m = le-ltb most_terms (term_count file (block_start file j)) (w.short j m)

-- ---- what the walk finds: how many blocks, or 33
pub found-bad : (file : List ℕ) → bad_blocks file ≡ true → Err BadBlocks ≡ blocks_found file
found-bad file e = sym (ap (λ (x : Bool). cond x (Err BadBlocks) (Ok (blocks file))) e)

pub found-good : (file : List ℕ) {n : ℕ} → bad_blocks file ≡ false → blocks file ≡ n → Ok n ≡ blocks_found file
found-good file good e = sym (ap (λ (x : Bool). cond x (Err BadBlocks) (Ok (blocks file))) good ∙ ap (λ (m : ℕ). Ok m) e)

pub filled : (file : List ℕ) → bad_blocks file ≡ false → Fills file (blocks file)
unfolding bad_blocks overlong
filled file good =
    let a = or-false (too_many file || some_overlong file) (not_filled file) good in
    let b = or-false (too_many file) (some_overlong file) a.0 in
    let none : blocks file ≤ least (overlong file) (blocks file) = ltb-false (least (overlong file) (blocks file)) (blocks file) b.1 in
    record {
      few = ltb-false most_blocks (blocks file) b.0;
      filled = eqb-true (block_start file (blocks file)) (length file) (not-false _ a.1);
      short = λ j m. ltb-false most_terms (term_count file (block_start file j)) (least-before (overlong file) (blocks file) j (omega arith));
    }
  where
    not-false : (x : Bool) → not x ≡ false → x ≡ true
    not-false true e = refl
    not-false false e = absurd (true≢false e)

-- ---- a block of a file that its blocks fill
module _ {file : List ℕ} {n : ℕ} (f : Fills file n) (b : ℕ) (l : b < n) where
  pub block_inside : block_start file b + 2 + 4 * term_count file (block_start file b) ≤ length file
  block_inside = omega (arith, start-more file b, start_up file n (b + 1) (omega arith), f.filled)

  pub block-length : length (block file b) ≡ 4 * term_count file (block_start file b)
  unfolding block
  block-length = length-take-le (4 * term_count file (block_start file b)) (drop (block_start file b + 2) file) (omega (arith, length-drop (block_start file b + 2) file, block_inside))

-- ---- the block that is split off what is left
module _ (file : List ℕ) (b : ℕ) where
  pub split-is : take (4 * term_count (behind file b) 0) (drop 2 (behind file b)) ≡ block file b
  unfolding block
  split-is = ap₂ (λ (n : ℕ) (l : List ℕ). take (4 * n) l) (count-behind file b) (drop-drop 2 (block_start file b) file)

  -- something is left, so not all blocks are behind
  pub not-all : Fills file (blocks file) → b ≤ blocks file → StartsWhole (behind file b) → b < blocks file
  not-all f few s = pick (dec_lt b (blocks file))
    where
      pick : Dec (b < blocks file) → b < blocks file
      pick (yes l) = l
      pick (no l) =
          let e : b ≡ blocks file = omega arith in
          absurd (omega (arith, s.inside, length-drop (block_start file b) file, ap (block_start file) e, f.filled))

  -- nothing begins there, so all are
  pub all-behind : Fills file (blocks file) → b ≤ blocks file → (StartsWhole (behind file b) → ⊥) → b ≡ blocks file
  all-behind f few no-more = pick (dec_lt b (blocks file))
    where
      pick : Dec (b < blocks file) → b ≡ blocks file
      pick (yes l) = absurd (no-more (record { short = omega (arith, count-behind file b, f.short b l); inside = omega (arith, count-behind file b, block_inside f b l, length-drop (block_start file b) file) }))
      pick (no l) = omega arith
