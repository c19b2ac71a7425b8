-- Result after result, written over lent memory. Assumes nothing.
use mathlib.Core.Path.{◌≡◌, refl, sym, subst, ap, ap₂, ◌∙◌}
use mathlib.Core.List.{List, [], ◌∷◌, ◌++◌, append_assoc}
use Prim.Native.Nat.{ℕ, zero, suc, ◌+◌, ◌*◌, ◌≤◌, ◌<◌}
use native.Mathlib.Nat.{zero-mul, suc-mul, mul-le-mul_right}
use native.Mathlib.Numerals.{add-one}
use native.Mathlib.Decide.{dec_lt}
use native.Mathlib.Omega.{arith}
use lib.ListN.{length, get_or, take, drop, length-append, length-drop, get_or-append}
use lib.Seq.{take_at, drop_at, drop-drop, get_or-append-add}
use lib.IntN.{ℤ}
use mathlib.Core.Bool.{false}
use native.Mathlib.Nat.{mul-le-mul_left}
use Rattle.blocks.specs.Blocks.{term_count, block, blocks, bad_blocks, each_block, behind, StartsWhole, IsSplit}
use Rattle.blocks.proofs.Blocks.{start_none, filled, split-is, not-all, all-behind, behind-more}
use Rattle.netlist.specs.Netlist.{Netlist}
use Rattle.judgement.specs.Memory.{bytes_of}
use Rattle.judgement.specs.MemoryLaws.{bytes_more}
use Rattle.result.specs.Result.{block_result, result_bytes, over}
use Rattle.result.proofs.Result.{result-bytes}

pub length_over : {X : Type 0} (new old : List X) → length new ≤ length old → length (over new old) ≡ length old
unfolding over
length_over new old h = length-append new (drop (length new) old) ∙ omega (arith, length-drop (length new) old)

-- ---- what g gives for each block
each_none : {X : Type 0} (g : List ℕ → List X) (file : List ℕ) → each_block g file 0 ≡ []
unfolding each_block
each_none g file = refl

over_none : {X : Type 0} (g : List ℕ → List X) (file : List ℕ) (l : List X) → l ≡ over (each_block g file 0) l
unfolding each_block over
over_none g file l = refl

module _ {X : Type 0} (g : List ℕ → List X) (size : ℕ) (sized : (p : List ℕ) → length (g p) ≡ size) (file : List ℕ) where
  each-is : (n : ℕ) → each_block g file (suc n) ≡ each_block g file n ++ g (block file n)
  unfolding each_block
  each-is n = refl

  each-suc : (n : ℕ) → length (each_block g file (suc n)) ≡ length (each_block g file n) + size
  unfolding each_block
  each-suc n = length-append (each_block g file n) (g (block file n)) ∙ ap (λ (k : ℕ). length (each_block g file n) + k) (sized (block file n))

  pub each-length : (n : ℕ) → length (each_block g file n) ≡ n * size
  unfolding each_block
  each-length zero = sym (zero-mul size)
  each-length (suc n) = each-suc n ∙ ap (λ (k : ℕ). k + size) (each-length n) ∙ sym (suc-mul n size)

  -- what stands where
  pub each_at : (d : X) (n b i : ℕ) → b < n → i < size → (rest : List X) → get_or (each_block g file n ++ rest) (length (each_block g file b) + i) d ≡ get_or (g (block file b)) i d
  each_at d zero b i l h rest = absurd (omega arith)
  each_at d (suc n) b i l h rest =
      ap (λ (x : List X). get_or (x ++ rest) (length (each_block g file b) + i) d) (each-is n)
      ∙ ap (λ (x : List X). get_or x (length (each_block g file b) + i) d) (append_assoc (each_block g file n) (g (block file n)) rest) ∙ pick (each_at d n b i) (dec_lt b n)
    where
      pick : (b < n → i < size → (rest : List X) → get_or (each_block g file n ++ rest) (length (each_block g file b) + i) d ≡ get_or (g (block file b)) i d) → Dec (b < n)
          → get_or (each_block g file n ++ (g (block file n) ++ rest)) (length (each_block g file b) + i) d ≡ get_or (g (block file b)) i d
      pick below (yes m) = below m h (g (block file n) ++ rest)
      pick below (no m) =
          let e : b ≡ n = omega arith in
          rw e (get_or-append-add (each_block g file n) (g (block file n) ++ rest) i d ∙ get_or-append (g (block file n)) rest d i (omega (arith, sized (block file n))))

-- ---- the results of some blocks are written: `rest` is left of the file, they lie before place `to` of lent memory, and that was `old` at first
pub record Written {X : Type 0} (W : ℕ) (laid : List ℤ → List X) (g : List ℕ → List ℤ) (size : ℕ) (file : List ℕ) (old : List X) (rest : List ℕ) (out : List X) (to : ℕ) : Type 0 where
  pub done : ℕ
  pub few : done ≤ blocks file
  pub left : rest ≡ behind file done
  pub here : to ≡ W * (done * size)
  pub written : out ≡ over (laid (each_block g file done)) old

module _ {X : Type 0} (W : ℕ) (laid : List ℤ → List X) (more : (xs ys : List ℤ) → laid (xs ++ ys) ≡ laid xs ++ laid ys) (long : (xs : List ℤ) → length (laid xs) ≡ W * length xs)
    (g : List ℕ → List ℤ) (size : ℕ) (sized : (p : List ℕ) → length (g p) ≡ size) (file : List ℕ) (old : List X) (good : bad_blocks file ≡ false) (room : W * (blocks file * size) ≤ length old) where
  laid-none : laid [] ≡ []
  laid-none = no_length (laid []) (long [] ∙ omega arith)
    where
      no_length : (l : List X) → length l ≡ 0 → l ≡ []
      no_length [] e = refl
      no_length (x ∷ l) e = absurd (omega arith)

  laid-each : (n : ℕ) → length (laid (each_block g file n)) ≡ W * (n * size)
  laid-each n = long (each_block g file n) ∙ ap (λ (k : ℕ). W * k) (each-length g size sized file n)

  pub written_none : Written W laid g size file old file old 0
  unfolding over each_block
  written_none = record {
    done = 0;
    few = omega arith;
    left = ap (λ (i : ℕ). drop i file) (sym (start_none file));
    here = omega arith;
    written = ap (λ (l : List X). l ++ drop (length l) old) (sym laid-none);
  }

  module _ {rest : List ℕ} {out : List X} {to : ℕ} (w : Written W laid g size file old rest out to) where
    places : (n : ℕ) → n ≤ blocks file → W * (n * size) ≤ W * (blocks file * size)
    places n l = mul-le-mul_left W (mul-le-mul_right {m = n} {n = blocks file} size l)

    pub written-length : length out ≡ length old
    written-length = ap length w.written ∙ length_over (laid (each_block g file w.done)) old (omega (arith, laid-each w.done, places w.done w.few))

    -- nothing begins there: all are written
    pub written_all : (StartsWhole rest → ⊥) → out ≡ over (laid (each_block g file (blocks file))) old
    written_all no-more = w.written ∙ ap (λ (n : ℕ). over (laid (each_block g file n)) old) (all-behind file w.done (filled file good) w.few (subst (λ (l : List ℕ). StartsWhole l → ⊥) w.left no-more))

    -- a further block
    module _ (s : StartsWhole rest) {terms after : List ℕ} (split : IsSplit rest terms after) where
      inside : w.done < blocks file
      inside = not-all file w.done (filled file good) w.few (subst StartsWhole w.left s)

      is-block : terms ≡ block file w.done
      is-block = split.first ∙ ap (λ (l : List ℕ). take (4 * term_count l 0) (drop 2 l)) w.left ∙ split-is file w.done

      -- there is room for its result
      pub space : to + W * size ≤ length out
      space = omega (arith, w.here, next, places (w.done + 1) (omega (arith, inside)), room, written-length)
        where
          next : W * ((w.done + 1) * size) ≡ W * (w.done * size) + W * size
          next = omega arith

      pub written-more : {front part new : List X} → front ≡ take to out → part ≡ drop to out → new ≡ over (laid (g terms)) part → Written W laid g size file old after (front ++ new) (to + W * size)
      unfolding over each_block
      written-more {front} {part} {new} ef ep en =
          let E : List X = laid (each_block g file w.done) in
          let G : List X = laid (g (block file w.done)) in
          let at : length E ≡ to = laid-each w.done ∙ sym w.here in
          let both : E ++ G ≡ laid (each_block g file (suc w.done)) = sym (more (each_block g file w.done) (g (block file w.done))) in
          let first : front ≡ E = ef ∙ ap (take to) w.written ∙ take_at E (drop (length E) old) to at in
          let second : part ≡ drop (length E) old = ep ∙ ap (drop to) w.written ∙ drop_at E (drop (length E) old) to at in
          let third : new ≡ G ++ drop (length G) (drop (length E) old) = en ∙ ap₂ (λ (p : List ℕ) (x : List X). laid (g p) ++ drop (length (laid (g p))) x) is-block second in
          record {
            done = w.done + 1;
            few = omega (arith, inside);
            left = split.rest ∙ ap (λ (l : List ℕ). drop (2 + 4 * term_count l 0) l) w.left ∙ behind-more file w.done;
            here = omega (arith, w.here);
            written =
                ap₂ (λ (x y : List X). x ++ y) first third ∙ sym (append_assoc E G (drop (length G) (drop (length E) old)))
                ∙ ap (λ (x : List X). (E ++ G) ++ x) (drop-drop (length G) (length E) old ∙ ap (λ (n : ℕ). drop n old) (sym (length-append E G)))
                ∙ ap (λ (x : List X). x ++ drop (length x) old) both ∙ ap (λ (n : ℕ). laid (each_block g file n) ++ drop (length (laid (each_block g file n))) old) (sym (add-one w.done));
          }

-- through C: what is written are the bytes of all entries
pub each-bytes : (f : Netlist) (file : List ℕ) (n : ℕ) → bytes_of (each_block (block_result f) file n) ≡ each_block (result_bytes f) file n
unfolding each_block bytes_of
each-bytes f file zero = refl
each-bytes f file (suc n) = bytes_more (each_block (block_result f) file n) (block_result f (block file n)) ∙ ap₂ (λ (a b : List ℕ). a ++ b) (each-bytes f file n) (result-bytes f (block file n))
