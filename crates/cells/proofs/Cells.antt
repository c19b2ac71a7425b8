-- Laws of the bytes of several components, and of a queue's 64 bytes. Assumes nothing.
use mathlib.Core.Path.{◌≡◌, refl, sym, ap, ◌∙◌}
use mathlib.Core.List.{List, ◌++◌, append_assoc}
use Prim.Native.Nat.{ℕ, zero, suc, ◌+◌, ◌-◌, ◌*◌, ◌≤◌, ◌<◌}
use native.Mathlib.Omega.{arith}
use native.Mathlib.Numerals.{add-one}
use native.Mathlib.Decide.{ℕ_discrete}
use lib.ListN.{length, get_or, take, drop, replicate, length-append, length-take, length-drop, length-replicate}
use lib.Seq.{take_at, drop_at, drop-drop, take-append_seam}
use borrow.Rule.Slice.PartMut.{put_mid, same_len_mid}
use Rattle.cells.specs.Cells.{cell, queue_colours, cell_with, cells, Queue, cell_size}

module _ (g : ℕ → List ℕ) where
  pub cells-long : (n : ℕ) → ((k : ℕ) → k < n → length (g k) ≡ cell_size) → length (cells g n) ≡ cell_size * n
  unfolding cells
  cells-long zero l = refl
  cells-long (suc n) l = rw (length-append, cells-long n (λ k h. l k (omega arith)), l n (omega arith)) (omega arith)

  pub cells_at : (n : ℕ) → ((k : ℕ) → k < n → length (g k) ≡ cell_size) → (rest : List ℕ) (k : ℕ) → k < n → take cell_size (drop (cell_size * k) (cells g n ++ rest)) ≡ g k
  unfolding cells
  cells_at zero l rest k h = absurd (omega arith)
  cells_at (suc n) l rest k h = rw append_assoc (go (cells_at n (λ k h. l k (omega arith)) (g n ++ rest) k) (ℕ_discrete k n))
    where
      go : (k < n → take cell_size (drop (cell_size * k) (cells g n ++ (g n ++ rest))) ≡ g k) → Dec (k ≡ n) → take cell_size (drop (cell_size * k) (cells g n ++ (g n ++ rest))) ≡ g k
      go r (yes e) =
          rw (e, drop_at (cells g n) (g n ++ rest) (cell_size * n) (cells-long n (λ k h. l k (omega arith))), take_at (g n) rest cell_size (l n (omega arith)))
      go r (no e) = r (omega arith)

pub cells-suc : (g : ℕ → List ℕ) (n : ℕ) → cells g (suc n) ≡ cells g n ++ g n
unfolding cells
cells-suc g n = refl

pub cells_same : (g h : ℕ → List ℕ) (n : ℕ) → ((k : ℕ) → k < n → g k ≡ h k) → cells g n ≡ cells h n
unfolding cells
cells_same g h zero e = refl
cells_same g h (suc n) e = rw (cells_same g h n (λ k l. e k (omega arith)), e n (omega arith))

-- ---- the loops that write component after component

-- the first k of n components are written, the rest is as it was
pub record Laid (g : ℕ → List ℕ) (n : ℕ) (state st : List ℕ) (k : ℕ) : Type 0 where
  pub few : k ≤ n
  pub long : length st ≡ length state
  pub whole : length (cells g k) ≡ cell_size * k
  pub is : st ≡ cells g k ++ drop (cell_size * k) state

pub none-laid : (g : ℕ → List ℕ) (n : ℕ) (state : List ℕ) → Laid g n state state 0
unfolding cells
none-laid g n state = record { few = omega arith; long = refl; whole = refl; is = refl }

pub all_laid : {g : ℕ → List ℕ} {n : ℕ} {state st : List ℕ} {k : ℕ} → Laid g n state st k → n ≤ k → st ≡ cells g n ++ drop (cell_size * n) state
all_laid {g} {n} {state} {st} {k} u h =
    let e : k ≡ n = omega (arith, u.few) in
    u.is ∙ ap (λ (i : ℕ). cells g i ++ drop (cell_size * i) state) e

-- one turn: a part of 64 bytes is lent and comes back as new
module _ {g : ℕ → List ℕ} {n : ℕ} {state st : List ℕ} {k : ℕ} (u : Laid g n state st k) (h : k < n) (fits : cell_size * n ≤ length state) where
  pub lent-long : length (cell st k) ≡ cell_size
  lent-long = simp (length-take, length-drop) (omega (arith, u.long))

  pub lent_is : cell st k ≡ cell state k
  lent_is = rw u.is (rw (drop_at (cells g k) (drop (cell_size * k) state) (cell_size * k) u.whole))

  pub laid_more : (new : List ℕ) → length new ≡ cell_size → new ≡ g k → Laid g n state (put_mid (cell_size * k) cell_size st new) (k + 1)
  laid_more new long e = record {
    few = omega arith;
    long = same_len_mid (cell_size * k) cell_size st new (long ∙ sym lent-long) ∙ u.long;
    whole = rw (more, length-append, u.whole, long) (omega arith);
    is = rw (u.is, more) turn;
  }
    where
      more : cells g (k + 1) ≡ cells g k ++ new
      more = ap (cells g) (add-one k) ∙ cells-suc g k ∙ ap (λ (l : List ℕ). cells g k ++ l) (sym e)

      turn : put_mid (cell_size * k) cell_size (cells g k ++ drop (cell_size * k) state) new ≡ (cells g k ++ new) ++ drop (cell_size * (k + 1)) state
      turn =
          let i : cell_size * k + cell_size ≡ cell_size * (k + 1) = omega arith in
          rw (
            take_at (cells g k) (drop (cell_size * k) state) (cell_size * k) u.whole,
            drop_at (cells g k) (drop (cell_size * k) state) (cell_size * k) u.whole,
            drop-drop cell_size (cell_size * k) state,
            i,
            append_assoc,
          )

-- ---- a queue's bytes

cell-length : (cs : List ℕ) → length cs ≤ 63 → length (cell_with cs) ≡ cell_size
unfolding cell_with
cell-length cs h = simp (length-append, length-replicate) (omega arith)

pub queue-length : (cell : List ℕ) → Queue cell → length cell ≡ cell_size
queue-length cell z = ap length z.shape ∙ cell-length (queue_colours cell) z.fits

pub queue-count : (cell : List ℕ) → Queue cell → get_or cell 0 0 ≡ length (queue_colours cell)
unfolding cell_with
queue-count cell z = ap (λ (l : List ℕ). get_or l 0 0) z.shape

pub colours-of-cell : (cs : List ℕ) → queue_colours (cell_with cs) ≡ cs
unfolding queue_colours cell_with
colours-of-cell cs = take-append_seam cs (replicate (63 - length cs) 0)

pub cell-queue : (cs : List ℕ) → length cs ≤ 63 → Queue (cell_with cs)
cell-queue cs h = record { shape = rw colours-of-cell; fits = rw colours-of-cell h }
