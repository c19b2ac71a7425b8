-- What a good state says of a component, and which states have no bad one. Assumes nothing.
use mathlib.Core.Path.{◌≡◌, refl, ap, ◌∙◌}
use mathlib.Core.Bool.{Bool, true, not, cond}
use mathlib.Core.List.{List, [], ◌∷◌, ◌++◌}
use Prim.Native.Nat.{ℕ, zero, suc, ◌+◌, ◌-◌, ◌*◌, ◌≤◌, ◌<◌}
use native.Mathlib.Omega.{arith}
use native.Mathlib.Decide.{ℕ_discrete, dec_lt}
use lib.Dec.{ltb, eqb, lit<}
use lib.ListN.{length, get_or, take, drop, replicate, length-take, length-drop, take-append-drop, get_or-append}
use lib.Seq.{get_or-drop}
use borrow.Author.Tests.{ltb-true, leb-true, eqb-true, lt-ltb, le-ltb, le-leb, not-false}
use Rattle.digits.proofs.Bools.{and_both}
use Rattle.digits.proofs.Least.{least-none, least-before}
use Rattle.component.specs.declared.kinds.Kind.TheVariants.{Source, Queue}
use Rattle.component.specs.Row.{kind, masked, capacity}
use Rattle.netlist.specs.Netlist.{Netlist, row_of}
use Rattle.netlist.specs.Accepted.{AcceptedFabric}
use Rattle.cells.specs.Cells.{cell, queue_colours, cell_with, Queue as QueueCell, cell_size}
use Rattle.cells.specs.Good.{emitted, good_byte, all, good_cell, Good, bad_component}

pub all-at : (n : ℕ) (p : ℕ → Bool) → all n p ≡ true → (j : ℕ) → j < n → p j ≡ true
unfolding all
all-at zero p h j l = absurd (omega arith)
all-at (suc n) p h j l = go (all-at n p (and_both (all n p) (p n) h).0 j) (ℕ_discrete j n)
  where
    go : (j < n → p j ≡ true) → Dec (j ≡ n) → p j ≡ true
    go r (yes e) = rw e (and_both (all n p) (p n) h).1
    go r (no e) = r (omega arith)

pub all_of : (n : ℕ) (p : ℕ → Bool) → ((j : ℕ) → j < n → p j ≡ true) → all n p ≡ true
unfolding all
all_of zero p h = refl
all_of (suc n) p h = rw (all_of n p (λ j l. h j (omega arith)), h n (omega arith))

pub cell-long : (state : List ℕ) (k n : ℕ) → cell_size * n ≤ length state → k < n → length (cell state k) ≡ cell_size
cell-long state k n h l = simp (length-take, length-drop) (omega arith)

-- an emitted colour is one of the fabric's
pub emitted-le : (f : Netlist) (ends order : List ℕ) → AcceptedFabric f ends order → (k : ℕ) → k < f.components → (b : ℕ) → emitted (row_of f k) b ≡ true → b ≤ f.colours
emitted-le f ends order a k h zero e = omega arith
emitted-le f ends order a k h (suc d) e =
    (a.rows k h).masks d (ltb-true d 8 (and_both (ltb d 8) (masked (row_of f k) d) e).0) (and_both (ltb d 8) (masked (row_of f k) d) e).1

module _ (f : Netlist) (state : List ℕ) (g : Good f state) (k : ℕ) (h : k < f.components) where
  pub good-byte : (j : ℕ) → j < cell_size → good_byte (kind (row_of f k)) (row_of f k) f.colours (get_or (cell state k) 0 0) j (get_or (cell state k) j 0) ≡ true
  unfolding good_cell
  good-byte j l = all-at cell_size (λ j. good_byte (kind (row_of f k)) (row_of f k) f.colours (get_or (cell state k) 0 0) j (get_or (cell state k) j 0)) (g.each k h) j l

  pub source-held : kind (row_of f k) ≡ Source → emitted (row_of f k) (get_or (cell state k) 0 0) ≡ true
  unfolding good_byte
  source-held e = rw e at (good-byte 0 (lit< tt))

  pub queue-count-le : kind (row_of f k) ≡ Queue → get_or (cell state k) 0 0 ≤ capacity (row_of f k)
  unfolding good_byte
  queue-count-le e = leb-true _ _ (rw e at (good-byte 0 (lit< tt)))

  pub queue-byte : kind (row_of f k) ≡ Queue → (j : ℕ) → j < 63 → cond (ltb j (get_or (cell state k) 0 0)) (ltb (get_or (cell state k) (suc j) 0) f.colours) (eqb (get_or (cell state k) (suc j) 0) 0) ≡ true
  unfolding good_byte
  queue-byte e j l = rw e at (good-byte (suc j) (omega arith))

  pub queue-colour : kind (row_of f k) ≡ Queue → (j : ℕ) → j < 63 → j < get_or (cell state k) 0 0 → get_or (cell state k) (suc j) 0 < f.colours
  queue-colour e j l m = ltb-true _ _ (rw (lt-ltb j (get_or (cell state k) 0 0) m) at (queue-byte e j l))

  pub queue-rest : kind (row_of f k) ≡ Queue → (j : ℕ) → j < 63 → get_or (cell state k) 0 0 ≤ j → get_or (cell state k) (suc j) 0 ≡ 0
  queue-rest e j l m = eqb-true _ _ (rw (le-ltb j (get_or (cell state k) 0 0) m) at (queue-byte e j l))

zeros : (l : List ℕ) → ((j : ℕ) → j < length l → get_or l j 0 ≡ 0) → l ≡ replicate (length l) 0
zeros [] h = refl
zeros (x ∷ l) h = cc (h 0 (omega arith), zeros l (λ j m. h (suc j) (omega arith)))

-- a list of a count, colours and zeros is a queue's cell
whole : (s : List ℕ) → length s ≡ cell_size → get_or s 0 0 ≤ 63 → ((j : ℕ) → j < 63 → get_or s 0 0 ≤ j → get_or s (suc j) 0 ≡ 0) → QueueCell s
unfolding queue_colours cell_with
whole [] l c h = absurd (omega arith)
whole (b ∷ t) l c h = record { shape = shape; fits = omega (arith, count) }
  where
    count : length (take b t) ≡ b
    count = simp length-take (omega arith)

    rest : drop b t ≡ replicate (63 - b) 0
    rest =
        let e : length (drop b t) ≡ 63 - b = rw length-drop (omega arith) in
        zeros (drop b t) (λ j m. rw get_or-drop (h (b + j) (omega arith) (omega arith))) ∙ ap (λ (n : ℕ). replicate n 0) e

    shape : b ∷ t ≡ length (take b t) ∷ (take b t ++ replicate (63 - length (take b t)) 0)
    shape = rw (count, ← rest, take-append-drop)

pub queue-whole : (f : Netlist) (ends order : List ℕ) → AcceptedFabric f ends order → (state : List ℕ) → Good f state → (k : ℕ) → k < f.components → kind (row_of f k) ≡ Queue → QueueCell (cell state k)
queue-whole f ends order a state g k h e =
    whole (cell state k) (cell-long state k f.components g.long h) (omega (arith, queue-count-le f state g k h e, (a.rows k h).capacities e)) (queue-rest f state g k h e)

-- a state is good exactly if it is long enough and no component is bad
pub no-bad-component : (f : Netlist) (state : List ℕ) → cell_size * f.components ≤ length state → bad_component f state ≡ f.components → Good f state
unfolding bad_component
no-bad-component f state l e = record {
  long = l;
  each = λ k h. not-false _ (least-before (λ k. not (good_cell f.colours (row_of f k) (cell state k))) f.components k (rw e h));
}

pub good-no-bad : (f : Netlist) (state : List ℕ) → Good f state → bad_component f state ≡ f.components
unfolding bad_component
good-no-bad f state g = least-none (λ k. not (good_cell f.colours (row_of f k) (cell state k))) f.components (λ k h. ap not (g.each k h))

-- colours below c
pub record Below (c : ℕ) (cs : List ℕ) : Type 0 where
  pub each : (j : ℕ) → j < length cs → get_or cs j 0 < c

pub zero-at : (n j : ℕ) → ◌≡◌ {A = ℕ} (get_or (replicate n 0) j 0) 0
zero-at zero j = refl
zero-at (suc n) zero = refl
zero-at (suc n) (suc j) = zero-at n j

past : (cs : List ℕ) (n j : ℕ) → length cs ≤ j → get_or (cs ++ replicate n 0) j 0 ≡ 0
past [] n j q = zero-at n j
past (x ∷ cs) n zero q = absurd (omega arith)
past (x ∷ cs) n (suc j) q = past cs n j (omega arith)

-- the bytes of a queue with these colours are good
pub queue-good : (r : List ℕ) (c : ℕ) (cs : List ℕ) → length cs ≤ capacity r → length cs ≤ 63 → Below c cs → (j : ℕ) → j < cell_size →
    good_byte Queue r c (get_or (cell_with cs) 0 0) j (get_or (cell_with cs) j 0) ≡ true
unfolding good_byte cell_with
queue-good r c cs h f b zero l = le-leb (length cs) (capacity r) h
queue-good r c cs h f b (suc j) l = go (dec_lt j (length cs))
  where
    go : Dec (j < length cs) →
        cond (ltb j (length cs)) (ltb (get_or (cs ++ replicate (63 - length cs) 0) j 0) c) (eqb (get_or (cs ++ replicate (63 - length cs) 0) j 0) 0) ≡ true
    go (yes q) = rw (lt-ltb j (length cs) q, get_or-append cs (replicate (63 - length cs) 0) 0 j q) (lt-ltb _ _ (b.each j q))
    go (no q) = rw (le-ltb j (length cs) (omega arith), past cs (63 - length cs) j (omega arith))
