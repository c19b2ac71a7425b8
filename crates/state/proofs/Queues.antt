-- What the code does to a queue's 64 bytes. Assumes nothing.
use mathlib.Core.Path.{◌≡◌, sym, ap, ◌∙◌}
use mathlib.Core.List.{List, [], ◌∷◌, ◌++◌, append_assoc}
use Prim.Native.Nat.{ℕ, zero, suc, ◌+◌, ◌-◌, ◌≤◌, ◌<◌}
use native.Mathlib.Omega.{arith}
use native.Mathlib.Numerals.{add-one}
use native.Mathlib.Nat.{add-zero}
use lib.ListN.{length, get_or, drop, set, replicate, length-append, length-replicate, replicate-append-replicate}
use lib.Seq.{paste, set_at, drop-cons, append_snoc, set-append_seam, take_all, drop-length, set-get_or}
use Rattle.cells.specs.Cells.{queue_colours, cell_with, Queue}
use Rattle.cells.proofs.Cells.{queue-length, queue-count}
use Rattle.held.specs.Values.{offered}
use Rattle.state.specs.Step.{appended}
use Rattle.state.specs.Updatable.{newest}

-- what a queue's bytes say of themselves
pub ruleset queues = (queue-length, queue-count)

snoc-zero : (n : ℕ) → ◌≡◌ {A = List ℕ} (replicate n 0 ++ (0 ∷ [])) (replicate (suc n) 0)
snoc-zero n = replicate-append-replicate n 1 0 ∙ ap (λ (m : ℕ). replicate m 0) (add-one n)

-- all bytes move one place to the front, the last is 0
front-law : (cs : List ℕ) → 0 < length cs → length cs ≤ 63 →
    set (set (paste (cell_with cs) 1 (drop 2 (cell_with cs)) 62) 63 0) 0 (get_or (cell_with cs) 0 0 - 1) ≡ cell_with (drop 1 cs)
unfolding cell_with
front-law [] h f = absurd (omega arith)
front-law (c ∷ cs) h f =
    let e : suc (length cs) - 1 ≡ length cs = omega arith in
    let g : 63 - length cs ≡ suc (62 - length cs) = omega arith in
    let i : 63 - suc (length cs) ≡ 62 - length cs = omega arith in
    let t : List ℕ = cs ++ replicate (62 - length cs) 0 in
    let l : length t ≡ 62 = length-append cs (replicate (62 - length cs) 0) ∙ rw length-replicate (omega arith) in
    let w : drop 62 (c ∷ t) ≡ get_or (c ∷ t) 62 0 ∷ [] = drop-cons (c ∷ t) 62 0 (omega arith) ∙ ap (λ (m : List ℕ). get_or (c ∷ t) 62 0 ∷ m) (drop-end t l) in
    let x : set (t ++ (get_or (c ∷ t) 62 0 ∷ [])) 62 0 ≡ t ++ (0 ∷ []) = set_at t (get_or (c ∷ t) 62 0) [] 0 62 l in
    let y : t ++ (0 ∷ []) ≡ cs ++ replicate (suc (62 - length cs)) 0 = append_assoc cs (replicate (62 - length cs) 0) (0 ∷ []) ∙ ap (λ (m : List ℕ). cs ++ m) (snoc-zero (62 - length cs)) in
    rw (e, i, g, take_all 62 t (omega (arith, l)), w) (ap (λ (m : List ℕ). length cs ∷ m) (x ∙ y))
  where
    drop-end : (t : List ℕ) → length t ≡ 62 → drop 62 t ≡ []
    drop-end t l = ap (λ (n : ℕ). drop n t) (sym l) ∙ drop-length t

pub cell-dropped : (q : List ℕ) → Queue q → 0 < length (queue_colours q) →
    set (set (paste q 1 (drop 2 q) 62) 63 0) 0 (get_or q 0 0 - 1) ≡ cell_with (drop 1 (queue_colours q))
cell-dropped q z h =
    ap (λ (l : List ℕ). set (set (paste l 1 (drop 2 l) 62) 63 0) 0 (get_or l 0 0 - 1)) z.shape ∙ front-law (queue_colours q) h z.fits

back-law : (cs : List ℕ) (d : ℕ) → length cs < 63 →
    set (set (cell_with cs) (get_or (cell_with cs) 0 0 + 1) d) 0 (get_or (cell_with cs) 0 0 + 1) ≡ cell_with (cs ++ (d ∷ []))
unfolding cell_with
back-law cs d f =
    let g : 63 - length cs ≡ suc (63 - suc (length cs)) = omega arith in
    let l : length (cs ++ (d ∷ [])) ≡ suc (length cs) = length-append cs (d ∷ []) ∙ add-one (length cs) in
    rw (l, g, add-one, append_snoc) (ap (λ (l : List ℕ). suc (length cs) ∷ l) (set-append_seam cs 0 (replicate (63 - suc (length cs)) 0) d))

pub cell-appended : (q : List ℕ) (d : ℕ) → Queue q → length (queue_colours q) < 63 → set (set q (get_or q 0 0 + 1) d) 0 (get_or q 0 0 + 1) ≡ cell_with (queue_colours q ++ (d ∷ []))
cell-appended q d z h = ap (λ (l : List ℕ). set (set l (get_or l 0 0 + 1) d) 0 (get_or l 0 0 + 1)) z.shape ∙ back-law (queue_colours q) d h

-- what came in, written behind the last colour; nothing, and the last byte written anew
pub cell-came : (q : List ℕ) (ma : ℕ) → Queue q → length (queue_colours q) + offered ma ≤ 63 →
    set (set q (get_or q 0 0 + offered ma) (newest ma (get_or q (get_or q 0 0 + offered ma) 0))) 0 (get_or q 0 0 + offered ma) ≡ cell_with (appended ma (queue_colours q))
cell-came q zero z h = rw (add-zero, set-get_or q (get_or q 0 0) 0, set-get_or q 0 0) z.shape
cell-came q (suc d) z h = cell-appended q d z (omega arith)
