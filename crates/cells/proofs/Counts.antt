-- The counts of a queue's colours: with one more, in a good state, and after start. Assumes nothing.
use mathlib.Core.Path.{◌≡◌, refl, sym}
use mathlib.Core.Bool.{Bool, true, false, cond}
use mathlib.Core.List.{List, [], ◌∷◌, ◌++◌}
use Prim.Native.Nat.{ℕ, zero, suc, ◌+◌, ◌≤◌, ◌<◌}
use native.Mathlib.Nat.{min-le_left}
use native.Mathlib.Omega.{arith}
use lib.Dec.{eqb}
use lib.ListN.{length, get_or, take, drop, replicate, length-take}
use borrow.Author.Tests.{eqb-true, eqb-false, eq-eqb, ne_eqb}
use Rattle.component.specs.declared.kinds.Kind.TheVariants.{Queue}
use Rattle.component.specs.Row.{kind, capacity, filling, fill_colour}
use Rattle.netlist.specs.Netlist.{Netlist, row_of}
use Rattle.netlist.specs.Accepted.{AcceptedFabric}
use Rattle.cells.specs.Cells.{cell, queue_colours}
use Rattle.cells.specs.Counts.{count_in, counts}
use Rattle.cells.specs.Good.{Good}
use Rattle.cells.specs.Start.{start_cell, started}
use Rattle.cells.proofs.Cells.{colours-of-cell}
use Rattle.cells.proofs.Good.{queue-count-le}
use Rattle.cells.proofs.Start.{cell-started}

pub count-append : (cs : List ℕ) (c d : ℕ) → count_in (cs ++ (c ∷ [])) d ≡ count_in cs d + cond (eqb c d) 1 0
count-append [] c d = omega arith
count-append (x ∷ cs) c d = rw (count-append cs c d) (omega arith)

count-replicate : (n c d : ℕ) → count_in (replicate n c) d ≡ cond (eqb d c) n 0
count-replicate n c d = go (eqb d c) refl n
  where
    go : (t : Bool) → eqb d c ≡ t → (n : ℕ) → count_in (replicate n c) d ≡ cond t n 0
    go true e zero = refl
    go true e (suc n) = rw (eq-eqb c d (sym (eqb-true d c e))) (omega (arith, go true e n))
    go false e zero = refl
    go false e (suc n) = rw (ne_eqb c d (λ q. eqb-false d c e (sym q))) (omega (arith, go false e n))

count-le : (cs : List ℕ) (d : ℕ) → count_in cs d ≤ length cs
count-le [] d = omega arith
count-le (c ∷ cs) d = go (eqb c d) (count-le cs d)
  where
    go : (b : Bool) {x n : ℕ} → x ≤ n → cond b 1 0 + x ≤ suc n
    go true l = omega arith
    go false l = omega arith

-- in a good state a queue holds no more of a colour than its capacity
pub counts-le : (f : Netlist) (state : List ℕ) → Good f state → (q : ℕ) → q < f.components → kind (row_of f q) ≡ Queue → (d : ℕ) → counts state q d ≤ capacity (row_of f q)
unfolding queue_colours
counts-le f state g q h e d =
    let s : List ℕ = cell state q in
    omega (arith, count-le (take (get_or s 0 0) (drop 1 s)) d, length-take (get_or s 0 0) (drop 1 s), min-le_left (get_or s 0 0) (length (drop 1 s)), queue-count-le f state g q h e)

-- the counts after start are the fillings
pub start-counts : (f : Netlist) (ends order : List ℕ) → AcceptedFabric f ends order → (state : List ℕ) (q : ℕ) → q < f.components → kind (row_of f q) ≡ Queue → (d : ℕ) →
    counts (started f state) q d ≡ cond (eqb d (fill_colour (row_of f q))) (filling (row_of f q)) 0
unfolding start_cell
start-counts f ends order a state q h e d =
    let full = replicate (filling (row_of f q)) (fill_colour (row_of f q)) in
    rw (cell-started f ends order a state q h, e, colours-of-cell full) (count-replicate (filling (row_of f q)) (fill_colour (row_of f q)) d)
