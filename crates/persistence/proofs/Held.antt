-- What a merge holds is offered: nothing is held at start, and what it holds after a step waited in it. Assumes nothing.
use mathlib.Core.Path.{◌≡◌, refl, sym, ◌∙◌}
use mathlib.Core.List.{List}
use Prim.Native.Nat.{ℕ, zero, suc, ◌+◌, ◌*◌, ◌<◌}
use native.Mathlib.Omega.{arith}
use lib.ListN.{get_or}
use Rattle.component.specs.declared.kinds.Kind.TheVariants.{Merge}
use Rattle.component.specs.declared.kinds.Port.{Port}
use Rattle.component.specs.declared.kinds.Port.TheVariants.{A, B, C}
use Rattle.component.specs.Kind.{port_use}
use Rattle.component.specs.Row.{kind, port}
use Rattle.netlist.specs.Netlist.{Netlist, row_of}
use Rattle.netlist.specs.Accepted.{AcceptedFabric}
use Rattle.cells.specs.Cells.{cell}
use Rattle.cells.specs.Start.{start_cell, started}
use Rattle.cells.proofs.Start.{cell-started}
use Rattle.held.specs.Values.{when, unless, offered, either}
use Rattle.held.specs.Picks.{picks_b}
use Rattle.rules.specs.Rules.{rule}
use Rattle.held.proofs.Values.{when-none}
use Rattle.signals.specs.Signals.{value}
use Rattle.signals.proofs.Signals.{value-output, value-input}
use Rattle.state.specs.Step.{cell_next, next_at, next, CanStep}
use Rattle.state.proofs.Step.{next-cell}
use Rattle.persistence.specs.Held.{HeldOffered}
use Rattle.persistence.proofs.Persistent.{persists}

-- a pick that is kept was offered and not taken
pub record Waited (t o p n : ℕ) : Type 0 where
  pub untaken : t ≡ 0
  pub some : 0 < o
  pub is : suc p ≡ n

waited : (t o p n : ℕ) → unless t (when o (suc p)) ≡ suc n → Waited t o p (suc n)
waited zero zero p n e = absurd (omega arith)
waited zero (suc o) p n e = record { untaken = refl; some = omega arith; is = e }
waited (suc t) o p n e = absurd (omega arith)

-- nothing is held at start
module _ (f : Netlist) (ends order : List ℕ) (a : AcceptedFabric f ends order) (state : List ℕ) where
  nothing : (k : ℕ) → k < f.components → kind (row_of f k) ≡ Merge → get_or (cell (started f state) k) 0 0 ≡ 0
  unfolding start_cell
  nothing k h e = rw (cell-started f ends order a state k h, e)

  pub held_start : HeldOffered f (started f state)
  held_start = record { of_a = λ k h e q c. absurd (omega (arith, nothing k h e)); of_b = λ k h e q c. absurd (omega (arith, nothing k h e)) }

module _ (f : Netlist) (ends order state choices : List ℕ) (t : CanStep f ends order state choices) where
  abbrev v : ℕ → ℕ
  v = value f state choices

  module _ (k : ℕ) (h : k < f.components) (e : kind (row_of f k) ≡ Merge) where
    abbrev row : List ℕ
    row = row_of f k

    abbrev pick : ℕ
    pick = picks_b (get_or (cell state k) 0 0) (get_or choices k 0) (v (2 * port row A)) (v (2 * port row B))

    byte : get_or (cell (next f state choices) k) 0 0 ≡ unless (v (2 * port row C + 1)) (when (v (2 * port row C)) (suc pick))
    unfolding next_at cell_next
    byte = rw (next-cell f ends order state choices t k h, e)

    offers : v (2 * port row C) ≡ either pick (v (2 * port row A)) (v (2 * port row B))
    unfolding rule port_use
    offers = rw e at (value-output f ends order t.accepted k h C state choices (rw e))

    takes-a : v (2 * port row A + 1) ≡ unless pick (when (offered (v (2 * port row A))) (v (2 * port row C + 1)))
    unfolding rule port_use
    takes-a = rw e at (value-input f ends order t.accepted k h A state choices (rw e))

    takes-b : v (2 * port row B + 1) ≡ when pick (when (offered (v (2 * port row B))) (v (2 * port row C + 1)))
    unfolding rule port_use
    takes-b = rw e at (value-input f ends order t.accepted k h B state choices (rw e))

    -- a pick that was kept: the output was offered and not taken
    kept : (n : ℕ) → get_or (cell (next f state choices) k) 0 0 ≡ suc n → Waited (v (2 * port row C + 1)) (v (2 * port row C)) pick (suc n)
    kept n q = waited (v (2 * port row C + 1)) (v (2 * port row C)) pick n (sym byte ∙ q)

    -- so the picked input waited
    waits : (p : Port) → 0 < v (2 * port row C) → v (2 * port row C) ≡ v (2 * port row p) → v (2 * port row p + 1) ≡ 0 → (later : List ℕ) → 0 < value f (next f state choices) later (2 * port row p)
    waits p l o n later = omega (arith, (persists f ends order state choices t later (port row p) ((t.accepted.rows k h).ports p)).offer n (omega (arith, o)))

    held-a : get_or (cell (next f state choices) k) 0 0 ≡ 1 → (later : List ℕ) → 0 < value f (next f state choices) later (2 * port row A)
    held-a q =
        let w = kept 0 q in
        let a : pick ≡ 0 = omega (arith, w.is) in
        waits A w.some (rw a at offers) (takes-a ∙ rw (a, w.untaken) (when-none (offered (v (2 * port row A)))))

    held-b : get_or (cell (next f state choices) k) 0 0 ≡ 2 → (later : List ℕ) → 0 < value f (next f state choices) later (2 * port row B)
    held-b q =
        let w = kept 1 q in
        let b : pick ≡ 1 = omega (arith, w.is) in
        waits B w.some (rw b at offers) (takes-b ∙ rw (b, w.untaken) (when-none (offered (v (2 * port row B)))))

  -- what is held after a step waited in it
  pub held-step : HeldOffered f (next f state choices)
  held-step = record { of_a = held-a; of_b = held-b }
