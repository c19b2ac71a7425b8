-- From start on, every colour that moves lies in the set of its channel. Assumes nothing.
use mathlib.Core.Path.{◌≡◌, refl, sym, subst, ◌∙◌}
use mathlib.Core.Bool.{Bool, true, false, cond}
use mathlib.Core.List.{List}
use Prim.Native.Nat.{ℕ, suc, ◌+◌, ◌*◌, ◌<◌}
use native.Mathlib.Omega.{arith}
use lib.Dec.{eqb}
use lib.ListN.{get_or}
use borrow.Author.Tests.{eqb-true}
use Rattle.component.specs.declared.kinds.Kind.TheVariants.{Source, Queue}
use Rattle.component.specs.declared.kinds.Port.{Port}
use Rattle.component.specs.declared.kinds.Port.TheVariants.{A, B}
use Rattle.component.specs.Kind.{port_use, is_output, is_input}
use Rattle.component.specs.Row.{kind, port, filling, fill_colour}
use Rattle.wiring.specs.Signals.{offer_a, offer_b}
use Rattle.netlist.specs.Netlist.{Netlist, row_of}
use Rattle.netlist.specs.Accepted.{AcceptedFabric}
use Rattle.reach.specs.Reaches.{Reaches, by_queue, by_filling}
use Rattle.cells.specs.Cells.{cell}
use Rattle.cells.specs.Counts.{counts}
use Rattle.cells.specs.Start.{start_cell, started}
use Rattle.cells.proofs.Choices.{source-choice}
use Rattle.cells.proofs.Counts.{start-counts}
use Rattle.cells.proofs.Good.{cell-long}
use Rattle.cells.proofs.Start.{cell-started}
use Rattle.held.specs.Values.{bit, unless}
use Rattle.signals.specs.Signals.{near, value, moved}
use Rattle.signals.proofs.Signals.{OfRead, by-port, value-output}
use Rattle.state.specs.Step.{cell_next, next_at, next, CanStep}
use Rattle.state.proofs.Step.{next-cell}
use Rattle.balance.specs.Balance.{Balanced}
use Rattle.balance.proofs.Balanced.{balanced}
use Rattle.inside.specs.Inside.{Inside}
use Rattle.inside.proofs.Offers.{Within, when-in, unless-in, emitted-in, Has, offer-in}

-- start: the fillings, and nothing held
module _ (f : Netlist) (ends order : List ℕ) (a : AcceptedFabric f ends order) (s : List ℕ) where
  nothing : (k : ℕ) → k < f.components → kind (row_of f k) ≡ Source → get_or (cell (started f s) k) 0 0 ≡ 0
  unfolding start_cell
  nothing k h e = rw (cell-started f ends order a s k h, e)

  fills : (q : ℕ) → q < f.components → kind (row_of f q) ≡ Queue → (d : ℕ) → 0 < counts (started f s) q d → Reaches f (port (row_of f q) B) d
  fills q h e d l = go (eqb d (fill_colour (row_of f q))) refl (rw (start-counts f ends order a s q h e d) at l)
    where
      go : (b : Bool) → eqb d (fill_colour (row_of f q)) ≡ b → 0 < cond b (filling (row_of f q)) 0 → Reaches f (port (row_of f q) B) d
      go true i m = subst (Reaches f (port (row_of f q) B)) (sym (eqb-true d (fill_colour (row_of f q)) i)) (by_filling q h e m)
      go false i m = absurd (omega arith)

  pub inside-start : Inside f (started f s)
  inside-start = record { queues = fills; sources = λ k h e d q. absurd (omega (arith, nothing k h e)) }

-- a count that is above 0 after a step was so before, or the colour came in
counted : (m n i o d : ℕ) → m + bit (eqb o (suc d)) ≡ n + bit (eqb i (suc d)) → 0 < m → {P : Type 0} → (0 < n → P) → (i ≡ suc d → P) → P
counted m n i o d q l {P} was came = go (eqb i (suc d)) refl q
  where
    go : (b : Bool) → eqb i (suc d) ≡ b → m + bit (eqb o (suc d)) ≡ n + bit b → P
    go true e r = came (eqb-true i (suc d) e)
    go false e r = was (omega arith)

module _ (f : Netlist) (ends order state choices : List ℕ) (t : CanStep f ends order state choices) (i : Inside f state) where
  -- all signals
  abbrev v : ℕ → ℕ
  v = value f state choices

  -- if signal s is an offer, its colour is in the set of its channel
  abbrev InSet : ℕ → Type 0
  InSet s = (x : ℕ) → s ≡ 2 * x → Within f x (v s)

  owned : (k : ℕ) (h : k < f.components) → Has f k h (cell state k) (get_or choices k 0)
  owned k h = record {
    long = cell-long state k f.components t.good.long h;
    queued = i.queues k h;
    holds = λ e. record { each = i.sources k h e };
    chosen = λ e. emitted-in f k h ends order t.accepted e (get_or choices k 0) (source-choice f choices t.allowed k h e);
  }

  at-output : (k : ℕ) → k < f.components → (p : Port) → is_output (port_use (kind (row_of f k)) p) ≡ true → OfRead f InSet k p → InSet (2 * port (row_of f k) p)
  at-output k h p o r x q =
      let e : port (row_of f k) p ≡ x = omega arith in
      subst (λ (y : ℕ). Within f y (v (2 * port (row_of f k) p))) e
      (rw (value-output f ends order t.accepted k h p state choices o)
      (offer-in f k h (cell state k) (get_or choices k 0) (owned k h) (near (row_of f k) v) (kind (row_of f k)) refl p o (λ l. r offer_a l _ refl) (λ l. r offer_b l _ refl)))

  at-input : (k : ℕ) → k < f.components → (p : Port) → is_input (port_use (kind (row_of f k)) p) ≡ true → OfRead f InSet k p → InSet (2 * port (row_of f k) p + 1)
  at-input k h p o r x q = absurd (omega arith)

  offers : (x : ℕ) → x < f.channels → Within f x (v (2 * x))
  offers x h = by-port f ends order t.accepted InSet at-output at-input (2 * x) (omega arith) x refl

  -- every colour that is offered, and every colour that moves
  pub inside-offer : (x d : ℕ) → x < f.channels → value f state choices (2 * x) ≡ suc d → Reaches f x d
  inside-offer x d h q = (offers x h).each d q

  pub inside-moved : (x d : ℕ) → x < f.channels → moved f state choices x ≡ suc d → Reaches f x d
  unfolding moved
  inside-moved x d h q = (when-in (v (2 * x + 1)) (v (2 * x)) (offers x h)).each d q

  module _ (k : ℕ) (h : k < f.components) where
    -- what a queue counts was there or came in
    queue-step : kind (row_of f k) ≡ Queue → (d : ℕ) → 0 < counts (next f state choices) k d → Reaches f (port (row_of f k) B) d
    unfolding Balanced
    queue-step e d l =
        counted _ _ _ _ d (rw e at (balanced f ends order state choices t k h) d) l (i.queues k h e d)
        (λ q. by_queue k d h e (inside-moved (port (row_of f k) A) d ((t.accepted.rows k h).ports A) q))

    byte : kind (row_of f k) ≡ Source → get_or (cell (next f state choices) k) 0 0 ≡ unless (v (2 * port (row_of f k) A + 1)) (v (2 * port (row_of f k) A))
    unfolding next_at cell_next
    byte e = rw (next-cell f ends order state choices t k h, e)

    -- what a source holds was offered
    source-step : kind (row_of f k) ≡ Source → (d : ℕ) → get_or (cell (next f state choices) k) 0 0 ≡ suc d → Reaches f (port (row_of f k) A) d
    source-step e d q =
        let x = port (row_of f k) A in
        (unless-in (v (2 * x + 1)) (v (2 * x)) (offers x ((t.accepted.rows k h).ports A))).each d (sym (byte e) ∙ q)

  pub inside-step : Inside f (next f state choices)
  inside-step = record { queues = queue-step; sources = source-step }
