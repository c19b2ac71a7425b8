-- What moves fits the queues: a queue's output moves only if it holds something, its input only if it has room. Assumes nothing.
use mathlib.Core.Path.{◌≡◌, refl}
use mathlib.Core.Bool.{Bool, true, false}
use mathlib.Core.List.{List, ◌++◌}
use Prim.Native.Nat.{ℕ, zero, suc, ◌+◌, ◌*◌, ◌≤◌, ◌<◌}
use native.Mathlib.Omega.{arith}
use lib.Dec.{ltb}
use lib.ListN.{length, get_or, length-drop}
use borrow.Author.Tests.{ltb-true}
use Rattle.digits.specs.UpTo.{up_to}
use Rattle.component.specs.declared.kinds.Kind.TheVariants.{Queue}
use Rattle.component.specs.declared.kinds.Port.TheVariants.{A, B}
use Rattle.component.specs.Kind.{port_use}
use Rattle.component.specs.Row.{kind, port, capacity}
use Rattle.netlist.specs.Netlist.{Netlist, row_of}
use Rattle.cells.specs.Cells.{cell, queue_colours}
use Rattle.cells.proofs.Cells.{queue-count}
use Rattle.cells.proofs.Good.{cell-long, queue-whole}
use Rattle.held.specs.Values.{bit, when, offered}
use Rattle.rules.specs.Rules.{rule}
use Rattle.held.specs.declared.Channel.{Channel}
use Rattle.signals.specs.Signals.{value, channel_of, moved}
use Rattle.signals.specs.Channels.{offer_in}
use Rattle.signals.proofs.Moves.{long, offer-is, moved-is}
use Rattle.state.proofs.Bounds.{value-le}
use Rattle.state.specs.Step.{dropped, CanStep}
use Rattle.state.specs.Updatable.{Moves, Movable, Updatable}
use Rattle.state.proofs.Transfers.{out-moves, in-moves}

pub when-open : (g v : ℕ) → 0 < when g v → (0 < g) × (0 < v)
when-open zero v h = absurd (omega arith)
when-open (suc g) v h = (omega arith, h)

flag-open : (b : Bool) → 0 < bit b → b ≡ true
flag-open true h = refl
flag-open false h = absurd (omega arith)

pub dropped-le : (g : ℕ) (cs : List ℕ) → length (dropped g cs) ≤ length cs
dropped-le zero cs = omega arith
dropped-le (suc g) cs = rw length-drop (omega arith)

offered-cases : (a b m : ℕ) → a ≤ b → (0 < m → a + 1 ≤ b) → a + offered m ≤ b
offered-cases a b zero h f = omega arith
offered-cases a b (suc m) h f = f (omega arith)

module _ (f : Netlist) (ends order state choices : List ℕ) (t : CanStep f ends order state choices) (k : ℕ) (h : k < f.components) (e : kind (row_of f k) ≡ Queue) where
  -- what moves out of a queue is its front, and it has one
  pub queue-out : moved f state choices (port (row_of f k) B) ≡ when (value f state choices (2 * port (row_of f k) B + 1)) (when (get_or (cell state k) 0 0) (suc (get_or (cell state k) 1 0)))
  unfolding rule port_use
  queue-out = rw e at (out-moves f ends order t.accepted state choices k h B (rw e))

  pub queue-in : moved f state choices (port (row_of f k) A) ≡ when (bit (ltb (get_or (cell state k) 0 0) (capacity (row_of f k)))) (value f state choices (2 * port (row_of f k) A))
  unfolding rule port_use
  queue-in = rw e at (in-moves f ends order t.accepted state choices k h A (rw e))

  pub filled : 0 < moved f state choices (port (row_of f k) B) → 0 < get_or (cell state k) 0 0
  filled l =
      let n = get_or (cell state k) 0 0 in
      let d = suc (get_or (cell state k) 1 0) in
      (when-open n d (when-open (value f state choices (2 * port (row_of f k) B + 1)) (when n d) (rw queue-out at l)).1).0

  pub roomy : 0 < moved f state choices (port (row_of f k) A) → get_or (cell state k) 0 0 < capacity (row_of f k)
  roomy l = ltb-true _ _ (flag-open _ (when-open _ _ (rw queue-in at l)).0)

  pub queue-moves : Moves (cell state k) (moved f state choices (port (row_of f k) A)) (moved f state choices (port (row_of f k) B))
  queue-moves =
      let q = queue-whole f ends order t.accepted state t.good k h e in
      let n = queue-count (cell state k) q in
      let c = (t.accepted.rows k h).capacities e in
      record {
        whole = q;
        out = λ l. omega (arith, filled l, n);
        room = offered-cases _ 63 (moved f state choices (port (row_of f k) A)) (omega (arith, few, q.fits)) (λ l. omega (arith, few, roomy l, c, n));
      }
    where
      few : length (dropped (moved f state choices (port (row_of f k) B)) (queue_colours (cell state k))) ≤ length (queue_colours (cell state k))
      few = dropped-le (moved f state choices (port (row_of f k) B)) (queue_colours (cell state k))

-- with the channels in memory, whatever stands behind them
module _ (f : Netlist) (ends order state choices : List ℕ) (t : CanStep f ends order state choices) (channels rest : List Channel) (e : channels ≡ up_to f.channels (channel_of f state choices) ++ rest) where
  pub small : (x : ℕ) → x < f.channels → offer_in channels x ≤ 255
  small x h = omega (arith, offer-is f state choices channels rest e x h, value-le f ends order state choices t (2 * x) (omega arith), t.accepted.few_colours)

  movable : (k : ℕ) → k < f.components → Movable f.table k (cell state k) channels
  movable k h =
      let inside = (t.accepted.rows k h).ports in
      let is = moved-is f state choices channels rest e in
      record {
        cells = cell-long state k f.components t.good.long h;
        ports = λ p. omega (arith, inside p, long f state choices channels rest e);
        small = λ p. small _ (inside p);
        queues = λ q. rw (is (port (row_of f k) A) (inside A), is (port (row_of f k) B) (inside B)) (queue-moves f ends order state choices t k h q);
      }

  pub updatable : Updatable f.table f.components state channels
  updatable = record {
    few = t.accepted.few_rows;
    states = t.good.long;
    each = movable;
  }
