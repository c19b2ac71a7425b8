-- The state after a step, component by component; from a good state under allowed choices it is good. Assumes nothing.
use mathlib.Core.Path.{◌≡◌, refl, ap, fun_ext, ◌∙◌}
use mathlib.Core.Bool.{true}
use mathlib.Core.List.{List, [], ◌∷◌, ◌++◌}
use Prim.Native.Nat.{ℕ, zero, suc, ◌+◌, ◌*◌, ◌≤◌, ◌<◌}
use native.Mathlib.Omega.{arith}
use native.Mathlib.Numerals.{one-add}
use native.Mathlib.Decide.{dec_lt}
use lib.ListN.{length, get_or, take, drop, length-append, length-drop, get_or-append}
use lib.Seq.{get_or_at, get_or-drop, get_or-take}
use borrow.Author.Tests.{lt-ltb}
use Rattle.digits.specs.UpTo.{up_to}
use Rattle.component.specs.declared.kinds.Kind.{Kind}
use Rattle.component.specs.declared.kinds.Kind.TheVariants.{Source, Sink, Queue, Function, Fork, Join, Switch, Merge}
use Rattle.component.specs.declared.kinds.Port.TheVariants.{A, B, C}
use Rattle.component.specs.Row.{kind, port, capacity}
use Rattle.netlist.specs.Netlist.{Netlist, row_of}
use Rattle.cells.specs.Cells.{cell, queue_colours, cell_with, cell_size}
use Rattle.cells.specs.Good.{emitted, good_byte, good_cell, Good}
use Rattle.cells.proofs.Cells.{cells-long, cells_at, cells_same, queue-length, queue-count, cell-queue}
use Rattle.cells.proofs.Choices.{source-choice}
use Rattle.cells.proofs.Good.{all_of, cell-long, good-byte, source-held, queue-count-le, queue-colour, queue-whole, Below, queue-good}
use Rattle.held.specs.Values.{when, unless, offered, or_else}
use Rattle.held.specs.Picks.{picks_b}
use Rattle.held.proofs.Bounds.{when-le, unless-le, offered-le}
use Rattle.held.proofs.Picks.{picks-le}
use Rattle.held.specs.declared.Channel.{Channel}
use Rattle.signals.specs.Signals.{component_at, value, channel_of, moved}
use Rattle.signals.specs.Channels.{signal_in}
use Rattle.signals.proofs.Channels.{offer_at, take_at}
use Rattle.signals.proofs.Moves.{offer-is, take-is}
use Rattle.state.specs.Step.{dropped, appended, cell_next, offer_of, take_of, next_at, state_next, next, CanStep}
use Rattle.state.proofs.Bounds.{moved-le}
use Rattle.state.proofs.Transfers.{source-offers, sink-takes}
use Rattle.state.proofs.Updatable.{dropped-le, roomy, queue-moves}

pub appended-length : (m : ℕ) (cs : List ℕ) → length (appended m cs) ≡ length cs + offered m
appended-length zero cs = omega arith
appended-length (suc d) cs = length-append cs (d ∷ [])

held-long : (s : List ℕ) (b : ℕ) → length s ≡ cell_size → length (b ∷ drop 1 s) ≡ cell_size
held-long s b h = simp length-drop (omega arith)

module _ (f : Netlist) (ends order state choices : List ℕ) (t : CanStep f ends order state choices) where
  -- from the channels in memory, whatever stands behind them
  pub next-from : (channels rest : List Channel) → channels ≡ up_to f.channels (channel_of f state choices) ++ rest → state_next f state choices (signal_in channels) ≡ next f state choices
  unfolding next state_next next_at
  next-from channels rest e = ap (λ (l : List ℕ). l ++ drop (cell_size * f.components) state) (cells_same _ _ f.components same)
    where
      same : (k : ℕ) → k < f.components → next_at f state choices (signal_in channels) k ≡ next_at f state choices (value f state choices) k
      same k h =
          let inside = (t.accepted.rows k h).ports in
          let o : offer_of (row_of f k) (signal_in channels) ≡ offer_of (row_of f k) (value f state choices) = fun_ext (λ p. offer_at channels _ ∙ offer-is f state choices channels rest e _ (inside p)) in
          let g : take_of (row_of f k) (signal_in channels) ≡ take_of (row_of f k) (value f state choices) = fun_ext (λ p. take_at channels _ ∙ take-is f state choices channels rest e ends order t.accepted _ (inside p)) in
          rw (o, g)

  -- a queue's colours after the step are at most 63
  pub queue-fits : (k : ℕ) → k < f.components → kind (row_of f k) ≡ Queue →
      length (appended (moved f state choices (port (row_of f k) A)) (dropped (moved f state choices (port (row_of f k) B)) (queue_colours (cell state k)))) ≤ 63
  queue-fits k h e = rw appended-length (queue-moves f ends order state choices t k h e).room

  next-long : (k : ℕ) → k < f.components → length (next_at f state choices (value f state choices) k) ≡ cell_size
  unfolding next_at cell_next moved
  next-long k h = go (kind (row_of f k)) refl
    where
      long : length (cell state k) ≡ cell_size
      long = cell-long state k f.components t.good.long h

      offer : ℕ
      offer = value f state choices (2 * port (row_of f k) A)

      taken : ℕ
      taken = value f state choices (2 * port (row_of f k) A + 1)

      picked : ℕ
      picked =
          unless (value f state choices (2 * port (row_of f k) C + 1))
          (when (value f state choices (2 * port (row_of f k) C)) (suc (picks_b (get_or (cell state k) 0 0) (get_or choices k 0) offer (value f state choices (2 * port (row_of f k) B)))))

      after : List ℕ
      after = appended (moved f state choices (port (row_of f k) A)) (dropped (moved f state choices (port (row_of f k) B)) (queue_colours (cell state k)))

      go : (d : Kind) → kind (row_of f k) ≡ d → length (cell_next d (component_at f state choices k) (offer_of (row_of f k) (value f state choices)) (take_of (row_of f k) (value f state choices))) ≡ cell_size
      go Source e = held-long (cell state k) (unless taken offer) long
      go Sink e = held-long (cell state k) (unless (offered offer) taken) long
      go Queue e = queue-length (cell_with after) (cell-queue after (queue-fits k h e))
      go Function e = long
      go Fork e = long
      go Join e = long
      go Switch e = long
      go Merge e = held-long (cell state k) picked long

  pub next-cell : (k : ℕ) → k < f.components → cell (next f state choices) k ≡ next_at f state choices (value f state choices) k
  unfolding next state_next
  next-cell k h = cells_at (next_at f state choices (value f state choices)) f.components next-long (drop (cell_size * f.components) state) k h

  pub next-length : length (next f state choices) ≡ length state
  unfolding next state_next
  next-length = rw (length-append, cells-long (next_at f state choices (value f state choices)) f.components next-long, length-drop) (omega (arith, t.good.long))

below-dropped : (c m : ℕ) (cs : List ℕ) → Below c cs → Below c (dropped m cs)
below-dropped c zero cs b = b
below-dropped c (suc m) cs b = record { each = λ j l. rw get_or-drop (b.each (1 + j) (omega (arith, rw length-drop at l))) }

below-appended : (c m : ℕ) (cs : List ℕ) → m ≤ c → Below c cs → Below c (appended m cs)
below-appended c zero cs h b = b
below-appended c (suc d) cs h b = record { each = λ j l. go j l (dec_lt j (length cs)) }
  where
    go : (j : ℕ) → j < length (cs ++ (d ∷ [])) → Dec (j < length cs) → get_or (cs ++ (d ∷ [])) j 0 < c
    go j l (yes q) = rw (get_or-append cs (d ∷ []) 0 j q) (b.each j q)
    go j l (no q) =
        let e : j ≡ length cs = omega (arith, rw (length-append cs (d ∷ [])) at l) in
        rw (e, get_or_at cs d [] 0 (length cs) refl) h

unless-emitted : (r : List ℕ) (m a b : ℕ) → emitted r a ≡ true → emitted r b ≡ true → emitted r (unless m (or_else a b)) ≡ true
unless-emitted r (suc m) a b h k = refl
unless-emitted r zero zero b h k = k
unless-emitted r zero (suc a) b h k = h

-- a pick that is kept is 1 or 2
kept_small : (t o g : ℕ) → g ≤ 1 → unless t (when o (suc g)) < 3
kept_small t o g h = omega (arith, unless-le t (when o (suc g)) 2 (when-le o (suc g) 2 (omega arith)))

unless-small : (m a : ℕ) → unless m (offered a) < 2
unless-small m a = omega (arith, unless-le m (offered a) 1 (offered-le a 1 (omega arith)))

room-for : (n c m : ℕ) → n ≤ c → (0 < m → n < c) → n + offered m ≤ c
room-for n c zero h f = omega arith
room-for n c (suc m) h f = omega (arith, f (omega arith))

module _ (f : Netlist) (ends order state choices : List ℕ) (t : CanStep f ends order state choices) (k : ℕ) (h : k < f.components) where
  abbrev ma : ℕ
  ma = moved f state choices (port (row_of f k) A)

  abbrev mb : ℕ
  mb = moved f state choices (port (row_of f k) B)

  -- the colours of a queue, before and after
  queue-below : kind (row_of f k) ≡ Queue → Below f.colours (queue_colours (cell state k))
  unfolding queue_colours
  queue-below e = record { each = λ j l. each j l }
    where
      count : get_or (cell state k) 0 0 ≡ length (take (get_or (cell state k) 0 0) (drop 1 (cell state k)))
      count = queue-count (cell state k) (queue-whole f ends order t.accepted state t.good k h e)

      each : (j : ℕ) → j < length (take (get_or (cell state k) 0 0) (drop 1 (cell state k))) → get_or (take (get_or (cell state k) 0 0) (drop 1 (cell state k))) j 0 < f.colours
      each j l =
          let n : j < get_or (cell state k) 0 0 = omega (arith, count) in
          let m : j < 63 = omega (arith, n, queue-count-le f state t.good k h e, (t.accepted.rows k h).capacities e) in
          rw (get_or-take (get_or (cell state k) 0 0) (drop 1 (cell state k)) j 0 n, get_or-drop 1 (cell state k) j 0, one-add) (queue-colour f state t.good k h e j m n)

  queue-kept : kind (row_of f k) ≡ Queue → (j : ℕ) → j < cell_size →
      good_byte Queue (row_of f k) f.colours (get_or (cell_with (appended ma (dropped mb (queue_colours (cell state k))))) 0 0) j (get_or (cell_with (appended ma (dropped mb (queue_colours (cell state k))))) j 0) ≡ true
  queue-kept e j l =
      let cs = queue_colours (cell state k) in
      let n = queue-count (cell state k) (queue-whole f ends order t.accepted state t.good k h e) in
      let c = queue-count-le f state t.good k h e in
      let d = dropped-le mb cs in
      let room : length (appended ma (dropped mb cs)) ≤ capacity (row_of f k) =
      rw appended-length (room-for (length (dropped mb cs)) (capacity (row_of f k)) ma (omega (arith, n, c, d)) (λ p. omega (arith, n, d, roomy f ends order state choices t k h e p))) in
      queue-good (row_of f k) f.colours (appended ma (dropped mb cs)) room (omega (arith, room, (t.accepted.rows k h).capacities e))
      (below-appended f.colours ma (dropped mb cs) (moved-le f ends order state choices t _ ((t.accepted.rows k h).ports A)) (below-dropped f.colours mb cs (queue-below e))) j l

  -- its bytes after the step
  abbrev after : Kind → List ℕ
  after d = cell_next d (component_at f state choices k) (offer_of (row_of f k) (value f state choices)) (take_of (row_of f k) (value f state choices))

  kept : (d : Kind) → kind (row_of f k) ≡ d → (j : ℕ) → j < cell_size → good_byte d (row_of f k) f.colours (get_or (after d) 0 0) j (get_or (after d) j 0) ≡ true
  unfolding good_byte cell_next moved
  kept Source e zero l =
      rw (source-offers f ends order t.accepted state choices k h e)
      (unless-emitted (row_of f k) (value f state choices (2 * port (row_of f k) A + 1)) (get_or (cell state k) 0 0) (get_or choices k 0) (source-held f state t.good k h e) (source-choice f choices t.allowed k h e))
  kept Source e (suc j) l = rw (get_or-drop, one-add) (rw e at (good-byte f state t.good k h (suc j) l))
  kept Sink e zero l = rw (sink-takes f ends order t.accepted state choices k h e) (lt-ltb _ _ (unless-small (offered (value f state choices (2 * port (row_of f k) A))) (or_else (get_or (cell state k) 0 0) (get_or choices k 0))))
  kept Sink e (suc j) l = rw (get_or-drop, one-add) (rw e at (good-byte f state t.good k h (suc j) l))
  kept Queue e j l = queue-kept e j l
  kept Function e j l = rw e at (good-byte f state t.good k h j l)
  kept Fork e j l = rw e at (good-byte f state t.good k h j l)
  kept Join e j l = rw e at (good-byte f state t.good k h j l)
  kept Switch e j l = rw e at (good-byte f state t.good k h j l)
  kept Merge e zero l = lt-ltb _ _ (kept_small (value f state choices (2 * port (row_of f k) C + 1)) (value f state choices (2 * port (row_of f k) C)) _ (picks-le (get_or (cell state k) 0 0) (get_or choices k 0) _ _))
  kept Merge e (suc j) l = rw (get_or-drop, one-add) (rw e at (good-byte f state t.good k h (suc j) l))

  cell-kept : good_cell f.colours (row_of f k) (cell (next f state choices) k) ≡ true
  unfolding good_cell next_at
  cell-kept = rw (next-cell f ends order state choices t k h) (all_of cell_size _ (kept (kind (row_of f k)) refl))

pub good-step : (f : Netlist) (ends order state choices : List ℕ) → CanStep f ends order state choices → Good f (next f state choices)
good-step f ends order state choices t = record {
  long = rw (next-length f ends order state choices t) t.good.long;
  each = λ k h. cell-kept f ends order state choices t k h;
}
