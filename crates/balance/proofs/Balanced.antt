-- Every step from a good state under allowed choices is balanced, at each component. Assumes nothing.
use mathlib.Core.Path.{◌≡◌, refl, sym, ap, subst, ◌∙◌}
use mathlib.Core.Bool.{true}
use mathlib.Core.List.{List, [], ◌∷◌}
use Prim.Native.Nat.{ℕ, zero, suc, ◌+◌, ◌-◌, ◌*◌, ◌<◌}
use native.Mathlib.Omega.{arith}
use lib.Dec.{ltb}
use lib.ListN.{length, get_or, take, drop}
use Rattle.digits.proofs.Bools.{and_both}
use Rattle.component.specs.declared.kinds.Kind.{Kind}
use Rattle.component.specs.declared.kinds.Kind.TheVariants.{Source, Sink, Queue, Function, Fork, Join, Switch, Merge}
use Rattle.component.specs.declared.kinds.Port.{Port}
use Rattle.component.specs.declared.kinds.Port.TheVariants.{A, B, C}
use Rattle.component.specs.Kind.{Use, input, output, unused, port_use}
use Rattle.component.specs.Row.{kind, port, first_map, second_map, masked}
use Rattle.wiring.specs.Signals.{offer_a, offer_b, take_b, take_c}
use Rattle.netlist.specs.Netlist.{Netlist, row_of}
use Rattle.cells.specs.Cells.{cell_size, cell, queue_colours}
use Rattle.cells.specs.Good.{emitted}
use Rattle.cells.specs.Counts.{counts}
use Rattle.cells.proofs.Cells.{colours-of-cell}
use Rattle.cells.proofs.Good.{cell-long, source-held}
use Rattle.cells.proofs.Choices.{source-choice}
use Rattle.held.specs.Values.{when, offered, or_else}
use Rattle.held.specs.Picks.{picks_b}
use Rattle.rules.specs.Rules.{rule}
use Rattle.signals.specs.Signals.{component_at, near, value, moved}
use Rattle.state.specs.Step.{cell_next, appended, dropped, next_at, next, CanStep}
use Rattle.state.proofs.Transfers.{out-moves, in-moves}
use Rattle.state.proofs.Updatable.{when-open, queue-out, filled}
use Rattle.state.proofs.Step.{next-cell}
use Rattle.balance.specs.Balance.{Balanced}
use Rattle.balance.proofs.Moves.{mapped-one, mapped-two, mapped-swap, join-both, switch-both, merge-one}
use Rattle.balance.proofs.Counts.{Front, count_next}

when-is : (g v : ℕ) → 0 < when g v → when g v ≡ v
when-is zero v h = absurd (omega arith)
when-is (suc g) v h = refl

either-emitted : (r : List ℕ) (a b : ℕ) → emitted r a ≡ true → emitted r b ≡ true → emitted r (or_else a b) ≡ true
either-emitted r zero b h k = k
either-emitted r (suc a) b h k = h

-- a queue that is not empty has its front first
front-first : (s : List ℕ) → length s ≡ cell_size → 0 < get_or s 0 0 → queue_colours s ≡ get_or s 1 0 ∷ take (get_or s 0 0 - 1) (drop 2 s)
unfolding queue_colours
front-first [] l h = absurd (omega arith)
front-first (zero ∷ s) l h = absurd (omega arith)
front-first (suc b ∷ []) l h = absurd (omega arith)
front-first (suc b ∷ x ∷ s) l h = let e : suc b - 1 ≡ b = omega arith in rw e

module _ (f : Netlist) (ends order state choices : List ℕ) (s : CanStep f ends order state choices) (k : ℕ) (h : k < f.components) where
  abbrev row : List ℕ
  row = row_of f k

  -- all signals
  abbrev v : ℕ → ℕ
  v = value f state choices

  -- what moves on channel x, where the component's own rule there gives g: out of an output what it offers, if taken; into an input
  -- what is offered there, if it takes
  abbrev through : Use → ℕ → ℕ → ℕ
  through output x g = when (v (2 * x + 1)) g
  through input x g = when g (v (2 * x))
  through unused x g = moved f state choices x

  -- what a transfer is, at each port of each kind
  through-port : (d : Kind) → kind row ≡ d → (p : Port) →
      moved f state choices (port row p) ≡ through (port_use d p) (port row p) (rule d p (component_at f state choices k) (near row v))
  through-port d e p = rw e at (go (port_use (kind row) p) refl)
    where
      go : (u : Use) → port_use (kind row) p ≡ u → moved f state choices (port row p) ≡ through u (port row p) (rule (kind row) p (component_at f state choices k) (near row v))
      go output o = out-moves f ends order s.accepted state choices k h p (rw o)
      go input o = in-moves f ends order s.accepted state choices k h p (rw o)
      go unused o = refl

  -- the source's colour is emitted, be it held or chosen
  source-balanced : kind row ≡ Source → (d : ℕ) → moved f state choices (port row A) ≡ suc d → masked row d ≡ true
  unfolding rule port_use
  source-balanced e d q =
      let g = v (2 * port row A + 1) in
      let a = get_or (cell state k) 0 0 in
      let b = get_or choices k 0 in
      let o = or_else a b in
      let m : moved f state choices (port row A) ≡ when g o = through-port Source e A in
      let p : 0 < when g o = omega arith in
      let i : o ≡ suc d = sym (when-is g o p) ∙ sym m ∙ q in
      (and_both (ltb d 8) (masked row d)
      (subst (λ (b : ℕ). emitted row b ≡ true) i (either-emitted row a b (source-held f state s.good k h e) (source-choice f choices s.allowed k h e)))).1

  queue-balanced : kind row ≡ Queue → Balanced Queue row (moved f state choices) (counts state k) (counts (next f state choices) k)
  unfolding next_at cell_next moved Balanced
  queue-balanced e d = rw after (count_next ma mb cs front d)
    where
      ma : ℕ
      ma = moved f state choices (port row A)

      mb : ℕ
      mb = moved f state choices (port row B)

      cs : List ℕ
      cs = queue_colours (cell state k)

      after : queue_colours (cell (next f state choices) k) ≡ appended ma (dropped mb cs)
      after = ap queue_colours (rw e at (next-cell f ends order state choices s k h)) ∙ colours-of-cell (appended ma (dropped mb cs))

      front : 0 < mb → Front mb cs
      front l =
          let n = get_or (cell state k) 0 0 in
          let c = get_or (cell state k) 1 0 in
          let g = v (2 * port row B + 1) in
          let o = queue-out f ends order state choices s k h e in
          let p : 0 < when g (when n (suc c)) = rw o at l in
          record {
            colour = c;
            rest = take (n - 1) (drop 2 (cell state k));
            first = front-first (cell state k) (cell-long state k f.components s.good.long h) (filled f ends order state choices s k h e l);
            moves = o ∙ when-is g (when n (suc c)) p ∙ when-is n (suc c) (when-open g (when n (suc c)) p).1;
          }

  by_kind : (d : Kind) → kind row ≡ d → Balanced d row (moved f state choices) (counts state k) (counts (next f state choices) k)
  unfolding Balanced rule port_use
  by_kind Source e = source-balanced e
  by_kind Sink e = tt
  by_kind Queue e = queue-balanced e
  by_kind Function e = rw (through-port Function e A, through-port Function e B) (mapped-one (first_map row) (near row v take_b) (near row v offer_a))
  by_kind Fork e = (
    rw (through-port Fork e A, through-port Fork e B) (mapped-two (first_map row) (near row v take_b) (near row v take_c) (near row v offer_a)),
    rw (through-port Fork e A, through-port Fork e C) (mapped-swap (second_map row) (near row v take_b) (near row v take_c) (near row v offer_a)),
  )
  by_kind Join e = (
    rw (through-port Join e A, through-port Join e C) (mapped-swap (first_map row) (offered (near row v offer_b)) (near row v take_c) (near row v offer_a)),
    rw (through-port Join e A, through-port Join e B) (join-both (near row v offer_a) (near row v offer_b) (near row v take_c)),
  )
  by_kind Switch e = rw (through-port Switch e A, through-port Switch e B, through-port Switch e C) (switch-both row (near row v offer_a) (near row v take_b) (near row v take_c))
  by_kind Merge e = rw (through-port Merge e A, through-port Merge e B, through-port Merge e C) (merge-one (picks_b (get_or (cell state k) 0 0) (get_or choices k 0) (near row v offer_a) (near row v offer_b)) (near row v offer_a) (near row v offer_b) (near row v take_c))

  pub balanced : Balanced (kind (row_of f k)) (row_of f k) (moved f state choices) (counts state k) (counts (next f state choices) k)
  balanced = by_kind (kind row) refl
