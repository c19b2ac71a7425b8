-- At each kind the signals that it gives last, if those that its rule reads do. Assumes nothing.
use mathlib.Core.Path.{◌≡◌, refl}
use mathlib.Core.Bool.{Bool, true, false, false≢true}
use mathlib.Core.List.{List}
use Prim.Native.Nat.{ℕ, zero, suc, ◌+◌, ◌*◌, ◌<◌}
use native.Mathlib.Omega.{arith}
use Rattle.component.specs.declared.kinds.Kind.{Kind}
use Rattle.component.specs.declared.kinds.Kind.TheVariants.{Source, Sink, Queue, Function, Fork, Join, Switch, Merge}
use Rattle.component.specs.declared.kinds.Port.{Port}
use Rattle.component.specs.declared.kinds.Port.TheVariants.{A, B, C}
use Rattle.component.specs.Kind.{Use, input, output, unused, port_use, is_output, is_input}
use Rattle.component.specs.Row.{port, first_map, second_map, capacity}
use Rattle.wiring.specs.Ends.{on_side}
use Rattle.wiring.specs.Signals.{Near, offer_a, offer_b, take_b, take_c, depends_on, has, signal_of}
use Rattle.cells.specs.Cells.{Queue as QueueCell}
use Rattle.held.specs.Values.{when, unless, offered, or_else, either}
use Rattle.held.specs.Picks.{picks_b}
use Rattle.rules.specs.Rules.{Component, component_with, held, rule, mapped, to_b}
use Rattle.held.proofs.Values.{when-none, unless-none}
use Rattle.held.proofs.Picks.{picks-le}
use Rattle.signals.specs.Signals.{near}
use Rattle.state.specs.Step.{cell_next, offer_of, take_of}
use Rattle.persistence.proofs.Lasts.{Lasts, LastsAt, twin-offer, twin-take, lasts-never, lasts-one, lasts-both}
use Rattle.persistence.proofs.Bytes.{source-lasts, sink-lasts, merge-lasts, queue-offer-lasts, queue-take-lasts}

-- where a rule reads a signal: an offer at an input port, a take at an output port
abbrev port_at : Near → Port
port_at offer_a = A
port_at offer_b = B
port_at take_b = B
port_at take_c = C

abbrev is_take : Near → Bool
is_take offer_a = false
is_take offer_b = false
is_take take_b = true
is_take take_c = true

-- the signals that a component of kind d gives, among all signals v
pub record Given (d : Kind) (c : Component) (v : ℕ → ℕ) : Type 0 where
  pub offers : (p : Port) → is_output (port_use d p) ≡ true → v (2 * port c.row p) ≡ rule d p c (near c.row v)
  pub takes : (p : Port) → is_input (port_use d p) ≡ true → v (2 * port c.row p + 1) ≡ rule d p c (near c.row v)

-- the twin of the signal that a component gives at a port with channel x
abbrev pub twin_at : (ℕ → ℕ) → Use → ℕ → ℕ
twin_at v output x = v (2 * x + 1)
twin_at v input x = v (2 * x)
twin_at v unused x = 0

pub twin-output : (v : ℕ → ℕ) (u : Use) (x : ℕ) → is_output u ≡ true → twin_at v u x ≡ v (2 * x + 1)
twin-output v output x o = refl
twin-output v input x o = absurd (false≢true o)
twin-output v unused x o = absurd (false≢true o)

pub twin-input : (v : ℕ → ℕ) (u : Use) (x : ℕ) → is_input u ≡ true → twin_at v u x ≡ v (2 * x)
twin-input v output x i = absurd (false≢true i)
twin-input v input x i = refl
twin-input v unused x i = absurd (false≢true i)

-- a switch's input waits while the output that the mask names is not taken
sent-to-B : (m o tb tc : ℕ) → tb ≡ 0 → 0 < when m o → when (offered o) (either m tc tb) ≡ 0
sent-to-B zero o tb tc z p = absurd (omega arith)
sent-to-B (suc m) o tb tc z p = rw z (when-none (offered o))

sent-to-C : (m o tb tc : ℕ) → tc ≡ 0 → 0 < unless m o → when (offered o) (either m tc tb) ≡ 0
sent-to-C zero o tb tc z p = rw z (when-none (offered o))
sent-to-C (suc m) o tb tc z p = absurd (omega arith)

module _ (c : Component) (later : ℕ) (v w : ℕ → ℕ) where
  abbrev row : List ℕ
  row = c.row

  -- the component in the next step
  abbrev pub after : Kind → Component
  after d = component_with row (cell_next d c (offer_of row v) (take_of row v)) later

  -- what a rule reads lasts: its twin is given by the component's own rule at that port
  abbrev Read : Kind → Port → Type 0
  Read d p = (n : Near) → has (depends_on d p) n ≡ true → on_side (is_take n) (port_use d (port_at n)) ≡ true → Lasts (rule d (port_at n) c (near row v)) (near row v n) (near row w n)

  read : (d : Kind) → Given d c v → (p : Port) → ((n : Near) → has (depends_on d p) n ≡ true → LastsAt v w (signal_of row n)) → Read d p
  read d g p r = go
    where
      offer : (q : Port) → is_input (port_use d q) ≡ true → LastsAt v w (2 * port row q) → Lasts (rule d q c (near row v)) (v (2 * port row q)) (w (2 * port row q))
      offer q i k = rw (twin-offer (port row q), g.takes q i) at k

      taken : (q : Port) → is_output (port_use d q) ≡ true → LastsAt v w (2 * port row q + 1) → Lasts (rule d q c (near row v)) (v (2 * port row q + 1)) (w (2 * port row q + 1))
      taken q i k = rw (twin-take (port row q), g.offers q i) at k

      go : Read d p
      go offer_a i s = offer A s (r offer_a i)
      go offer_b i s = offer B s (r offer_b i)
      go take_b i s = taken B s (r take_b i)
      go take_c i s = taken C s (r take_c i)

  -- the four signals that a rule may read
  abbrev oa : ℕ
  oa = v (2 * port row A)

  abbrev ob : ℕ
  ob = v (2 * port row B)

  abbrev tb : ℕ
  tb = v (2 * port row B + 1)

  abbrev tc : ℕ
  tc = v (2 * port row C + 1)

  by_kind : (d : Kind) → Given d c v → (d ≡ Queue → QueueCell c.cell) → (p : Port) → Read d p → Lasts (twin_at v (port_use d p) (port row p)) (rule d p c (near row v)) (rule d p (after d) (near row w))
  unfolding rule depends_on port_use cell_next
  by_kind Source g q A r = rw (g.offers A refl) (source-lasts later (or_else (held c) c.choice) _)
  by_kind Source g q B r = lasts-never (λ z. refl)
  by_kind Source g q C r = lasts-never (λ z. refl)
  by_kind Sink g q A r = rw (g.takes A refl) (sink-lasts later oa (or_else (held c) c.choice))
  by_kind Sink g q B r = lasts-never (λ z. refl)
  by_kind Sink g q C r = lasts-never (λ z. refl)
  by_kind Queue g q A r = queue-take-lasts c.cell (q refl) (when tb ob) oa (v (2 * port row A + 1)) (capacity row)
  by_kind Queue g q B r = queue-offer-lasts c.cell (q refl) (when (v (2 * port row A + 1)) oa) ob tb
  by_kind Queue g q C r = lasts-never (λ z. refl)
  by_kind Function g q A r = lasts-one (λ t. t) refl (r take_b refl refl) (λ z p. rw z)
  by_kind Function g q B r = lasts-one (mapped (first_map row)) refl (r offer_a refl refl) (λ z p. z)
  by_kind Function g q C r = lasts-never (λ z. refl)
  by_kind Fork g q A r = lasts-both (λ t. t) (λ t. t) refl refl (r take_b refl refl) (r take_c refl refl) (λ z. (rw z (when-none tc), rw z (when-none tb)))
  by_kind Fork g q B r = lasts-both (λ t. t) (mapped (first_map row)) refl refl (r take_c refl refl) (r offer_a refl refl) (λ z. (rw z, rw z))
  by_kind Fork g q C r = lasts-both (λ t. t) (mapped (second_map row)) refl refl (r take_b refl refl) (r offer_a refl refl) (λ z. (rw z, rw z (when-none tb)))
  by_kind Join g q A r = lasts-both offered (λ t. t) refl refl (r offer_b refl refl) (r take_c refl refl) (λ z. (rw z, rw z (when-none (offered ob))))
  by_kind Join g q B r = lasts-both offered (λ t. t) refl refl (r offer_a refl refl) (r take_c refl refl) (λ z. (rw z, rw z))
  by_kind Join g q C r = lasts-both offered (mapped (first_map row)) refl refl (r offer_b refl refl) (r offer_a refl refl) (λ z. (rw z (when-none (offered oa)), rw z (when-none (offered ob))))
  by_kind Switch g q A r = lasts-never (λ z. rw z)
  by_kind Switch g q B r = lasts-one (λ o. when (to_b row o) o) refl (r offer_a refl refl) (sent-to-B (to_b row oa) oa tb tc)
  by_kind Switch g q C r = lasts-one (λ o. unless (to_b row o) o) refl (r offer_a refl refl) (sent-to-C (to_b row oa) oa tb tc)
  by_kind Merge g q A r = lasts-never (λ z. rw z (unless-none (picks_b (held c) c.choice 0 ob)))
  by_kind Merge g q B r = lasts-never (λ z. rw z (when-none (picks_b (held c) c.choice oa 0)))
  by_kind Merge g q C r = rw (g.offers C refl) (merge-lasts later (picks_b (held c) c.choice oa ob) (picks-le (held c) c.choice oa ob) (r offer_a refl refl) (r offer_b refl refl))

  pub lasts-at : (d : Kind) → Given d c v → (d ≡ Queue → QueueCell c.cell) → (p : Port) → ((n : Near) → has (depends_on d p) n ≡ true → LastsAt v w (signal_of row n)) →
      Lasts (twin_at v (port_use d p) (port row p)) (rule d p c (near row v)) (rule d p (after d) (near row w))
  lasts-at d g q p r = by_kind d g q p (read d g p r)
