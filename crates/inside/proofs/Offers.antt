-- At each kind the colour that it offers is in the set of the channel, if the colours that its rule reads are. Assumes nothing.
use mathlib.Core.Path.{◌≡◌, refl, subst}
use mathlib.Core.Bool.{Bool, true, false, false≢true}
use mathlib.Core.List.{List, [], ◌∷◌}
use Prim.Native.Nat.{ℕ, zero, suc, ◌<◌}
use native.Mathlib.Omega.{arith}
use lib.Dec.{ltb}
use lib.ListN.{length, get_or}
use borrow.Author.Tests.{eq-eqb}
use Rattle.digits.proofs.Bools.{and_both}
use Rattle.component.specs.declared.kinds.Kind.{Kind}
use Rattle.component.specs.declared.kinds.Kind.TheVariants.{Source, Sink, Queue, Function, Fork, Join, Switch, Merge}
use Rattle.component.specs.declared.kinds.Port.{Port}
use Rattle.component.specs.declared.kinds.Port.TheVariants.{A, B, C}
use Rattle.component.specs.Kind.{port_use, is_output}
use Rattle.component.specs.Row.{kind, port, first_map, second_map, masked}
use Rattle.wiring.specs.Signals.{Near, offer_a, offer_b, take_b, take_c, depends_on, has}
use Rattle.netlist.specs.Netlist.{Netlist, row_of}
use Rattle.netlist.specs.Accepted.{AcceptedFabric}
use Rattle.reach.specs.Reaches.{Reaches, by_source, by_function, by_fork_b, by_fork_c, by_join, by_switch_b, by_switch_c, by_merge_a, by_merge_b}
use Rattle.cells.specs.Cells.{cell_size, queue_colours}
use Rattle.cells.specs.Counts.{count_in}
use Rattle.cells.specs.Good.{emitted}
use Rattle.cells.proofs.Good.{emitted-le}
use Rattle.held.specs.Values.{bit, when, unless, offered, or_else, either}
use Rattle.held.specs.Picks.{picks_b}
use Rattle.rules.specs.Rules.{component_with, rule, mapped, to_b}

-- offer o on channel x: its colour, if it has one, is in the set of x
pub record Within (f : Netlist) (x o : ℕ) : Type 0 where
  pub each : (d : ℕ) → o ≡ suc d → Reaches f x d

module _ {f : Netlist} {x : ℕ} where
  none : Within f x 0
  none = record { each = λ d q. absurd (omega arith) }

  one : {d : ℕ} → Reaches f x d → Within f x (suc d)
  one {d} r = record { each = λ c q. let i : d ≡ c = omega arith in subst (Reaches f x) i r }

  pub when-in : (g o : ℕ) → Within f x o → Within f x (when g o)
  when-in zero o w = none
  when-in (suc g) o w = w

  pub unless-in : (g o : ℕ) → Within f x o → Within f x (unless g o)
  unless-in zero o w = w
  unless-in (suc g) o w = none

  either-in : (g a b : ℕ) → Within f x a → Within f x b → Within f x (either g a b)
  either-in zero a b v w = v
  either-in (suc g) a b v w = w

  or_else-in : (a b : ℕ) → Within f x a → Within f x b → Within f x (or_else a b)
  or_else-in zero b v w = w
  or_else-in (suc a) b v w = v

  -- what a map makes of the colours in the set of channel y
  mapped_in : {y : ℕ} (map : ℕ → ℕ) (o : ℕ) → Within f y o → ((d : ℕ) → Reaches f y d → Reaches f x (map d)) → Within f x (mapped map o)
  mapped_in map zero w r = none
  mapped_in map (suc d) w r = one (r d (w.each d refl))

  -- the front of a queue is counted
  front-in : (s : List ℕ) → length s ≡ cell_size → ((d : ℕ) → 0 < count_in (queue_colours s) d → Reaches f x d) → Within f x (when (get_or s 0 0) (suc (get_or s 1 0)))
  unfolding queue_colours
  front-in [] l r = none
  front-in (zero ∷ s) l r = none
  front-in (suc b ∷ []) l r = absurd (omega arith)
  front-in (suc b ∷ c ∷ s) l r = one (r c (rw (eq-eqb c c refl) (omega arith)))

module _ (f : Netlist) (k : ℕ) (h : k < f.components) where
  abbrev row : List ℕ
  row = row_of f k

  -- a colour that a source emits
  pub emitted-in : (ends order : List ℕ) → AcceptedFabric f ends order → kind row ≡ Source → (b : ℕ) → emitted row b ≡ true → Within f (port row A) b
  emitted-in ends order a e zero i = none
  emitted-in ends order a e (suc d) i = one (by_source k d h e (emitted-le f ends order a k h (suc d) i) (and_both (ltb d 8) (masked row d) i).1)

  join-in : kind row ≡ Join → (o t : ℕ) → Within f (port row A) o → Within f (port row B) t → Within f (port row C) (when (offered t) (mapped (first_map row) o))
  join-in e o zero v w = none
  join-in e o (suc t) v w = mapped_in (first_map row) o v (λ d r. by_join k d t h e r (w.each t refl))

  switch-b : kind row ≡ Switch → (o : ℕ) → Within f (port row A) o → Within f (port row B) (when (to_b row o) o)
  switch-b e zero w = none
  switch-b e (suc d) w = go (masked row d) refl
    where
      go : (b : Bool) → masked row d ≡ b → Within f (port row B) (when (bit b) (suc d))
      go true i = one (by_switch_b k d h e (w.each d refl) i)
      go false i = none

  switch-c : kind row ≡ Switch → (o : ℕ) → Within f (port row A) o → Within f (port row C) (unless (to_b row o) o)
  switch-c e zero w = none
  switch-c e (suc d) w = go (masked row d) refl
    where
      go : (b : Bool) → masked row d ≡ b → Within f (port row C) (unless (bit b) (suc d))
      go true i = none
      go false i = one (by_switch_c k d h e (w.each d refl) i)

  merge_in : kind row ≡ Merge → (g a b : ℕ) → Within f (port row A) a → Within f (port row B) b → Within f (port row C) (either g a b)
  merge_in e g a b v w =
      either-in g a b (record { each = λ d q. by_merge_a k d h e (v.each d q) }) (record { each = λ d q. by_merge_b k d h e (w.each d q) })

  -- the colours that a component has by its bytes s and its choice: those that a queue counts, those that a source holds or chooses
  pub record Has (s : List ℕ) (choice : ℕ) : Type 0 where
    pub long : length s ≡ cell_size
    pub queued : kind row ≡ Queue → (d : ℕ) → 0 < count_in (queue_colours s) d → Reaches f (port row B) d
    pub holds : kind row ≡ Source → Within f (port row A) (get_or s 0 0)
    pub chosen : kind row ≡ Source → Within f (port row A) choice

  module _ (s : List ℕ) (choice : ℕ) (c : Has s choice) (v : Near → ℕ) where
    -- the offer at an output port; a and b: what the rule reads at ports A and B is within their sets
    pub offer-in : (d : Kind) → kind row ≡ d → (p : Port) → is_output (port_use d p) ≡ true → (has (depends_on d p) offer_a ≡ true → Within f (port row A) (v offer_a)) →
        (has (depends_on d p) offer_b ≡ true → Within f (port row B) (v offer_b)) → Within f (port row p) (rule d p (component_with row s choice) v)
    unfolding rule depends_on port_use
    offer-in Source e A o a b = or_else-in (get_or s 0 0) choice (c.holds e) (c.chosen e)
    offer-in Source e B o a b = none
    offer-in Source e C o a b = none
    offer-in Sink e A o a b = absurd (false≢true o)
    offer-in Sink e B o a b = none
    offer-in Sink e C o a b = none
    offer-in Queue e A o a b = absurd (false≢true o)
    offer-in Queue e B o a b = front-in s c.long (c.queued e)
    offer-in Queue e C o a b = none
    offer-in Function e A o a b = absurd (false≢true o)
    offer-in Function e B o a b = mapped_in (first_map row) (v offer_a) (a refl) (λ d r. by_function k d h e r)
    offer-in Function e C o a b = none
    offer-in Fork e A o a b = absurd (false≢true o)
    offer-in Fork e B o a b = when-in (v take_c) (mapped (first_map row) (v offer_a)) (mapped_in (first_map row) (v offer_a) (a refl) (λ d r. by_fork_b k d h e r))
    offer-in Fork e C o a b = when-in (v take_b) (mapped (second_map row) (v offer_a)) (mapped_in (second_map row) (v offer_a) (a refl) (λ d r. by_fork_c k d h e r))
    offer-in Join e A o a b = absurd (false≢true o)
    offer-in Join e B o a b = absurd (false≢true o)
    offer-in Join e C o a b = join-in e (v offer_a) (v offer_b) (a refl) (b refl)
    offer-in Switch e A o a b = absurd (false≢true o)
    offer-in Switch e B o a b = switch-b e (v offer_a) (a refl)
    offer-in Switch e C o a b = switch-c e (v offer_a) (a refl)
    offer-in Merge e A o a b = absurd (false≢true o)
    offer-in Merge e B o a b = absurd (false≢true o)
    offer-in Merge e C o a b = merge_in e (picks_b (get_or s 0 0) choice (v offer_a) (v offer_b)) (v offer_a) (v offer_b) (a refl) (b refl)
