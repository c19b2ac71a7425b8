-- The rules of the eight kinds, over offers and takes as numbers.
use Rattle.std.specs.Prelude.{List, ℕ, zero, suc, get_or, ltb}
use Rattle.component.specs.declared.kinds.Kind.{Kind}
use Rattle.component.specs.declared.kinds.Kind.TheVariants.{Source, Sink, Queue, Function, Fork, Join, Switch, Merge}
use Rattle.component.specs.declared.kinds.Port.{Port}
use Rattle.component.specs.declared.kinds.Port.TheVariants.{A, B, C}
use Rattle.component.specs.Row.{first_map, second_map, masked, capacity}
use Rattle.wiring.specs.Signals.{Near, offer_a, offer_b, take_b, take_c}
use Rattle.held.specs.Values.{bit, when, unless, offered, or_else, either}
use Rattle.held.specs.Picks.{picks_b}

-- the mapped colour of an offer
abbrev pub mapped : (ℕ → ℕ) → ℕ → ℕ
mapped map zero = 0
mapped map (suc d) = suc (map d)

-- 1 if a switch's mask sends the offer's colour to B
abbrev pub to_b : List ℕ → ℕ → ℕ
to_b row zero = 0
to_b row (suc d) = bit (masked row d)

-- a component in a state under a choice: its row of the table, its 64 bytes, its choice byte
pub record Component : Type 0 where
  pub row : List ℕ
  pub cell : List ℕ
  pub choice : ℕ

abbrev pub component_with : List ℕ → List ℕ → ℕ → Component
component_with r s c = record { row = r; cell = s; choice = c }

-- byte 0: what a source, a sink or a merge holds, or a queue's count; then a queue's colours, front first
abbrev pub held : Component → ℕ
held c = get_or c.cell 0 0

abbrev pub queued : Component → ℕ
queued c = get_or c.cell 0 0

abbrev pub front : Component → ℕ
front c = suc (get_or c.cell 1 0)

-- The rule of the signal at a port, where v gives its neighbours' signals: at an output port that of the port's offer, at an input
-- port that of its take. An unused port has no signal.
unfoldable pub rule : Kind → Port → Component → (Near → ℕ) → ℕ
-- Source: its held colour if it has one, else its choice.
rule Source A c v = or_else (held c) c.choice
rule Source B c v = 0
rule Source C c v = 0
-- Sink takes if held or chosen.
rule Sink A c v = offered (or_else (held c) c.choice)
rule Sink B c v = 0
rule Sink C c v = 0
-- Queue: offers its front colour if not empty; takes if not full at the step's beginning.
rule Queue A c v = bit (ltb (queued c) (capacity c.row))
rule Queue B c v = when (queued c) (front c)
rule Queue C c v = 0
-- Function: offers the mapped colour; takes as its output does.
rule Function A c v = v take_b
rule Function B c v = mapped (first_map c.row) (v offer_a)
rule Function C c v = 0
-- Fork: B is offered the first map's colour if the input is offered and C takes; C likewise with the second map and B taking.
-- Its input is taken if B and C take.
rule Fork A c v = when (v take_b) (v take_c)
rule Fork B c v = when (v take_c) (mapped (first_map c.row) (v offer_a))
rule Fork C c v = when (v take_b) (mapped (second_map c.row) (v offer_a))
-- Join: offers the mapped colour of A if A and B are offered. A is taken if the output takes and B is offered; B if the output takes
-- and A is offered.
rule Join A c v = when (offered (v offer_b)) (v take_c)
rule Join B c v = when (offered (v offer_a)) (v take_c)
rule Join C c v = when (offered (v offer_b)) (mapped (first_map c.row) (v offer_a))
-- Switch: offers its colour to the one output the mask names, none to the other. Its input is taken if it is offered and that output takes.
rule Switch A c v = when (offered (v offer_a)) (either (to_b c.row (v offer_a)) (v take_c) (v take_b))
rule Switch B c v = when (to_b c.row (v offer_a)) (v offer_a)
rule Switch C c v = unless (to_b c.row (v offer_a)) (v offer_a)
-- Merge: while the held input is offered it is picked over the choice; else, if both inputs are offered the choice picks (0 A, 1 B),
-- else the one offered. It offers the picked colour. An input is taken if picked, offered and the output takes.
rule Merge A c v = unless (picks_b (held c) c.choice (v offer_a) (v offer_b)) (when (offered (v offer_a)) (v take_c))
rule Merge B c v = when (picks_b (held c) c.choice (v offer_a) (v offer_b)) (when (offered (v offer_b)) (v take_c))
rule Merge C c v = either (picks_b (held c) c.choice (v offer_a) (v offer_b)) (v offer_a) (v offer_b)
