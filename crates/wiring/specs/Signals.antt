-- The dependences of a fabric's signals. Signal 2x is offer(x), none or a colour (irdy with data); 2x + 1 is take(x) (trdy).
use Rattle.std.specs.Prelude.{ℕ, zero, suc, ◌+◌, ◌*◌, ◌/◌, ◌%◌, Bool, true, false, cond, ◌||◌, List, [], ◌∷◌, eqb}
use Rattle.digits.specs.Least.{least}
use Rattle.order.specs.Graph.{most_signals}
use Rattle.component.specs.declared.kinds.Kind.{Kind}
use Rattle.component.specs.declared.kinds.Kind.TheVariants.{Source, Sink, Queue, Function, Fork, Join, Switch, Merge}
use Rattle.component.specs.declared.kinds.Port.{Port}
use Rattle.component.specs.declared.kinds.Port.TheVariants.{A, B, C}
use Rattle.component.specs.Row.{kind, port}
use Rattle.wiring.specs.Ends.{end_row, end_port, is_end}

-- what a rule reads of its neighbours; no rule reads more
pub data Near : Type 0 where
  offer_a : Near
  offer_b : Near
  take_b : Near
  take_c : Near

-- A signal depends on each signal in its rule: at an output port that of the port's offer, at an input port that of its take.
unfoldable pub depends_on : Kind → Port → List Near
-- Source: its held colour if it has one, else its choice.
depends_on Source A = []
depends_on Source B = []
depends_on Source C = []
-- Sink takes if held or chosen.
depends_on Sink A = []
depends_on Sink B = []
depends_on Sink C = []
-- Queue: offers its front colour if not empty; takes if not full at the step's beginning.
depends_on Queue A = []
depends_on Queue B = []
depends_on Queue C = []
-- Function: offers the mapped colour; takes as its output does.
depends_on Function A = take_b ∷ []
depends_on Function B = offer_a ∷ []
depends_on Function C = []
-- Fork: B is offered the first map's colour if the input is offered and C takes; C likewise with the second map and B taking.
-- Its input is taken if B and C take.
depends_on Fork A = take_b ∷ take_c ∷ []
depends_on Fork B = offer_a ∷ take_c ∷ []
depends_on Fork C = offer_a ∷ take_b ∷ []
-- Join: offers the mapped colour of A if A and B are offered. A is taken if the output takes and B is offered; B if the output takes
-- and A is offered.
depends_on Join A = take_c ∷ offer_b ∷ []
depends_on Join B = take_c ∷ offer_a ∷ []
depends_on Join C = offer_a ∷ offer_b ∷ []
-- Switch: offers its colour to the one output the mask names, none to the other. Its input is taken if it is offered and that output takes.
depends_on Switch A = offer_a ∷ take_b ∷ take_c ∷ []
depends_on Switch B = offer_a ∷ []
depends_on Switch C = offer_a ∷ []
-- Merge: it offers the picked colour. An input is taken if picked, offered and the output takes.
-- take(A) and take(B) of a merge depend on both offers.
depends_on Merge A = offer_a ∷ offer_b ∷ take_c ∷ []
depends_on Merge B = offer_a ∷ offer_b ∷ take_c ∷ []
depends_on Merge C = offer_a ∷ offer_b ∷ []

abbrev pub same_near : Near → Near → Bool
same_near offer_a offer_a = true
same_near offer_a offer_b = false
same_near offer_a take_b = false
same_near offer_a take_c = false
same_near offer_b offer_a = false
same_near offer_b offer_b = true
same_near offer_b take_b = false
same_near offer_b take_c = false
same_near take_b offer_a = false
same_near take_b offer_b = false
same_near take_b take_b = true
same_near take_b take_c = false
same_near take_c offer_a = false
same_near take_c offer_b = false
same_near take_c take_b = false
same_near take_c take_c = true

abbrev pub has : List Near → Near → Bool
has [] n = false
has (m ∷ ms) n = same_near m n || has ms n

-- the signal's number
abbrev pub signal_of : List ℕ → Near → ℕ
signal_of row offer_a = 2 * port row A
signal_of row offer_b = 2 * port row B
signal_of row take_b = 2 * port row B + 1
signal_of row take_c = 2 * port row C + 1

-- entry j of a signal's four dependences; 510 and all from there on is no signal
unfoldable pub near_of : ℕ → Near
near_of zero = offer_a
near_of (suc zero) = offer_b
near_of (suc (suc zero)) = take_b
near_of (suc (suc (suc j))) = take_c

abbrev pub depends_at : List ℕ → ℕ → ℕ → ℕ
depends_at table e j = cond (has (depends_on (kind (end_row table e)) (end_port e)) (near_of j)) (signal_of (end_row table e) (near_of j)) most_signals

abbrev pub is_offer : ℕ → Bool
is_offer s = eqb (s % 2) 0

-- the end whose rule gives signal s: the output port of its channel for an offer, the input port for a take
abbrev pub gives : List ℕ → ℕ → ℕ → Bool
gives table s = is_end table (is_offer s) (s / 2)

unfoldable pub end_of : List ℕ → ℕ → ℕ → ℕ
end_of table n s = least (gives table s) (3 * n)

unfoldable pub dependence : List ℕ → ℕ → ℕ → ℕ → ℕ
dependence table n s j = depends_at table (end_of table n s) j
