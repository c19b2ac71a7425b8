-- All signals of a fabric in a state under choices, and what moves.
use Rattle.std.specs.Prelude.{List, ℕ, zero, suc, ◌+◌, ◌*◌, ◌/◌, cond, not, get_or, eqb}
use Rattle.digits.specs.UpTo.{up_to}
use Rattle.order.specs.Values.{val}
use Rattle.component.specs.declared.kinds.Port.{Port}
use Rattle.component.specs.Row.{kind}
use Rattle.wiring.specs.Ends.{end_port}
use Rattle.wiring.specs.Signals.{Near, signal_of, end_of}
use Rattle.netlist.specs.Netlist.{Netlist, row_of}
use Rattle.cells.specs.Cells.{cell}
use Rattle.held.specs.declared.Channel.{Channel}
use Rattle.held.specs.Values.{offer_of, when}
use Rattle.rules.specs.Rules.{Component, component_with, rule}

abbrev pub component_at : Netlist → List ℕ → List ℕ → ℕ → Component
component_at f state choices k = component_with (row_of f k) (cell state k) (get_or choices k 0)

-- what the rules of a row read, where v gives all signals
abbrev pub near : List ℕ → (ℕ → ℕ) → Near → ℕ
near row v n = v (signal_of row n)

-- the rule at port p of component k, where v gives all signals
abbrev pub rule_at : Netlist → List ℕ → List ℕ → ℕ → Port → (ℕ → ℕ) → ℕ
rule_at f state choices k p v = rule (kind (row_of f k)) p (component_at f state choices k) (near (row_of f k) v)

-- the rule of signal s: the one at the end that gives s
unfoldable pub rule_of : Netlist → List ℕ → List ℕ → ℕ → (ℕ → ℕ) → ℕ
rule_of f state choices s v =
    let e : ℕ = end_of f.table f.components s in
    rule_at f state choices (e / 3) (end_port e) v

-- the value of signal s: the rules applied 2M deep
unfoldable pub value : Netlist → List ℕ → List ℕ → ℕ → ℕ
value f state choices s = val (rule_of f state choices) 0 (2 * f.channels) s

-- both signals of channel x, as a channel holds them
unfoldable pub channel_of : Netlist → List ℕ → List ℕ → ℕ → Channel
channel_of f state choices x = record { offer = offer_of (value f state choices (2 * x)); take = not (eqb (value f state choices (2 * x + 1)) 0) }

-- the signals worked out one by one along the first i entries of an order; what is not worked out yet is 0
unfoldable pub along : (ℕ → (ℕ → ℕ) → ℕ) → List ℕ → ℕ → ℕ → ℕ
along rules order zero s = 0
along rules order (suc i) s = cond (eqb s (get_or order i 0)) (rules s (along rules order i)) (along rules order i s)

-- A transfer happens where offer is a colour and take is yes: 0, or 1 + the colour moved on channel x
unfoldable pub moved : Netlist → List ℕ → List ℕ → ℕ → ℕ
moved f state choices x = when (value f state choices (2 * x + 1)) (value f state choices (2 * x))

-- Step writes M bytes: 0, or 1 + colour moved.
unfoldable pub moves : Netlist → List ℕ → List ℕ → List ℕ
moves f state choices = up_to f.channels (moved f state choices)
