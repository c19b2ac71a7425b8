-- The two ends of a channel. An end is a port of a component: end e of a table is port e % 3 of component e / 3.
use Rattle.std.specs.Prelude.{ℕ, ◌*◌, ◌/◌, ◌%◌, Bool, true, false, not, ◌&&◌, List, eqb}
use Rattle.digits.specs.Least.{least}
use Rattle.digits.specs.Count.{count}
use Rattle.record.specs.Table.{row}
use Rattle.component.specs.declared.kinds.Port.{Port}
use Rattle.component.specs.Kind.{port_of, Use, port_use, is_output, is_input}
use Rattle.component.specs.Row.{kind, port}

abbrev pub end_row : List ℕ → ℕ → List ℕ
end_row table e = row table (e / 3)

abbrev pub end_port : ℕ → Port
end_port e = port_of (e % 3)

-- true for output ports, false for input ports
abbrev pub on_side : Bool → Use → Bool
on_side true u = is_output u
on_side false u = is_input u

-- end e is an output (input) port, and its channel is x
abbrev pub is_end : List ℕ → Bool → ℕ → ℕ → Bool
is_end table side x e = on_side side (port_use (kind (end_row table e)) (end_port e)) && eqb (port (end_row table e) (end_port e)) x

-- Each channel below M is an output port just once and an input port just once.
abbrev pub unmatched : List ℕ → ℕ → ℕ → Bool
unmatched table n x = not (eqb (count (is_end table true x) (3 * n)) 1 && eqb (count (is_end table false x) (3 * n)) 1)

-- 7 a channel's ends (lowest channel)
unfoldable pub first_unmatched : List ℕ → ℕ → ℕ → ℕ
first_unmatched table n channels = least (unmatched table n) channels
