-- How the code keeps a port's use and the needs of its signal: 16 output, 32 input, 8 offer(A), 4 offer(B), 2 take(B), 1 take(C). It describes the
-- code, and proofs/Ports.antt ties it to the definitions.
use Rattle.std.specs.Prelude.{ℕ, zero, suc, ◌+◌, ◌*◌, ◌/◌, ◌%◌, Bool, true, false, cond, ◌&&◌, ◌||◌, List, eqb, ltb}
use Rattle.component.specs.declared.kinds.Kind.{Kind}
use Rattle.component.specs.declared.kinds.Port.{Port}
use Rattle.component.specs.Kind.{Use, input, output, unused, port_use}
use Rattle.component.specs.Row.{kind}
use Rattle.wiring.specs.Ends.{end_row, end_port}
use Rattle.wiring.specs.Signals.{Near, offer_a, offer_b, take_b, take_c, depends_on, has}

abbrev pub use_code : Use → ℕ
use_code input = 32
use_code output = 16
use_code unused = 0

abbrev pub flag : Bool → ℕ
flag true = 1
flag false = 0

abbrev pub needs_code : List Near → ℕ
needs_code ns = 8 * flag (has ns offer_a) + 4 * flag (has ns offer_b) + 2 * flag (has ns take_b) + flag (has ns take_c)

abbrev pub port_code : Kind → Port → ℕ
port_code k p = use_code (port_use k p) + needs_code (depends_on k p)

unfoldable pub end_code : List ℕ → ℕ → ℕ
end_code table e = port_code (kind (end_row table e)) (end_port e)

-- whether a code is that of an output (input)
abbrev pub code_side : Bool → ℕ → Bool
code_side true code = eqb (code / 16) 1
code_side false code = eqb (code / 16) 2

-- where the end of a code at channel x is noted
abbrev pub slot_of : ℕ → ℕ → ℕ
slot_of code x = cond (code_side true code) (2 * x) (cond (code_side false code) (2 * x + 1) 512)

-- whether it has need j
abbrev pub code_has : ℕ → ℕ → Bool
code_has code j = (eqb j 0 && eqb (code / 8 % 2) 1) || (eqb j 1 && eqb (code / 4 % 2) 1) || (eqb j 2 && eqb (code / 2 % 2) 1) || (eqb j 3 && eqb (code % 2) 1)

-- 0 while no end is found, 1 + the end when one is, 512 when more are
abbrev pub marked : ℕ → ℕ → ℕ
marked e old = cond (eqb old 0) (suc e) 512

unfoldable pub found : (ℕ → Bool) → ℕ → ℕ
found p zero = 0
found p (suc n) = cond (p n) (marked n (found p n)) (found p n)

abbrev pub single : ℕ → Bool
single v = ltb 0 v && ltb v 512
