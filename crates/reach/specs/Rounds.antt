-- The same sets, worked out: the sentences applied in rounds, from empty sets, until nothing is new.
use Rattle.std.specs.Prelude.{◌≡◌, Bool, true, false, not, ◌&&◌, ◌||◌, List, ℕ, zero, suc, ◌*◌, ◌/◌, ◌<◌, ltb, eqb}
use Rattle.digits.specs.Least.{some}
use Rattle.component.specs.declared.kinds.Kind.{Kind}
use Rattle.component.specs.declared.kinds.Kind.TheVariants.{Source, Sink, Queue, Function, Fork, Join, Switch, Merge}
use Rattle.component.specs.declared.kinds.Port.{Port}
use Rattle.component.specs.declared.kinds.Port.TheVariants.{A, B, C}
use Rattle.component.specs.Kind.{port_use, is_output}
use Rattle.component.specs.Row.{kind, port, first_map, second_map, masked, filling, fill_colour, mask_byte}
use Rattle.wiring.specs.Ends.{end_port}
use Rattle.wiring.specs.Signals.{end_of}
use Rattle.netlist.specs.Netlist.{Netlist, row_of}

-- the colours that a map makes of those in a set
abbrev pub image : ℕ → (ℕ → ℕ) → (ℕ → Bool) → ℕ → Bool
image colours map set d = some colours (λ e. eqb (map e) d && set e)

-- The colours that go out at an output port, where those in a come in at port A and those in b at port B.
unfoldable pub passed : Kind → Port → ℕ → List ℕ → (ℕ → Bool) → (ℕ → Bool) → ℕ → Bool
-- a source's mask
passed Source p colours row a b d = masked row d
passed Sink p colours row a b d = false
-- queue input plus the fill colour if the filling is above 0
passed Queue p colours row a b d = a d || (ltb 0 (filling row) && eqb (fill_colour row) d)
-- function and fork maps
passed Function p colours row a b d = image colours (first_map row) a d
passed Fork A colours row a b d = false
passed Fork B colours row a b d = image colours (first_map row) a d
passed Fork C colours row a b d = image colours (second_map row) a d
-- join maps of A if B's set has a member
passed Join p colours row a b d = some colours b && image colours (first_map row) a d
-- switch masks
passed Switch A colours row a b d = false
passed Switch B colours row a b d = a d && masked row d
passed Switch C colours row a b d = a d && not (masked row d)
-- the union at a merge
passed Merge p colours row a b d = a d || b d

-- the same at port p of component k, where s gives the sets of all channels
abbrev pub passed_at : Netlist → (ℕ → ℕ → Bool) → ℕ → Port → ℕ → Bool
passed_at f s k p d = ltb d f.colours && passed (kind (row_of f k)) p f.colours (row_of f k) (s (port (row_of f k) A)) (s (port (row_of f k) B)) d

-- one round: what goes out at the output port of channel x
unfoldable pub round : Netlist → (ℕ → ℕ → Bool) → ℕ → ℕ → Bool
round f s x d =
    let e : ℕ = end_of f.table f.components (2 * x) in
    passed_at f s (e / 3) (end_port e) d

unfoldable pub rounds : Netlist → ℕ → ℕ → ℕ → Bool
rounds f zero x d = false
rounds f (suc n) x d = round f (rounds f n) x d

-- There are at most 8M flows, and a round without a new one is the last: after 8M rounds nothing is new.
unfoldable pub reachable : Netlist → ℕ → ℕ → Bool
reachable f x d = rounds f (8 * f.channels) x d

-- sets that are closed under the sentences
pub record Closed (f : Netlist) (s : ℕ → ℕ → Bool) : Type 0 where
  pub closed : (k : ℕ) → k < f.components → (p : Port) → is_output (port_use (kind (row_of f k)) p) ≡ true → (d : ℕ) → passed_at f s k p d ≡ true → s (port (row_of f k) p) d ≡ true

-- the mask byte of a channel: colour 0 is the highest bit, and bits from C on are 0
unfoldable pub set_byte : Netlist → ℕ → ℕ
set_byte f x = mask_byte (reachable f x)
