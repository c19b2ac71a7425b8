-- The sets while they are worked out, and the list of components that have to pass on what came in since their last turn. `listed` and the first `next` components are of a round over all components in their order. The code does what
-- specs/InTurn says in its place, where components wait for a first turn on the same list, and promises `Spreading` and `PassedOn` of further turns. `set-bytes` (proofs/WorkOut.antt) ties them to the sets of crate reach.
use Rattle.std.specs.Prelude.{◌≡◌, ◌⊎◌, Bool, true, not, ◌&&◌, List, ℕ, ◌+◌, ◌*◌, ◌/◌, ◌%◌, ◌≤◌, ◌<◌, ltb, eqb, length, get_or}
use Rattle.std.specs.Int.Bits.{bit_or}
use Rattle.digits.specs.Count.{count}
use Rattle.component.specs.declared.kinds.Kind.{Kind}
use Rattle.component.specs.declared.kinds.Kind.TheVariants.{Source, Sink, Join, Merge}
use Rattle.component.specs.declared.kinds.Port.{Port}
use Rattle.component.specs.declared.kinds.Port.TheVariants.{A, B, C}
use Rattle.component.specs.Kind.{port_use, is_input, is_output}
use Rattle.component.specs.Row.{kind, port, has_colour}
use Rattle.netlist.specs.Netlist.{Netlist, row_of}
use Rattle.reach.specs.Reaches.{Reaches}
use Rattle.reach.specs.Rounds.{passed_at}

-- a byte that has just the colours of a set
pub record IsSet (bits : ℕ) (s : ℕ → Bool) : Type 0 where
  pub has : (d : ℕ) → d < 8 → has_colour bits d ≡ s d

-- a byte that has colours below n alone
pub record Below (n bits : ℕ) : Type 0 where
  pub below : (d : ℕ) → d < 8 → has_colour bits d ≡ true → d < n

-- a map of colours below n
pub record MapBelow (n : ℕ) (map : ℕ → ℕ) : Type 0 where
  pub below : (d : ℕ) → d < n → map d < n

-- the set of channel x in bytes
abbrev pub in_bytes : List ℕ → ℕ → ℕ → Bool
in_bytes sets x d = ltb d 8 && has_colour (get_or sets x 0) d

-- targets has the component that takes from each channel, of the first n components
pub record Targets (f : Netlist) (n : ℕ) (targets : List ℕ) : Type 0 where
  pub long : length targets ≡ 256
  pub at : (k : ℕ) → k < n → (p : Port) → is_input (port_use (kind (row_of f k)) p) ≡ true → get_or targets (port (row_of f k) p) 0 ≡ k

-- the first output port of a kind that has one
unfoldable pub first_output : Kind → Port
first_output Source = A
first_output Sink = A
first_output Join = C
first_output Merge = C
first_output n = B

-- the set of channel x with more colours
abbrev pub grown_set : List ℕ → ℕ → ℕ → ℕ
grown_set sets x more = bit_or (get_or sets x 0) more

-- whether that puts the component that takes from x on the list: something is new, and the component is one of the first `next`
abbrev pub listed : List ℕ → List ℕ → ℕ → ℕ → ℕ → Bool
listed sets targets next x more = not (eqb (grown_set sets x more) (get_or sets x 0)) && ltb (get_or targets x 0) next

-- how many members the sets have
unfoldable pub members : Netlist → List ℕ → ℕ
members f sets = count (λ v. in_bytes sets (v / 8) (v % 8)) (8 * f.channels)

-- The sets are of colours that can reach their channels; the list is no longer than they have members.
pub record Spreading (f : Netlist) (sets list : List ℕ) : Type 0 where
  pub sets_long : length sets ≡ 256
  pub small : (x : ℕ) → get_or sets x 0 < 256
  pub inside : (x d : ℕ) → x < f.channels → in_bytes sets x d ≡ true → Reaches f x d
  pub few : length list ≤ members f sets
  pub named : (i : ℕ) → i < length list → get_or list i 0 < f.components

-- component k is on the list
abbrev pub Waits : List ℕ → ℕ → Type 0
Waits list k = (i : ℕ) × (i < length list) × (get_or list i 0 ≡ k)

-- what component k lets out at port p is in the set there
abbrev pub Out : Netlist → List ℕ → ℕ → Port → Type 0
Out f sets k p = (d : ℕ) → passed_at f (in_bytes sets) k p d ≡ true → in_bytes sets (port (row_of f k) p) d ≡ true

-- or the component is still on the list
abbrev pub Covered : Netlist → List ℕ → List ℕ → ℕ → Port → Type 0
Covered f sets list k p = Out f sets k p ⊎ Waits list k

-- of each output port of the first m components
pub record CoveredTo (f : Netlist) (sets list : List ℕ) (m : ℕ) : Type 0 where
  pub covered : (k : ℕ) → k < m → (p : Port) → is_output (port_use (kind (row_of f k)) p) ≡ true → Covered f sets list k p

-- a stretch of work: what was covered of the first `next` components is so afterwards, and the list grows no faster than the sets
pub record Onward (f : Netlist) (next : ℕ) (sets list sets' list' : List ℕ) : Type 0 where
  pub paid : length list' + members f sets ≤ length list + members f sets'
  pub keeps : (k : ℕ) → k < next → (p : Port) → Covered f sets list k p → Covered f sets' list' k p

-- such a stretch of work after which component k is covered at the ports that are done
pub record PassedOn (f : Netlist) (next : ℕ) (sets list sets' list' : List ℕ) (done : Port → Type 0) (k : ℕ) : Type 0 where
  pub spreading : Spreading f sets' list'
  pub onward : Onward f next sets list sets' list'
  pub covers : (p : Port) → done p → Covered f sets' list' k p
