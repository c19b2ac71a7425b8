-- The work of specs/Spread where each component has its first turn once all its inputs have come: who waits for it stands on one list with those that wait for a further turn. It describes the code; `set-bytes-in-turn`
-- (proofs/WorkInTurn.antt) ties it to the sets of crate reach.
use Rattle.std.specs.Prelude.{◌≡◌, ◌⊎◌, Bool, true, not, ◌&&◌, ◌||◌, List, ℕ, ◌+◌, ◌-◌, ◌≤◌, ◌<◌, eqb, length, get_or, set}
use Rattle.digits.specs.Count.{count}
use Rattle.component.specs.declared.kinds.Port.{Port}
use Rattle.component.specs.Kind.{port_use, is_output}
use Rattle.component.specs.Limits.{most_components, most_flows}
use Rattle.component.specs.Row.{kind}
use Rattle.netlist.specs.Netlist.{Netlist, row_of}
use Rattle.reach.specs.Reaches.{Reaches}
use Rattle.spread.specs.Spread.{in_bytes, grown_set, members, Spreading, Waits, Covered, PassedOn}

-- one input of component k fewer to come
abbrev pub one_less : List ℕ → ℕ → List ℕ
one_less to_come k = set to_come k (get_or to_come k 0 - 1)

-- whether that puts the component that takes from x on the list: it was the last input to come, or all had come and something is new
abbrev pub listed_in_turn : List ℕ → List ℕ → List ℕ → ℕ → ℕ → Bool
listed_in_turn sets targets to_come x more =
    eqb (get_or to_come (get_or targets x 0) 0) 1 || (eqb (get_or to_come (get_or targets x 0) 0) 0 && not (eqb (grown_set sets x more) (get_or sets x 0)))

-- all inputs of component k have come, or it was started without: it waits for its first turn, or has had it
abbrev pub Due : List ℕ → ℕ → Type 0
Due to_come k = get_or to_come k 0 ≡ 0

-- how many of the 128 places are 0: the components that are due, and the places behind the last component, which are 0 from the start
unfoldable pub dues : List ℕ → ℕ
dues to_come = count (λ k. eqb (get_or to_come k 0) 0) most_components

-- the most entries of the list
abbrev pub most_turns : ℕ
most_turns = most_components + most_flows

-- The sets are of colours that can reach their channels; the list has components that are due, and is paid for by members and by places that are 0.
pub record SpreadingInTurn (f : Netlist) (sets to_come list : List ℕ) : Type 0 where
  pub sets_long : length sets ≡ 256
  pub come_long : length to_come ≡ most_components
  pub small : (x : ℕ) → get_or sets x 0 < 256
  pub inside : (x d : ℕ) → x < f.channels → in_bytes sets x d ≡ true → Reaches f x d
  pub few : length list ≤ members f sets + dues to_come
  pub named : (i : ℕ) → i < length list → (get_or list i 0 < f.components) × Due to_come (get_or list i 0)

-- `Covered` holds of each output port of the components that are due
pub record AllCovered (f : Netlist) (sets to_come list : List ℕ) : Type 0 where
  pub covered : (k : ℕ) → k < f.components → Due to_come k → (p : Port) → is_output (port_use (kind (row_of f k)) p) ≡ true → Covered f sets list k p

-- a stretch of work: what was covered is so afterwards, who waits or is due stays so, who has become due waits, and the list grows no faster than the sets and the number of places that are 0
pub record OnwardInTurn (f : Netlist) (sets to_come list sets' to_come' list' : List ℕ) : Type 0 where
  pub paid : length list' + members f sets + dues to_come ≤ length list + members f sets' + dues to_come'
  pub still : (k : ℕ) → Waits list k → Waits list' k
  pub stays : (k : ℕ) → Due to_come k → Due to_come' k
  pub keeps : (k : ℕ) → k < f.components → Due to_come k → (p : Port) → Covered f sets list k p → Covered f sets' list' k p
  pub fresh : (k : ℕ) → Due to_come' k → Due to_come k ⊎ Waits list' k

-- such a stretch of work after which component k is covered at the ports that are done
pub record PassedOnInTurn (f : Netlist) (sets to_come list sets' to_come' list' : List ℕ) (done : Port → Type 0) (k : ℕ) : Type 0 where
  pub spreading : SpreadingInTurn f sets' to_come' list'
  pub onward : OnwardInTurn f sets to_come list sets' to_come' list'
  pub covers : (p : Port) → done p → Covered f sets' list' k p

-- Of a list `again` before such a stretch of work and `again'` after it, meant for those that wait for a further turn: with these it is one as `PassedOn` has it, wherever the first `next` components are due; what was covered of a component that
-- is due is so afterwards; and who is new on `again'` is on `list'`.
pub record Further (f : Netlist) (sets to_come again sets' again' list' : List ℕ) (done : Port → Type 0) (k : ℕ) : Type 0 where
  pub passed : (next : ℕ) → next ≤ f.components → ((j : ℕ) → j < next → Due to_come j) → PassedOn f next sets again sets' again' done k
  pub keeps : (j : ℕ) → j < f.components → Due to_come j → (p : Port) → Covered f sets again j p → Covered f sets' again' j p
  pub on_list : (j : ℕ) → Waits again' j → Waits again j ⊎ Waits list' j

-- for any list of which `Spreading` holds before it there is such a one after it
pub record FurtherTurns (f : Netlist) (sets to_come sets' list' : List ℕ) (done : Port → Type 0) (k : ℕ) : Type 0 where
  pub turns : (again : List ℕ) → Spreading f sets again → (again' : List ℕ) × Further f sets to_come again sets' again' list' done k

-- nobody waits: who is due has passed on all that has come in
pub record Settled (f : Netlist) (sets to_come list : List ℕ) : Type 0 where
  pub spreading : SpreadingInTurn f sets to_come list
  pub covered : AllCovered f sets to_come list
  pub nobody : length list ≡ 0
