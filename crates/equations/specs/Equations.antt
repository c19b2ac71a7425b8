-- Flows and the check: the equations of a component, by kind and index. L(x,d) counts transfers of colour d on x since start.
-- The left side of an equation is given by the factor of each L(x,d) in it; a queue's n stands beside it.
use Rattle.std.specs.Prelude.{Bool, true, false, cond, not, ◌&&◌, ◌||◌, List, ℕ, ◌-◌, ltb, eqb, ℤ, pos, ◌-ℤ◌}
use Rattle.component.specs.declared.kinds.Kind.{Kind}
use Rattle.component.specs.declared.kinds.Kind.TheVariants.{Source, Sink, Queue, Function, Fork, Join, Switch, Merge}
use Rattle.component.specs.declared.kinds.Port.TheVariants.{A, B, C}
use Rattle.component.specs.Row.{kind, port, first_map, second_map, masked}
use Rattle.netlist.specs.Netlist.{Netlist, row_of}

-- the factor of each L(x,d): 1 or -1 as it stands there, the sum where it stands there twice, and 0 where it does not
abbrev pub Side : Type 0
Side = ℕ → ℕ → ℤ

-- L(y,e)
abbrev pub flow : ℕ → ℕ → Side
flow y e x d = cond (eqb x y && eqb d e) (pos 1) (pos 0)

-- sum of L(y,d) mapped to e
abbrev pub mapped_to : ℕ → (ℕ → ℕ) → ℕ → Side
mapped_to y map e x d = cond (eqb x y && eqb (map d) e) (pos 1) (pos 0)

-- all of L(y)
abbrev pub all_of : ℕ → Side
all_of y x d = cond (eqb x y) (pos 1) (pos 0)

-- nothing
abbrev pub none : Side
none x d = pos 0

-- a if the test holds
abbrev pub side_if : Bool → Side → Side
side_if true a = a
side_if false a = none

-- a - b
abbrev pub less : Side → Side → Side
less a b x d = a x d -ℤ b x d

-- e; 8+e: the first for indexes below 8, the second for those from 8 on, less 8
abbrev pub by_half : {X : Type 0} → (ℕ → X) → (ℕ → X) → ℕ → X
by_half a b i = cond (ltb i 8) (a i) (b (i - 8))

-- |equation|
unfoldable pub side : Kind → List ℕ → ℕ → Side
side Source r d = flow (port r A) d
side Sink r i = none
side Queue r d = less (flow (port r B) d) (flow (port r A) d)
side Function r e = less (flow (port r B) e) (mapped_to (port r A) (first_map r) e)
side Fork r i =
    by_half (λ e. less (flow (port r B) e) (mapped_to (port r A) (first_map r) e)) (λ e. less (flow (port r C) e) (mapped_to (port r A) (second_map r) e)) i
side Join r i = cond (eqb i 8) (less (all_of (port r A)) (all_of (port r B))) (less (flow (port r C) i) (mapped_to (port r A) (first_map r) i))
side Switch r i =
    by_half (λ d. less (flow (port r B) d) (side_if (masked r d) (flow (port r A) d))) (λ d. less (flow (port r C) d) (side_if (not (masked r d)) (flow (port r A) d))) i
side Merge r d = less (less (flow (port r C) d) (flow (port r A) d)) (flow (port r B) d)

-- |index| (e, d below C). No other index exists; sinks have none.
unfoldable pub has_index : Kind → List ℕ → ℕ → ℕ → Bool
has_index Source r colours d = ltb d colours && not (masked r d)
has_index Sink r colours i = false
has_index Queue r colours d = ltb d colours
has_index Function r colours e = ltb e colours
has_index Fork r colours i = by_half (λ e. ltb e colours) (λ e. ltb e colours) i
has_index Join r colours i = ltb i colours || eqb i 8
has_index Switch r colours i = by_half (λ d. ltb d colours) (λ d. ltb d colours) i
has_index Merge r colours d = ltb d colours

-- whether component k has an equation of index i
unfoldable pub has_equation : Netlist → ℕ → ℕ → Bool
has_equation f k i = ltb k f.components && has_index (kind (row_of f k)) (row_of f k) f.colours i

-- the factor of L(x,d) in the equation of component k and index i
unfoldable pub factor : Netlist → ℕ → ℕ → Side
factor f k i = side_if (has_equation f k i) (side (kind (row_of f k)) (row_of f k) i)
