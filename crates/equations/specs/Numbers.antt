-- How the code holds an equation: its flows by their numbers, 8x + d for L(x,d). No part of what a reader must believe; proofs/Agree ties it to `factor`.
use Rattle.std.specs.Prelude.{Bool, cond, not, Result, Ok, Err, IfOk, List, ℕ, ◌+◌, ◌*◌, ◌-◌, ◌/◌, ◌%◌, ◌≤◌, ◌<◌, ltb, eqb, ℤ, pos, ◌-ℤ◌}
use Rattle.integers.specs.Sum.{sum_to, same}
use Rattle.refusals.specs.declared.Refusal.{Refusal}
use Rattle.refusals.specs.declared.Refusal.TheVariants.{NoEquation}
use Rattle.record.specs.Table.{row}
use Rattle.component.specs.declared.kinds.Kind.{Kind}
use Rattle.component.specs.declared.kinds.Kind.TheVariants.{Source, Sink, Queue, Function, Fork, Join, Switch, Merge}
use Rattle.component.specs.declared.kinds.Port.TheVariants.{A, B, C}
use Rattle.component.specs.declared.kinds.Map.{Map}
use Rattle.component.specs.declared.kinds.Map.TheVariants.{First, Second}
use Rattle.component.specs.Row.{kind, port, map_of, mask, has_colour}
use Rattle.component.specs.Limits.{most_flows}
use Rattle.netlist.specs.Netlist.{Netlist}
use Rattle.equations.specs.Equations.{Side}
use Rattle.equations.specs.declared.Equation.{Equation}
use Rattle.equations.specs.declared.Equation.TheVariants.{One, Two, Three, Mapped, All}

-- term k names no equation
abbrev pub missing : ℕ → Result Equation Refusal
missing k = Err (NoEquation k)

abbrev pub source_flows : ℕ → ℕ → ℕ → ℕ → ℕ → Result Equation Refusal
source_flows a mask n d k = cond (ltb d n) (cond (has_colour mask d) (missing k) (Ok (One (8 * a + d)))) (missing k)

abbrev pub queue_flows : ℕ → ℕ → ℕ → ℕ → ℕ → Result Equation Refusal
queue_flows a b n d k = cond (ltb d n) (Ok (Two (8 * b + d) (8 * a + d))) (missing k)

abbrev pub mapped_flows : ℕ → ℕ → Map → ℕ → ℕ → ℕ → ℕ → Result Equation Refusal
mapped_flows out a map q n e k = cond (ltb e n) (Ok (Mapped (8 * out + e) (8 * a) q map e)) (missing k)

abbrev pub switch_flows : ℕ → ℕ → Bool → ℕ → ℕ → ℕ → Result Equation Refusal
switch_flows out a goes n d k = cond (ltb d n) (cond goes (Ok (Two (8 * out + d) (8 * a + d))) (Ok (One (8 * out + d)))) (missing k)

abbrev pub merge_flows : ℕ → ℕ → ℕ → ℕ → ℕ → ℕ → Result Equation Refusal
merge_flows a b c n d k = cond (ltb d n) (Ok (Three (8 * c + d) (8 * a + d) (8 * b + d))) (missing k)

-- the equation of index i of component q, of a kind, ports and mask, that term k names: an index below 8
unfoldable pub low_equation : Kind → ℕ → ℕ → ℕ → ℕ → ℕ → ℕ → ℕ → ℕ → Result Equation Refusal
low_equation Source a b c mask q n i k = source_flows a mask n i k
low_equation Sink a b c mask q n i k = missing k
low_equation Queue a b c mask q n i k = queue_flows a b n i k
low_equation Function a b c mask q n i k = mapped_flows b a First q n i k
low_equation Fork a b c mask q n i k = mapped_flows b a First q n i k
low_equation Join a b c mask q n i k = mapped_flows c a First q n i k
low_equation Switch a b c mask q n i k = switch_flows b a (has_colour mask i) n i k
low_equation Merge a b c mask q n i k = merge_flows a b c n i k

-- an index from 8 on
unfoldable pub high_equation : Kind → ℕ → ℕ → ℕ → ℕ → ℕ → ℕ → ℕ → ℕ → Result Equation Refusal
high_equation Source a b c mask q n i k = missing k
high_equation Sink a b c mask q n i k = missing k
high_equation Queue a b c mask q n i k = missing k
high_equation Function a b c mask q n i k = missing k
high_equation Fork a b c mask q n i k = mapped_flows c a Second q n (i - 8) k
high_equation Join a b c mask q n i k = cond (eqb i 8) (Ok (All (8 * a) (8 * b))) (missing k)
high_equation Switch a b c mask q n i k = switch_flows c a (not (has_colour mask (i - 8))) n (i - 8) k
high_equation Merge a b c mask q n i k = missing k

unfoldable pub equation_of : Kind → ℕ → ℕ → ℕ → ℕ → ℕ → ℕ → ℕ → ℕ → Result Equation Refusal
equation_of kind a b c mask q n i k =
    cond (ltb i 8) (low_equation kind a b c mask q n i k) (cond (ltb i 16) (high_equation kind a b c mask q n i k) (missing k))

unfoldable pub equation_at : List ℕ → ℕ → ℕ → ℕ → ℕ → Result Equation Refusal
equation_at t q n i k = equation_of (kind (row t q)) (port (row t q) A) (port (row t q) B) (port (row t q) C) (mask (row t q)) q n i k

-- the equation of component q and index i that term k names, or refusal 12
unfoldable pub equation_named : Netlist → ℕ → ℕ → ℕ → Result Equation Refusal
equation_named f q i k = cond (ltb q f.components) (equation_at f.table q f.colours i k) (missing k)

-- what term k comes to, whether there is such an equation or not
abbrev pub name_verdict : Bool → ℕ → Result Unit Refusal
name_verdict known k = cond known (Ok tt) (Err (NoEquation k))

-- refusal 12 where there is none
abbrev pub equation_verdict : Result Equation Refusal → Result Unit Refusal
equation_verdict (Ok e) = Ok tt
equation_verdict (Err r) = Err r

-- flow v among those of C colours from `from` on, that the map takes to `to`
unfoldable pub mapped_factor : List ℕ → ℕ → ℕ → ℕ → Map → ℕ → ℕ → ℤ
mapped_factor t n from q map to v = sum_to n (λ d. cond (eqb (map_of map (row t q) d) to) (same (from + d) v) (pos 0))

-- flow v among those of C colours from `from` on
unfoldable pub all_factor : ℕ → ℕ → ℕ → ℤ
all_factor n from v = sum_to n (λ d. same (from + d) v)

-- the factor of flow v
unfoldable pub factor_of : List ℕ → ℕ → Equation → ℕ → ℤ
factor_of t n (One p) v = same p v
factor_of t n (Two p q) v = same p v -ℤ same q v
factor_of t n (Three p q r) v = same p v -ℤ same q v -ℤ same r v
factor_of t n (Mapped p from q map to) v = same p v -ℤ mapped_factor t n from q map to v
factor_of t n (All p q) v = all_factor n p v -ℤ all_factor n q v

-- of a term's equation; 0 where it names none
abbrev pub equation_factor : List ℕ → ℕ → Result Equation Refusal → ℕ → ℤ
equation_factor t n (Ok e) v = factor_of t n e v
equation_factor t n (Err r) v = pos 0

-- a side by the number of the flow; a colour from C on has none
unfoldable pub numbered : ℕ → Side → ℕ → ℤ
numbered n s v = cond (ltb (v % 8) n) (s (v / 8) (v % 8)) (pos 0)

-- every flow of it is below 2040, and its component is one of n
abbrev pub Within : ℕ → Equation → Type 0
Within n (One p) = p < most_flows
Within n (Two p q) = (p < most_flows) × (q < most_flows)
Within n (Three p q r) = (p < most_flows) × (q < most_flows) × (r < most_flows)
Within n (Mapped p from q map to) = (p < most_flows) × (from + 8 ≤ most_flows) × (q < n)
Within n (All p q) = (p + 8 ≤ most_flows) × (q + 8 ≤ most_flows)

pub record InTable (n : ℕ) (e : Equation) : Type 0 where
  pub within : Within n e

-- where a term names one
pub record NamedIn (n : ℕ) (named : Result Equation Refusal) : Type 0 where
  pub in_table : IfOk named (InTable n)
