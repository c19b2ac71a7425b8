-- The verdict on a proposal for a fabric that was read: refusals 11 to 14, in this order.
use Rattle.std.specs.Prelude.{◌≡◌, Bool, false, Result, Ok, Err, not, ◌&&◌, ◌||◌, List, [], ◌∷◌, ◌++◌, ℕ, ◌*◌, ◌/◌, ◌%◌, ◌^◌, ◌<◌, ltb, eqb, length, drop, ℤ, pos}
use Rattle.std.specs.Int.{w64}
use Rattle.std.proofs.Common.{of_z}
use Rattle.digits.specs.Least.{least}
use Rattle.digits.specs.UpTo.{up_to}
use Rattle.integers.specs.Sum.{is_zero}
use Rattle.refusals.specs.Refusals.{Test, test, first_refusal}
use Rattle.refusals.specs.declared.Refusal.{Refusal}
use Rattle.refusals.specs.declared.Refusal.TheVariants.{ProposalLength, NoEquation, FlowLeft, NoWeight, ResultSpace}
use Rattle.netlist.specs.Netlist.{Netlist}
use Rattle.reach.specs.Rounds.{reachable}
use Rattle.equations.specs.Equations.{has_equation}
use Rattle.flows.specs.Terms.{terms, component_of, index, most_terms}
use Rattle.flows.specs.Flows.{flow_sum, weight, entry, constant}

-- 11 proposal length no multiple of 4, or over 16,384
abbrev pub bad_length : List ℕ → Bool
bad_length p = not (eqb (length p % 4) 0) || ltb (4 * most_terms) (length p)

-- 12 no such component or equation (first such term, from 0)
unfoldable pub bad_term : Netlist → List ℕ → ℕ → Bool
bad_term f p k = not (has_equation f (component_of p k) (index p k))

abbrev pub first_bad_term : Netlist → List ℕ → ℕ
first_bad_term f p = least (bad_term f p) (terms p)

-- 13 a flow left inside the sets (8 times channel plus colour, lowest)
unfoldable pub is_left : Netlist → List ℕ → ℕ → Bool
is_left f p v = ltb (v % 8) f.colours && (not (is_zero (flow_sum f p (v / 8) (v % 8))) && reachable f (v / 8) (v % 8))

abbrev pub lowest_left : Netlist → List ℕ → ℕ
lowest_left f p = least (is_left f p) (8 * f.channels)

-- 14 all weights 0
unfoldable pub is_weight : Netlist → List ℕ → ℕ → Bool
is_weight f p u = not (is_zero (entry f p u))

abbrev pub weightless : Netlist → List ℕ → Bool
weightless f p = eqb (least (is_weight f p) (8 * f.components)) (8 * f.components)

-- check 1-8, 11-14, 23: the tests 11 to 14
abbrev pub judge_tests : Netlist → List ℕ → List Test
judge_tests f p =
    test ProposalLength (bad_length p)
    ∷ test (NoEquation (first_bad_term f p)) (ltb (first_bad_term f p) (terms p))
    ∷ test (FlowLeft (lowest_left f p)) (ltb (lowest_left f p) (8 * f.channels))
    ∷ test NoWeight (weightless f p)
    ∷ []

unfoldable pub judged : Netlist → List ℕ → Result Unit Refusal
judged f p = first_refusal (judge_tests f p)

-- then 23 result space short, with room for so many entries
unfoldable pub judged_within : Netlist → List ℕ → ℕ → Result Unit Refusal
judged_within f p space = first_refusal (judge_tests f p ++ (test ResultSpace (ltb space (8 * f.components)) ∷ []))

-- what a call hands back with a verdict: a value where it is accepted, the refusal else
abbrev pub giving : {T : Type 0} → Result Unit Refusal → T → Result T Refusal
giving (Ok tt) x = Ok x
giving (Err r) x = Err r

-- Both files are well formed if none of 1-8, 11 and 12 is met: of the proposal, 11 and 12.
pub record WellFormed (f : Netlist) (p : List ℕ) : Type 0 where
  pub lengths : bad_length p ≡ false
  pub named : (k : ℕ) → k < terms p → bad_term f p k ≡ false

-- some weight is not 0
abbrev pub SomeWeight : Netlist → List ℕ → Type 0
SomeWeight f p = (q : ℕ) × (d : ℕ) × (q < f.components) × (d < f.colours) × (weight f p q d ≡ pos 0 → ⊥)

-- K; any other number that a refused call hands back is 0
unfoldable pub constant_by : Result Unit Refusal → Netlist → List ℕ → ℤ
constant_by (Ok tt) f p = constant f p
constant_by (Err r) f p = pos 0

-- the lent table after a verdict: 8N entries, or as it was
unfoldable pub table_by : Result Unit Refusal → Netlist → List ℕ → List ℤ → List ℤ
table_by (Ok tt) f p s = up_to (8 * f.components) (entry f p) ++ drop (8 * f.components) s
table_by (Err r) f p s = s

-- a 64-bit entry is 8 bytes, lowest first: byte i of the two's complement of z
abbrev pub byte_of : ℤ → ℕ → ℕ
byte_of z i = of_z w64 z / 2 ^ (8 * i) % 256

-- byte j of a table of entries
abbrev pub weight_byte : (ℕ → ℤ) → ℕ → ℕ
weight_byte g j = byte_of (g (j / 8)) (j % 8)

-- lent bytes after a verdict, which hold an entry in each whole 8: 64N bytes, or as they were
unfoldable pub bytes_by : Result Unit Refusal → Netlist → List ℕ → List ℕ → List ℕ
bytes_by (Ok tt) f p bytes = up_to (8 * (8 * f.components)) (weight_byte (entry f p)) ++ drop (8 * (8 * f.components)) bytes
bytes_by (Err r) f p bytes = bytes
