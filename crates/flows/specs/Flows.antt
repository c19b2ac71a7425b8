-- Flows and the check: when a flow cancels, the weights, the constant K, and the accepted sum. p is the proposal's bytes.
use Rattle.std.specs.Prelude.{◌≡◌, cond, ◌&&◌, List, ℕ, ◌/◌, ◌%◌, ◌<◌, ltb, eqb, ℤ, pos, ◌*ℤ◌}
use Rattle.integers.specs.Sum.{sum_to}
use Rattle.component.specs.Kind.{is_queue}
use Rattle.component.specs.Row.{kind, filling, fill_colour}
use Rattle.netlist.specs.Netlist.{Netlist, row_of}
use Rattle.reach.specs.Reaches.{Reaches}
use Rattle.equations.specs.Equations.{factor}
use Rattle.flows.specs.Terms.{terms, component_of, index, multiplier}

-- over all terms of the proposal, the multiplier times the factor of L(x,d) in the named equation
unfoldable pub flow_sum : Netlist → List ℕ → ℕ → ℕ → ℤ
flow_sum f p x d = sum_to (terms p) (λ k. multiplier p k *ℤ factor f (component_of p k) (index p k) x d)

-- A flow is one L(x,d), x below M and d below C. It cancels if that adds up to 0. Every flow inside the sets cancels, whether or not a run ever moves it:
abbrev pub CancelsInside : Netlist → List ℕ → Type 0
CancelsInside f p = (x d : ℕ) → x < f.channels → d < f.colours → Reaches f x d → flow_sum f p x d ≡ pos 0

-- The weight of n(q,d) is the sum of the multipliers of the terms that name queue q and index d.
unfoldable pub weight : Netlist → List ℕ → ℕ → ℕ → ℤ
weight f p q d = cond (is_queue (kind (row_of f q))) (sum_to (terms p) (λ k. cond (eqb (component_of p k) q && eqb (index p k) d) (multiplier p k) (pos 0))) (pos 0)

-- entry 8 times q plus d is the weight of n(q,d), other entries 0
unfoldable pub entry : Netlist → List ℕ → ℕ → ℤ
entry f p u = cond (ltb (u % 8) f.colours) (weight f p (u / 8) (u % 8)) (pos 0)

-- The accepted sum is weight times n(q,d), added up over all queues and colours.
unfoldable pub accepted_sum : Netlist → List ℕ → (ℕ → ℕ → ℕ) → ℤ
accepted_sum f p n = sum_to f.components (λ q. sum_to f.colours (λ d. weight f p q d *ℤ pos (n q d)))

-- n0(q,d): a queue's filling, of its fill colour
abbrev pub start_count : Netlist → ℕ → ℕ → ℕ
start_count f q d = cond (eqb d (fill_colour (row_of f q))) (filling (row_of f q)) 0

-- the constant K is the sum of weight times n0
unfoldable pub constant : Netlist → List ℕ → ℤ
constant f p = accepted_sum f p (start_count f)
