-- What the code's tables of sums hold, by the numbers 8x + d and 8q + d. No part of what a reader must believe; proofs/Sums ties it to `flow_sum` and `entry`.
use Rattle.std.specs.Prelude.{◌≡◌, false, Result, cond, ◌&&◌, List, [], ◌∷◌, ℕ, ◌+◌, ◌*◌, ◌<◌, ltb, ℤ, pos, ◌*ℤ◌}
use Rattle.integers.specs.Sum.{sum_to, same}
use Rattle.integers.specs.Tables.{Summed}
use Rattle.refusals.specs.Refusals.{test, first_refusal}
use Rattle.refusals.specs.declared.Refusal.{Refusal}
use Rattle.refusals.specs.declared.Refusal.TheVariants.{NoEquation}
use Rattle.component.specs.Kind.{is_queue}
use Rattle.component.specs.Row.{kind}
use Rattle.component.specs.Limits.{most_entries, most_flows}
use Rattle.netlist.specs.Netlist.{Netlist, row_of}
use Rattle.equations.specs.Equations.{has_equation, factor}
use Rattle.equations.specs.Numbers.{numbered, name_verdict}
use Rattle.flows.specs.Terms.{terms, component_of, index, multiplier}
use Rattle.flows.specs.Verdict.{bad_term, first_bad_term}

-- the factor of flow v in the equation of term k
unfoldable pub flow_factor : Netlist → List ℕ → ℕ → ℕ → ℤ
flow_factor f p k v = numbered f.colours (factor f (component_of p k) (index p k)) v

-- the factor of count u in the equation of component q and index i
unfoldable pub count_of : Netlist → ℕ → ℕ → ℕ → ℤ
count_of f q i u = cond (has_equation f q i && is_queue (kind (row_of f q))) (same (8 * q + i) u) (pos 0)

abbrev pub count_factor : Netlist → List ℕ → ℕ → ℕ → ℤ
count_factor f p k u = count_of f (component_of p k) (index p k) u

-- the sums of the first k terms
abbrev pub flows_to : Netlist → List ℕ → ℕ → ℕ → ℤ
flows_to f p k v = sum_to k (λ j. multiplier p j *ℤ flow_factor f p j v)

abbrev pub counts_to : Netlist → List ℕ → ℕ → ℕ → ℤ
counts_to f p k u = sum_to k (λ j. multiplier p j *ℤ count_factor f p j u)

-- what a term comes to, and all terms
unfoldable pub term_verdict : Netlist → List ℕ → ℕ → Result Unit Refusal
term_verdict f p k = name_verdict (has_equation f (component_of p k) (index p k)) k

unfoldable pub terms_verdict : Netlist → List ℕ → Result Unit Refusal
terms_verdict f p = first_refusal (test (NoEquation (first_bad_term f p)) (ltb (first_bad_term f p) (terms p)) ∷ [])

-- after k terms that name equations
pub record Added (f : Netlist) (p : List ℕ) (k : ℕ) (s w : List ℤ) : Type 0 where
  pub good : (j : ℕ) → j < k → bad_term f p j ≡ false
  pub flows : Summed most_flows (flows_to f p k) s
  pub counts : Summed most_entries (counts_to f p k) w
