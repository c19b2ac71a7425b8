-- What the code makes of the tables of sums. No part of what a reader must believe; proofs/Judged ties it to `judged`, `entry` and `constant`.
use Rattle.std.specs.Prelude.{◌≡◌, cond, Result, Ok, Err, List, [], ◌∷◌, ◌++◌, ℕ, ◌+◌, ◌*◌, ◌-◌, ◌^◌, ◌<◌, ltb, eqb, get_or, drop, ℤ, pos, ◌*ℤ◌}
use Rattle.digits.specs.Least.{least}
use Rattle.digits.specs.UpTo.{up_to}
use Rattle.integers.specs.Tables.{Near}
use Rattle.integers.specs.Sign.{above_zero}
use Rattle.refusals.specs.Refusals.{test, first_refusal}
use Rattle.refusals.specs.declared.Refusal.{Refusal}
use Rattle.refusals.specs.declared.Refusal.TheVariants.{FlowLeft, NoWeight}
use Rattle.record.specs.Table.{row}
use Rattle.component.specs.Kind.{is_queue}
use Rattle.component.specs.Row.{kind, filling, fill_colour}
use Rattle.component.specs.Limits.{most_entries}
use Rattle.netlist.specs.Netlist.{Netlist}
use Rattle.leftover.specs.Leftover.{not_zero, left_inside}
use Rattle.flows.specs.Flows.{entry, constant}
use Rattle.flows.specs.Verdict.{byte_of}
use Rattle.headroom.specs.Headroom.{owed_of, owed}
use Rattle.judgement.specs.declared.Weighing.{Weighing}

-- 13 and 14 from the sums of the flows and the weights
unfoldable pub sums_verdict : Netlist → List ℤ → List ℤ → Result Unit Refusal
sums_verdict f s w = first_refusal (test (FlowLeft (least (left_inside f s) (8 * f.channels))) (ltb (least (left_inside f s) (8 * f.channels)) (8 * f.channels))
    ∷ test NoWeight (eqb (least (not_zero w) (8 * f.components)) (8 * f.components)) ∷ [])

-- one component's share of the constant, of the table and its weights
unfoldable pub share_of : List ℕ → List ℤ → ℕ → ℤ
share_of t w q = cond (is_queue (kind (row t q))) (get_or w (8 * q + fill_colour (row t q)) (pos 0) *ℤ pos (filling (row t q))) (pos 0)

-- the weights of all queues and colours, so near 0 that what is made of them fits
pub record Weighed (f : Netlist) (p : List ℕ) (w : List ℤ) : Type 0 where
  pub near : Near most_entries (2 ^ 40) w
  pub at : (u : ℕ) → u < 8 * f.components → get_or w u (pos 0) ≡ entry f p u

-- lent memory after a verdict: its first 8N entries are the weights, or it is as it was
unfoldable pub written_by : {E : Type 0} → (ℕ → (ℕ → ℤ) → List E → List E) → Result Unit Refusal → Netlist → List ℕ → List E → List E
written_by filled (Ok tt) f p old = filled (8 * f.components) (entry f p) old
written_by filled (Err r) f p old = old

-- how far the weight of entry u is above 0; 0 where there is no such entry
unfoldable pub weight_at : Netlist → List ℕ → ℕ → ℕ
weight_at f p u = cond (ltb u (8 * f.components)) (above_zero (entry f p u)) 0

-- with the constant, and with what is owed where that weight is above 0
unfoldable pub weighing_of : Netlist → List ℕ → ℕ → Weighing
weighing_of f p u = record { constant = constant f p; weight = weight_at f p u; owed = cond (eqb (weight_at f p u) 0) 0 (owed f p) }

-- the same of a constant and a table of weights
abbrev pub weight_in : Netlist → List ℤ → ℕ → ℕ
weight_in f w u = cond (ltb u (8 * f.components)) (above_zero (get_or w u (pos 0))) 0

unfoldable pub weighing_in : ℤ → Netlist → List ℤ → ℕ → Weighing
weighing_in k f w u = record {
  constant = k;
  weight = weight_in f w u;
  owed = cond (eqb (weight_in f w u) 0) 0 (owed_of f (λ q d. get_or w (8 * q + d) (pos 0)));
}

-- bytes in which entry u is v
unfoldable pub laid : List ℕ → ℕ → ℤ → List ℕ
laid l u v = up_to (8 * u + 8) (λ j. cond (ltb j (8 * u)) (get_or l j 0) (byte_of v (j - 8 * u))) ++ drop (8 * u + 8) l
