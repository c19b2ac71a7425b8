-- What a block gets for a fabric that was read. p is the block's terms.
use Rattle.std.specs.Prelude.{List, ◌∷◌, ◌++◌, ℕ, ◌+◌, ◌*◌, length, get_or, drop, ℤ, pos, Result, Ok, Err}
use Rattle.digits.specs.UpTo.{up_to}
use Rattle.refusals.specs.Refusals.{outcome_number, outcome_place}
use Rattle.refusals.specs.declared.Refusal.{Refusal}
use Rattle.netlist.specs.Netlist.{Netlist}
use Rattle.flows.specs.Flows.{entry}
use Rattle.flows.specs.Verdict.{judged, constant_by, weight_byte}

-- A block's result is 3+8N signed 64-bit entries:
unfoldable pub result_size : Netlist → ℕ
result_size f = 3 + 8 * f.components

-- the weights; those of a refused block are 0, as its K is
unfoldable pub entry_by : Result Unit Refusal → Netlist → List ℕ → ℕ → ℤ
entry_by (Ok tt) f p u = entry f p u
entry_by (Err r) f p u = pos 0

-- number, place, K, weights: those it would get alone
unfoldable pub block_result : Netlist → List ℕ → List ℤ
block_result f p =
    pos (outcome_number (judged f p)) ∷ pos (outcome_place (judged f p)) ∷ constant_by (judged f p) f p ∷ up_to (8 * f.components) (entry_by (judged f p) f p)

-- through C an entry is 8 bytes, lowest first
unfoldable pub result_bytes : Netlist → List ℕ → List ℕ
result_bytes f p = up_to (8 * result_size f) (weight_byte (λ i. get_or (block_result f p) i (pos 0)))

-- what is written over the front of lent memory
unfoldable pub over : {X : Type 0} → List X → List X → List X
over new old = new ++ drop (length new) old
