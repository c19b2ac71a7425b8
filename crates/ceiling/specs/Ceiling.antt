-- Ceiling for a place: a queue and a colour, of an accepted proposal.
use Rattle.std.specs.Prelude.{Bool, not, ◌&&◌, ◌||◌, Result, Ok, Err, List, [], ◌∷◌, ◌++◌, ℕ, ◌/◌, min, ltb, eqb}
use Rattle.integers.specs.Sign.{above_zero}
use Rattle.refusals.specs.Refusals.{Test, test, first_refusal}
use Rattle.refusals.specs.declared.Refusal.{Refusal}
use Rattle.refusals.specs.declared.Refusal.TheVariants.{NotAQueue, WeightNotPositive}
use Rattle.component.specs.Kind.{is_queue}
use Rattle.component.specs.Row.{kind, capacity}
use Rattle.netlist.specs.Netlist.{Netlist, row_of}
use Rattle.reader.specs.File.{netlist_in, file_tests}
use Rattle.flows.specs.Flows.{weight}
use Rattle.flows.specs.Verdict.{judge_tests}
use Rattle.headroom.specs.Headroom.{headroom}

-- add to K each weight below 0, sign dropped, times its queue's capacity (`headroom`), divide by k rounding down, and take the smaller of that and
-- the capacity
unfoldable pub ceiling : Netlist → List ℕ → ℕ → ℕ → ℕ
ceiling f p q d = min (above_zero (headroom f p) / above_zero (weight f p q d)) (capacity (row_of f q))

-- 31 not a queue, or colour not below C
unfoldable pub no_place : Netlist → ℕ → ℕ → Bool
no_place f q d = not (ltb q f.components && is_queue (kind (row_of f q))) || not (ltb d f.colours)

-- 32 weight not above 0
unfoldable pub not_above : Netlist → List ℕ → ℕ → ℕ → Bool
not_above f p q d = eqb (above_zero (weight f p q d)) 0

-- after 14: 31, 32; nothing is lent to be written, so no 23
abbrev pub place_tests : Netlist → List ℕ → ℕ → ℕ → List Test
place_tests f p q d = test NotAQueue (no_place f q d) ∷ test WeightNotPositive (not_above f p q d) ∷ []

abbrev pub ceiling_tests : Netlist → List ℕ → ℕ → ℕ → List Test
ceiling_tests f p q d = judge_tests f p ++ place_tests f p q d

-- the verdict on a fabric that was read
unfoldable pub placed : Netlist → List ℕ → ℕ → ℕ → Result Unit Refusal
placed f p q d = first_refusal (ceiling_tests f p q d)

unfoldable pub ceiling_verdict : List ℕ → List ℕ → ℕ → ℕ → Result Unit Refusal
ceiling_verdict file p q d = first_refusal (file_tests file ++ ceiling_tests (netlist_in file) p q d)

-- any other number that a refused call hands back is 0
unfoldable pub ceiling_by : Result Unit Refusal → Netlist → List ℕ → ℕ → ℕ → ℕ
ceiling_by (Ok tt) f p q d = ceiling f p q d
ceiling_by (Err r) f p q d = 0

unfoldable pub ceiling_value : List ℕ → List ℕ → ℕ → ℕ → ℕ
ceiling_value file p q d = ceiling_by (ceiling_verdict file p q d) (netlist_in file) p q d
