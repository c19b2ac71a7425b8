-- What a proposal comes to, by the four tests. Assumes nothing.
use Rattle.std.proofs.Common.{Result, Ok, Err}
use Rattle.refusals.specs.declared.Refusal.{Refusal}
use mathlib.Core.Path.{◌≡◌, refl}
use mathlib.Core.Bool.{Bool, true, false}
use mathlib.Core.List.{List, [], ◌∷◌}
use Prim.Native.Nat.{ℕ, ◌*◌, ◌≤◌}
use lib.Dec.{ltb}
use Rattle.digits.proofs.Least.{least-le}
use Rattle.refusals.specs.Refusals.{test, first_refusal}
use Rattle.refusals.specs.declared.Refusal.TheVariants.{ProposalLength, NoEquation, FlowLeft, NoWeight}
use Rattle.netlist.specs.Netlist.{Netlist}
use Rattle.flows.specs.Terms.{terms}
use Rattle.flows.specs.Verdict.{bad_length, bad_term, first_bad_term, is_left, lowest_left, weightless, judged}

pub judged-by : (f : Netlist) (p : List ℕ) (P : Result Unit Refusal → Type 0) → (bad_length p ≡ true → P (Err ProposalLength))
    → ((k : ℕ) → k ≤ terms p → P (Err (NoEquation k))) → ((v : ℕ) → v ≤ 8 * f.channels → P (Err (FlowLeft v))) → P (Err NoWeight) → P (Ok tt) → P (judged f p)
unfolding judged
judged-by f p P long named left weightless-here accepted =
    go (bad_length p) refl (ltb (first_bad_term f p) (terms p)) (ltb (lowest_left f p) (8 * f.channels)) (weightless f p)
  where
    go : (a : Bool) → bad_length p ≡ a → (b c d : Bool)
        → P (first_refusal (test ProposalLength a ∷ test (NoEquation (first_bad_term f p)) b ∷ test (FlowLeft (lowest_left f p)) c ∷ test NoWeight d ∷ []))
    go true e b c d = long e
    go false e true c d = named (first_bad_term f p) (least-le (bad_term f p) (terms p))
    go false e false true d = left (lowest_left f p) (least-le (is_left f p) (8 * f.channels))
    go false e false false true = weightless-here
    go false e false false false = accepted
