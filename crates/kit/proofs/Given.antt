-- The numbers of an answer that gives a value where its verdict is accepted: any number that a refused call hands back is 0.
use Rattle.std.proofs.Common.{◌≡◌, refl, ℕ, List, Result, Ok, Err}
use Rattle.std.specs.Result.{result_unwrap_or}
use lib.IntN.{pos}
use Rattle.refusals.specs.declared.Refusal.{Refusal}
use Rattle.refusals.specs.Refusals.{outcome_number}
use Rattle.netlist.specs.Netlist.{Netlist}
use Rattle.flows.specs.Verdict.{giving, constant_by}
use Rattle.flows.specs.Flows.{constant}
use Rattle.ceiling.specs.Ceiling.{ceiling, ceiling_by}

pub constant_given : (v : Result Unit Refusal) (f : Netlist) (p : List ℕ) → result_unwrap_or (giving v (constant f p)) (pos 0) ≡ constant_by v f p
unfolding constant_by
constant_given (Ok _) f p = refl
constant_given (Err r) f p = refl

pub ceiling_given : (v : Result Unit Refusal) (f : Netlist) (p : List ℕ) (q d : ℕ) → result_unwrap_or (giving v (ceiling f p q d)) 0 ≡ ceiling_by v f p q d
unfolding ceiling_by
ceiling_given (Ok _) f p q d = refl
ceiling_given (Err r) f p q d = refl

pub number_given : {T : Type 0} (v : Result Unit Refusal) (x : T) → outcome_number (giving v x) ≡ outcome_number v
number_given (Ok _) x = refl
number_given (Err r) x = refl
