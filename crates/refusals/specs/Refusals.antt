-- Refused because of the input, refused because of the state: number (place; 0 if not named).
use Rattle.std.specs.Prelude.{ℕ, Bool, cond, List, [], ◌∷◌, Result, Ok, Err}
use Rattle.refusals.specs.declared.Refusal.{Refusal}
use Rattle.refusals.specs.declared.Refusal.TheVariants.{FileShort, WrongEdition, CountRange, WrongLength, ByteSum, BadField, ChannelEnds, Circle, ChoiceCount, BadChoice, ProposalLength, NoEquation, FlowLeft, NoWeight, StateShort, BadState, ResultSpace, NotAQueue, WeightNotPositive, BadBlocks}

abbrev pub refusal_number : Refusal → ℕ
refusal_number FileShort = 1
refusal_number WrongEdition = 2
refusal_number CountRange = 3
refusal_number WrongLength = 4
refusal_number ByteSum = 5
refusal_number (BadField k) = 6
refusal_number (ChannelEnds x) = 7
refusal_number Circle = 8
refusal_number ChoiceCount = 9
refusal_number (BadChoice i) = 10
refusal_number ProposalLength = 11
refusal_number (NoEquation i) = 12
refusal_number (FlowLeft i) = 13
refusal_number NoWeight = 14
refusal_number StateShort = 21
refusal_number (BadState k) = 22
refusal_number ResultSpace = 23
refusal_number NotAQueue = 31
refusal_number WeightNotPositive = 32
refusal_number BadBlocks = 33

-- 0 if it names none
abbrev pub refusal_place : Refusal → ℕ
refusal_place (BadField k) = k
refusal_place (ChannelEnds x) = x
refusal_place (BadChoice i) = i
refusal_place (NoEquation i) = i
refusal_place (FlowLeft i) = i
refusal_place (BadState k) = k
refusal_place _ = 0

-- Success is 0 with place 0.
abbrev pub outcome_number : {T : Type 0} → Result T Refusal → ℕ
outcome_number (Ok _) = 0
outcome_number (Err r) = refusal_number r

abbrev pub outcome_place : {T : Type 0} → Result T Refusal → ℕ
outcome_place (Ok _) = 0
outcome_place (Err r) = refusal_place r

-- a test: the refusal, and whether the input meets it
pub data Test : Type 0 where
  test : Refusal → Bool → Test

-- Order: the first test that is met refuses
abbrev pub first_refusal : List Test → Result Unit Refusal
first_refusal [] = Ok tt
first_refusal (test r met ∷ ts) = cond met (Err r) (first_refusal ts)

-- Lent memory keeps its former bytes where the call is refused.
abbrev pub kept : Result Unit Refusal → List ℕ → List ℕ → List ℕ
kept (Ok _) new old = new
kept (Err _) new old = old
