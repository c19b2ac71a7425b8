-- Colours that can reach a channel, and what check says by them, as two tables of inputs and expected answers.
use Rattle.std.specs.Prelude.{cond, List, [], ◌∷◌, ◌++◌, ℕ, ◌*◌, eqb, take, replicate, ℤ, pos}
use Rattle.digits.specs.UpTo.{up_to}
use Rattle.refusals.specs.Refusals.{outcome_number, outcome_place}
use Rattle.reader.specs.File.{netlist_in}
use Rattle.fabric.specs.PackedFile.{packed_file}
use Rattle.stepping.specs.Calls.{state_after_start, state_after_step, moves_after_step}
use Rattle.reaching.specs.Reach.{reach_verdict, sets_after_reach}
use Rattle.checking.specs.Check.{check_verdict, check_constant, weights_after_check}
use Rattle.lines.specs.Decimal.{digit}
use Rattle.lines.specs.Listing.{listing}
use Rattle.cases.specs.Rows.{row₂, line, term}
use Rattle.cases.specs.Table.{Case, ◌gives◌}

-- C=2, M=2: a source of this mask to 0; queue 0 to 1, capacity 1, of this filling, of colour 0; sink 1
unfoldable pub through_file : ℕ → ℕ → List ℕ
through_file mask filling = packed_file 2 2 (row₂ 0 0 0 0 0 0 0 0 mask 0 0 0 ++ row₂ 2 0 1 0 0 0 0 0 0 1 filling 0 ++ row₂ 1 1 0 0 0 0 0 0 0 0 0 0) 3

-- C=1, M=3: source to 0; merge 0, 1 to 2; queue 2 to 1, capacity 1, empty
unfoldable pub back_file : List ℕ
back_file = packed_file 1 3 (line 0 0 0 0 128 0 0 ++ line 7 0 1 2 0 0 0 ++ line 2 2 1 0 0 1 0) 3

-- C=1, M=3: source to 0; join 0, 1 to 2; queue 2 to 1, capacity 1, of this filling
unfoldable pub token_file : ℕ → List ℕ
token_file filling = packed_file 1 3 (line 0 0 0 0 128 0 0 ++ line 5 0 1 2 0 0 0 ++ line 2 2 1 0 0 1 filling) 3

-- C=2, M=9: a source of colour 1 to 0; fork 0 to 1, both colours to 0, and to 2, as they are; queue 1 to 3, empty; queue 2 to 4, one packet of colour 0 in it;
-- switch 4 to 5, 6, colour 1 to 5; merge 3, 5 to 7; join 6, 7 to 8, both colours to 1; sink 8
unfoldable pub maps_file : List ℕ
maps_file =
    packed_file 2 9
    (row₂ 0 0 0 0 0 0 0 0 64 0 0 0
    ++ row₂ 4 0 1 2 0 0 0 1 0 0 0 0
    ++ row₂ 2 1 3 0 0 0 0 0 0 1 0 0
    ++ row₂ 2 2 4 0 0 0 0 0 0 1 1 0
    ++ row₂ 6 4 5 6 0 0 0 0 64 0 0 0
    ++ row₂ 7 3 5 7 0 0 0 0 0 0 0 0
    ++ row₂ 5 6 7 8 1 1 0 0 0 0 0 0
    ++ row₂ 1 8 0 0 0 0 0 0 0 0 0 0)
    8

-- C=2, M=2, a ring: queue 0 to 1, capacity 2, one packet of colour 0 in it; function 1 to 0, both colours to 1
unfoldable pub ring_file : List ℕ
ring_file = packed_file 2 2 (row₂ 2 0 1 0 0 0 0 0 0 2 1 0 ++ row₂ 3 1 0 0 1 1 0 0 0 0 0 0) 2

-- reach on a file with this many lent bytes of 9; check and the listing of a file and terms; steps of `back_file` with these choices, from start
pub data Input : Type 0 where
  sets : List ℕ → ℕ → Input
  terms : List ℕ → List ℕ → Input
  lists : List ℕ → List ℕ → Input
  steps : List (List ℕ) → Input

-- number, place, then the lent bytes, a mask byte a channel; number, place, K, then 8N lent entries of 9; the text; what moved in each step
pub data Answer : Type 0 where
  masks : ℕ → ℕ → List ℕ → Answer
  answer : ℕ → ℕ → ℤ → List ℤ → Answer
  prints : List ℕ → Answer
  moved : List (List ℕ) → Answer

abbrev moved_all : List ℕ → List (List ℕ) → List (List ℕ)
moved_all state [] = []
moved_all state (c ∷ cs) = moves_after_step back_file state c (replicate 3 9) ∷ moved_all (state_after_step back_file state c 3) cs

abbrev pub answer_to : Input → Answer
answer_to (sets file n) = masks (outcome_number (reach_verdict file n)) (outcome_place (reach_verdict file n)) (sets_after_reach file (replicate n 9))
answer_to (terms file p) =
    answer (outcome_number (check_verdict file p (8 * (netlist_in file).components))) (outcome_place (check_verdict file p (8 * (netlist_in file).components))) (check_constant file p (8 * (netlist_in file).components))
    (weights_after_check file p (replicate (8 * (netlist_in file).components) (pos 9)))
answer_to (lists file p) = prints (listing file p)
answer_to (steps choices) = moved (moved_all (state_after_start back_file (replicate 192 7)) choices)

-- lent entries of 9, not written
abbrev kept : ℕ → List ℤ
kept n = replicate n (pos 9)

-- entry u of n is w, the others are 0
abbrev only : ℕ → ℕ → ℕ → List ℤ
only n u w = up_to n (λ v. cond (eqb v u) (pos w) (pos 0))

unfoldable pub colour_sets : List (Case Input Answer)
colour_sets =
    -- a source's mask; queue input. Bytes past M are kept, and with space for fewer all are.
    (sets (through_file 128 0) 3 gives masks 0 0 (128 ∷ 128 ∷ 9 ∷ []))
    ∷ (sets (through_file 128 0) 2 gives masks 0 0 (128 ∷ 128 ∷ []))
    ∷ (sets (through_file 128 0) 1 gives masks 23 0 (9 ∷ []))
    -- a file that is refused: of its first 4 bytes alone 4
    ∷ (sets (take 4 (through_file 128 0)) 0 gives masks 4 0 [])
    -- plus the fill colour, 0 here, if the filling is above 0
    ∷ (sets (through_file 64 0) 3 gives masks 0 0 (64 ∷ 64 ∷ 9 ∷ []))
    ∷ (sets (through_file 64 1) 3 gives masks 0 0 (64 ∷ 192 ∷ 9 ∷ []))
    -- a join whose token never comes lets nothing out; where it comes, the join gives it back
    ∷ (sets (token_file 0) 4 gives masks 0 0 (128 ∷ 0 ∷ 0 ∷ 9 ∷ []))
    ∷ (sets (token_file 1) 4 gives masks 0 0 (128 ∷ 128 ∷ 128 ∷ 9 ∷ []))
    -- fork maps; the fill colour; switch masks; the union at a merge; the join map of A, whatever B's colours
    ∷ (sets maps_file 10 gives masks 0 0 (64 ∷ 128 ∷ 64 ∷ 128 ∷ 192 ∷ 64 ∷ 128 ∷ 192 ∷ 64 ∷ 9 ∷ []))
    -- a function map, in rounds: colour 0 is on 1 in the first, 1 on 0 in the second and on 1 in the third
    ∷ (sets ring_file 3 gives masks 0 0 (64 ∷ 192 ∷ 9 ∷ []))
    -- what comes back on 1 finds the queue full and never moves: it is in the sets all the same
    ∷ (sets back_file 4 gives masks 0 0 (128 ∷ 128 ∷ 128 ∷ 9 ∷ []))
    ∷ []

unfoldable pub leftovers : List (Case Input Answer)
leftovers =
    -- colour 1 never comes to the queue: its leftover flow is ignored, and its weight counts. Q 1 1 7, SUM 0. Colour 0 comes: 13, place 0.
    (terms (through_file 128 0) (term 1 1 7) gives answer 0 0 (pos 0) (only 24 9 7))
    ∷ (lists (through_file 128 0) (term 1 1 7) gives prints (81 ∷ 32 ∷ digit 1 ∷ 32 ∷ digit 1 ∷ 32 ∷ digit 7 ∷ 10 ∷ 83 ∷ 85 ∷ 77 ∷ 32 ∷ digit 0 ∷ 10 ∷ []))
    ∷ (terms (through_file 128 0) (term 1 0 7) gives answer 13 0 (pos 0) (kept 24))
    ∷ (terms (through_file 128 0) (term 1 1 7 ++ term 1 0 7) gives answer 13 0 (pos 0) (kept 24))
    -- the source's equation leaves L(0,1), outside, and has no weight
    ∷ (terms (through_file 128 0) (term 0 1 1) gives answer 14 0 (pos 0) (kept 24))
    -- of L(0,0) and L(1,0) the second is inside if the queue is filled, and no other: place 8
    ∷ (terms (through_file 64 0) (term 1 0 7) gives answer 0 0 (pos 0) (only 24 8 7))
    ∷ (terms (through_file 64 1) (term 1 0 7) gives answer 13 8 (pos 0) (kept 24))
    -- behind a join whose token never comes no flow is left
    ∷ (terms (token_file 0) (term 2 0 1) gives answer 0 0 (pos 0) (only 24 16 1))
    ∷ (terms (token_file 1) (term 2 0 1) gives answer 13 8 (pos 0) (kept 24))
    -- whether or not a run ever moves it: the merge picks what comes back, the full queue does not take it, and 13, place 8, names it
    ∷ (steps ((1 ∷ 0 ∷ 0 ∷ []) ∷ (1 ∷ 1 ∷ 0 ∷ []) ∷ (1 ∷ 1 ∷ 0 ∷ []) ∷ []) gives moved ((1 ∷ 0 ∷ 1 ∷ []) ∷ (0 ∷ 0 ∷ 0 ∷ []) ∷ (0 ∷ 0 ∷ 0 ∷ []) ∷ []))
    ∷ (terms back_file (term 2 0 1) gives answer 13 8 (pos 0) (kept 24))
    ∷ []
