-- The text of the listing program, as a function of the contents of its two files.
use Rattle.std.specs.Prelude.{if◌then◌else◌, List, [], ◌∷◌, ◌++◌, ℕ, zero, suc, ◌*◌, ◌/◌, ◌%◌, take, ℤ, pos, Result, Ok, Err}
use Rattle.std.specs.Ordering.{int_eq}
use Rattle.refusals.specs.Refusals.{refusal_number, refusal_place}
use Rattle.refusals.specs.declared.Refusal.{Refusal}
use Rattle.reader.specs.File.{netlist_in}
use Rattle.flows.specs.Flows.{entry}
use Rattle.flows.specs.Verdict.{giving}
use Rattle.checking.specs.Check.{check_verdict, check_constant}
use Rattle.lines.specs.Decimal.{integer}

-- a blank and a number
abbrev pub text_field : ℤ → List ℕ
text_field z = 32 ∷ integer z

-- `Q component colour weight` for weights other than 0; entry u is 8 times component plus colour
unfoldable pub weight_line : ℕ → ℤ → List ℕ
weight_line u w = if int_eq w (pos 0) then [] else (81 ∷ [] ++ text_field (pos (u / 8)) ++ text_field (pos (u % 8)) ++ text_field w ++ 10 ∷ [])

-- the lines of the entries below n, ascending
unfoldable pub weight_lines : ℕ → (ℕ → ℤ) → List ℕ
weight_lines zero weights = []
weight_lines (suc u) weights = weight_lines u weights ++ weight_line u (weights u)

-- `SUM K`
unfoldable pub sum_line : ℤ → List ℕ
sum_line k = 83 ∷ 85 ∷ 77 ∷ [] ++ text_field k ++ 10 ∷ []

-- `NO number place`
unfoldable pub refusal_line : ℕ → ℕ → List ℕ
refusal_line number place = 78 ∷ 79 ∷ [] ++ text_field (pos number) ++ text_field (pos place) ++ 10 ∷ []

-- the text for what check says
unfoldable pub text_by : Result ℤ Refusal → ℕ → (ℕ → ℤ) → List ℕ
text_by (Ok k) n weights = weight_lines n weights ++ sum_line k
text_by (Err r) n weights = refusal_line (refusal_number r) (refusal_place r)

-- a table of 1,024 entries has room for all weights of any fabric
abbrev pub room : ℕ
room = 1024

unfoldable pub listing_of : List ℕ → List ℕ → List ℕ
listing_of file p = text_by (giving (check_verdict file p room) (check_constant file p room)) (8 * (netlist_in file).components) (entry (netlist_in file) p)

-- fabric.bin (first 1,669 bytes) and proof.bin (first 16,385)
unfoldable pub listing : List ℕ → List ℕ → List ℕ
listing fabric proof = listing_of (take 1669 fabric) (take 16385 proof)
