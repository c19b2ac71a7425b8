-- A block's result, entry by entry, in memory of either kind. Assumes nothing.
use mathlib.Core.Path.{◌≡◌, refl, sym, ap, ap₂, ◌∙◌}
use mathlib.Core.List.{List, [], ◌∷◌, ◌++◌, append_assoc}
use Prim.Native.Nat.{ℕ, ◌+◌, ◌*◌, ◌/◌, ◌≤◌, ◌<◌}
use Rattle.std.proofs.lemmas.Nat.{le-div}
use native.Mathlib.Omega.{arith}
use lib.ListN.{length, get_or, take, drop}
use lib.Seq.{drop-drop, length-take-le, get_or-append-add}
use Rattle.std.proofs.lemmas.List.{append-nil}
use Rattle.std.proofs.Common.{drop_of_length-le}
use Rattle.std.specs.Result.{is_err, result_unwrap_or}
use mathlib.Core.Bool.{true, false, true≢false}
use lib.IntN.{ℤ, pos}
use Rattle.std.proofs.Common.{Result, Ok, Err}
use Rattle.digits.specs.UpTo.{up_to}
use Rattle.digits.proofs.UpTo.{length-up_to, up_to-at, filled_is}
use Rattle.judgement.specs.Memory.{bytes_of}
use Rattle.judgement.specs.MemoryLaws.{bytes_up_to}
use Rattle.refusals.specs.Refusals.{outcome_number, outcome_place}
use Rattle.refusals.specs.declared.Refusal.{Refusal}
use Rattle.component.specs.Limits.{most_channels}
use Rattle.netlist.specs.Netlist.{Netlist}
use Rattle.flows.specs.Terms.{most_terms}
use Rattle.flows.specs.Flows.{entry, constant}
use Rattle.flows.specs.Verdict.{judged, giving, constant_by, weight_byte}
use Rattle.flows.proofs.Verdict.{judged-by}
use Rattle.judgement.specs.Judged.{written_by}
use Rattle.result.specs.Result.{result_size, entry_by, block_result, result_bytes, over}

-- ---- a block's number and place, so small that they fit
pub record Small (v : Result Unit Refusal) : Type 0 where
  pub number : outcome_number v ≤ most_terms
  pub place : outcome_place v ≤ most_terms

pub judged-small : (f : Netlist) (p : List ℕ) → f.channels ≤ most_channels → length p ≤ 4 * most_terms → Small (judged f p)
judged-small f p few short =
    judged-by f p Small (λ e. record { number = omega arith; place = omega arith }) (λ k l. record { number = omega arith; place = omega arith })
    (λ v l. record { number = omega arith; place = omega arith }) (record { number = omega arith; place = omega arith }) (record { number = omega arith; place = omega arith })

-- of an answer, as of the verdict that it stands for
pub answer-number : (v : Result Unit Refusal) (f : Netlist) (p : List ℕ) → outcome_number (giving v (constant f p)) ≡ outcome_number v
answer-number (Ok tt) f p = refl
answer-number (Err r) f p = refl

pub answer-place : (v : Result Unit Refusal) (f : Netlist) (p : List ℕ) → outcome_place (giving v (constant f p)) ≡ outcome_place v
answer-place (Ok tt) f p = refl
answer-place (Err r) f p = refl

-- ---- the whole result
pub size_is : (f : Netlist) → result_size f ≡ 3 + 8 * f.components
unfolding result_size
size_is f = refl

module _ (f : Netlist) (p : List ℕ) where
  pub length-result : length (block_result f p) ≡ result_size f
  unfolding block_result result_size
  length-result = omega (arith, length-up_to (entry_by (judged f p) f p) (8 * f.components))

  pub length-bytes : length (result_bytes f p) ≡ 8 * result_size f
  unfolding result_bytes
  length-bytes = length-up_to (weight_byte (λ i. get_or (block_result f p) i (pos 0))) (8 * result_size f)

  -- ---- its first three entries, with the weights behind them
  abbrev rest : List ℤ
  rest = up_to (8 * f.components) (entry_by (judged f p) f p)

  pub weight-at : (u : ℕ) → u < 8 * f.components → get_or (block_result f p) (3 + u) (pos 0) ≡ entry_by (judged f p) f p u
  unfolding block_result
  weight-at u l =
      get_or-append-add (pos (outcome_number (judged f p)) ∷ pos (outcome_place (judged f p)) ∷ constant_by (judged f p) f p ∷ []) rest u (pos 0) ∙ up_to-at (entry_by (judged f p) f p) (pos 0) (8 * f.components) u l

-- room for so many entries, as the memory's length says it
pub room-entries : (W n m : ℕ) → 0 < W → W * n ≤ m → n ≤ m / W
room-entries W n m some h = le-div n m W some (omega arith)

-- the space for a result: for three entries and the weights
pub result-space : (W : ℕ) (f : Netlist) → W * result_size f ≡ 3 * W + W * (8 * f.components)
unfolding result_size
result-space W f = omega arith

-- ---- in memory of entries or of bytes
module _ {X : Type 0} (W : ℕ) (memory : List ℤ → List X) (filled : ℕ → (ℕ → ℤ) → List X → List X) (is : (g : ℕ → ℤ) (s : List X) (n : ℕ) → filled n g s ≡ memory (up_to n g) ++ drop (W * n) s) (f : Netlist) (p : List ℕ) where
  -- the weights where a block is accepted,
  pub weights-accepted : (v : Result Unit Refusal) {answer : Result ℤ Refusal} (old : List X) {new : List X} → answer ≡ giving v (constant f p) → is_err answer ≡ false → new ≡ written_by filled v f p old
      → new ≡ memory (up_to (8 * f.components) (entry_by v f p)) ++ drop (W * (8 * f.components)) old
  unfolding entry_by written_by
  weights-accepted (Ok tt) old ea ok e = e ∙ is (entry f p) old (8 * f.components)
  weights-accepted (Err r) old ea ok e = absurd (true≢false (sym (ap is_err ea) ∙ ok))

  -- and zeros where it is refused
  pub weights-refused : (v : Result Unit Refusal) {answer : Result ℤ Refusal} (old : List X) {kept new : List X} → answer ≡ giving v (constant f p) → is_err answer ≡ true → kept ≡ written_by filled v f p old
      → new ≡ filled (8 * f.components) (λ u. pos 0) kept → new ≡ memory (up_to (8 * f.components) (entry_by v f p)) ++ drop (W * (8 * f.components)) old
  unfolding entry_by written_by
  weights-refused (Ok tt) old ea bad ek e = absurd (true≢false (sym bad ∙ ap is_err ea))
  weights-refused (Err r) old ea bad ek e = e ∙ ap (filled (8 * f.components) (λ u. pos 0)) ek ∙ is (λ u. pos 0) old (8 * f.components)

module _ {X : Type 0} (W : ℕ) (laid : List ℤ → List X) (more : (xs ys : List ℤ) → laid (xs ++ ys) ≡ laid xs ++ laid ys) (long : (xs : List ℤ) → length (laid xs) ≡ W * length xs) (f : Netlist) (p : List ℕ) where
  abbrev n : ℕ
  n = 8 * f.components

  -- the three entries before them
  pub result-laid : (old : List X) {front back head weights : List X} {a b c : ℤ} → W * result_size f ≤ length old → front ≡ take (3 * W) old → back ≡ drop (3 * W) old
      → head ≡ laid (a ∷ b ∷ c ∷ []) ++ drop (W * 3) front → weights ≡ laid (up_to n (entry_by (judged f p) f p)) ++ drop (W * n) back
      → a ≡ pos (outcome_number (judged f p)) → b ≡ pos (outcome_place (judged f p)) → c ≡ constant_by (judged f p) f p
      → head ++ weights ≡ over (laid (block_result f p)) old
  unfolding over block_result result_size
  result-laid old {front} {back} {head} {weights} {a} {b} {c} room ef eb eh ew ea eq ec =
      let E : List ℤ = up_to n (entry_by (judged f p) f p) in
      let all : laid (a ∷ b ∷ c ∷ []) ++ laid E ≡ laid (block_result f p) = sym (more (a ∷ b ∷ c ∷ []) E) ∙ ap laid (rw (ea, eq, ec) refl) in
      let short : length front ≤ W * 3 = omega (arith, ap length ef ∙ length-take-le (3 * W) old (omega (arith, result-space W f))) in
      let size : 3 * W + W * n ≡ length (laid (block_result f p)) = sym (result-space W f) ∙ sym (ap (λ (m : ℕ). W * m) (length-result f p)) ∙ sym (long (block_result f p)) in
      ap₂ (λ (x y : List X). x ++ y) (eh ∙ ap (λ (r : List X). laid (a ∷ b ∷ c ∷ []) ++ r) (drop_of_length-le front short) ∙ append-nil (laid (a ∷ b ∷ c ∷ [])))
      (ew ∙ ap (λ (r : List X). laid E ++ drop (W * n) r) eb)
      ∙ sym (append_assoc (laid (a ∷ b ∷ c ∷ [])) (laid E) (drop (W * n) (drop (3 * W) old)))
      ∙ ap₂ (λ (x y : List X). x ++ y) all (drop-drop (W * n) (3 * W) old ∙ ap (λ (m : ℕ). drop m old) size)

-- K of an answer, 0 where it is refused
pub answer-constant : (v : Result Unit Refusal) (f : Netlist) (p : List ℕ) {k : ℤ} {answer : Result ℤ Refusal} → answer ≡ giving v (constant f p) → k ≡ result_unwrap_or answer (pos 0) → k ≡ constant_by v f p
unfolding constant_by
answer-constant (Ok tt) f p e ek = ek ∙ ap (λ (r : Result ℤ Refusal). result_unwrap_or r (pos 0)) e
answer-constant (Err r) f p e ek = ek ∙ ap (λ (r : Result ℤ Refusal). result_unwrap_or r (pos 0)) e

-- through C: the bytes of a block's result are those of its entries
pub result-bytes : (f : Netlist) (p : List ℕ) → bytes_of (block_result f p) ≡ result_bytes f p
unfolding result_bytes
result-bytes f p =
    let g : ℕ → ℤ = λ i. get_or (block_result f p) i (pos 0) in
    let n = length-result f p in
    let all : block_result f p ≡ up_to (result_size f) g =
    filled_is g (block_result f p) (pos 0) (result_size f) (omega (arith, n)) (λ i l. refl)
    ∙ ap (λ (l : List ℤ). up_to (result_size f) g ++ l) (drop_of_length-le (block_result f p) {i = result_size f} (omega (arith, n))) ∙ append-nil (up_to (result_size f) g) in
    ap bytes_of all ∙ bytes_up_to g (result_size f)
