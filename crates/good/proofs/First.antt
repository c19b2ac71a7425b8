-- Laws of a search that goes on from where all before passed. Assumes nothing.
use Rattle.std.proofs.Common.{◌≡◌, ℕ, ◌+◌, ◌-◌, ◌<◌, ◌≤◌, Bool, false, Some, None, sym, ap, ◌∙◌, arith}
use native.Mathlib.Decide.{dec_lt}
use Rattle.search.specs.First.{first}
use Rattle.search.proofs.Laws.{first_at, no_first, first_least, first_true, first_before, none_passes}

module _ (test : ℕ → Bool) (n from : ℕ) (l : from ≤ n) (none : (j : ℕ) → j < from → test j ≡ false)
    (here : ℕ → Bool) (same : (i : ℕ) → here i ≡ test (from + i)) where
  before : (m : ℕ) → ((i : ℕ) → i < m → here i ≡ false) → (j : ℕ) → j < from + m → test j ≡ false
  before m h j b = go (dec_lt j from)
    where
      go : Dec (j < from) → test j ≡ false
      go (yes k) = none j k
      go (no k) =
          let e : from + (j - from) ≡ j = omega arith in
          ap test (sym e) ∙ sym (same (j - from)) ∙ h (j - from) (omega arith)

  pub found_from : (o : ℕ) → first here (n - from) ≡ Some o → first test n ≡ Some (from + o)
  found_from o e =
      let (k, is) = first_least here (n - from) o e in
      first_at test n (from + o) (omega arith) (before o (first_before here (n - from) o e)) (sym (same o) ∙ first_true here (n - from) o e)

  pub none_from : first here (n - from) ≡ None → first test n ≡ None
  none_from e = no_first test n (λ j h. before (n - from) (none_passes here (n - from) e) j (omega arith))
