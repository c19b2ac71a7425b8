-- What `check` comes to, by what reading comes to; and its two instances. Assumes nothing.
use Rattle.std.proofs.Common.{◌≡◌, refl, ap, ◌∙◌, ℕ, ◌/◌, ℤ, List, length, Result, Ok, Err}
use native.Mathlib.Omega.{arith}
use Rattle.refusals.specs.Refusals.{first_refusal}
use Rattle.refusals.specs.declared.Refusal.{Refusal}
use Rattle.refusals.proofs.Refusals.{and_then, refusal-append}
use Rattle.record.specs.Table.{open_table}
use Rattle.netlist.specs.Netlist.{netlist_of}
use Rattle.netlist.specs.declared.Size.{Size}
use Rattle.reader.specs.File.{header_fields, size_in, netlist_in, file_tests}
use Rattle.reader.specs.Reading.{read_as, reading}
use Rattle.flows.specs.Flows.{constant}
use Rattle.flows.specs.Verdict.{giving, judged_within}
use Rattle.judgement.specs.Entries.{entries_filled, bytes_filled}
use Rattle.judgement.specs.Judged.{written_by}
use Rattle.judgement.proofs.Judged.{table-written, bytes-written}
use Rattle.checking.specs.Check.{check_tests, check_verdict, weights_after_check, bytes_after_check}

-- of a file that was read, or of one that is refused
abbrev pub checked_read : Result Size Refusal → List ℕ → List ℕ → ℕ → Result ℤ Refusal
checked_read (Ok s) file p space =
    giving (judged_within (netlist_of s (open_table file s.components)) p space) (constant (netlist_of s (open_table file s.components)) p)
checked_read (Err r) file p space = Err r

abbrev pub written_read : {E : Type 0} → (ℕ → (ℕ → ℤ) → List E → List E) → Result Size Refusal → List ℕ → List ℕ → ℕ → List E → List E
written_read filled (Ok s) file p space old =
    written_by filled (judged_within (netlist_of s (open_table file s.components)) p space) (netlist_of s (open_table file s.components)) p old
written_read filled (Err r) file p space old = old

module _ (file p : List ℕ) (space : ℕ) where
  tests : check_verdict file p space ≡ and_then (first_refusal (file_tests file)) (judged_within (netlist_in file) p space)
  unfolding check_verdict judged_within
  tests = refusal-append (file_tests file) (check_tests (netlist_in file) p space)

  pub checked_by_reading : giving (check_verdict file p space) (constant (netlist_in file) p) ≡ checked_read (reading file) file p space
  unfolding netlist_in reading
  checked_by_reading = ap (λ (v : Result Unit Refusal). giving v (constant (netlist_in file) p)) tests ∙ go (first_refusal (file_tests file))
    where
      go : (v : Result Unit Refusal) → giving (and_then v (judged_within (netlist_in file) p space)) (constant (netlist_in file) p) ≡ checked_read (read_as v (size_in (header_fields file))) file p space
      go (Ok tt) = refl
      go (Err r) = refl

  pub written_by_reading : {E : Type 0} (filled : ℕ → (ℕ → ℤ) → List E → List E) (old : List E) → written_by filled (check_verdict file p space) (netlist_in file) p old ≡ written_read filled (reading file) file p space old
  unfolding netlist_in reading written_by
  written_by_reading filled old = ap (λ (v : Result Unit Refusal). written_by filled v (netlist_in file) p old) tests ∙ go (first_refusal (file_tests file))
    where
      go : (v : Result Unit Refusal) → written_by filled (and_then v (judged_within (netlist_in file) p space)) (netlist_in file) p old ≡ written_read filled (read_as v (size_in (header_fields file))) file p space old
      go (Ok tt) = refl
      go (Err r) = refl

-- ---- the weights as entries, and as bytes
pub check-entries : (file p : List ℕ) (table : List ℤ) → written_by entries_filled (check_verdict file p (length table / 1)) (netlist_in file) p table ≡ weights_after_check file p table
unfolding weights_after_check
check-entries file p table =
    let e : length table / 1 ≡ length table = omega arith in
    ap (λ (n : ℕ). written_by entries_filled (check_verdict file p n) (netlist_in file) p table) e ∙ table-written (check_verdict file p (length table)) (netlist_in file) p table

pub check-bytes : (file p bytes : List ℕ) → written_by bytes_filled (check_verdict file p (length bytes / 8)) (netlist_in file) p bytes ≡ bytes_after_check file p bytes
unfolding bytes_after_check
check-bytes file p bytes = bytes-written (check_verdict file p (length bytes / 8)) (netlist_in file) p bytes
