-- The tests of a call begin with those of its file; what an accepted one gives. Assumes nothing.
use Rattle.std.proofs.Common.{refl}
use Rattle.std.proofs.Common.{Result, Ok, Err}
use mathlib.Core.Path.{◌≡◌, ap, sym, ◌∙◌}
use Prim.Native.Nat.{ℕ}
use mathlib.Core.List.{List, ◌++◌}
use Rattle.refusals.specs.Refusals.{Test, first_refusal, kept}
use Rattle.refusals.specs.declared.Refusal.{Refusal}
use Rattle.refusals.proofs.Refusals.{and_then, refusal-append, then-accepted}
use Rattle.record.specs.Table.{open_table}
use Rattle.netlist.specs.Netlist.{Netlist, netlist_of}
use Rattle.netlist.specs.Accepted.{AcceptedFabric}
use Rattle.netlist.specs.declared.Size.{Size}
use Rattle.reader.specs.File.{header_fields, size_in, netlist_in, file_tests}
use Rattle.reader.specs.Reading.{read_as, reading}
use Rattle.reader.proofs.Accepted.{accepted-parts}
use Rattle.reader.proofs.Exists.{accepted-exists}

-- ---- the file's tests, and then others
pub after-file : (file : List ℕ) (rest : List Test) → first_refusal (file_tests file ++ rest) ≡ (Ok tt) → (first_refusal (file_tests file) ≡ (Ok tt)) × (first_refusal rest ≡ (Ok tt))
after-file file rest e = then-accepted (first_refusal (file_tests file)) (first_refusal rest) (sym (refusal-append (file_tests file) rest) ∙ e)

pub rest_of : (file : List ℕ) → first_refusal (file_tests file) ≡ (Ok tt) → (rest : List Test) → first_refusal (file_tests file ++ rest) ≡ first_refusal rest
rest_of file ok rest = refusal-append (file_tests file) rest ∙ ap (λ (v : Result Unit Refusal). and_then v (first_refusal rest)) ok

pub netlist-is : (file : List ℕ) {s : Size} → reading file ≡ Ok s → netlist_in file ≡ netlist_of s (open_table file s.components)
unfolding netlist_in
netlist-is file e = ap (λ (t : Size). netlist_of t (open_table file t.components)) (accepted-parts file e).1

-- the facts of every accepted file
file-reads : (file : List ℕ) → first_refusal (file_tests file) ≡ (Ok tt) → reading file ≡ Ok (size_in (header_fields file))
unfolding reading
file-reads file ok = rw ok

pub facts : (file : List ℕ) → first_refusal (file_tests file) ≡ (Ok tt) → (ends : List ℕ) × (order : List ℕ) × AcceptedFabric (netlist_in file) ends order
unfolding netlist_in
facts file ok = accepted-exists file (size_in (header_fields file)) (file-reads file ok)

-- ---- what a call comes to, by what reading comes to
abbrev pub after : Result Size Refusal → List ℕ → (Netlist → Result Unit Refusal) → Result Unit Refusal
after (Ok s) file f = f (netlist_of s (open_table file s.components))
after (Err r) file f = Err r

-- what it leaves in lent memory
abbrev pub left : Result Size Refusal → List ℕ → (Netlist → List ℕ) → List ℕ → List ℕ
left (Ok s) file new old = new (netlist_of s (open_table file s.components))
left (Err r) file new old = old

after_read : (v : Result Unit Refusal) (s : Size) (file : List ℕ) (f : Netlist → Result Unit Refusal) → and_then v (f (netlist_of s (open_table file s.components))) ≡ after (read_as v s) file f
after_read (Ok _) s file f = refl
after_read (Err r) s file f = refl

left_read : (v : Result Unit Refusal) (s : Size) (file : List ℕ) (f : Netlist → Result Unit Refusal) (new : Netlist → List ℕ) (old : List ℕ)
    → kept (and_then v (f (netlist_of s (open_table file s.components)))) (new (netlist_of s (open_table file s.components))) old ≡ left (read_as v s) file (λ g. kept (f g) (new g) old) old
left_read (Ok _) s file f new old = refl
left_read (Err r) s file f new old = refl

module _ (file : List ℕ) (rest : Netlist → List Test) where
  pub judged_after : first_refusal (file_tests file ++ rest (netlist_in file)) ≡ after (reading file) file (λ f. first_refusal (rest f))
  unfolding reading netlist_in
  judged_after = refusal-append (file_tests file) (rest (netlist_in file)) ∙ after_read (first_refusal (file_tests file)) (size_in (header_fields file)) file (λ f. first_refusal (rest f))

  pub left_after : (new : Netlist → List ℕ) (old : List ℕ) → kept (first_refusal (file_tests file ++ rest (netlist_in file))) (new (netlist_in file)) old ≡ left (reading file) file (λ f. kept (first_refusal (rest f)) (new f) old) old
  unfolding reading netlist_in
  left_after new old =
      ap (λ (v : Result Unit Refusal). kept v (new (netlist_in file)) old) (refusal-append (file_tests file) (rest (netlist_in file)))
      ∙ left_read (first_refusal (file_tests file)) (size_in (header_fields file)) file (λ f. first_refusal (rest f)) new old
