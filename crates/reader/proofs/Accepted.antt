-- What an accepted file gives. Assumes nothing.
use Rattle.std.proofs.Common.{Ok}
use mathlib.Core.Path.{◌≡◌, ap, sym, ◌∙◌}
use Prim.Native.Nat.{ℕ, ◌≤◌}
use native.Mathlib.Omega.{arith}
use mathlib.Core.List.{List}
use lib.ListN.{length}
use lib.Dec.{ltb}
use Rattle.refusals.specs.Refusals.{first_refusal}
use Rattle.refusals.specs.declared.Refusal.TheVariants.{FileShort}
use Rattle.refusals.proofs.Refusals.{refusal-append, cond-accepted, then-accepted}
use Rattle.record.specs.Table.{open_table}
use Rattle.record.specs.Sizes.{file_size}
use Rattle.component.specs.Limits.{most_components}
use Rattle.netlist.specs.declared.Size.{Size}
use Rattle.reader.specs.File.{header_fields, colours_in, channels_in, components_in, size_in, header_tests, record_tests, file_tests}
use Rattle.reader.specs.Reading.{reading}
use Rattle.reader.proofs.Facts.{read-fabric, HeaderFacts, header-facts}

module _ (file : List ℕ) {s : Size} (e : reading file ≡ Ok s) where
  pub accepted-parts : (first_refusal (file_tests file) ≡ (Ok tt)) × (size_in (header_fields file) ≡ s)
  unfolding reading
  accepted-parts = read-fabric (first_refusal (file_tests file)) _ e

  -- its numbers, one by one
  pub accepted-size : (colours_in (header_fields file) ≡ s.colours) × (channels_in (header_fields file) ≡ s.channels) × (components_in (header_fields file) ≡ s.components)
  accepted-size = (ap (λ (t : Size). t.colours) accepted-parts.1, ap (λ (t : Size). t.channels) accepted-parts.1, ap (λ (t : Size). t.components) accepted-parts.1)

  -- the tests behind the first
  rest : (first_refusal (header_tests (header_fields file) file) ≡ (Ok tt))
      × (first_refusal (record_tests (colours_in (header_fields file)) (channels_in (header_fields file)) file (open_table file (components_in (header_fields file))) (components_in (header_fields file))) ≡ (Ok tt))
  rest =
      let s = cond-accepted FileShort (ltb (length file) 4) _ accepted-parts.0 in
      let h : List ℕ = header_fields file in
      let records = record_tests (colours_in h) (channels_in h) file (open_table file (components_in h)) (components_in h) in
      then-accepted (first_refusal (header_tests h file)) (first_refusal records) (sym (refusal-append (header_tests h file) records) ∙ s.1)

  -- an accepted file has the length and the sum that its header says
  pub accepted-header : HeaderFacts (header_fields file) file
  accepted-header = header-facts (header_fields file) file rest.0

  -- and its records are right
  pub accepted-records : first_refusal (record_tests s.colours s.channels file (open_table file s.components) s.components) ≡ (Ok tt)
  accepted-records = rw (← accepted-parts.1) rest.1

  pub accepted_long : (length file ≡ file_size s.components) × (s.components ≤ most_components)
  accepted_long = let n = accepted-size.2 in (omega (arith, n, accepted-header.long), omega (arith, n, accepted-header.few_rows))
