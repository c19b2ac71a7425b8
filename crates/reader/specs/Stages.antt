-- What the stages of the code come to. It describes the code, and proofs/Facts.antt ties it to the definitions.
use Rattle.std.specs.Prelude.{◌≡◌, ◌≤◌, length, List, ℕ, Result, Ok, Err}
use Rattle.record.specs.Sizes.{file_size, header_size}
use Rattle.component.specs.Limits.{most_channels, most_colours, most_components}
use Rattle.refusals.specs.Refusals.{first_refusal}
use Rattle.refusals.specs.declared.Refusal.{Refusal}
use Rattle.wiring.specs.Refused.{refusal_of}
use Rattle.wiring.specs.declared.Miswired.{Miswired}
use Rattle.netlist.specs.declared.Size.{Size}
use Rattle.reader.specs.File.{header_tests, header_fields, size_in}
use Rattle.reader.specs.Reading.{read_as}

abbrev pub wired_verdict : Result Unit Miswired → Result Unit Refusal
wired_verdict (Ok _) = Ok tt
wired_verdict (Err m) = Err (refusal_of m)

-- after the header: C, M and N, or a refusal of 2 to 5
unfoldable pub header_read : List ℕ → List ℕ → Result Size Refusal
header_read h file = read_as (first_refusal (header_tests h file)) (size_in h)

-- a file whose header is right
pub record Headed (file : List ℕ) (s : Size) : Type 0 where
  pub enough : header_size ≤ length file
  pub is : header_read (header_fields file) file ≡ Ok s
  pub few : s.components ≤ most_components
  pub few_colours : s.colours ≤ most_colours
  pub few_channels : s.channels ≤ most_channels
  pub long : length file ≡ file_size s.components
