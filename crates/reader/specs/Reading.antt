-- What reading a file comes to.
use Rattle.std.specs.Prelude.{ℕ, List, Result, Ok, Err}
use Rattle.refusals.specs.Refusals.{first_refusal}
use Rattle.refusals.specs.declared.Refusal.{Refusal}
use Rattle.netlist.specs.declared.Size.{Size}
use Rattle.reader.specs.File.{header_fields, size_in, file_tests}

-- C, M and N, or a refusal
abbrev pub read_as : Result Unit Refusal → Size → Result Size Refusal
read_as (Ok _) size = Ok size
read_as (Err r) size = Err r

abbrev pub verdict_of : Result Size Refusal → Result Unit Refusal
verdict_of (Ok size) = Ok tt
verdict_of (Err r) = Err r

-- any other number that a refused call hands back (C, M) is 0
abbrev pub colours_of : Result Size Refusal → ℕ
colours_of (Ok size) = size.colours
colours_of (Err r) = 0

abbrev pub channels_of : Result Size Refusal → ℕ
channels_of (Ok size) = size.channels
channels_of (Err r) = 0

unfoldable pub reading : List ℕ → Result Size Refusal
reading file = read_as (first_refusal (file_tests file)) (size_in (header_fields file))
