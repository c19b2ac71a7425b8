-- How many bytes the parts of a fabric take. The code's constants of the same names stand in src/lib.rt.
use Rattle.std.specs.Prelude.{ℕ, ◌+◌, ◌*◌}

-- header, 4 bytes
abbrev pub header_size : ℕ
header_size = 4

-- then N records of 13 bytes
abbrev pub record_size : ℕ
record_size = 13

-- a file of n records
abbrev pub file_size : ℕ → ℕ
file_size n = header_size + record_size * n

-- open: 24 bytes a component
abbrev pub row_size : ℕ
row_size = 24
