-- How large a fabric may be. The code's constants of the same names stand in src/lib.rt.
use Rattle.std.specs.Prelude.{ℕ, ◌*◌}
use Rattle.record.specs.Sizes.{row_size}

-- C-1, 3 bits
abbrev pub most_colours : ℕ
most_colours = 8

-- N, 8 bits (1..128)
abbrev pub most_components : ℕ
most_components = 128

-- M, 8 bits (1..255)
abbrev pub most_channels : ℕ
most_channels = 255

-- the open table of the largest fabric
abbrev pub table_size : ℕ
table_size = row_size * most_components

-- up to 2,040 flows
abbrev pub most_flows : ℕ
most_flows = most_colours * most_channels

-- the weights of the largest fabric, 8N
abbrev pub most_entries : ℕ
most_entries = most_colours * most_components
