-- All records of a file, and all rows of a table.
use Rattle.std.specs.Prelude.{ℕ, zero, suc, ◌*◌, List, [], ◌++◌, take, drop}
use Rattle.record.specs.Record.{record_row, record_bytes}
use Rattle.record.specs.Sizes.{file_size, row_size}

-- row k of an open table
abbrev pub row : List ℕ → ℕ → List ℕ
row table k = take row_size (drop (row_size * k) table)

-- record k stands behind the header and the records before it
abbrev pub record_at : ℕ → ℕ
record_at k = file_size k

-- the open table of the first n records of a file
unfoldable pub open_table : List ℕ → ℕ → List ℕ
open_table file zero = []
open_table file (suc n) = open_table file n ++ record_row file (record_at n)

-- the records of the first n rows of a table
unfoldable pub records : List ℕ → ℕ → List ℕ
records table zero = []
records table (suc n) = records table n ++ record_bytes (row table n)
