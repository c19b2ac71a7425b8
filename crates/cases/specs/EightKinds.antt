-- A fabric with all eight kinds and two colours.
use Rattle.std.specs.Prelude.{ℕ, List, ◌++◌}
use Rattle.fabric.specs.PackedFile.{packed_file}
use Rattle.cases.specs.Rows.{row₂}

-- source to 0; function 0 to 1, the colours swapped; switch 1 to 2, 3; merge 2, 3 to 4; fork 4 to 5, 6; queues 5 to 7 and 6 to 8; join 7, 8 to 9; sink 9
unfoldable pub eight_table : List ℕ
eight_table =
    row₂ 0 0 0 0 0 0 0 0 192 0 0 0
    ++ row₂ 3 0 1 0 1 0 0 0 0 0 0 0
    ++ row₂ 6 1 2 3 0 0 0 0 128 0 0 0
    ++ row₂ 7 2 3 4 0 0 0 0 0 0 0 0
    ++ row₂ 4 4 5 6 0 1 1 1 0 0 0 0
    ++ row₂ 2 5 7 0 0 0 0 0 0 3 0 0
    ++ row₂ 2 6 8 0 0 0 0 0 0 2 1 1
    ++ row₂ 5 7 8 9 0 1 0 0 0 0 0 0
    ++ row₂ 1 9 0 0 0 0 0 0 0 0 0 0

unfoldable pub eight_file : List ℕ
eight_file = packed_file 2 10 eight_table 9
