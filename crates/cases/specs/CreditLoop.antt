-- The credit loop, and a fork whose outputs are the two inputs of one join.
use Rattle.std.specs.Prelude.{ℕ, List, ◌++◌}
use Rattle.fabric.specs.PackedFile.{packed_file}
use Rattle.cases.specs.Rows.{line}

-- C=1, M=6: 0 source out 0; 1 join 0, 1 to 2; 2 queue 2 to 3, capacity 2; 3 fork 3 to 4, 5; 4 sink 4; 5 queue 5 to 1, capacity 2, filling 2.
unfoldable pub credit_table : List ℕ
credit_table =
    line 0 0 0 0 128 0 0
    ++ line 5 0 1 2 0 0 0
    ++ line 2 2 3 0 0 2 0
    ++ line 4 3 4 5 0 0 0
    ++ line 1 4 0 0 0 0 0
    ++ line 2 5 1 0 0 2 2

unfoldable pub credit_file : List ℕ
credit_file = packed_file 1 6 credit_table 6

-- source to 0, fork 0 to 1 and 2, join 1 and 2 to 3, sink 3
unfoldable pub fork_into_join : List ℕ
fork_into_join =
    line 0 0 0 0 128 0 0
    ++ line 4 0 1 2 0 0 0
    ++ line 5 1 2 3 0 0 0
    ++ line 1 3 0 0 0 0 0
