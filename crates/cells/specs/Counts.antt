-- n(q,d) in a state.
use Rattle.std.specs.Prelude.{cond, List, [], ◌∷◌, ℕ, ◌+◌, eqb}
use Rattle.cells.specs.Cells.{cell, queue_colours}

-- how many of the colours are d
abbrev pub count_in : List ℕ → ℕ → ℕ
count_in [] d = 0
count_in (c ∷ cs) d = cond (eqb c d) 1 0 + count_in cs d

-- n(q,d) is the count of d among the first colours of q, as many as byte 0 of q says
abbrev pub counts : List ℕ → ℕ → ℕ → ℕ
counts state q d = count_in (queue_colours (cell state q)) d
