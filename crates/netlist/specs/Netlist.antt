-- The netlist of a fabric: how many colours, channels and components it has, and its open table.
use Rattle.std.specs.Prelude.{ℕ, List}
use Rattle.record.specs.Table.{row}
use Rattle.netlist.specs.declared.Size.{Size}

pub record Netlist : Type 0 where
  pub colours : ℕ
  pub channels : ℕ
  pub components : ℕ
  pub table : List ℕ

abbrev pub netlist : ℕ → ℕ → ℕ → List ℕ → Netlist
netlist c m n t = record { colours = c; channels = m; components = n; table = t }

-- the numbers of a header
abbrev pub sized : ℕ → ℕ → ℕ → Size
sized c m n = record { colours = c; channels = m; components = n }

-- the netlist of a header's numbers and a table
abbrev pub netlist_of : Size → List ℕ → Netlist
netlist_of s t = netlist s.colours s.channels s.components t

-- the row of component k
abbrev pub row_of : Netlist → ℕ → List ℕ
row_of f k = row f.table k
