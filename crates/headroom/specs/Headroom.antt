-- What a sum leaves for one place: its constant and, with every queue full, what the weights below 0 come to.
use Rattle.std.specs.Prelude.{List, ℕ, ◌*◌, ℤ, pos, ◌+ℤ◌}
use Rattle.integers.specs.Total.{total}
use Rattle.integers.specs.Sign.{below_zero}
use Rattle.component.specs.Row.{capacity}
use Rattle.netlist.specs.Netlist.{Netlist, row_of}
use Rattle.flows.specs.Flows.{weight, constant}

-- each weight below 0, sign dropped, times its queue's capacity, of any weights of queues and colours
unfoldable pub owed_of : Netlist → (ℕ → ℕ → ℤ) → ℕ
owed_of f weights = total f.components (λ q. total f.colours (λ d. below_zero (weights q d) * capacity (row_of f q)))

-- of a proposal's
abbrev pub owed : Netlist → List ℕ → ℕ
owed f p = owed_of f (weight f p)

-- add them to K: that is never below 0 on an accepted fabric (proofs/Headroom)
unfoldable pub headroom : Netlist → List ℕ → ℤ
headroom f p = constant f p +ℤ pos (owed f p)
