-- Weights and the entries of the lent table. Assumes nothing.
use mathlib.Core.Path.{◌≡◌}
use mathlib.Core.Bool.{false}
use mathlib.Core.List.{List}
use Prim.Native.Nat.{ℕ, ◌+◌, ◌*◌, ◌/◌, ◌%◌, ◌<◌}
use native.Mathlib.Omega.{arith}
use lib.IntN.{pos}
use borrow.Author.Tests.{lt-ltb}
use Rattle.component.specs.Kind.{is_queue}
use Rattle.component.specs.Row.{kind}
use Rattle.netlist.specs.Netlist.{Netlist, row_of}
use Rattle.flows.specs.Flows.{weight, entry}

pub weight-other : (f : Netlist) (p : List ℕ) (q d : ℕ) → is_queue (kind (row_of f q)) ≡ false → weight f p q d ≡ pos 0
unfolding weight
weight-other f p q d e = rw e

pub entry-weight : (f : Netlist) (p : List ℕ) (q d : ℕ) → d < 8 → d < f.colours → entry f p (8 * q + d) ≡ weight f p q d
unfolding entry
entry-weight f p q d l m =
    let x : (8 * q + d) / 8 ≡ q = omega arith in
    let y : (8 * q + d) % 8 ≡ d = omega arith in
    rw (x, y, lt-ltb d f.colours m)
