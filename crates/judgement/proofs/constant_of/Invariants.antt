use mathlib.Core.Path.{◌≡◌}
use Prim.Native.Nat.{◌*◌, ◌^◌, ◌≤◌}
use lib.IntN.{nat_abs}
use Rattle.integers.specs.Sum.{sum_to}
use Rattle.judgement.specs.Judged.{share_of}
use Rattle.judgement.proofs.constant_of.Given as goal

abbrev pub invariant-loop-q : goal.invariant-loop-q
invariant-loop-q l = (l.constant ≡ sum_to l.q (share_of l.netlist.table.bytes.now l.weights.entries.now)) × (nat_abs l.constant ≤ 2 ^ 48 * l.q)
