-- The theorems of specs/Ceiling.antt. Assumes nothing.
use mathlib.Core.Path.{◌≡◌, ap, sym, subst}
use mathlib.Core.List.{List}
use Prim.Native.Nat.{ℕ, ◌≤◌}
use Rattle.std.proofs.Common.{Ok, Result}
use Rattle.refusals.specs.declared.Refusal.{Refusal}
use Rattle.component.specs.Row.{kind}
use Rattle.component.proofs.ByKind.{is-queue}
use Rattle.netlist.specs.Netlist.{Netlist, row_of}
use Rattle.reader.specs.File.{netlist_in}
use Rattle.cells.specs.Good.{Good}
use Rattle.cells.specs.Counts.{counts}
use Rattle.cells.proofs.Counts.{counts-le}
use Rattle.flows.specs.Flows.{accepted_sum, constant}
use Rattle.headroom.proofs.Headroom.{Within}
use Rattle.ceiling.specs.Ceiling.{ceiling, ceiling_by, ceiling_verdict, ceiling_value}
use Rattle.ceiling.proofs.Answer.{granted}
use Rattle.ceiling.proofs.Holds.{ceiling-holds}
use Rattle.demands.specs.Ceiling.{CeilingHolds, CeilingInside}
use Rattle.demands.proofs.Sums.{sums_kept, sums-inside}

good-within : (f : Netlist) (state : List ℕ) → Good f state → Within f (counts state)
good-within f state g = record { most = λ q l e d. counts-le f state g q l (is-queue (kind (row_of f q)) e) d }

value-given : (file p : List ℕ) (q d : ℕ) → ceiling_verdict file p q d ≡ Ok tt → ceiling_value file p q d ≡ ceiling (netlist_in file) p q d
unfolding ceiling_value ceiling_by
value-given file p q d e = ap (λ (v : Result Unit Refusal). ceiling_by v (netlist_in file) p q d) e

-- in a good state in which the sum is the constant
below : (file p : List ℕ) (q d : ℕ) → ceiling_verdict file p q d ≡ Ok tt → {s : List ℕ}
    → Good (netlist_in file) s × (accepted_sum (netlist_in file) p (counts s) ≡ constant (netlist_in file) p) → counts s q d ≤ ceiling_value file p q d
below file p q d accepted {s} k =
    let f : Netlist = netlist_in file in
    let a = granted file p q d accepted in
    subst (λ (n : ℕ). counts s q d ≤ n) (sym (value-given file p q d accepted))
    (ceiling-holds f p (counts s) (good-within f s k.0) k.1 q d a.component a.queue a.colour a.above)

pub ceiling_holds : CeilingHolds
ceiling_holds file p q d accepted state began calls = below file p q d accepted (sums_kept file p (granted file p q d accepted).accepted state began calls)

pub ceiling_inside : CeilingInside
ceiling_inside file p q d accepted state began calls choices ran m l =
    below file p q d accepted (sums-inside file p (granted file p q d accepted).accepted state began calls choices ran m l)
