-- What chains of tests come to: a good state under allowed choices meets none of 21, 22, 9 and 10; the last test of a file is the circle. Assumes nothing.
use mathlib.Core.Path.{◌≡◌, refl, ap, sym, ◌∙◌}
use mathlib.Core.Logic.{◌↔◌}
use mathlib.Core.Bool.{Bool, true, false, cond}
use mathlib.Core.List.{List, [], ◌∷◌, ◌++◌}
use Prim.Native.Nat.{ℕ, ◌*◌, ◌≤◌}
use native.Mathlib.Omega.{arith}
use lib.ListN.{length, take}
use borrow.Author.Tests.{le-ltb}
use Rattle.order.specs.Graph.{Circular, has_circle}
use Rattle.order.proofs.Circle.{circle-agrees}
use Rattle.refusals.specs.Refusals.{Test, test, first_refusal}
use Rattle.refusals.specs.declared.Refusal.TheVariants.{Circle}
use Rattle.std.proofs.Common.{Err, Ok, Result}
use Rattle.refusals.specs.declared.Refusal.{Refusal}
use Rattle.refusals.proofs.Refusals.{and_then, refusal-append}
use Rattle.wiring.specs.Signals.{dependence}
use Rattle.netlist.specs.Netlist.{Netlist}
use Rattle.reader.specs.File.{netlist_in, file_tests}
use Rattle.cells.specs.Good.{Good}
use Rattle.cells.specs.Choices.{bad_choice}
use Rattle.cells.specs.Cells.{cell_size}
use Rattle.cells.proofs.Good.{good-no-bad}
use Rattle.verdicts.specs.Stages.{ready_tests}

pub ready-passes : (f : Netlist) (s c : List ℕ) (uneven : Bool) (rest : List Test) → Good f s → uneven ≡ false → bad_choice f c ≡ length c
    → first_refusal (ready_tests f s c uneven ++ rest) ≡ first_refusal rest
ready-passes f s c uneven rest g even allowed =
    let n : f.components ≤ f.components = omega arith in
    let m : length c ≤ length c = omega arith in
    rw (le-ltb (length s) (cell_size * f.components) g.long, good-no-bad f s g, le-ltb f.components f.components n, even, allowed, le-ltb (length c) (length c) m)

-- where none of 1-7 is met, 8 decides
circle-last : (file : List ℕ) → first_refusal (take 7 (file_tests file)) ≡ Ok tt
    → first_refusal (file_tests file) ≡ cond (has_circle (dependence (netlist_in file).table (netlist_in file).components) (2 * (netlist_in file).channels)) (Err Circle) (Ok tt)
unfolding netlist_in
circle-last file e =
    let last : List Test = test Circle (has_circle (dependence (netlist_in file).table (netlist_in file).components) (2 * (netlist_in file).channels)) ∷ [] in
    refusal-append (take 7 (file_tests file)) last ∙ ap (λ (v : Result Unit Refusal). and_then v (first_refusal last)) e

met : (b : Bool) → ◌≡◌ {A = Result (Unit {0}) Refusal} (cond b (Err Circle) (Ok tt)) (Err Circle) → b ≡ true
met true e = refl
met false e = let z : ◌≡◌ {A = ℕ} 0 1 = cc in absurd (omega arith)

-- and it is met exactly if the dependences hold a circle
pub circle-refuses : (file : List ℕ) → first_refusal (take 7 (file_tests file)) ≡ Ok tt
    → (first_refusal (file_tests file) ≡ Err Circle) ↔ Circular (dependence (netlist_in file).table (netlist_in file).components) (2 * (netlist_in file).channels)
circle-refuses file e =
    let agrees = circle-agrees (dependence (netlist_in file).table (netlist_in file).components) (2 * (netlist_in file).channels) in
    (λ r. agrees.0 (met _ (sym (circle-last file e) ∙ r)), λ c. circle-last file e ∙ ap (λ (b : Bool). cond b (Err Circle) (Ok tt)) (agrees.1 c))
