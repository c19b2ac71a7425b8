-- What is noted for a signal of an accepted fabric, and that what is laid out is a plan. Assumes nothing.
use mathlib.Core.Path.{◌≡◌, sym, ap, ◌∙◌}
use mathlib.Core.List.{List, ◌++◌}
use Prim.Native.Nat.{ℕ, suc, ◌*◌, ◌/◌, ◌≤◌, ◌<◌}
use native.Mathlib.Omega.{arith}
use native.Mathlib.Decide.{dec_lt}
use Rattle.std.proofs.lemmas.List.{get_or_past}
use lib.ListN.{length, get_or, drop}
use Rattle.digits.specs.UpTo.{up_to}
use Rattle.digits.proofs.UpTo.{length-filled, filled-rest}
use Rattle.wiring.specs.Signals.{end_of}
use Rattle.netlist.specs.Netlist.{Netlist}
use Rattle.netlist.specs.Accepted.{AcceptedFabric}
use Rattle.plan.specs.declared.Place.{Place}
use Rattle.plan.specs.Plan.{planned, Planned}

-- what is not 0 stands in the list
pub stands : (xs : List ℕ) (i e : ℕ) → get_or xs i 0 ≡ suc e → i < length xs
stands xs i e q = within (dec_lt i (length xs))
  where
    within : Dec (i < length xs) → i < length xs
    within (yes h) = h
    within (no h) = let z = get_or_past xs i 0 (omega arith) in absurd (omega (arith, q, z))

module _ {f : Netlist} {ends order : List ℕ} (a : AcceptedFabric f ends order) where
  -- the component that gives a signal
  pub owner : (s : ℕ) → s < 2 * f.channels → end_of f.table f.components s / 3 < f.components
  owner s h = omega (arith, a.wires.matched.inside s h)

  -- what is laid out is a plan
  pub is-planned : (before now : List Place) → 2 * f.channels ≤ length before → now ≡ up_to (2 * f.channels) (planned f order) ++ drop (2 * f.channels) before → Planned f now
  is-planned before now h e = record {
    ends = ends;
    order = order;
    accepted = a;
    long = rw (e, length-filled (planned f order) before (2 * f.channels) h) h;
    laid = e ∙ ap (λ (l : List Place). up_to (2 * f.channels) (planned f order) ++ l) (sym (ap (drop (2 * f.channels)) e ∙ filled-rest (planned f order) (drop (2 * f.channels) before) (2 * f.channels)));
  }
