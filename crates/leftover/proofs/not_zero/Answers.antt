use mathlib.Core.Path.{◌≡◌, refl, sym, ap}
use mathlib.Core.Bool.{Bool, true, false, not}
use lib.Dec.{eqb}
use borrow.Author.Tests.{eqb-true, eqb-false}
use mir.Syntax.{w64}
use mir.Val.{of_z}
use Rattle.integers.specs.Sum.{is_zero}
use Rattle.integers.proofs.Sum.{is-zero}
use Rattle.integers.proofs.Near.{zero_bits, nonzero-bits}
use Rattle.leftover.proofs.not_zero.Goals as goal

pub returns : goal.returns
returns c = ap not (go (eqb (of_z w64 c.args.entry) 0) refl)
  where
    go : (b : Bool) → eqb (of_z w64 c.args.entry) 0 ≡ b → b ≡ is_zero c.args.entry
    go true e = sym (is-zero c.args.entry (zero_bits c.args.entry c.ranges.entry.sfits (eqb-true _ 0 e)))
    go false e = sym (nonzero-bits c.args.entry (eqb-false _ 0 e))
