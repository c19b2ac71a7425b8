use mathlib.Core.Path.{ap, ◌∙◌}
use lib.IntN.{ℤ}
use mir.Syntax.{w64}
use mir.Val.{of_z}
use mir.ValLaws.{to_z-of_z}
use native.Mathlib.Omega.{arith}
use Rattle.std.specs.Int.{to_le_bytes}
use Rattle.judgement.proofs.Laid.{put-laid}
use Rattle.judgement.proofs.entry.U8Entry.write.Goals as goal

pub returns : goal.returns
returns c =
    put-laid c.args.out.now c.args.u c.args.v c.requires (omega arith)
    (c.copy_from_slice.ensures.after ∙ c.to_le_bytes.ensures ∙ ap (λ (z : ℤ). to_le_bytes w64 (of_z w64 z)) (to_z-of_z w64 c.args.v c.ranges.v))
