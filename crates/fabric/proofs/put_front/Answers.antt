use mathlib.Core.Path.{◌≡◌, ap, ◌∙◌}
use mathlib.Core.List.{List, ◌++◌}
use Prim.Native.Nat.{ℕ}
use native.Mathlib.Omega.{arith}
use lib.ListN.{length, get_or, drop}
use Rattle.digits.specs.UpTo.{up_to}
use Rattle.fabric.proofs.Unpacked.{put_all}
use Rattle.fabric.proofs.put_front.Goals as goal

pub returns : goal.returns
returns c =
    let l = c.loop-i in
    let e : l.i ≡ length c.args.from.now = omega (arith, l.invariant.0, c.loop-i-test.false) in
    l.invariant.1 ∙ ap (λ (n : ℕ). up_to n (λ i. get_or c.args.from.now i 0) ++ drop n c.args.to.now) e
    ∙ ap (λ (s : List ℕ). s ++ drop (length c.args.from.now) c.args.to.now) (put_all c.args.from.now)
