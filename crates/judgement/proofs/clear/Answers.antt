use mathlib.Core.Path.{◌≡◌, sym, ap, ap₂, ◌∙◌}
use mathlib.Core.List.{List, ◌++◌}
use Prim.Native.Nat.{ℕ, ◌*◌}
use native.Mathlib.Omega.{arith}
use lib.ListN.{length, take, drop, replicate}
use lib.Seq.{length-take-le}
use lib.IntN.{pos}
use Rattle.judgement.proofs.clear.Goals as goal

pub fill-requires : goal.fill-requires
fill-requires g c = g.met.E.Entry.sure _

pub returns : goal.returns
returns g c =
    let law = g.met.E.Entry in
    let wide = c.WIDTH.ensures in
    let long : length (take (c.WIDTH.result * c.args.n) c.args.out.now) ≡ g.E.Entry.WIDTH * c.args.n = length-take-le _ c.args.out.now (omega (arith, ap (λ (w : ℕ). w * c.args.n) wide)) ∙ ap (λ (w : ℕ). w * c.args.n) wide in
    let zeros = c.fill.ensures.after (λ y is. law.copied _ y is) ∙ ap₂ (λ (n : ℕ) (x : g.row.E.Denot). replicate n x) long c.ZERO.ensures ∙ sym (law.zeros c.args.n) in
    ap₂ (λ (a b : List g.row.E.Denot). a ++ b) zeros (ap (λ (w : ℕ). drop (w * c.args.n) c.args.out.now) wide) ∙ sym (law.is (λ u. pos 0) c.args.out.now c.args.n)
