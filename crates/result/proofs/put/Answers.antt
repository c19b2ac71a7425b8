use mathlib.Core.Path.{◌≡◌, ap, ◌∙◌}
use Prim.Native.Nat.{ℕ, ◌*◌}
use native.Mathlib.Omega.{arith}
use borrow.Author.Rules.{rules}
use lib.ListN.{take, drop}
use lib.IntN.{pos}
use mir.Val.{to_z, of_z}
use mir.Syntax.{w64}
use mir.ValLaws.{to_z_pos}
use Rattle.digits.specs.UpTo.{up_to}
use Rattle.netlist.specs.View.{facts_of}
use Rattle.netlist.proofs.Whole.{accepted_netlist}
use Rattle.refusals.specs.Refusals.{outcome_number, outcome_place}
use Rattle.flows.specs.Verdict.{judged}
use Rattle.result.proofs.Result.{judged-small, answer-number, answer-place, answer-constant, result-space, result-laid}
use Rattle.result.proofs.put.Goals as goal

pub split_at_mut-head-requires : goal.split_at_mut-head-requires
split_at_mut-head-requires g c =
    let f = facts_of c.args.coloured.now.netlist in
    omega (arith, c.requires.room, result-space g.E.Entry.WIDTH f, c.WIDTH.ensures)

pub weigh-outcome-requires : goal.weigh-outcome-requires
weigh-outcome-requires g c =
    let f = facts_of c.args.coloured.now.netlist in
    omega (arith, c.requires.room, result-space g.E.Entry.WIDTH f, c.WIDTH.ensures, c.split_at_mut-head.ensures.back_len)

pub overflow_cast-outcome_place : goal.overflow_cast-outcome_place
overflow_cast-outcome_place g c =
    let f = facts_of c.args.coloured.now.netlist in
    let p = c.args.block.now in
    let small = judged-small f p (accepted_netlist c.args.coloured.now.netlist.accepted).facts.few_channels c.requires.block in
    record { sfits = omega (arith, c.outcome_place.ensures ∙ ap outcome_place c.weigh-outcome.ensures.answer ∙ answer-place (judged f p) f p, small.place) }

pub returns : goal.returns
unfolding up_to
returns g c =
    let f = facts_of c.args.coloured.now.netlist in
    let p = c.args.block.now in
    let law = g.met.E.Entry in
    let number : to_z w64 (of_z w64 c.from.result) ≡ c.from.result = search rules in
    let constant : to_z w64 (of_z w64 c.unwrap_or.result) ≡ c.unwrap_or.result = search rules in
    let place : c.outcome_place.result ≡ outcome_place (judged f p) = c.outcome_place.ensures ∙ ap outcome_place c.weigh-outcome.ensures.answer ∙ answer-place (judged f p) f p in
    let small = judged-small f p (accepted_netlist c.args.coloured.now.netlist.accepted).facts.few_channels c.requires.block in
    result-laid g.E.Entry.WIDTH g.E.Entry.memory law.joined law.size f p c.args.out.now c.requires.room
    (c.split_at_mut-head.ensures.front ∙ ap (λ (w : ℕ). take (3 * w) c.args.out.now) c.WIDTH.ensures) (c.split_at_mut-head.ensures.back ∙ ap (λ (w : ℕ). drop (3 * w) c.args.out.now) c.WIDTH.ensures) (c.write_entries.ensures ∙ law.is _ _ 3) c.weigh-outcome.ensures.weights
    (number ∙ c.from.ensures ∙ ap pos (c.outcome_number.ensures ∙ ap outcome_number c.weigh-outcome.ensures.answer ∙ answer-number (judged f p) f p))
    (to_z_pos w64 c.outcome_place.result (omega (arith, place, small.place)) ∙ ap pos place)
    (constant ∙ answer-constant (judged f p) f p c.weigh-outcome.ensures.answer c.unwrap_or.ensures)
