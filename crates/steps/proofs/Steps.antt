-- Whole steps in a row. Assumes nothing.
use mathlib.Core.Path.{◌≡◌, refl, ap, subst, ◌∙◌}
use mathlib.Core.Bool.{true, not}
use mathlib.Core.List.{List, ◌++◌}
use Prim.Native.Nat.{ℕ, zero, suc, ◌+◌, ◌*◌, ◌/◌, ◌%◌, ◌≤◌, ◌<◌}
use native.Mathlib.Nat.{mul-suc, mod-eq_of_lt, add-mod_left, add-div_left, div-eq_of_lt}
use native.Mathlib.Numerals.{add-one}
use native.Mathlib.Omega.{arith}
use lib.ListN.{length, take, drop, length-take, length-drop}
use lib.Seq.{get_or-take, get_or-drop, take_at, drop-append_seam}
use Rattle.std.proofs.Common.{length-append}
use borrow.Author.Tests.{not-false}
use Rattle.digits.proofs.Least.{least-none, least-before}
use Rattle.netlist.specs.Netlist.{Netlist}
use Rattle.netlist.specs.Accepted.{AcceptedFabric}
use Rattle.cells.specs.Good.{Good}
use Rattle.cells.specs.Choices.{Allowed, choice_at, bad_choice}
use Rattle.plan.specs.Plan.{Planned}
use Rattle.plan.specs.declared.Place.{Place}
use Rattle.state.specs.Step.{next, CanStep}
use Rattle.state.proofs.Step.{good-step, next-length}
use Rattle.steps.specs.Steps.{after_steps}
use Rattle.steps.specs.Stages.{Along, Runs}

-- along the plan's own order
pub along-steps : {f : Netlist} {places : List Place} {state choices : List ℕ} (a : Along f places state choices) → CanStep f a.planned.ends a.planned.order state choices
along-steps a = record { accepted = a.planned.accepted; good = a.good; allowed = a.allowed }

-- a step along a plan that is laid out for it
pub steps-along : {f : Netlist} {ends order : List ℕ} {places : List Place} {state choices : List ℕ} → CanStep f ends order state choices → Planned f places → Along f places state choices
steps-along t p = record { planned = p; good = t.good; allowed = t.allowed }

-- ---- allowed choices, of the first step and of the others
module _ (f : Netlist) (choices : List ℕ) (all : bad_choice f choices ≡ length choices) (long : f.components ≤ length choices) where
  choice : (o : ℕ) → o < length choices → choice_at f choices o ≡ true
  unfolding bad_choice
  choice o h = not-false _ (least-before (λ o. not (choice_at f choices o)) (length choices) o (rw all h))

  pub first-allowed : Allowed f (take f.components choices)
  unfolding choice_at
  first-allowed = record {
    long = simp length-take (omega arith);
    each = λ k h.
        let m : k % f.components ≡ k = mod-eq_of_lt h in
        rw (get_or-take f.components choices k 0 h) (rw m at (choice k (omega arith)));
  }

  pub others-allowed : bad_choice f (drop f.components choices) ≡ length (drop f.components choices)
  unfolding bad_choice choice_at
  others-allowed = least-none (λ o. not (choice_at f (drop f.components choices) o)) (length (drop f.components choices)) (λ o h. ap not (other o h))
    where
      other : (o : ℕ) → o < length (drop f.components choices) → choice_at f (drop f.components choices) o ≡ true
      other o h =
          let l : f.components + o < length choices = omega (arith, rw length-drop at h) in
          rw (get_or-drop f.components choices o 0) (rw (add-mod_left f.components o) at (choice (f.components + o) l))

-- ---- what every step keeps, steps in a row keep
module _ (f : Netlist) (ends order : List ℕ) (a : AcceptedFabric f ends order) where
  pub steps-keep : (P : List ℕ → Type 0) → ((s c : List ℕ) → Good f s → Allowed f c → P s → P (next f s c)) →
      (m : ℕ) (choices state : List ℕ) → f.components * m ≤ length choices → bad_choice f choices ≡ length choices → Good f state → P state → P (after_steps f m choices state)
  unfolding after_steps
  steps-keep P keep zero choices state h b g p = p
  steps-keep P keep (suc m) choices state h b g p =
      let l : f.components * m + f.components ≤ length choices = rw mul-suc at h in
      let n : f.components ≤ length choices = omega arith in
      let w : Allowed f (take f.components choices) = first-allowed f choices b n in
      steps-keep P keep m (drop f.components choices) (next f state (take f.components choices)) (rw length-drop (omega arith)) (others-allowed f choices b n)
      (good-step f ends order state (take f.components choices) (record { accepted = a; good = g; allowed = w })) (keep state (take f.components choices) g w p)

-- ---- the loop of `run_steps`
-- after some steps, with the choices that are left
pub record Running (f : Netlist) (state choices st rest : List ℕ) : Type 0 where
  pub good : Good f st
  pub long : length st ≡ length state
  pub allowed : bad_choice f rest ≡ length rest
  pub is : after_steps f (length rest / f.components) rest st ≡ after_steps f (length choices / f.components) choices state

pub run-start : {f : Netlist} {ends order state choices : List ℕ} → Runs f ends order state choices → Running f state choices state choices
run-start r = record { good = r.good; long = refl; allowed = r.allowed; is = refl }

-- a step's choices, and those after them
module _ {f : Netlist} {ends order state choices st rest : List ℕ} (r : Runs f ends order state choices) (u : Running f state choices st rest)
    (step after : List ℕ) (parts : rest ≡ step ++ after) (whole : length step ≡ f.components) where
  front : take f.components rest ≡ step
  front = rw parts (take_at step after f.components whole)

  back : drop f.components rest ≡ after
  back = rw (parts, ← whole) (drop-append_seam step after)

  sum : length rest ≡ f.components + length after
  sum = ap length parts ∙ length-append step after ∙ ap (λ (k : ℕ). k + length after) whole

  enough : f.components ≤ length rest
  enough = omega (arith, sum)

  pub run-ready : CanStep f ends order st step
  run-ready = record { accepted = r.accepted; good = u.good; allowed = rw front at (first-allowed f rest u.allowed enough) }

  pub run_more : Running f state choices (next f st step) after
  unfolding after_steps
  run_more = record {
    good = good-step f ends order st step run-ready;
    long = next-length f ends order st step run-ready ∙ u.long;
    allowed = rw back at (others-allowed f rest u.allowed enough);
    is =
        let n = f.components in
        let d : length rest / n ≡ suc (length after / n) = ap (λ (k : ℕ). k / n) sum ∙ add-div_left (length after) r.accepted.some_rows ∙ add-one (length after / n) in
        let e : after_steps f (length after / n) (drop n rest) (next f st (take n rest)) ≡ after_steps f (length choices / n) choices state = subst (λ (m : ℕ). after_steps f m rest st ≡ after_steps f (length choices / n) choices state) d u.is in
        subst (λ (l : List ℕ). after_steps f (length after / n) after (next f st l) ≡ after_steps f (length choices / n) choices state) front
        (subst (λ (l : List ℕ). after_steps f (length after / n) l (next f st (take n rest)) ≡ after_steps f (length choices / n) choices state) back e);
  }

pub run_end : {f : Netlist} {state choices st rest : List ℕ} → Running f state choices st rest → length rest < f.components →
    st ≡ after_steps f (length choices / f.components) choices state
unfolding after_steps
run_end {f} {state} {choices} {st} {rest} u h = let d : length rest / f.components ≡ 0 = div-eq_of_lt h in rw d at u.is
