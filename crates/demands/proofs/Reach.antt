-- The theorems of specs/Reach.antt. Assumes nothing.
use mathlib.Core.Path.{◌≡◌, ap, sym, ◌∙◌}
use mathlib.Core.List.{List, ◌++◌}
use Prim.Native.Nat.{ℕ, suc, ◌*◌, ◌/◌, ◌≤◌, ◌<◌}
use native.Mathlib.Nat.{div-add-mod, mul-le-mul}
use native.Mathlib.Omega.{arith}
use lib.ListN.{length, get_or, drop}
use Rattle.digits.proofs.UpTo.{filled_at}
use Rattle.refusals.specs.Refusals.{first_refusal, kept}
use Rattle.std.proofs.Common.{Ok, Result}
use Rattle.refusals.specs.declared.Refusal.{Refusal}
use Rattle.netlist.specs.Netlist.{Netlist}
use Rattle.netlist.specs.Accepted.{AcceptedNetlist}
use Rattle.component.specs.Row.{has_colour}
use Rattle.component.proofs.Sets.{has-byte}
use Rattle.reach.specs.Reaches.{Reaches}
use Rattle.reach.specs.Rounds.{reachable, set_byte}
use Rattle.reach.proofs.Reaches.{reaches-below}
use Rattle.reach.proofs.Rounds.{reachable-reaches, reaches-reachable, reachable-closed, reachable-least}
use Rattle.reader.specs.File.{netlist_in, file_tests}
use Rattle.reader.proofs.Opened.{after-file, facts}
use Rattle.cells.specs.Good.{Good}
use Rattle.cells.specs.Choices.{Allowed, step_choices}
use Rattle.cells.specs.Start.{started}
use Rattle.cells.proofs.Choices.{no-bad-step}
use Rattle.signals.specs.Signals.{moved, moves}
use Rattle.state.specs.Step.{next, CanStep}
use Rattle.inside.specs.Inside.{Inside}
use Rattle.inside.proofs.Inside.{inside-start, inside-moved, inside-step}
use Rattle.steps.specs.Steps.{after_steps}
use Rattle.stepping.specs.Calls.{start_verdict, state_after_start, step_verdict, moves_after_step, run_verdict}
use Rattle.stepping.proofs.Calls.{started-file, step-allowed, run-allowed}
use Rattle.reaching.specs.Reach.{reach_tests, reach_verdict, sets_by, sets_after_reach}
use Rattle.calls.specs.Calls.{Call, state_after_all}
use Rattle.calls.proofs.Calls.{calls-keep, runs-keep}
use Rattle.demands.specs.Reach.{SmallestSets, SetsRead, MovesInside, MovesInsideRun}

pub file-netlist : (file : List ℕ) → first_refusal (file_tests file) ≡ Ok tt → AcceptedNetlist (netlist_in file)
file-netlist file ok = let x = facts file ok in record { ends = x.0; order = x.1; facts = x.2 }

pub smallest_sets : SmallestSets
smallest_sets file ok =
    let f : Netlist = netlist_in file in
    let h = file-netlist file ok in (
      λ x d l. (reaches-reachable f h.ends h.order h.facts, reachable-reaches f h.ends h.order h.facts x d l),
      reachable-closed f h.ends h.order h.facts,
      reachable-least f h.ends h.order h.facts,
    )

pub sets_read : SetsRead
unfolding reach_verdict sets_after_reach set_byte
sets_read file bytes accepted x d l m =
    let f : Netlist = netlist_in file in
    let h = file-netlist file (after-file file (reach_tests f (length bytes)) accepted).0 in
    let byte : has_colour (get_or (sets_after_reach file bytes) x 0) d ≡ reachable f x d =
    ap (λ (v : Result Unit Refusal). has_colour (get_or (sets_by v f bytes) x 0) d) accepted ∙ ap (λ (b : ℕ). has_colour b d) (filled_at (set_byte f) (drop f.channels bytes) 0 f.channels x l) ∙ has-byte (reachable f x) d m in (
      λ e. let r = reachable-reaches f h.ends h.order h.facts x d l (sym byte ∙ e) in ((reaches-below f h.ends h.order h.facts r).1, r),
      λ r. byte ∙ reaches-reachable f h.ends h.order h.facts r.1,
    )

-- ---- a start puts the colours of a state inside the sets, and a step keeps them there
module _ (file state : List ℕ) (began : start_verdict file (length state) ≡ Ok tt) (calls : List Call) where
  abbrev f : Netlist
  f = netlist_in file

  abbrev after : List ℕ
  after = state_after_all file calls (state_after_start file state)

  net : AcceptedNetlist f
  net = file-netlist file (started-file file (length state) began).0

  can-step : (s c : List ℕ) → Good f s → Allowed f c → CanStep f net.ends net.order s c
  can-step s c g w = record { accepted = net.facts; good = g; allowed = w }

  at-start : (s : List ℕ) → start_verdict file (length s) ≡ Ok tt → Inside f (started f s)
  at-start s e = inside-start f net.ends net.order net.facts s

  at-step : (s c : List ℕ) → Good f s → Allowed f c → Inside f s → Inside f (next f s c)
  at-step s c g w = inside-step f net.ends net.order s c (can-step s c g w)

  -- in such a state nothing moves outside
  nothing-else : (s c : List ℕ) → Good f s × Inside f s → Allowed f c → (x d : ℕ) → x < f.channels → moved f s c x ≡ suc d → Reaches f x d
  nothing-else s c k w = inside-moved f net.ends net.order s c (can-step s c k.0 w) k.1

  -- a step after the calls
  module _ (choices out : List ℕ) (stepped : step_verdict file after choices (length out) ≡ Ok tt) where
    byte : (x : ℕ) → x < f.channels → get_or (moves_after_step file after choices out) x 0 ≡ moved f after choices x
    unfolding moves_after_step moves
    byte x l = ap (λ (v : Result Unit Refusal). get_or (kept v (moves f after choices ++ drop f.channels out) out) x 0) stepped ∙ filled_at (moved f after choices) (drop f.channels out) 0 f.channels x l

    pub step-moves : (x d : ℕ) → x < f.channels → get_or (moves_after_step file after choices out) x 0 ≡ suc d → Reaches f x d
    step-moves x d l q =
        nothing-else after choices (calls-keep file (Inside f) at-start at-step state began calls) (step-allowed file after choices (length out) stepped) x d l (sym (byte x l) ∙ q)

  -- a step of a run after them
  module _ (choices : List ℕ) (ran : run_verdict file after choices ≡ Ok tt) (m : ℕ) (l : m < length choices / f.components) where
    done : f.components * m ≤ length choices
    done =
        let n : f.components ≤ f.components = omega arith in
        let k : m ≤ length choices / f.components = omega arith in
        omega (arith, mul-le-mul n k, div-add-mod (length choices) f.components)

    pub run-moves : (x d : ℕ) → x < f.channels → moved f (after_steps f m choices after) (step_choices f choices m) x ≡ suc d → Reaches f x d
    run-moves = nothing-else (after_steps f m choices after) (step_choices f choices m) (runs-keep file (Inside f) at-start at-step state began calls choices ran m done) (no-bad-step f choices (run-allowed file after choices ran) m l)

pub moves_inside : MovesInside
moves_inside = step-moves

pub moves_inside_run : MovesInsideRun
moves_inside_run = run-moves
