-- An accepted sum keeps its constant. Assumes nothing.
use mathlib.Core.Path.{◌≡◌, refl, ap, sym, ◌∙◌}
use mathlib.Core.Bool.{Bool, true, false, cond}
use mathlib.Core.List.{List}
use Prim.Native.Nat.{ℕ, suc, ◌*◌, ◌≤◌, ◌<◌}
use lib.Dec.{eqb}
use lib.ListN.{length}
use lib.IntN.{ℤ, pos, ◌*ℤ◌, zero-*ℤ}
use borrow.Author.Tests.{eqb-true}
use Rattle.integers.specs.Sum.{sum_to, same}
use Rattle.integers.proofs.Sum.{sum-cong}
use Rattle.std.proofs.Common.{Ok}
use Rattle.component.specs.Kind.{is_queue}
use Rattle.component.specs.Row.{kind}
use Rattle.component.proofs.ByKind.{is-queue}
use Rattle.netlist.specs.Netlist.{Netlist, row_of}
use Rattle.netlist.specs.Accepted.{AcceptedFabric, AcceptedNetlist}
use Rattle.reader.specs.File.{netlist_in}
use Rattle.cells.specs.Good.{Good}
use Rattle.cells.specs.Choices.{Allowed}
use Rattle.cells.specs.Start.{started}
use Rattle.cells.specs.Counts.{counts}
use Rattle.cells.proofs.Counts.{start-counts}
use Rattle.signals.specs.Signals.{moved}
use Rattle.state.specs.Step.{next, CanStep}
use Rattle.flows.specs.Flows.{CancelsInside, weight, accepted_sum, start_count, constant}
use Rattle.flows.specs.Verdict.{judged}
use Rattle.flows.proofs.Weights.{weight-other}
use Rattle.flows.proofs.Exactly.{accepted-cancels}
use Rattle.flows.proofs.Steps.{step-constant}
use Rattle.balance.specs.Balance.{transfer}
use Rattle.balance.proofs.Holds.{holds}
use Rattle.inside.specs.Inside.{Inside}
use Rattle.inside.proofs.Inside.{inside-start, inside-moved, inside-step}
use Rattle.steps.specs.Steps.{after_steps}
use Rattle.stepping.specs.Calls.{start_verdict, state_after_start, run_verdict}
use Rattle.stepping.proofs.Calls.{started-file}
use Rattle.calls.specs.Calls.{Call, state_after_all}
use Rattle.calls.proofs.Calls.{calls-keep, runs-keep}
use Rattle.demands.proofs.Reach.{file-netlist}

-- the sum at start is the constant
start-sum : (f : Netlist) (ends order : List ℕ) → AcceptedFabric f ends order → (p s : List ℕ) → accepted_sum f p (counts (started f s)) ≡ constant f p
unfolding accepted_sum constant
start-sum f ends order a p s =
    sum-cong f.components (λ q. sum_to f.colours (λ d. weight f p q d *ℤ pos (counts (started f s) q d))) (λ q. sum_to f.colours (λ d. weight f p q d *ℤ pos (start_count f q d)))
    (λ q h. sum-cong f.colours (λ d. weight f p q d *ℤ pos (counts (started f s) q d)) (λ d. weight f p q d *ℤ pos (start_count f q d)) (λ d l. alike q h d (is_queue (kind (row_of f q))) refl))
  where
    alike : (q : ℕ) → q < f.components → (d : ℕ) (b : Bool) → is_queue (kind (row_of f q)) ≡ b → weight f p q d *ℤ pos (counts (started f s) q d) ≡ weight f p q d *ℤ pos (start_count f q d)
    alike q h d true e = ap (λ (n : ℕ). weight f p q d *ℤ pos n) (start-counts f ends order a s q h (is-queue (kind (row_of f q)) e) d)
    alike q h d false e = ap (λ (w : ℤ). w *ℤ pos (counts (started f s) q d)) (weight-other f p q d e) ∙ zero-*ℤ (pos (counts (started f s) q d)) ∙ sym (ap (λ (w : ℤ). w *ℤ pos (start_count f q d)) (weight-other f p q d e) ∙ zero-*ℤ (pos (start_count f q d)))

-- a colour of which the step counts a transfer moved
transferred : (n d : ℕ) → (same n (suc d) ≡ pos 0 → ⊥) → n ≡ suc d
unfolding same
transferred n d ne = go (eqb n (suc d)) refl ne
  where
    go : (b : Bool) → eqb n (suc d) ≡ b → (cond b (pos 1) (pos 0) ≡ pos 0 → ⊥) → n ≡ suc d
    go true e ne = eqb-true n (suc d) e
    go false e ne = absurd (ne refl)

-- and a step keeps it, where the state's colours are inside the sets
sum-keeps : (f : Netlist) (h : AcceptedNetlist f) (p : List ℕ) → CancelsInside f p → (s ch : List ℕ) → CanStep f h.ends h.order s ch → Inside f s
    → accepted_sum f p (counts s) ≡ constant f p → accepted_sum f p (counts (next f s ch)) ≡ constant f p
sum-keeps f h p c s ch t i q =
    step-constant f h p (transfer (moved f s ch)) (counts s) (counts (next f s ch)) (holds f h.ends h.order s ch t) c
    (record { inside = λ x d l m ne. inside-moved f h.ends h.order s ch t i x d l (transferred (moved f s ch x) d ne) }) ∙ q

-- so after every list of calls the state is good, and the sum is the constant; and in each state inside a further run
module _ (file p : List ℕ) (accepted : judged (netlist_in file) p ≡ Ok tt) (state : List ℕ) (began : start_verdict file (length state) ≡ Ok tt) (calls : List Call) where
  abbrev f : Netlist
  f = netlist_in file

  abbrev after : List ℕ
  after = state_after_all file calls (state_after_start file state)

  net : AcceptedNetlist f
  net = file-netlist file (started-file file (length state) began).0

  Kept : List ℕ → Type 0
  Kept s = (accepted_sum f p (counts s) ≡ constant f p) × Inside f s

  at-start : (s : List ℕ) → start_verdict file (length s) ≡ Ok tt → Kept (started f s)
  unfolding Kept
  at-start s l = (start-sum f net.ends net.order net.facts p s, inside-start f net.ends net.order net.facts s)

  at-step : (s c : List ℕ) → Good f s → Allowed f c → Kept s → Kept (next f s c)
  unfolding Kept
  at-step s c g w k =
      let t : CanStep f net.ends net.order s c = record { accepted = net.facts; good = g; allowed = w } in
      (sum-keeps f net p (accepted-cancels f p net accepted) s c t k.1 k.0, inside-step f net.ends net.order s c t k.1)

  pub sums_kept : Good f after × (accepted_sum f p (counts after) ≡ constant f p)
  unfolding Kept
  sums_kept = let k = calls-keep file Kept at-start at-step state began calls in (k.0, k.1.0)

  pub sums-inside : (choices : List ℕ) → run_verdict file after choices ≡ Ok tt → (m : ℕ) → f.components * m ≤ length choices
      → Good f (after_steps f m choices after) × (accepted_sum f p (counts (after_steps f m choices after)) ≡ constant f p)
  unfolding Kept
  sums-inside choices ran m l = let k = runs-keep file Kept at-start at-step state began calls choices ran m l in (k.0, k.1.0)
