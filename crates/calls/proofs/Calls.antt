-- What an accepted start gives and every step keeps, every list of calls keeps. Assumes nothing.
use mathlib.Core.Path.{◌≡◌, refl, sym, subst}
use mathlib.Core.List.{List, [], ◌∷◌}
use Prim.Native.Nat.{ℕ, ◌*◌, ◌/◌, ◌≤◌}
use native.Mathlib.Nat.{div-add-mod}
use native.Mathlib.Omega.{arith}
use lib.ListN.{length}
use Rattle.refusals.specs.Refusals.{kept}
use Rattle.std.proofs.Common.{Err, Ok, Result}
use Rattle.refusals.specs.declared.Refusal.{Refusal}
use Rattle.netlist.specs.Accepted.{AcceptedFabric}
use Rattle.reader.specs.File.{netlist_in}
use Rattle.reader.proofs.Opened.{facts}
use Rattle.cells.specs.Good.{Good}
use Rattle.cells.specs.Choices.{Allowed}
use Rattle.cells.specs.Start.{started}
use Rattle.cells.proofs.Start.{good_start}
use Rattle.state.specs.Step.{next}
use Rattle.state.proofs.Step.{good-step}
use Rattle.steps.specs.Steps.{after_steps}
use Rattle.steps.proofs.Steps.{steps-keep}
use Rattle.stepping.specs.Calls.{start_verdict, state_after_start, step_verdict, state_after_step, run_verdict, state_after_run}
use Rattle.stepping.proofs.Calls.{started-file, start-writes, step-allowed, run-allowed}
use Rattle.calls.specs.Calls.{Call, start, step, run, state_after, state_after_all}

-- a property of states, of an accepted file: it holds at start, and a step under allowed choices keeps it in a good state
module _ (file : List ℕ) (P : List ℕ → Type 0)
    (at-start : (s : List ℕ) → start_verdict file (length s) ≡ Ok tt → P (started (netlist_in file) s))
    (at-step : (s c : List ℕ) → Good (netlist_in file) s → Allowed (netlist_in file) c → P s → P (next (netlist_in file) s c)) where
  Kept : List ℕ → Type 0
  Kept s = Good (netlist_in file) s × P s

  -- a verdict that a call came to, and the bytes that it leaves
  after-verdict : (v : Result Unit Refusal) (new old : List ℕ) → (v ≡ Ok tt → Kept new) → Kept old → Kept (kept v new old)
  after-verdict (Ok tt) new old n o = n refl
  after-verdict (Err r) new old n o = o

  module _ (ends order : List ℕ) (a : AcceptedFabric (netlist_in file) ends order) where
    begun : (s : List ℕ) → start_verdict file (length s) ≡ Ok tt → Kept (started (netlist_in file) s)
    unfolding Kept
    begun s e = (good_start (netlist_in file) ends order a s (started-file file (length s) e).1, at-start s e)

    stepped : (s c : List ℕ) → Good (netlist_in file) s → Allowed (netlist_in file) c → Kept s → Kept (next (netlist_in file) s c)
    unfolding Kept
    stepped s c g w b = (good-step (netlist_in file) ends order s c (record { accepted = a; good = g; allowed = w }), at-step s c g w b.1)

    -- the first m steps of a run
    ran : (c s : List ℕ) → run_verdict file s c ≡ Ok tt → (m : ℕ) → (netlist_in file).components * m ≤ length c → Kept s → Kept (after_steps (netlist_in file) m c s)
    unfolding Kept
    ran c s e m l b = steps-keep (netlist_in file) ends order a Kept stepped m c s l (run-allowed file s c e) b.0 b

    call-keeps : (c : Call) (s : List ℕ) → Kept s → Kept (state_after file c s)
    unfolding state_after_start state_after_step state_after_run Kept
    call-keeps start s b = after-verdict (start_verdict file (length s)) (started (netlist_in file) s) s (begun s) b
    call-keeps (step c space) s b = after-verdict (step_verdict file s c space) (next (netlist_in file) s c) s (λ e. stepped s c b.0 (step-allowed file s c space e) b) b
    call-keeps (run c) s b = after-verdict (run_verdict file s c) (after_steps (netlist_in file) (length c / (netlist_in file).components) c s) s (λ e. ran c s e (length c / (netlist_in file).components) (omega (arith, div-add-mod (length c) (netlist_in file).components)) b) b

    list-keeps : (cs : List Call) (s : List ℕ) → Kept s → Kept (state_after_all file cs s)
    unfolding state_after_all
    list-keeps [] s b = b
    list-keeps (c ∷ cs) s b = list-keeps cs (state_after file c s) (call-keeps c s b)

  -- it holds, and the state is good, after every list of calls after an accepted start
  pub calls-keep : (state : List ℕ) → start_verdict file (length state) ≡ Ok tt → (cs : List Call)
      → Good (netlist_in file) (state_after_all file cs (state_after_start file state)) × P (state_after_all file cs (state_after_start file state))
  unfolding Kept
  calls-keep state e cs =
      let x = facts file (started-file file (length state) e).0 in
      subst (λ (s : List ℕ). Kept (state_after_all file cs s)) (sym (start-writes file state e)) (list-keeps x.0 x.1 x.2 cs (started (netlist_in file) state) (begun x.0 x.1 x.2 state e))

  -- and in each state inside a further run, after the first m of its steps
  pub runs-keep : (state : List ℕ) → start_verdict file (length state) ≡ Ok tt → (cs : List Call) (choices : List ℕ) → run_verdict file (state_after_all file cs (state_after_start file state)) choices ≡ Ok tt
      → (m : ℕ) → (netlist_in file).components * m ≤ length choices
      → Good (netlist_in file) (after_steps (netlist_in file) m choices (state_after_all file cs (state_after_start file state))) × P (after_steps (netlist_in file) m choices (state_after_all file cs (state_after_start file state)))
  unfolding Kept
  runs-keep state e cs choices r m l =
      let x = facts file (started-file file (length state) e).0 in
      ran x.0 x.1 x.2 choices (state_after_all file cs (state_after_start file state)) r m l (calls-keep state e cs)
