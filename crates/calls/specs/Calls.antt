-- The list of calls on a state.
use Rattle.std.specs.Prelude.{List, [], ◌∷◌, ℕ, length}
use Rattle.std.specs.Prelude.{Result}
use Rattle.refusals.specs.declared.Refusal.{Refusal}
use Rattle.stepping.specs.Calls.{start_verdict, state_after_start, step_verdict, state_after_step, run_verdict, state_after_run}

-- start; step with choices and space for its moves; run with choices: of any bytes and any length
pub data Call : Type 0 where
  start : Call
  step : List ℕ → ℕ → Call
  run : List ℕ → Call

-- the state after a call, accepted or refused
abbrev pub state_after : List ℕ → Call → List ℕ → List ℕ
state_after file start state = state_after_start file state
state_after file (step choices space) state = state_after_step file state choices space
state_after file (run choices) state = state_after_run file state choices

-- each later call gets the same state memory as the call before left it
unfoldable pub state_after_all : List ℕ → List Call → List ℕ → List ℕ
state_after_all file [] state = state
state_after_all file (c ∷ cs) state = state_after_all file cs (state_after file c state)

abbrev pub verdict_on : List ℕ → Call → List ℕ → Result Unit Refusal
verdict_on file start state = start_verdict file (length state)
verdict_on file (step choices space) state = step_verdict file state choices space
verdict_on file (run choices) state = run_verdict file state choices
