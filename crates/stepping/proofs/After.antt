-- What each call comes to, and leaves in lent memory, by what reading comes to. Assumes nothing.
use Rattle.std.proofs.Common.{◌≡◌, List, ℕ, ◌++◌, ◌/◌, length, drop}
use Rattle.refusals.specs.Refusals.{first_refusal, kept}
use Rattle.reader.specs.Reading.{reading}
use Rattle.reader.proofs.Opened.{after, left, judged_after, left_after}
use Rattle.cells.specs.Start.{started}
use Rattle.signals.specs.Signals.{moves}
use Rattle.state.specs.Step.{next}
use Rattle.verdicts.specs.Tests.{start_tests, step_tests, run_tests}
use Rattle.steps.specs.Steps.{after_steps}
use Rattle.stepping.specs.Calls.{start_verdict, state_after_start, step_verdict, state_after_step, moves_after_step, run_verdict, state_after_run}

pub start_outcome : (file : List ℕ) (space : ℕ) → start_verdict file space ≡ after (reading file) file (λ f. first_refusal (start_tests f space))
unfolding start_verdict
start_outcome file space = judged_after file (λ f. start_tests f space)

pub start_state : (file state : List ℕ) → state_after_start file state ≡ left (reading file) file (λ f. kept (first_refusal (start_tests f (length state))) (started f state) state) state
unfolding start_verdict state_after_start
start_state file state = left_after file (λ f. start_tests f (length state)) (λ f. started f state) state

pub step_outcome : (file state choices : List ℕ) (space : ℕ) → step_verdict file state choices space ≡ after (reading file) file (λ f. first_refusal (step_tests f state choices space))
unfolding step_verdict
step_outcome file state choices space = judged_after file (λ f. step_tests f state choices space)

pub step_state : (file state choices : List ℕ) (space : ℕ) → state_after_step file state choices space ≡ left (reading file) file (λ f. kept (first_refusal (step_tests f state choices space)) (next f state choices) state) state
unfolding step_verdict state_after_step
step_state file state choices space = left_after file (λ f. step_tests f state choices space) (λ f. next f state choices) state

pub step_moves : (file state choices out : List ℕ) → moves_after_step file state choices out ≡ left (reading file) file (λ f. kept (first_refusal (step_tests f state choices (length out))) (moves f state choices ++ drop f.channels out) out) out
unfolding step_verdict moves_after_step
step_moves file state choices out = left_after file (λ f. step_tests f state choices (length out)) (λ f. moves f state choices ++ drop f.channels out) out

pub run_outcome : (file state choices : List ℕ) → run_verdict file state choices ≡ after (reading file) file (λ f. first_refusal (run_tests f state choices))
unfolding run_verdict
run_outcome file state choices = judged_after file (λ f. run_tests f state choices)

pub run_state : (file state choices : List ℕ) → state_after_run file state choices ≡ left (reading file) file (λ f. kept (first_refusal (run_tests f state choices)) (after_steps f (length choices / f.components) choices state) state) state
unfolding run_verdict state_after_run
run_state file state choices = left_after file (λ f. run_tests f state choices) (λ f. after_steps f (length choices / f.components) choices state) state
