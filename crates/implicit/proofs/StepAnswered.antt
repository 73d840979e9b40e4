-- What a step's answer, with the ring and the cells afterwards, says of the step. Assumes nothing.
use mathlib.Core.Path.{◌≡◌, refl, sym, ap}
use mathlib.Core.List.{List}
use Prim.Native.Nat.{ℕ}
use native.Mathlib.Omega.{arith}
use Rattle.std.specs.Prelude.{Result, Ok, Err}
use Rattle.refusal.specs.declared.Refusal.{Refusal}
use Rattle.implicit.specs.declared.state.State.{State}
use Rattle.implicit.specs.declared.state.Refused.{Refused}
use Rattle.implicit.specs.declared.state.Finished.{Finished}
use Rattle.implicit.specs.Step.{World, world_of, StepEnd, refused, finished, EndsAs}
use Rattle.implicit.specs.Answers.{step_state, step_evaluations, step_verdicts}

-- why a step was refused; `why` where it was not
abbrev step_why : Refusal → Result Finished Refused → Refusal
step_why why (Ok f) = why
step_why why (Err f) = f.why

pub answered_finished : (w : World) (e : StepEnd) (s : State) (evals bytes : ℕ) (ring cells : List ℕ)
    → EndsAs w e (Ok (record { state = s; evaluations = evals; verdicts = bytes })) ring cells → e ≡ finished (world_of s ring cells) evals bytes
answered_finished w (refused why) s evals bytes ring cells h = let f = h.0 in let z : ◌≡◌ {A = ℕ} 0 1 = cc in absurd (omega arith)
answered_finished w (finished left m n) s evals bytes ring cells h =
    rw (ap step_state h.0, ap step_evaluations h.0, ap step_verdicts h.0, h.1, h.2) refl

-- a refusal leaves the world as it was
pub answered_refused : (w : World) (e : StepEnd) (why : Refusal) (s : State) (ring cells : List ℕ)
    → EndsAs w e (Err (record { why = why; state = s })) ring cells → (e ≡ refused why) × (world_of s ring cells ≡ w)
answered_refused w (refused reason) why s ring cells h =
    (ap refused (ap (step_why why) (sym h.0)), rw (ap step_state h.0, h.1, h.2) refl)
answered_refused w (finished left m n) why s ring cells h = let f = h.0 in let z : ◌≡◌ {A = ℕ} 0 1 = cc in absurd (omega arith)
