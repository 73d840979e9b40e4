-- The answer by the notes: what private functions compute. The laws say that it is the explanation.
use Rattle.std.specs.Prelude.{◌≡◌, Bool, true, false, cond, List, [], ℕ, Result, Ok, Err}
use Rattle.image.specs.declared.Reading.{Reading}
use Rattle.image.specs.declared.Reading.TheVariants as R
use Rattle.image.specs.Cell.{Cell, cell_code, is_given_up, reading}
use Rattle.implicit.specs.declared.state.Ending.{Ending}
use Rattle.implicit.specs.declared.state.Ending.TheVariants as E
use Rattle.implicit.specs.declared.state.State.{State}
use Rattle.explain.specs.declared.noting.Notes.{Notes}
use Rattle.explain.specs.declared.repeating.Repeated.{Repeated}
use Rattle.explain.specs.declared.reason.Moment.{Moment}
use Rattle.explain.specs.declared.reason.Reason.{Reason}
use Rattle.explain.specs.declared.reason.Reason.TheVariants as B
use Rattle.explain.specs.declared.reason.Explanation.{Explanation}
use Rattle.explain.specs.declared.reason.Explanation.TheVariants as X
use Rattle.implicit.specs.Step.{World}
use Rattle.implicit.specs.Run.{run_from}
use Rattle.explain.specs.History.{history_from}
use Rattle.explain.specs.Reasons.{waiting_for}
use Rattle.explain.specs.Explained.{reason_after, explained_by}
use Rattle.refusal.specs.declared.Refusal.{Refusal}

-- does a setup begin?
abbrev pub is_ready : Result State Refusal → Bool
is_ready (Ok s) = true
is_ready (Err why) = false

-- a pixel that is Uncertain is given up, or waits for the block of this number
abbrev pub uncertain_reason : State → List ℕ → ℕ → Bool → Moment → Reason
uncertain_reason s ring number up at = cond up (B.GivenUp at) (waiting_for s ring number)

-- the reason by the notes
abbrev pub reason_noted_by : State → List ℕ → Notes → Cell → Reading → Reason
reason_noted_by s ring k c R.True = B.True k.mark k.point
reason_noted_by s ring k c R.False = B.False k.denial
reason_noted_by s ring k c R.Uncertain = uncertain_reason s ring (cell_code c) (is_given_up c) k.up

unfoldable pub reason_noted : State → List ℕ → Notes → Cell → Reason
reason_noted s ring k c = reason_noted_by s ring k c (reading s.taken c)

-- the answer, by how the repetition ended
abbrev pub explanation_of : Repeated → Reason → Ending → Explanation
explanation_of p reason (E.Stop why) = X.Stopped why p.state p.steps p.evaluations p.tape
explanation_of p reason E.Done = X.Of reason p.state p.steps p.evaluations p.tape E.Done
explanation_of p reason E.Limit = X.Of reason p.state p.steps p.evaluations p.tape E.Limit
explanation_of p reason E.More = X.Of reason p.state p.steps p.evaluations p.tape E.More

-- an answer, with the ring and the cells afterwards, that is what the steps from a world on make
pub record ExplainsFrom (steps column row : ℕ) (w : World) (tape : List ℕ) (r : Explanation) (ring cells : List ℕ) : Type 0 where
  pub answer : r
      ≡ explained_by (reason_after w.state.chosen column row (run_from steps w tape) (history_from steps w tape []))
      (run_from steps w tape) (run_from steps w tape).ending
  pub ring_left : ring ≡ (run_from steps w tape).world.ring
  pub cells_left : cells ≡ (run_from steps w tape).world.cells
