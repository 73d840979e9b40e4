-- Document 02, (v), what happened: the finished steps of a run, the last one first, each by the block that it took and the
-- children of that block, each child with its verdict byte and with its outcome, which is the one of the step's own definition.
-- Nothing here knows how the explainer works.
use Rattle.std.specs.Prelude.{Result, Ok, Err}
use Rattle.queue.specs.declared.QueueError.{QueueError}
use Rattle.std.specs.Prelude.{cond, List, [], ◌∷◌, ℕ, zero, suc, take, drop}
use Rattle.queue.specs.declared.Block.{Block}
use Rattle.queue.specs.declared.Taken.{Taken}
use Rattle.decide.specs.declared.verdict.Outcome.{Outcome}
use Rattle.decide.specs.Children.{children_of}
use Rattle.implicit.specs.Record.{queue_empty}
use Rattle.implicit.specs.Listing.{front_of}
use Rattle.implicit.specs.Step.{World, StepEnd, refused, finished, outcomes_of, tape_step_of}

-- a child with its verdict byte, and what the step made of it
pub record Answered : Type 0 where
  pub child : Block
  pub verdict : ℕ
  pub outcome : Outcome

-- all children of a step, in order
unfoldable pub answered_by : List Block → List ℕ → List Outcome → List Answered
answered_by [] vs os = []
answered_by (c ∷ cs) [] os = []
answered_by (c ∷ cs) (v ∷ vs) [] = []
answered_by (c ∷ cs) (v ∷ vs) (o ∷ os) = record { child = c; verdict = v; outcome = o } ∷ answered_by cs vs os

-- a finished step
pub record PastStep : Type 0 where
  pub block : Block
  pub answers : List Answered

-- the step on this world under these verdicts, which takes block b
abbrev pub past_step : World → List ℕ → Block → PastStep
past_step w vs b = record { block = b; answers = answered_by (children_of w.state.chosen b) vs (outcomes_of w b vs) }

-- the steps so far, and then that one on the front block, as it is read from the ring; a step that is finished could read it
abbrev pub past_taking : World → List ℕ → Result Taken QueueError → List PastStep → List PastStep
past_taking w vs (Err why) h = h
past_taking w vs (Ok t) h = past_step w vs t.block ∷ h

-- how the history goes on from a step's end: a refused step is not in it
abbrev pub past_on : World → List ℕ → StepEnd → List PastStep → (World → ℕ → List PastStep → List PastStep) → List PastStep
past_on w tape (refused why) h rest = h
past_on w tape (finished next evals bytes) h rest =
    rest next bytes (past_taking w (take bytes tape) (front_of w.state w.ring) h)

-- THE HISTORY of a run with so many steps left in its budget, on the rest of the tape, behind the steps so far
unfoldable pub history_from : ℕ → World → List ℕ → List PastStep → List PastStep
history_from zero w tape h = h
history_from (suc left) w tape h =
    cond (queue_empty w.state) h
    (past_on w tape (tape_step_of w tape) h (λ next bytes past. history_from left next (drop bytes tape) past))
