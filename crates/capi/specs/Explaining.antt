-- How an explanation crosses to other languages: as one record, which begins with the refusal, 0 where a reason is given. What does not apply is blank:
-- 0, the blank block, and, where nothing was begun, the record of no picture.
use Rattle.std.specs.Prelude.{ℕ, Result, Ok, Err}
use Rattle.refusal.specs.declared.Refusal.{Refusal}
use Rattle.refusal.specs.Number.{number}
use Rattle.queue.specs.Answers.{blank_block}
use Rattle.implicit.specs.declared.state.State.{State}
use Rattle.implicit.specs.declared.state.Ending.TheVariants as E
use Rattle.implicit.specs.Answers.{blank_state}
use Rattle.explain.specs.declared.reason.Moment.{Moment}
use Rattle.explain.specs.declared.reason.Reason.{Reason}
use Rattle.explain.specs.declared.reason.Reason.TheVariants as B
use Rattle.explain.specs.declared.reason.Explanation.{Explanation}
use Rattle.explain.specs.declared.reason.Explanation.TheVariants as X
use Rattle.capi.specs.declared.records.Explained.{Explained}
use Rattle.capi.specs.declared.explaining.Told.{Told}
use Rattle.capi.specs.Engine.{child_record, ending_number}

-- what crosses of a reason: its number, the step and the child with the sample point, or the waiting block with its number and how many stand before it
abbrev pub told_at : ℕ → Moment → ℕ → Told
told_at reason at point =
    record { reason = reason; step = at.step; child = at.child; point = point; number = 0; before = 0; block = blank_block }

abbrev pub told_of : Reason → Told
told_of (B.True at point) = told_at 1 at point
told_of (B.False at) = told_at 2 at 0
told_of (B.GivenUp at) = told_at 3 at 0
told_of (B.Waiting number before block) =
    record { reason = 4; step = 0; child = 0; point = 0; number = number; before = before; block = block }

-- no reason
abbrev pub nothing_told : Told
nothing_told = record { reason = 0; step = 0; child = 0; point = 0; number = 0; before = 0; block = blank_block }

-- with the refusal before it, and behind it the ending, as a run has it, the sums of the finished steps and the record that they left
abbrev pub record_of : ℕ → Told → ℕ → ℕ → ℕ → ℕ → State → Explained
record_of refusal told ending steps evals bytes s = record {
  refusal = refusal;
  reason = told.reason;
  step = told.step;
  child = told.child;
  point = told.point;
  number = told.number;
  before = told.before;
  block = child_record told.block;
  direction = told.block.dir;
  ending = ending;
  steps = steps;
  evaluations = evals;
  tape = bytes;
  state = s;
}

-- THE EXPLANATION as it crosses: with a reason; where a step refused; where nothing was begun
abbrev pub explained_record : Result Explanation Refusal → Explained
explained_record (Ok (X.Of reason s steps evals bytes e)) = record_of 0 (told_of reason) (ending_number e) steps evals bytes s
explained_record (Ok (X.Stopped why s steps evals bytes)) = record_of (number why) nothing_told (ending_number (E.Stop why)) steps evals bytes s
explained_record (Err why) = record_of (number why) nothing_told 0 0 0 0 blank_state
