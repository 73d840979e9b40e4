-- The repetition, step by step: what private functions compute. The laws say that what is left to do, with what was counted and
-- noted, is the run with its notes.
use Rattle.std.specs.Prelude.{◌≡◌, true, false, cond, List, ℕ, zero, suc, ◌+◌, leb, drop, Option, Some, None, Result, Ok, Err}
use Rattle.queue.specs.declared.QueueError.{QueueError}
use Rattle.queue.specs.declared.Taken.{Taken}
use Rattle.queue.specs.Queue.{taken}
use Rattle.implicit.specs.declared.state.State.{State}
use Rattle.implicit.specs.declared.state.Ending.{Ending}
use Rattle.implicit.specs.declared.state.Ending.TheVariants as E
use Rattle.implicit.specs.Record.{queue_empty}
use Rattle.implicit.specs.Listing.{front_of}
use Rattle.implicit.specs.Step.{World, world_of, StepEnd, refused, finished, tape_step_of, world_after}
use Rattle.implicit.specs.Run.{RunEnd, empty_ending}
use Rattle.implicit.specs.RunComputed.{HowFar, Bounded, RunTo}
use Rattle.explain.specs.declared.noting.Notes.{Notes}
use Rattle.explain.specs.declared.repeating.Repeated.{Repeated}
use Rattle.explain.specs.NotesComputed.{noted_front}

-- how far the repetition is, as a run's progress: it goes on, or it ended so
abbrev pub progress_of : Repeated → Option Ending → HowFar
progress_of p None =
    record { state = p.state; steps = p.steps; evaluations = p.evaluations; tape = p.tape; ending = E.More; going = true }
progress_of p (Some e) =
    record { state = p.state; steps = p.steps; evaluations = p.evaluations; tape = p.tape; ending = e; going = false }

-- what was counted stays small, as a run's; and the repetition is as far as a run that ends so
abbrev pub BoundedBy : ℕ → List ℕ → Repeated → Type 0
BoundedBy budget tape p = Bounded budget tape (progress_of p None)

abbrev pub RepeatedTo : RunEnd → Repeated → Ending → List ℕ → List ℕ → Type 0
RepeatedTo e p ending ring cells = RunTo e (progress_of p (Some ending)) ring cells

-- where it is behind a pass, which went on or ended it there
abbrev pub passed_to : Repeated → Result Repeated Ending → HowFar
passed_to p (Ok q) = progress_of q None
passed_to p (Err e) = progress_of p (Some e)

-- one step more is finished
abbrev pub repeated_step : Repeated → State → ℕ → ℕ → Notes → Repeated
repeated_step p s evals bytes k = record {
  state = s;
  steps = p.steps + 1;
  evaluations = p.evaluations + evals;
  tape = p.tape + bytes;
  notes = k;
}

-- the notes with the step of a number on a world
abbrev pub noted_on : ℕ → ℕ → World → List ℕ → ℕ → Notes → Notes
noted_on column row w tape step k =
    noted_front w.state.chosen column row w.cells tape step (front_of w.state w.ring) k

-- how the notes go on from a step's end
abbrev pub notes_on : Notes → StepEnd → (World → ℕ → Notes) → Notes
notes_on before (refused why) rest = before
notes_on before (finished next evals bytes) rest = rest next bytes

-- the notes after a run with so many steps left in its budget, of which n are done
unfoldable pub notes_after : ℕ → ℕ → ℕ → World → List ℕ → ℕ → Notes → Notes
notes_after column row zero w tape n k = k
notes_after column row (suc left) w tape n k =
    cond (queue_empty w.state) k
    (notes_on k (tape_step_of w tape)
    (λ next bytes. notes_after column row left next (drop bytes tape) (suc n) (noted_on column row w tape (suc n) k)))

-- the step that comes next, on the rest of the tape, and what it adds to the notes
abbrev pub next_on : Repeated → World → List ℕ → StepEnd
next_on p w tape = tape_step_of w (drop p.tape tape)

abbrev pub notes_next : ℕ → ℕ → Repeated → World → List ℕ → Notes
notes_next column row p w tape = noted_on column row w (drop p.tape tape) (p.steps + 1) p.notes

-- once that step was tried
abbrev pub repeated_after : Repeated → StepEnd → Notes → Result Repeated Ending
repeated_after p (refused why) k = Err (E.Stop why)
repeated_after p (finished next evals bytes) k = Ok (repeated_step p next.state evals bytes k)

abbrev pub RepeatTried : ℕ → ℕ → Repeated → World → List ℕ → Result Repeated Ending → List ℕ → List ℕ → Type 0
RepeatTried column row p w tape r ring cells =
    (r ≡ repeated_after p (next_on p w tape) (notes_next column row p w tape))
    × (world_of (passed_to p r).state ring cells ≡ world_after w (next_on p w tape))

-- and once it went on: the queue is empty, the budget is spent, or the next step
unfoldable pub repeated_once : ℕ → Repeated → List ℕ → StepEnd → Notes → Result Repeated Ending
repeated_once budget p cells next k =
    cond (queue_empty p.state) (Err (empty_ending p.state.chosen cells))
    (cond (leb budget p.steps) (Err E.More) (repeated_after p next k))

unfoldable pub repeated_world : ℕ → Repeated → World → StepEnd → World
repeated_world budget p w next = cond (queue_empty p.state) w (cond (leb budget p.steps) w (world_after w next))

abbrev pub RepeatGone : ℕ → ℕ → ℕ → Repeated → World → List ℕ → Result Repeated Ending → List ℕ → List ℕ → Type 0
RepeatGone budget column row p w tape r ring cells =
    (r ≡ repeated_once budget p w.cells (next_on p w tape) (notes_next column row p w tape))
    × (world_of (passed_to p r).state ring cells ≡ repeated_world budget p w (next_on p w tape))

-- what is taken after this
abbrev pub taken_behind : List ℕ → ℕ → Result Taken QueueError → Result Taken QueueError
taken_behind ring set (Err why) = Err why
taken_behind ring set (Ok t) = taken ring t.head t.used set t.last
