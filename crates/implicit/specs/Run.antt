-- Document 01, the paragraph on a run: what it is refused by, its four endings in the order in which they are looked for, and its three sums.
use Rattle.std.specs.Prelude.{◌≡◌, cond, List, ℕ, zero, suc, ◌+◌, leb, length, drop, Result, Ok, Err}
use Rattle.refusal.specs.declared.Refusal.{Refusal}
use Rattle.refusal.specs.declared.Refusal.TheVariants as R
use Rattle.image.specs.Cell.{is_given_up}
use Rattle.image.specs.Painting.{some_of}
use Rattle.decide.specs.declared.Chosen.{Chosen}
use Rattle.implicit.specs.declared.state.State.{State}
use Rattle.implicit.specs.declared.state.Ending.{Ending}
use Rattle.implicit.specs.declared.state.Ending.TheVariants as E
use Rattle.implicit.specs.declared.state.Refused.{Refused}
use Rattle.implicit.specs.declared.state.Ended.{Ended}
use Rattle.implicit.specs.Record.{refused_unless, pixel_count, pixel_cells, sound_record, queue_empty}
use Rattle.implicit.specs.Step.{World, StepEnd, refused, finished, tape_step_of}

-- what a run leaves and reports
pub record RunEnd : Type 0 where
  pub world : World
  pub steps : ℕ
  pub evaluations : ℕ
  pub tape : ℕ
  pub ending : Ending

-- a run that ends here, without a further step
abbrev pub ended_as : World → Ending → RunEnd
ended_as w e = record { world = w; steps = 0; evaluations = 0; tape = 0; ending = e }

-- a run with one step before it, of so many evaluations and tape bytes
abbrev pub after_step : ℕ → ℕ → RunEnd → RunEnd
after_step evals bytes r = record {
  world = r.world;
  steps = suc r.steps;
  evaluations = evals + r.evaluations;
  tape = bytes + r.tape;
  ending = r.ending;
}

-- the queue is empty: limit where a pixel is given up, else done
abbrev pub empty_ending : Chosen → List ℕ → Ending
empty_ending p cells = cond (some_of is_given_up (pixel_cells p cells)) E.Limit E.Done

-- how a run goes on from a step's end: it stops where the step was refused, else the rest follows on the world and the tape that the step leaves
abbrev pub gone_on : World → StepEnd → (World → ℕ → RunEnd) → RunEnd
gone_on w (refused why) rest = ended_as w (E.Stop why)
gone_on w (finished next evals bytes) rest = after_step evals bytes (rest next bytes)

-- the run with so many steps left in its budget, on the rest of the tape
unfoldable pub run_from : ℕ → World → List ℕ → RunEnd
run_from zero w tape = cond (queue_empty w.state) (ended_as w (empty_ending w.state.chosen w.cells)) (ended_as w E.More)
run_from (suc left) w tape =
    cond (queue_empty w.state) (ended_as w (empty_ending w.state.chosen w.cells))
    (gone_on w (tape_step_of w tape) (λ next bytes. run_from left next (drop bytes tape)))

-- THE RUN
pub data RunResult : Type 0 where
  not_run : Refusal → RunResult
  has_run : RunEnd → RunResult

unfoldable pub run_of : ℕ → World → List ℕ → RunResult
run_of budget w tape =
    refused_unless (not_run R.Damaged) (sound_record (length w.ring) w.state)
    (refused_unless (not_run R.Cells) (leb (pixel_count w.state.chosen) (length w.cells)) (has_run (run_from budget w tape)))

-- its answer on a record, and the world afterwards
abbrev pub run_answer : State → RunResult → Result Ended Refused
run_answer s (not_run why) = Err (record { why = why; state = s })
run_answer s (has_run e) = Ok (record { state = e.world.state; steps = e.steps; evaluations = e.evaluations; tape = e.tape; ending = e.ending })

abbrev pub world_run : World → RunResult → World
world_run w (not_run why) = w
world_run w (has_run e) = e.world

-- what a call answered, with the ring and the cells afterwards, is what the run says
abbrev pub RunsAs : World → RunResult → Result Ended Refused → List ℕ → List ℕ → Type 0
RunsAs w a r ring cells = (r ≡ run_answer w.state a) × (ring ≡ (world_run w a).ring) × (cells ≡ (world_run w a).cells)
