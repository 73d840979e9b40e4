-- A run, step by step: what private functions compute. The laws say that what is left to do, with what was counted, is the run.
use Rattle.std.specs.Prelude.{◌≡◌, Bool, true, false, cond, List, ℕ, ◌+◌, ◌*◌, ◌≤◌, leb, length, drop, Result, Ok, Err}
use Rattle.implicit.specs.declared.state.State.{State}
use Rattle.implicit.specs.declared.state.Ending.{Ending}
use Rattle.implicit.specs.declared.state.Ending.TheVariants as E
use Rattle.implicit.specs.declared.state.Ended.{Ended}
use Rattle.implicit.specs.declared.running.Progress.{Progress}
use Rattle.implicit.specs.Record.{queue_empty, sound_use, sound_record}
use Rattle.implicit.specs.Step.{World, world_of, StepEnd, refused, finished, tape_step_of, world_after}
use Rattle.implicit.specs.Run.{RunEnd, empty_ending}

-- how far a run is: what its steps left and took, whether it goes on, and how it ended if it does not
pub record HowFar : Type 0 where
  pub state : State
  pub steps : ℕ
  pub evaluations : ℕ
  pub tape : ℕ
  pub ending : Ending
  pub going : Bool

-- by what the code counts: it goes on, or it ended so
abbrev pub going_on : Progress → HowFar
going_on p = record { state = p.state; steps = p.steps; evaluations = p.evaluations; tape = p.tape; ending = E.More; going = true }

abbrev pub stopped : Progress → Ending → HowFar
stopped p e = record { state = p.state; steps = p.steps; evaluations = p.evaluations; tape = p.tape; ending = e; going = false }

-- where it is behind a pass, which went on or ended it there
abbrev pub passed_to : Progress → Result Progress Ending → HowFar
passed_to p (Ok q) = going_on q
passed_to p (Err e) = stopped p e

-- the run ends here
abbrev pub halted : HowFar → Ending → HowFar
halted p e = record { state = p.state; steps = p.steps; evaluations = p.evaluations; tape = p.tape; ending = e; going = false }

-- what is told of a run that is over
abbrev pub ended_by : HowFar → Ended
ended_by p = record { state = p.state; steps = p.steps; evaluations = p.evaluations; tape = p.tape; ending = p.ending }

-- one step more is finished
abbrev pub stepped : HowFar → State → ℕ → ℕ → HowFar
stepped p s evals bytes = record {
  state = s;
  steps = p.steps + 1;
  evaluations = p.evaluations + evals;
  tape = p.tape + bytes;
  ending = p.ending;
  going = true;
}

abbrev pub progress_after : HowFar → StepEnd → HowFar
progress_after p (refused why) = halted p (E.Stop why)
progress_after p (finished next evals bytes) = stepped p next.state evals bytes

-- the step that comes next, on the rest of the tape
abbrev pub next_step : HowFar → List ℕ → List ℕ → List ℕ → StepEnd
next_step p ring cells tape = tape_step_of (world_of p.state ring cells) (drop p.tape tape)

-- one pass of the loop: the queue is empty, the budget is spent, or the next step, which ends like this
unfoldable pub progress_once : ℕ → HowFar → List ℕ → StepEnd → HowFar
progress_once budget p cells next =
    cond (queue_empty p.state) (halted p (empty_ending p.state.chosen cells))
    (cond (leb budget p.steps) (halted p E.More) (progress_after p next))

unfoldable pub world_once : ℕ → HowFar → World → StepEnd → World
world_once budget p w next = cond (queue_empty p.state) w (cond (leb budget p.steps) w (world_after w next))

-- what is known of the record between two steps: it is sound, if only its use is
abbrev pub SoundByUse : ℕ → State → Type 0
SoundByUse len s = sound_use s ≡ true → sound_record len s ≡ true

-- how far the run is, once it went on from a world by the step that comes next
abbrev pub OnceGone : ℕ → HowFar → World → StepEnd → HowFar → List ℕ → List ℕ → Type 0
OnceGone budget p w next r ring cells =
    (r ≡ progress_once budget p w.cells next) × (world_of r.state ring cells ≡ world_once budget p w next) × SoundByUse (length ring) r.state

-- and once that step was tried
abbrev pub Tried : HowFar → World → StepEnd → HowFar → List ℕ → List ℕ → Type 0
Tried p w next r ring cells =
    (r ≡ progress_after p next) × (world_of r.state ring cells ≡ world_after w next) × SoundByUse (length ring) r.state

-- what was counted stays small, by the budget
pub record Bounded (budget : ℕ) (tape : List ℕ) (p : HowFar) : Type 0 where
  pub steps : p.steps ≤ budget
  pub evaluations : p.evaluations ≤ 24 * p.steps
  pub tape_used : p.tape ≤ length tape
  pub tape_few : p.tape ≤ 4 * p.steps

-- a run's end as its progress, with the ring and the cells afterwards
pub record RunTo (e : RunEnd) (p : HowFar) (ring cells : List ℕ) : Type 0 where
  pub world : world_of p.state ring cells ≡ e.world
  pub steps : p.steps ≡ e.steps
  pub evaluations : p.evaluations ≡ e.evaluations
  pub tape : p.tape ≡ e.tape
  pub ending : p.ending ≡ e.ending
