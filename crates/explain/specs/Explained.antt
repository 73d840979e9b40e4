-- Document 02, (v), the explainer: "Given a setup, its tape, a number of steps and a pixel, say the reason." Its refusals are the
-- setup's own, 1, 2, 3 and 6, and then 18; until then nothing has been written. It repeats the steps as a run does, and a step that
-- refuses on the way gives its number.
use Rattle.std.specs.Prelude.{Bool, ◌&&◌, List, [], ℕ, ltb, length, Result, Ok, Err}
use Rattle.refusal.specs.Number.{number, refused_unless}
use Rattle.refusal.specs.declared.Refusal.{Refusal}
use Rattle.refusal.specs.declared.Refusal.TheVariants as R
use Rattle.decide.specs.declared.Chosen.{Chosen}
use Rattle.implicit.specs.declared.state.Ending.{Ending}
use Rattle.implicit.specs.declared.state.Ending.TheVariants as E
use Rattle.implicit.specs.declared.state.Ranges.{Ranges}
use Rattle.implicit.specs.declared.state.State.{State}
use Rattle.implicit.specs.Setup.{setup_answer, start_record, start_ring, start_cells}
use Rattle.implicit.specs.Step.{World, world_of}
use Rattle.implicit.specs.Run.{RunEnd, run_from}
use Rattle.explain.specs.declared.reason.Reason.{Reason}
use Rattle.explain.specs.declared.reason.Explanation.{Explanation}
use Rattle.explain.specs.declared.reason.Explanation.TheVariants as X
use Rattle.explain.specs.History.{PastStep, history_from}
use Rattle.explain.specs.Reasons.{covers_at, cell_at, reason_of}

-- the pixel in this column, and in this row from the top, is one of the picture's
unfoldable pub pixel_inside : Chosen → ℕ → ℕ → Bool
pixel_inside p column row = ltb column p.width && ltb row p.height

-- "18 for a pixel outside the picture, after the setup's own": what the setup answers, and then that
abbrev pub and_then_pixel : Result State Refusal → Bool → Result State Refusal
and_then_pixel (Ok s) inside = refused_unless (Err R.Pixel) inside (Ok s)
and_then_pixel (Err why) inside = Err why

unfoldable pub beginning : Chosen → Ranges → ℕ → ℕ → ℕ → ℕ → Result State Refusal
beginning p r len count column row = and_then_pixel (setup_answer p r len count) (pixel_inside p column row)

-- what the setup leaves
unfoldable pub world_begun : Chosen → Ranges → List ℕ → List ℕ → World
world_begun p r ring cells = world_of (start_record p r (length ring)) (start_ring p r ring) (start_cells p r cells)

-- the reason for a pixel after a run, with the history of its steps
unfoldable pub reason_after : Chosen → ℕ → ℕ → RunEnd → List PastStep → Reason
reason_after p column row e h = reason_of (covers_at p column row) e.world h (cell_at p column row e.world.cells)

-- the answer by how the run ended: the reason, or, where a step refused, its number
abbrev pub explained_by : Reason → RunEnd → Ending → Explanation
explained_by reason e (E.Stop why) = X.Stopped why e.world.state e.steps e.evaluations e.tape
explained_by reason e E.Done = X.Of reason e.world.state e.steps e.evaluations e.tape E.Done
explained_by reason e E.Limit = X.Of reason e.world.state e.steps e.evaluations e.tape E.Limit
explained_by reason e E.More = X.Of reason e.world.state e.steps e.evaluations e.tape E.More

-- where nothing was begun the refusal's number, and nothing is written
abbrev pub unless_refused : Result State Refusal → Explanation → Result Explanation Refusal
unless_refused (Ok s) rest = Ok rest
unless_refused (Err why) rest = Err why

abbrev pub if_ready : Result State Refusal → List ℕ → List ℕ → List ℕ
if_ready (Ok s) after before = after
if_ready (Err why) after before = before

module _ (p : Chosen) (r : Ranges) (ring cells tape : List ℕ) (steps column row : ℕ) where
  -- the run of those steps
  abbrev pub run_repeated : RunEnd
  run_repeated = run_from steps (world_begun p r ring cells) tape

  abbrev pub whether_begun : Result State Refusal
  whether_begun = beginning p r (length ring) (length cells) column row

  -- THE EXPLANATION
  unfoldable pub explained : Result Explanation Refusal
  explained =
      unless_refused whether_begun
      (explained_by (reason_after p column row run_repeated (history_from steps (world_begun p r ring cells) tape []))
      run_repeated run_repeated.ending)

  -- "a spare ring and cells lent to it, which then hold what those steps left, also, against demand 1, where one refuses"
  unfoldable pub ring_explained : List ℕ
  ring_explained = if_ready whether_begun run_repeated.world.ring ring

  unfoldable pub cells_explained : List ℕ
  cells_explained = if_ready whether_begun run_repeated.world.cells cells

-- the number of an answer: 0 where a reason is given, else that of the setup's refusal, 18, or that of the step that refused
abbrev pub explanation_number : Result Explanation Refusal → ℕ
explanation_number (Ok (X.Of reason s steps evals bytes end)) = 0
explanation_number (Ok (X.Stopped why s steps evals bytes)) = number why
explanation_number (Err why) = number why
