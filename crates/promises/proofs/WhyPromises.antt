-- WHAT IS PROMISED of the reason why a pixel reads what it reads: document 02, (v). Each promise stands under its sentence; each proof is one line
-- that names the law. To judge them one reads this page, document 02 and these definitions: specs/ Chart, Steps, Calls, Mixes and Why of this
-- crate; specs/ History, Reasons and Explained of `explain`, which its contract cites, and what they are written over; and base's specs/Places. No
-- proof file.
--
-- "What it names is proved to be what the step definition says happened": the history has the outcomes of the children by the definition that the
-- contract of `step` cites. A block covers a pixel here as it does in demand 3's promises (covers_in).
-- Assumes nothing.
use mathlib.Core.Path.{◌≡◌}
use mathlib.Core.Logic.{◌⊎◌, ◌↔◌}
use mathlib.Core.Bool.{true}
use mathlib.Core.List.{List, [], ◌∷◌, map}
use Prim.Native.Nat.{ℕ, ◌-◌, ◌<◌}
use lib.Dec.{T}
use lib.ListN.{length, drop}
use Rattle.base.specs.Lists.{Every, Some}
use Rattle.base.specs.Places.{Latest}
use Rattle.theory.specs.Colours.{Question, HasSolution, Holds}
use Rattle.std.specs.Prelude.{Result, Ok, Err}
use Rattle.refusal.specs.declared.Refusal.{Refusal}
use Rattle.interval.specs.Bounds.{InFormat}
use Rattle.image.specs.declared.Reading.TheVariants as Reads
use Rattle.queue.specs.declared.Block.{Block}
use Rattle.decide.specs.declared.Chosen.{Chosen}
use Rattle.decide.specs.declared.verdict.Outcome.TheVariants as O
use Rattle.decide.specs.Children.{children_of}
use Rattle.implicit.specs.declared.state.Ending.{Ending}
use Rattle.implicit.specs.declared.state.Ending.TheVariants as E
use Rattle.implicit.specs.declared.state.Ranges.{Ranges}
use Rattle.implicit.specs.declared.state.State.{State}
use Rattle.implicit.specs.Record.{queue_empty}
use Rattle.implicit.specs.Setup.{cleared}
use Rattle.implicit.specs.Step.{World, world_of, refused, tape_step_of}
use Rattle.implicit.specs.Run.{run_from}
use Rattle.explain.specs.declared.reason.Reason.{Reason}
use Rattle.explain.specs.declared.reason.Explanation.{Explanation}
use Rattle.explain.specs.History.{Answered, history_from}
use Rattle.explain.specs.Reasons.{covers_at, takes_here, gives_up_here, last_mark, last_point, last_denial, last_giving_up, reason_of, cell_at}
use Rattle.explain.specs.Explained.{explained, ring_explained, cells_explained}
use Rattle.promises.specs.Chart.{Pixel, covers_in}
use Rattle.promises.specs.Steps.{Asked, BegunAs, Steps, NoMove, reads_in, GivenUpIn, StandsGivenUp}
use Rattle.promises.specs.Calls.{asked_by, ran_to}
use Rattle.promises.specs.Mixes.{Measures, Mix, question_of}
use Rattle.promises.specs.Why.{past_in, over_pixel, WhyTrue, WhyFalse, WhyGivenUp, WhyWaiting, Explains, RightAnswers}
use Rattle.promises.proofs.Linked.{begun_reached}
use Rattle.promises.proofs.WhyLinked.{past_whole}
use Rattle.promises.proofs.WhyHolds.{true_why, false_why, given_up_why, waiting_why, left_why, none_why}
use Rattle.promises.proofs.WhyGivenUp.{given_up_both}
use Rattle.promises.proofs.Explains.{tool_right}
use Rattle.promises.proofs.ExplainAnswered.{reason_answered, end_answered, stop_answered, refusal_answered}

module _ (a : Asked) {w₀ : World} (z : BegunAs a w₀) where
  -- ---- THE REASONS, after any finished steps from an accepted setup, with moves anywhere among them

  -- "For True: the step, the child's place in it, and whether the area verdict or which sample point marked it last."
  pub why_true : {n : ℕ} {w : World} (r : Steps n w₀ w) (q : Pixel a.chosen) → reads_in a.chosen w q ≡ Reads.True
      → WhyTrue a.chosen q (past_in r) (last_mark a.chosen (over_pixel a.chosen q) (past_in r))
      (last_point a.chosen (over_pixel a.chosen q) (past_in r))
  why_true = true_why a z

  -- "For False: the step that took the last covering block, and the first covering child answered false."
  -- ".. and for False it is also proved that every covering child of that step was answered false."
  pub why_false : {n : ℕ} {w : World} (r : Steps n w₀ w) (q : Pixel a.chosen) → reads_in a.chosen w q ≡ Reads.False
      → WhyFalse a.chosen q (past_in r) (last_denial a.chosen (over_pixel a.chosen q) (past_in r))
  why_false = false_why a z

  -- "For given up: the last step that gave it up and the first child there that found no direction."
  pub why_given_up : {n : ℕ} {w : World} (r : Steps n w₀ w) (q : Pixel a.chosen) → StandsGivenUp a.chosen w q
      → WhyGivenUp a.chosen q (past_in r) (last_giving_up a.chosen (over_pixel a.chosen q) (past_in r))
  why_given_up = given_up_why a z

  -- a step "gave it up" as in demand 3's promises: by what its steps did, the pixel was given up in them (GivenUpIn) exactly if, by the answers of
  -- their children, one of them gives it up (gives_up_here)
  pub gave_up_either_way : {n : ℕ} {w : World} (r : Steps n w₀ w) (q : Pixel a.chosen)
      → GivenUpIn a.chosen r q ↔ Some (λ e. T (gives_up_here a.chosen (over_pixel a.chosen q) e)) (past_in r)
  gave_up_either_way = given_up_both a z

  -- "For waiting: the last queued block that covers it and how many stand before it."
  pub why_waiting : {n : ℕ} {w : World} (r : Steps n w₀ w) (q : Pixel a.chosen) → reads_in a.chosen w q ≡ Reads.Uncertain
      → ¬ StandsGivenUp a.chosen w q
      → (number : ℕ) × (block : Block) × WhyWaiting a.chosen q (past_in r) w number (number - w.state.taken) block
  why_waiting = waiting_why a z

  -- the history has every finished step, so that its numbers are theirs, and of each step every child of its block
  pub history_whole : {n : ℕ} {w : World} (r : Steps n w₀ w)
      → (length (past_in r) ≡ n) × Every (λ e. map (λ (b : Answered). b.child) e.answers ≡ children_of a.chosen e.block) (past_in r)
  history_whole = past_whole a.chosen (begun_reached a w₀ z)

  -- ---- THE EXPLAINER

  -- "The tool repeats the steps ..": they are finished steps from the setup on, with no move among them, and the history is theirs; however the run
  -- ends, the reason is the one that the pixel's reading asks for, and it names what happened. Columns count from the left, rows from the top
  pub tool_explains : (steps : ℕ) (tape : List ℕ) (q : Pixel a.chosen) (column row : ℕ) → column ≡ q.x → row ≡ a.chosen.height - 1 - q.y
      → (let e = run_from steps w₀ tape in
      let h = history_from steps w₀ tape [] in
      (r : Steps e.steps w₀ e.world) × NoMove r × (h ≡ past_in r)
      × Explains a.chosen q h e.world
      (reason_of (covers_at a.chosen column row) e.world h (cell_at a.chosen column row e.world.cells)))
  tool_explains = tool_right a z

-- ---- THE CONTRACT OF `explain` gives this: the hypotheses are its `ensures`, with r for the answer, `ring` for the memory at entry and `ring'` at
-- exit, and so of the cells. (The bounds handed in are values of f64, as every f64 is; the reserved bytes are read as 0.)

module _ (chosen : Chosen) (ranges : Ranges) (ring cells tape : List ℕ) (steps column row : ℕ) (r : Result Explanation Refusal) (ring' cells' : List ℕ)
    (is : r ≡ explained (cleared chosen) ranges ring cells tape steps column row)
    (ring_is : ring' ≡ ring_explained (cleared chosen) ranges ring cells tape steps column row)
    (cells_are : cells' ≡ cells_explained (cleared chosen) ranges ring cells tape steps column row) where
  -- where it answers a reason, what it leaves and reports is the end of the run from an accepted setup on; the run's steps are finished steps, and
  -- the reason is right after them: "What it names is proved to be what the step definition says happened"
  pub explain_answered : InFormat ranges.m × InFormat ranges.n × InFormat ranges.theta × InFormat ranges.t
      → (why : Reason) (s : State) (n evals bytes : ℕ) (ending : Ending) → r ≡ Ok (Explanation.Of why s n evals bytes ending)
      → (w₀ : World) × BegunAs (asked_by chosen ranges ring cells) w₀ × (run_from steps w₀ tape ≡ ran_to s ring' cells' n evals bytes ending)
      × (q : Pixel (cleared chosen)) × (column ≡ q.x) × (row ≡ chosen.height - 1 - q.y)
      × (c : Steps n w₀ (world_of s ring' cells')) × NoMove c × (history_from steps w₀ tape [] ≡ past_in c)
      × Explains (cleared chosen) q (past_in c) (world_of s ring' cells') why
  explain_answered = reason_answered chosen ranges ring cells tape steps column row r ring' cells' is ring_is cells_are

  -- "if the queue empties sooner, it answers for that end": the finished steps are as many as were asked for, unless the queue is empty
  pub explains_the_end : (why : Reason) (s : State) (n evals bytes : ℕ) (ending : Ending) → r ≡ Ok (Explanation.Of why s n evals bytes ending)
      → (n ≡ steps) ⊎ ((n < steps) × (queue_empty s ≡ true))
  explains_the_end = end_answered chosen ranges ring cells tape steps column row r ring' cells' is ring_is cells_are

  -- "a step that refuses on the way gives its number", and the ring and the cells "then hold what those steps left, also, against demand 1, where
  -- one refuses": it is the step on what they left, with the rest of the tape
  pub explain_stopped : InFormat ranges.m × InFormat ranges.n × InFormat ranges.theta × InFormat ranges.t
      → (why : Refusal) (s : State) (n evals bytes : ℕ) → r ≡ Ok (Explanation.Stopped why s n evals bytes)
      → (w₀ : World) × BegunAs (asked_by chosen ranges ring cells) w₀ × (run_from steps w₀ tape ≡ ran_to s ring' cells' n evals bytes (E.Stop why))
      × (c : Steps n w₀ (world_of s ring' cells')) × NoMove c × (tape_step_of (world_of s ring' cells') (drop bytes tape) ≡ refused why)
  explain_stopped = stop_answered chosen ranges ring cells tape steps column row r ring' cells' is ring_is cells_are

  -- where it is refused, by the setup's own numbers or by 18, nothing was written
  pub explain_refused : (why : Refusal) → r ≡ Err why → (ring' ≡ ring) × (cells' ≡ cells)
  explain_refused = refusal_answered chosen ranges ring cells tape steps column row r ring' cells' is ring_is cells_are

-- ---- WHITE BECAUSE OF THAT STEP: what the reason for False means, over any relation

module _ (M : Measures) (Solves : Mix M → Type 0) (a : Asked) {w₀ : World} (z : BegunAs a w₀) where
  abbrev Q : Question Block (Pixel a.chosen)
  Q = question_of M a.chosen a.ranges Solves

  -- the solutions of the pixel that the steps before that step left, as far as their false answers were right about this pixel, lie in children of
  -- that step that were answered false;
  pub white_left_there : {n : ℕ} {w : World} (r : Steps n w₀ w) (q : Pixel a.chosen) → reads_in a.chosen w q ≡ Reads.False
      → (o : Latest (takes_here a.chosen (over_pixel a.chosen q)) (past_in r)) → RightAnswers a.chosen q Q o.before
      → (x : Q.Mix) → Q.Given x → Q.At x q → Q.Solves x
      → Some (λ b. (b.outcome ≡ O.False) × Holds (covers_in a.chosen) Q x q b.child) o.this.answers
  white_left_there = left_why M Solves a z

  -- so white means no by the false answers up to that step alone, and by what they say of this pixel alone
  pub white_by_that_step : {n : ℕ} {w : World} (r : Steps n w₀ w) (q : Pixel a.chosen) → reads_in a.chosen w q ≡ Reads.False
      → (o : Latest (takes_here a.chosen (over_pixel a.chosen q)) (past_in r)) → RightAnswers a.chosen q Q (o.this ∷ o.before)
      → ¬ HasSolution Q q
  white_by_that_step = none_why M Solves a z
