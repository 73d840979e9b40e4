-- WHAT IS PROMISED of the engine. Each promise stands under its sentence; each proof is one line that names the law. To judge the promises one reads this
-- page, documents 01 and 02 and these definitions: specs/ of this crate (Chart, Steps, Calls, Judgements, Mixes, ByBoxes, Sentences, EnoughRoom, Alike); specs/ of
-- `implicit` and of the crates under it, which its contracts cite; and of `theory` specs/ Demand3, Levels, Shapes, Colours, Positions and Cuts, as far
-- as these name it. No proof file.
--
-- The conditions, for all but the runs and `share_says`: a setup was called with `a`, was accepted, and left the world w₀ (BegunAs); each step was finished on
-- the record, ring and cells that the setup, the step or the move before it left, so nobody else wrote there (Steps). Moves stand anywhere among the steps
-- (MovesTo): the queue may have gone to another ring. A queued block is one that the ring's bytes decode to.
-- Assumes nothing.
use mathlib.Core.Path.{◌≡◌, refl}
use mathlib.Core.Logic.{◌⊎◌, ◌↔◌}
use mathlib.Core.List.{List, [], ◌∷◌, map, ◌++◌}
use Prim.Native.Nat.{ℕ, suc, ◌+◌, ◌*◌, ◌^◌, ◌≤◌, ◌<◌}
use lib.Dec.{T}
use lib.ListN.{length, take, get_or}
use Rattle.std.specs.Prelude.{Result, Ok, Err}
use Rattle.base.specs.Lists.{Every, Some}
use Rattle.refusal.specs.declared.Refusal.{Refusal}
use Rattle.interval.specs.Bounds.{InFormat}
use Rattle.coordinate.specs.Axis.{places}
use Rattle.image.specs.declared.Reading.TheVariants as Reads
use Rattle.image.specs.Cell.{byte_of}
use Rattle.image.specs.Range.{cell_index}
use Rattle.theory.specs.Levels.{NeverRise, OnTwoLevels, sum_to, places_along}
use Rattle.theory.specs.Colours.{Question, HasSolution, FalseRight, MarkRight, DecidedBelow}
use Rattle.boxes.specs.declared.Plot.{Plot}
use Rattle.boxes.specs.Ratios.{Ratio}
use Rattle.queue.specs.declared.Block.{Block}
use Rattle.decide.specs.declared.Chosen.{Chosen}
use Rattle.implicit.specs.declared.state.Ranges.{Ranges}
use Rattle.implicit.specs.declared.state.State.{State}
use Rattle.implicit.specs.declared.state.Ending.{Ending}
use Rattle.implicit.specs.declared.state.Tally.{Tally}
use Rattle.implicit.specs.declared.state.Refused.{Refused}
use Rattle.implicit.specs.declared.state.Finished.{Finished}
use Rattle.implicit.specs.declared.state.Ended.{Ended}
use Rattle.implicit.specs.Record.{pixel_count}
use Rattle.implicit.specs.Setup.{start_level, cleared, setup_answer, ring_begun, cells_begun}
use Rattle.implicit.specs.Step.{World, world_of, finished, step_of, step_answer, EndsAs}
use Rattle.implicit.specs.Run.{RunEnd, has_run, run_of, RunsAs}
use Rattle.implicit.specs.View.{picture_left, picture_answer, if_done, counts_answer}
use Rattle.refusal.specs.Number.{number}
use Rattle.queue.specs.Ring.{content}
use Rattle.queue.specs.Queue.{queue_codes}
use Rattle.implicit.specs.Room.{enough_bytes, enough_ring}
use Rattle.implicit.specs.Move.{moved_world, not_moved, moved, move_of, MovesAs}
use Rattle.implicit.specs.Answers.{step_number, call_number}
use Rattle.promises.specs.Chart.{Pixel, place_of_block, covers_in, queued_blocks}
use Rattle.promises.specs.Steps.{Asked, BegunAs, MovesTo, Steps, NoMove, verdicts_of, evaluations_of, reads_in, GivenUpIn, StandsGivenUp}
use Rattle.promises.specs.Steps.{PlaneOnly, LegalVerdicts, WrongCount, SomeIllegal, Suffices, NeverEight}
use Rattle.promises.specs.Calls.{asked_by, ran_to}
use Rattle.promises.specs.Judgements.{EveryAnswer}
use Rattle.promises.specs.Mixes.{Measures, Mix, question_of}
use Rattle.promises.specs.ByBoxes.{ExactPositions, PlotStands, PlotOf, SolvesWhereItStands, JudgedByBox}
use Rattle.promises.specs.Sentences.{FalseRule, FalseStays, LeavesAfter, PixelBound, ShareWhole, WhiteMeansNo}
use Rattle.promises.specs.EnoughRoom.{NeverSix, RunsPastSix}
use Rattle.promises.specs.Alike.{on_ring, RingsAlike, StepsAlike}
use Rattle.promises.proofs.MixesExact.{exactly}
use Rattle.promises.proofs.ByBoxes.{boxes_right, exactly_placed}
use Rattle.promises.proofs.Linked.{begun_reached, steps_reached, reached_by}
use Rattle.promises.proofs.Demand3.{false_exactly, false_kept, left_behind, steps_taken, waiting, up_now}
use Rattle.promises.proofs.PlaneBounds.{pixels_bound, levels_fall, levels_bound, empties}
use Rattle.promises.proofs.NeverDamaged.{never_eight, wrong_only, illegal_only, right_only, goes_on}
use Rattle.promises.proofs.Drawing.{drawn}
use Rattle.promises.proofs.Shares.{settled_all, whole_share}
use Rattle.promises.proofs.TrueKept.{true_kept, from_uncertain}
use Rattle.promises.proofs.ColoursHold.{white_none, true_one, all_decided}
use Rattle.promises.proofs.EnoughRing.{six_never, six_stops_none, ring_answered, begun_ring_stays}
use Rattle.promises.proofs.Moving.{ring_goes, longer_goes, shorter_refused, codes_first, queue_kept, readings_kept}
use Rattle.promises.proofs.GoesAlike.{charts_alike, steps_alike}
use Rattle.promises.proofs.RunSteps as RunSteps
use Rattle.promises.proofs.Answered.{setup_begins, step_counts, step_keeps_all, run_ends, move_moves}
use Rattle.promises.proofs.FewSteps.{steps_few, too_deep}
use Rattle.promises.proofs.Greys.{grey_exactly, elsewhere_kept, decided_then}
use Rattle.promises.proofs.Screen.{white_shown, white_both, run_sums}

-- ---- THE CONDITIONS ARE WHAT THE CONTRACTS ENSURE. A call hands over memory and gets it back: `ring` stands for it at entry, `ring'` at exit, and so of
-- the cells; r is the answer. The hypotheses are the `ensures` of `setup`, `step` and `run`, and what they say then is what the promises ask for

-- setup, where it answers a record: a chart is begun. (The bounds handed in are values of f64, as every f64 is; the reserved bytes are read as 0.)
pub setup_answered : (chosen : Chosen) (ranges : Ranges) (ring cells ring' cells' : List ℕ) (r : Result State Refusal)
    → InFormat ranges.m × InFormat ranges.n × InFormat ranges.theta × InFormat ranges.t
    → r ≡ setup_answer (cleared chosen) ranges (length ring) (length cells)
    → ring' ≡ ring_begun (cleared chosen) ranges ring cells
    → cells' ≡ cells_begun (cleared chosen) ranges ring cells
    → (s : State) → r ≡ Ok s → BegunAs (asked_by chosen ranges ring cells) (world_of s ring' cells')
setup_answered = setup_begins

-- step, where it answers that it is finished: one step more, under these verdicts, at so many evaluations;
pub step_answered : (s : State) (ring cells verdicts ring' cells' : List ℕ) (r : Result Finished Refused)
    → EndsAs (world_of s ring cells) (step_of (world_of s ring cells) verdicts) r ring' cells'
    → (s' : State) (evals bytes : ℕ) → r ≡ Ok (record { state = s'; evaluations = evals; verdicts = bytes }) → {n : ℕ} {w₀ : World} (c : Steps n w₀ (world_of s ring cells))
    → (d : Steps (suc n) w₀ (world_of s' ring' cells')) × (verdicts_of d ≡ verdicts_of c ++ verdicts) × (evaluations_of d ≡ evaluations_of c + evals)
step_answered = step_counts

-- where it answers a refusal, the record, the ring and the cells are those given, so the next step goes on from there
pub step_refused : (s : State) (ring cells verdicts ring' cells' : List ℕ) (r : Result Finished Refused)
    → EndsAs (world_of s ring cells) (step_of (world_of s ring cells) verdicts) r ring' cells'
    → (why : Refusal) (s' : State) → r ≡ Err (record { why = why; state = s' }) → world_of s' ring' cells' ≡ world_of s ring cells
step_refused = step_keeps_all

-- run, where it answers how it ended: it is the run that `run_reaches`, further down, takes apart into steps
pub run_answered : (s : State) (ring cells tape ring' cells' : List ℕ) (budget : ℕ) (r : Result Ended Refused)
    → RunsAs (world_of s ring cells) (run_of budget (world_of s ring cells) tape) r ring' cells'
    → (s' : State) (steps evals bytes : ℕ) (ending : Ending) → r ≡ Ok (record { state = s'; steps = steps; evaluations = evals; tape = bytes; ending = ending })
    → run_of budget (world_of s ring cells) tape ≡ has_run (ran_to s' ring' cells' steps evals bytes ending)
run_answered = run_ends

-- move_queue, where it answers a record: the chart is moved, with the cells that it has
pub move_answered : (s : State) (ring cells other other' : List ℕ) (r : Result State Refused) → MovesAs s ring other r other'
    → (s' : State) → r ≡ Ok s' → MovesTo (world_of s ring cells) (world_of s' other' cells)
move_answered = move_moves

module _ (a : Asked) {w₀ : World} (z : BegunAs a w₀) where
  -- ---- DEMAND 3: each sentence's statement stands under its name in specs/Sentences

  -- "A pixel reads False exactly if it isn't True, wasn't given up, and no queued block covers it."
  pub false_rule : FalseRule a w₀
  false_rule = false_exactly a z

  -- "A pixel that reads False stays False."
  pub false_stays : FalseStays a w₀
  false_stays = false_kept a z

  -- "A block with d blocks before it has left the queue after d + 1 further finished steps."
  pub leaves_queue : LeavesAfter a w₀
  leaves_queue = left_behind a z

  -- "If x or y is used and there is no parameter, then once the finished steps reach the sum, over j from 1 to the start level, of ceil(width / 2^j) times
  -- ceil(height / 2^j), no queued block covers more than one pixel."
  pub pixel_bound : PixelBound a w₀
  pixel_bound = pixels_bound a z

  -- ---- NEVER DAMAGED

  -- what an accepted setup, finished steps and moves leave is never refused by 8,
  pub never_damaged : {n : ℕ} {w : World} → Steps n w₀ w → NeverEight w
  never_damaged {w = w} r = never_eight a.chosen w (steps_reached a.chosen (begun_reached a w₀ z) r)

  -- a step on it with legal verdicts in the right number is finished (0) or refused by 6, 7 or 13 alone, and by 13 only where nothing is queued (cells enough
  -- for the setup are enough for it),
  pub refused_only : {n : ℕ} {w : World} → Steps n w₀ w → (vs : List ℕ) → LegalVerdicts w vs (queued_blocks w)
      → (let k = step_number (step_answer w.state (step_of w vs)) in (k ≡ 0) ⊎ (k ≡ 6) ⊎ (k ≡ 7) ⊎ ((k ≡ 13) × (queued_blocks w ≡ [])))
  refused_only {w = w} r = right_only a.chosen w (steps_reached a.chosen (begun_reached a w₀ z) r)

  -- where a block is queued, verdicts in another number than its children are refused by 4 and nothing else,
  pub refused_by_4 : {n : ℕ} {w : World} → Steps n w₀ w → (vs : List ℕ) → WrongCount w vs (queued_blocks w)
      → step_number (step_answer w.state (step_of w vs)) ≡ 4
  refused_by_4 {w = w} r = wrong_only a.chosen w (steps_reached a.chosen (begun_reached a w₀ z) r)

  -- and those in the right number that are not all legal by 5 and nothing else;
  pub refused_by_5 : {n : ℕ} {w : World} → Steps n w₀ w → (vs : List ℕ) → SomeIllegal w vs (queued_blocks w)
      → step_number (step_answer w.state (step_of w vs)) ≡ 5
  refused_by_5 {w = w} r = illegal_only a.chosen w (steps_reached a.chosen (begun_reached a w₀ z) r)

  -- with legal ones it is finished where a block is queued and numbers and room suffice,
  pub step_goes_on : {n : ℕ} {w : World} → Steps n w₀ w → (vs : List ℕ) → LegalVerdicts w vs (queued_blocks w) → Suffices w vs (queued_blocks w)
      → (left : World) × (evals : ℕ) × (bytes : ℕ) × (step_of w vs ≡ finished left evals bytes)
  step_goes_on {w = w} r = goes_on a.chosen w (steps_reached a.chosen (begun_reached a w₀ z) r)

  -- what the record counts as queued was taken or is in the queue,
  pub queue_counted : {n : ℕ} {w : World} → Steps n w₀ w → w.state.taken + length (queued_blocks w) ≡ w.state.queued
  queue_counted = waiting a z

  -- and the finished steps are the record's count of blocks taken
  pub steps_are_taken : {n : ℕ} {w : World} → Steps n w₀ w → w.state.taken ≡ n
  steps_are_taken = steps_taken a z

  -- ---- ROOM: a ring that is enough, and a queue that moves to another

  -- with `enough_ring`'s bytes none of the first n steps from the setup is refused by 6, whatever the verdicts,
  pub never_six : NeverSix a w₀
  never_six = six_never a z

  -- and no run within these n steps is stopped by 6;
  pub runs_past_six : RunsPastSix a w₀
  runs_past_six = six_stops_none a z

  -- they are the bytes that `enough_ring` answers,
  pub enough_answered : (n : ℕ) → enough_ring a.chosen a.ranges n ≡ Ok (enough_bytes a.chosen a.ranges n)
  enough_answered = ring_answered a z

  -- and without a move the ring is as long as the setup's
  pub ring_stays : {n : ℕ} {w : World} (r : Steps n w₀ w) → NoMove r → length w.ring ≡ length a.ring
  ring_stays = begun_ring_stays a z

  -- a move to a ring that has a byte, and room for the bytes used, is made,
  pub move_goes : {n : ℕ} {w : World} → Steps n w₀ w → (ring : List ℕ) → 0 < length ring → w.state.used ≤ length ring
      → move_of w ring ≡ moved (moved_world w ring)
  move_goes {w = w} r = ring_goes a.chosen w (reached_by a w₀ z r)

  -- so one to a ring that is as long as the present one, or longer, is never refused,
  pub move_longer : {n : ℕ} {w : World} → Steps n w₀ w → (ring : List ℕ) → length w.ring ≤ length ring → move_of w ring ≡ moved (moved_world w ring)
  move_longer {w = w} r = longer_goes a.chosen w (reached_by a w₀ z r)

  -- and one to any other ring is refused by 6;
  pub move_refused : {n : ℕ} {w : World} → Steps n w₀ w → (ring : List ℕ) → (length ring ≡ 0) ⊎ (length ring < w.state.used)
      → (why : Refusal) × (move_of w ring ≡ not_moved why) × (number why ≡ 6)
  move_refused {w = w} r = shorter_refused a.chosen w (reached_by a w₀ z r)

  -- what is written, from byte 0 on, are the codes of the queued blocks,
  pub move_codes : {n : ℕ} {w : World} → Steps n w₀ w → (ring : List ℕ) → 0 < length ring → w.state.used ≤ length ring
      → content (moved_world w ring).ring 0 w.state.used ≡ queue_codes w.state.chosen.set w.state.front (queued_blocks w)
  move_codes {w = w} r = codes_first a.chosen w (reached_by a w₀ z r)

  -- after any move the same blocks are queued in the same order,
  pub move_keeps_queue : {n : ℕ} {w : World} → Steps n w₀ w → {w' : World} → MovesTo w w' → queued_blocks w' ≡ queued_blocks w
  move_keeps_queue {w = w} r = queue_kept a.chosen w (reached_by a w₀ z r)

  -- and every pixel reads the same
  pub move_keeps_readings : {n : ℕ} {w : World} → Steps n w₀ w → {w' : World} → MovesTo w w' → (q : Pixel a.chosen)
      → reads_in a.chosen w' q ≡ reads_in a.chosen w q
  move_keeps_readings {w = w} r = readings_kept a.chosen w (reached_by a w₀ z r)

  -- a chart that was moved equals one that was begun on the other ring, byte for byte but for the ring, if their steps were given the same verdicts,
  pub moved_as_begun : (ring : List ℕ) {v₀ : World} → BegunAs (on_ring a ring) v₀ → RingsAlike a w₀ ring v₀
  moved_as_begun = charts_alike a z

  -- and the next step ends the same on both, unless a ring is full
  pub goes_on_alike : (ring : List ℕ) {v₀ : World} → BegunAs (on_ring a ring) v₀ → StepsAlike a w₀ ring v₀
  goes_on_alike = steps_alike a z

  -- ---- READINGS

  -- "A pixel that reads True stays True."
  pub true_stays : {n : ℕ} {w : World} → Steps n w₀ w → {m : ℕ} {w' : World} → Steps m w w' → (q : Pixel a.chosen)
      → reads_in a.chosen w q ≡ Reads.True → reads_in a.chosen w' q ≡ Reads.True
  true_stays = true_kept a z

  -- so a reading only ever changes away from Uncertain
  pub reading_order : {n : ℕ} {w : World} → Steps n w₀ w → {m : ℕ} {w' : World} → Steps m w w' → (q : Pixel a.chosen)
      → (reads_in a.chosen w' q ≡ reads_in a.chosen w q) ⊎ (reads_in a.chosen w q ≡ Reads.Uncertain)
  reading_order = from_uncertain a z

  -- a pixel that isn't True was given up exactly if its cell stands given up now
  pub given_up_now : {n : ℕ} {w : World} (r : Steps n w₀ w) (q : Pixel a.chosen) → ¬ (reads_in a.chosen w q ≡ Reads.True)
      → GivenUpIn a.chosen r q ↔ StandsGivenUp a.chosen w q
  given_up_now = up_now a z

  -- Uncertain is a pixel that was given up by a step, or that a queued block covers: it reads so exactly if it isn't True and one of the two holds
  pub grey_says : {n : ℕ} {w : World} (r : Steps n w₀ w) (q : Pixel a.chosen)
      → (reads_in a.chosen w q ≡ Reads.Uncertain)
      ↔ ((¬ (reads_in a.chosen w q ≡ Reads.True)) × (GivenUpIn a.chosen r q ⊎ Some (λ b. T (covers_in a.chosen b q)) (queued_blocks w)))
  grey_says = grey_exactly a z

  -- a finished step changes readings only under the block that it takes, the first in the queue
  pub elsewhere_stays : {n : ℕ} {w : World} → Steps n w₀ w → (vs : List ℕ) (left : World) (evals bytes : ℕ) → step_of w vs ≡ finished left evals bytes
      → (b : Block) (rest : List Block) → queued_blocks w ≡ b ∷ rest → (q : Pixel a.chosen) → ¬ T (covers_in a.chosen b q)
      → reads_in a.chosen left q ≡ reads_in a.chosen w q
  elsewhere_stays = elsewhere_kept a z

  -- with room for every pixel the picture is drawn, and shows what a pixel reads: its byte stands at the index of the pixel's cell
  pub picture_shows : {n : ℕ} {w : World} → Steps n w₀ w → (out : List ℕ) → pixel_count a.chosen ≤ length out → (q : Pixel a.chosen)
      → (call_number (picture_answer w.state w.cells (length out)) ≡ 0)
      × (get_or (picture_left w.state w.cells out) (cell_index a.chosen.width a.chosen.height q.x q.y) 0 ≡ byte_of (reads_in a.chosen w q))
  picture_shows {w = w} r = drawn a.chosen w (steps_reached a.chosen (begun_reached a w₀ z) r)

  -- ".. so 1000 appears exactly when every pixel is settled" (document 02, (i)): the counts are answered, and their share is 1000 exactly if no pixel reads
  -- Uncertain. A pixel that is given up reads so: a finished chart with one does not show 1000
  pub share_whole : ShareWhole a w₀
  share_whole = whole_share a z

  -- ---- LEVELS, with x or y and no parameter; a level stands as its rank, 48 more than document 01's k

  -- "levels never rise from the front of the queue to its back and that at most two neighbouring levels are queued at once"
  pub levels_never_rise : PlaneOnly a.chosen → {n : ℕ} {w : World} → Steps n w₀ w
      → NeverRise (map place_of_block (queued_blocks w)) × ((j : ℕ) × OnTwoLevels j (map place_of_block (queued_blocks w)))
  levels_never_rise = levels_fall a z

  -- "once the finished steps reach the number of places on all levels above L, no queued block is above L": of the m levels up to the start level. At
  -- deep levels, from document 01's -17 down, no chart gets there: see `never_that_far`
  pub level_bound : PlaneOnly a.chosen → {n : ℕ} {w : World} → Steps n w₀ w → (L m : ℕ) → 48 + start_level a.chosen ≡ L + m
      → sum_to m (λ i. places a.chosen.width (L + suc i) * places a.chosen.height (L + suc i)) ≤ n
      → Every (λ b. b.x.rank ≤ L) (queued_blocks w)
  level_bound = levels_bound a z

  -- "so the queue is empty when the steps reach the sum over all levels above the floor", which is the rank 16. The sentence is true, but no chart meets its
  -- condition: that sum has a term of 2^62 at least, and a chart has at most 2^32 finished steps. `decided_in_time` is the one that applies
  pub empty_at_floor : PlaneOnly a.chosen → {n : ℕ} {w : World} → Steps n w₀ w
      → sum_to (32 + start_level a.chosen) (λ i. places a.chosen.width (16 + suc i) * places a.chosen.height (16 + suc i)) ≤ n
      → queued_blocks w ≡ []
  empty_at_floor = empties a z

  -- what a chart can reach: at most 2^32 finished steps,
  pub steps_are_few : {n : ℕ} {w : World} → Steps n w₀ w → n ≤ 2 ^ 32
  steps_are_few = steps_few a z

  -- so never the sum of level_bound for a level L of rank 31 or below, which are document 01's levels from -17 down; with L = 16, that of empty_at_floor
  pub never_that_far : {n : ℕ} {w : World} → Steps n w₀ w → (L m : ℕ) → L ≤ 31 → 48 + start_level a.chosen ≡ L + m
      → ¬ (sum_to m (λ i. places a.chosen.width (L + suc i) * places a.chosen.height (L + suc i)) ≤ n)
  never_that_far = too_deep a z

  -- if everything looked at on a pixel's level or below is decided, no pixel is grey once the steps reach the customer's sum, or the queue is empty before;
  -- and nothing is queued then. Of a picture of more than one pixel, whose start level is 1 at least
  pub decided_in_time : PlaneOnly a.chosen → 1 ≤ start_level a.chosen → {n : ℕ} {w : World} (r : Steps n w₀ w)
      → EveryAnswer a.chosen (DecidedBelow (λ b. b.x.rank) 48) r
      → (sum_to (start_level a.chosen) (λ i. places_along a.chosen.width (suc i) * places_along a.chosen.height (suc i)) ≤ n) ⊎ (queued_blocks w ≡ [])
      → (queued_blocks w ≡ []) × ((q : Pixel a.chosen) → ¬ (reads_in a.chosen w q ≡ Reads.Uncertain))
  decided_in_time = decided_then a z

-- ---- THE SHARE, whatever record and cells the counts were asked of: where they are answered, it is 1000 exactly if the pixels that read True and those that
-- read False are all of them
pub share_says : (s : State) (cells : List ℕ) (t : Tally) → counts_answer s cells ≡ Ok t
    → (t.share ≡ 1000) ↔ (t.trues + t.falses ≡ pixel_count s.chosen)
share_says = settled_all

-- ---- RUNS: all of this reaches them, because a run's steps are steps

-- what a run leaves is what its finished steps leave, whatever its ending: under the bytes that it took from the tape, with its evaluations,
-- and no move among them
pub run_reaches : (budget : ℕ) (w : World) (tape : List ℕ) (e : RunEnd) → run_of budget w tape ≡ has_run e
    → (r : Steps e.steps w e.world) × (verdicts_of r ≡ take e.tape tape) × (length (verdicts_of r) ≡ e.tape) × (evaluations_of r ≡ e.evaluations)
    × NoMove r
run_reaches = RunSteps.run_steps

-- and steps may follow steps
pub steps_follow : {n m : ℕ} {w w' w'' : World} (r : Steps n w w') (r' : Steps m w' w'')
    → (s : Steps (n + m) w w'') × (verdicts_of s ≡ verdicts_of r ++ verdicts_of r') × (evaluations_of s ≡ evaluations_of r + evaluations_of r')
steps_follow {n = n} {m = m} = RunSteps.steps_follow (n + m) refl

-- a run takes no more steps than its budget, and a step at most 24 evaluations and four of the tape's bytes
pub run_few : (budget : ℕ) (w : World) (tape : List ℕ) (e : RunEnd) → run_of budget w tape ≡ has_run e
    → (e.steps ≤ budget) × (e.evaluations ≤ 24 * e.steps) × (e.tape ≤ 4 * e.steps) × (e.tape ≤ length tape)
run_few = run_sums

-- ---- COLOURS: a mix is a position and a value for each parameter; what solves is whatever one asks for (Solves). Of the evaluator nothing is taken but that
-- the answers which it gave in these steps, and which were looked at, were right

module _ (M : Measures) (Solves : Mix M → Type 0) (a : Asked) {w₀ : World} (z : BegunAs a w₀) where
  abbrev Q : Question Block (Pixel a.chosen)
  Q = question_of M a.chosen a.ranges Solves

  -- if every `false` verdict was right, a pixel that reads False holds no solution
  pub white_means_no : WhiteMeansNo M Solves a w₀
  white_means_no = white_none M Solves a z

  -- if every mark was right, a pixel that reads True holds one
  pub true_means_yes : {n : ℕ} {w : World} (r : Steps n w₀ w) → EveryAnswer a.chosen (MarkRight (covers_in a.chosen) Q) r
      → (q : Pixel a.chosen) → reads_in a.chosen w q ≡ Reads.True → HasSolution Q q
  true_means_yes = true_one M Solves a z

  -- when the queue is empty, every pixel that is not given up is decided
  pub done_decides : {n : ℕ} {w : World} (r : Steps n w₀ w)
      → EveryAnswer a.chosen (FalseRight (covers_in a.chosen) Q) r → EveryAnswer a.chosen (MarkRight (covers_in a.chosen) Q) r
      → queued_blocks w ≡ [] → (q : Pixel a.chosen) → ¬ StandsGivenUp a.chosen w q
      → ((reads_in a.chosen w q ≡ Reads.True) × HasSolution Q q) ⊎ ((reads_in a.chosen w q ≡ Reads.False) × (¬ HasSolution Q q))
  done_decides = all_decided M Solves a z

  -- byte 0 at the pixel's index of the picture: after any finished steps a call of `picture` with room for every pixel is done, by what it ensures, and
  -- where the buffer then holds 0 the pixel holds no solution
  pub white_on_screen : {n : ℕ} {w : World} (r : Steps n w₀ w) → EveryAnswer a.chosen (FalseRight (covers_in a.chosen) Q) r
      → (out out' : List ℕ) (d : Result (Unit {0}) Refusal) → pixel_count a.chosen ≤ length out
      → d ≡ picture_answer w.state w.cells (length out)
      → out' ≡ if_done d (picture_left w.state w.cells out) out
      → (q : Pixel a.chosen) → get_or out' (cell_index a.chosen.width a.chosen.height q.x q.y) 0 ≡ 0 → ¬ HasSolution Q q
  white_on_screen = white_shown M Solves a z

  -- so after a run of any budget, whatever its ending: of the false verdicts that it took from its tape
  pub white_after_run : (budget : ℕ) (tape : List ℕ) (e : RunEnd) (h : run_of budget w₀ tape ≡ has_run e)
      → EveryAnswer a.chosen (FalseRight (covers_in a.chosen) Q) (run_reaches budget w₀ tape e h).0
      → (out out' : List ℕ) (d : Result (Unit {0}) Refusal) → pixel_count a.chosen ≤ length out
      → d ≡ picture_answer e.world.state e.world.cells (length out)
      → out' ≡ if_done d (picture_left e.world.state e.world.cells out) out
      → (q : Pixel a.chosen) → get_or out' (cell_index a.chosen.width a.chosen.height q.x q.y) 0 ≡ 0 → ¬ HasSolution Q q
  white_after_run budget tape e h = white_on_screen (run_reaches budget w₀ tape e h).0

-- Document 02, (ii), what boxes are for: the relation speaks of coordinates, and the plot's edges stand anywhere in their intervals, left not right of right and
-- bottom not above top. If every `false` verdict was said of a block that has a box with no solution within its outermost ends, a pixel that reads False holds none
module _ (M : Measures) (E : ExactPositions M) (plot : Plot) (s : PlotStands plot) (Relation : (u v : Ratio) → Mix M → Type 0)
    (a : Asked) {w₀ : World} (z : BegunAs a w₀) where
  abbrev Standing : Mix M → Type 0
  Standing = SolvesWhereItStands M plot Relation E s

  pub white_by_boxes : PlotOf plot a.chosen → (n : ℕ) (w : World) (r : Steps n w₀ w) → EveryAnswer a.chosen (JudgedByBox M plot Relation) r
      → (q : Pixel a.chosen) → reads_in a.chosen w q ≡ Reads.False → ¬ HasSolution (question_of M a.chosen a.ranges Standing) q
  white_by_boxes same n w r h = white_none M Standing a z n w r (boxes_right M plot Relation E s a.chosen a.ranges same r h)

-- such positions there are: fractions of a pixel
pub fractions_placed : ExactPositions exactly
fractions_placed = exactly_placed

-- two charts laid over each other: where one of them is white, no mix solves both, of the mixes of the pixel that both are given
module _ (M : Measures) (Solves Other : Mix M → Type 0) (a : Asked) {w₀ : World} (z : BegunAs a w₀) (b : Asked) {v₀ : World} (y : BegunAs b v₀) where
  abbrev One : Question Block (Pixel a.chosen)
  One = question_of M a.chosen a.ranges Solves

  abbrev Two : Question Block (Pixel b.chosen)
  Two = question_of M b.chosen b.ranges Other

  pub white_in_one : {n : ℕ} {w : World} (r : Steps n w₀ w) → EveryAnswer a.chosen (FalseRight (covers_in a.chosen) One) r
      → {m : ℕ} {v : World} (s : Steps m v₀ v) → EveryAnswer b.chosen (FalseRight (covers_in b.chosen) Two) s
      → (q : Pixel a.chosen) (u : Pixel b.chosen) → u.x ≡ q.x → u.y ≡ q.y
      → (reads_in a.chosen w q ≡ Reads.False) ⊎ (reads_in b.chosen v u ≡ Reads.False)
      → ¬ ((x : Mix M) × One.Given x × Two.Given x × One.At x q × Solves x × Other x)
  white_in_one = white_both M Solves Other a z b y
