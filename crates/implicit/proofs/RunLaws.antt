-- The run: what is left to do, with what was counted, is the run; its sums are bounded by the budget; its world is what its finished steps leave.
-- Assumes nothing.
use mathlib.Core.Path.{◌≡◌, refl, sym, ap, ◌∙◌}
use mathlib.Core.Bool.{Bool, true, false, not, cond}
use mathlib.Core.List.{List}
use Prim.Native.Nat.{ℕ, zero, suc, ◌+◌, ◌-◌, ◌*◌, ◌≤◌, ◌<◌}
use native.Mathlib.Omega.{arith}
use lib.Dec.{leb}
use lib.ListN.{length, take, drop, length-drop}
use borrow.Author.Tests.{le-leb, lt-leb}
use Rattle.std.specs.Prelude.{Result, Ok, Err, Option, Some}
use Rattle.std.specs.Option.{unwrap_or}
use Rattle.base.proofs.Test.{cases}
use Rattle.refusal.specs.declared.Refusal.{Refusal}
use Rattle.refusal.specs.declared.Refusal.TheVariants as R
use Rattle.image.specs.declared.CellKind.TheVariants as K
use Rattle.image.specs.declared.PixelRange.{PixelRange}
use Rattle.image.specs.Cell.{is_given_up, of_kind}
use Rattle.image.specs.Range.{whole_picture, in_picture, picture_ready}
use Rattle.image.specs.Painting.{some_of, some_seen}
use Rattle.queue.proofs.QueueAnswers.{denied, granted}
use Rattle.queue.proofs.RingLaws.{rest_all}
use Rattle.decide.specs.declared.Chosen.{Chosen}
use Rattle.implicit.specs.declared.state.State.{State}
use Rattle.implicit.specs.declared.state.Ending.TheVariants as E
use Rattle.implicit.specs.declared.state.Refused.{Refused}
use Rattle.implicit.specs.declared.state.Finished as Step
use Rattle.implicit.specs.declared.state.Ended.{Ended}
use Rattle.implicit.specs.Record.{pixel_count, pixel_cells, sound_record, queue_empty}
use Rattle.implicit.specs.Step.{World, world_of, StepEnd, refused, finished, tape_step_of, EndsAs}
use Rattle.implicit.specs.Run.{RunEnd, ended_as, empty_ending, gone_on, run_from, run_of, RunsAs}
use Rattle.implicit.specs.RunComputed.{HowFar, halted, stepped, progress_after, next_step, SoundByUse, ended_by, Tried, RunTo}
use Rattle.implicit.proofs.RunLoop.{RunsBy}
use Rattle.implicit.proofs.StepLawsKept.{LastHeld}
use Rattle.implicit.proofs.StepLawsWent.{step_few, step_stays}
use Rattle.implicit.proofs.StepLawsSound.{step_sound}
use Rattle.implicit.proofs.StepAnswered.{answered_finished, answered_refused}

-- A RUN'S SUMS

pub record RunFew (budget : ℕ) (tape : List ℕ) (e : RunEnd) : Type 0 where
  pub steps : e.steps ≤ budget
  pub evaluations : e.evaluations ≤ 24 * e.steps
  pub tape_used : e.tape ≤ length tape
  pub tape_few : e.tape ≤ 4 * e.steps

gone_few : (left : ℕ) (w : World) (tape : List ℕ) (s : StepEnd) → tape_step_of w tape ≡ s → (rest : World → ℕ → RunEnd)
    → ((v : World) (n : ℕ) → RunFew left (drop n tape) (rest v n)) → RunFew (suc left) tape (gone_on w s rest)
gone_few left w tape (refused why) e rest f = record { steps = omega arith; evaluations = omega arith; tape_used = omega arith; tape_few = omega arith }
gone_few left w tape (finished next evals bytes) e rest f =
    let few = step_few true w tape next evals bytes e in
    let r = f next bytes in
    record {
      steps = omega (arith, r.steps);
      evaluations = omega (arith, r.evaluations, few.2);
      tape_used = omega (arith, r.tape_used, few.1, length-drop bytes tape);
      tape_few = omega (arith, r.tape_few, few.0);
    }

-- steps at most the budget, four tape bytes a step at most and no more than there are, 24 evaluations a step at most
pub run_few : (budget : ℕ) (w : World) (tape : List ℕ) → RunFew budget tape (run_from budget w tape)
unfolding run_from
run_few zero w tape =
    cases (queue_empty w.state) (λ e. rw e (record { steps = omega arith; evaluations = omega arith; tape_used = omega arith; tape_few = omega arith }))
    (λ e. rw e (record { steps = omega arith; evaluations = omega arith; tape_used = omega arith; tape_few = omega arith }))
run_few (suc left) w tape =
    cases (queue_empty w.state) (λ e. rw e (record { steps = omega arith; evaluations = omega arith; tape_used = omega arith; tape_few = omega arith }))
    (λ e. rw e (gone_few left w tape (tape_step_of w tape) refl (λ next bytes. run_from left next (drop bytes tape)) (λ v n. run_few left v (drop n tape))))

-- A RUN'S WORLD IS WHAT ITS FINISHED STEPS LEAVE

-- so many finished steps lead from one world to another, with these evaluations and tape bytes in all
pub data Finished : World → List ℕ → ℕ → ℕ → ℕ → World → Type 0 where
  none : {w : World} {tape : List ℕ} → Finished w tape 0 0 0 w
  then : {w next left : World} {tape : List ℕ} {evals bytes steps evals' bytes' : ℕ}
      → tape_step_of w tape ≡ finished next evals bytes → Finished next (drop bytes tape) steps evals' bytes' left
      → Finished w tape (suc steps) (evals + evals') (bytes + bytes') left

gone_finished : (left : ℕ) (w : World) (tape : List ℕ) (s : StepEnd) → tape_step_of w tape ≡ s
    → (let e = gone_on w s (λ next bytes. run_from left next (drop bytes tape)) in
    ((v : World) (n : ℕ) → let r = run_from left v (drop n tape) in Finished v (drop n tape) r.steps r.evaluations r.tape r.world)
    → Finished w tape e.steps e.evaluations e.tape e.world)
gone_finished left w tape (refused why) e f = none
gone_finished left w tape (finished next evals bytes) e f = then e (f next bytes)

pub run_finished : (budget : ℕ) (w : World) (tape : List ℕ) → let e = run_from budget w tape in Finished w tape e.steps e.evaluations e.tape e.world
unfolding run_from
run_finished zero w tape = cases (queue_empty w.state) (λ e. rw e none) (λ e. rw e none)
run_finished (suc left) w tape =
    cases (queue_empty w.state) (λ e. rw e none) (λ e. rw e (gone_finished left w tape (tape_step_of w tape) refl (λ v n. run_finished left v (drop n tape))))

-- THE LOOP'S LAWS

-- where the queue is empty a run ends, whatever its budget
run_empty : (budget : ℕ) (w : World) (tape : List ℕ) → queue_empty w.state ≡ true
    → run_from budget w tape ≡ ended_as w (empty_ending w.state.chosen w.cells)
unfolding run_from
run_empty zero w tape e = rw e
run_empty (suc left) w tape e = rw e

run_more : (w : World) (tape : List ℕ) → queue_empty w.state ≡ false → run_from 0 w tape ≡ ended_as w E.More
unfolding run_from
run_more w tape e = rw e

run_step : (left : ℕ) (w : World) (tape : List ℕ) → queue_empty w.state ≡ false
    → run_from (suc left) w tape ≡ gone_on w (tape_step_of w tape) (λ next bytes. run_from left next (drop bytes tape))
unfolding run_from
run_step left w tape e = rw e

pub runs_plainly : RunsBy tape_step_of run_from
runs_plainly = record {
  when_empty = run_empty;
  when_spent = run_more;
  when_left = run_step;
  few = (λ w tape left e n h. step_few true w tape left e n h);
  stays = (λ w tape left e n h. step_stays true w tape left e n h);
}

-- BY THE TESTS THAT THE CODE MAKES

-- the part of the tape from here on is its rest
pub step_rest : (p : HowFar) (ring cells tape : List ℕ) (a : Result Step.Finished Refused) (ring' cells' : List ℕ)
    → EndsAs (world_of p.state ring cells) (tape_step_of (world_of p.state ring cells) (take (length tape - p.tape) (drop p.tape tape))) a ring' cells'
    → EndsAs (world_of p.state ring cells) (next_step p ring cells tape) a ring' cells'
step_rest p ring cells tape a ring' cells' h = rw (rest_all tape p.tape) at h

-- a step that is the next one, or that leaves what the next one leaves, where it is finished
abbrev pub AsNext : HowFar → List ℕ → List ℕ → List ℕ → StepEnd → Type 0
AsNext p ring cells tape next = (left : World) (e n : ℕ) → next ≡ finished left e n → next_step p ring cells tape ≡ finished left e n

pub next_itself : (p : HowFar) (ring cells tape : List ℕ) → AsNext p ring cells tape (next_step p ring cells tape)
next_itself p ring cells tape left e n h = h

module _ (p : HowFar) (ring cells tape : List ℕ) (next : StepEnd) (plain : AsNext p ring cells tape next) (a : Result Step.Finished Refused) (ring' cells' : List ℕ)
    (ends : EndsAs (world_of p.state ring cells) next a ring' cells') where
  abbrev here : World
  here = world_of p.state ring cells

  pub step_stop : (why : Refusal) (t : State) (r : HowFar) → a ≡ Err (record { why = why; state = t }) → r ≡ halted p (E.Stop why) → SoundByUse (length ring) p.state
      → Tried p here next r ring' cells'
  step_stop why t r f g h =
      let s = (answered_refused here next why t ring' cells' (rw f at ends)).0 in
      (g ∙ sym (ap (progress_after p) s), rw (g, ends.1, ends.2, s), rw (g, ends.1, s) h)

  module _ (t : State) (evals bytes : ℕ) (f : a ≡ Ok (record { state = t; evaluations = evals; verdicts = bytes })) where
    is_finished : next ≡ finished (world_of t ring' cells') evals bytes
    is_finished = answered_finished here next t evals bytes ring' cells' (rw f at ends)

    as_next : next_step p ring cells tape ≡ finished (world_of t ring' cells') evals bytes
    as_next = plain (world_of t ring' cells') evals bytes is_finished

    pub step_on : (r : HowFar) → r ≡ stepped p t evals bytes → LastHeld p.state.front → Tried p here next r ring' cells'
    step_on r g held =
        let sound = step_sound true here (drop p.tape tape) (world_of t ring' cells') evals bytes held as_next in
        (rw (g, is_finished), rw (g, is_finished), rw g sound)

    -- what it took is small
    pub step_sums : (bytes ≤ length (drop p.tape tape)) × (evals ≤ 24)
    step_sums =
        let few = step_few true here (drop p.tape tape) (world_of t ring' cells') evals bytes as_next in
        (omega (arith, few.1), omega (arith, few.2))

-- the ending of an empty queue, by what is seen of given-up cells
seen_abandoned : (p : Chosen) (cells : List ℕ) → leb (pixel_count p) (length cells) ≡ true
    → some_seen p.width p.height (whole_picture p.width p.height) K.GivenUp cells ≡ Some (some_of is_given_up (pixel_cells p cells))
unfolding some_seen of_kind picture_ready in_picture
seen_abandoned p cells h =
    let a = le-leb 0 p.width (omega arith) in
    let b = le-leb p.width p.width (omega arith) in
    let c = le-leb 0 p.height (omega arith) in
    let d = le-leb p.height p.height (omega arith) in
    rw (a, b, c, d, h)

pub ending_as : (p : Chosen) (cells : List ℕ) (x : PixelRange) (a : Option Bool) (t : Bool) → leb (pixel_count p) (length cells) ≡ true
    → x ≡ whole_picture p.width p.height → a ≡ some_seen p.width p.height x K.GivenUp cells → t ≡ unwrap_or a false
    → cond t E.Limit E.Done ≡ empty_ending p cells
ending_as p cells x a t h e f g = rw (g, f, e, seen_abandoned p cells h)

-- the run itself
module _ (budget : ℕ) (s : State) (ring cells tape : List ℕ) (t : Bool) (is_t : t ≡ sound_record (length ring) s) where
  pub run_damaged : not t ≡ true → RunsAs (world_of s ring cells) (run_of budget (world_of s ring cells) tape) (Err (record { why = R.Damaged; state = s })) ring cells
  unfolding run_of
  run_damaged h = let u : sound_record (length ring) s ≡ false = sym is_t ∙ denied t h in rw u (refl, refl, refl)

  module _ (h : not t ≡ false) (n : ℕ) (is_n : n ≡ pixel_count s.chosen) where
    pub run_short : length cells < n → RunsAs (world_of s ring cells) (run_of budget (world_of s ring cells) tape) (Err (record { why = R.Cells; state = s })) ring cells
    unfolding run_of
    run_short k =
        let u : sound_record (length ring) s ≡ true = sym is_t ∙ granted t h in
        let l : length cells < pixel_count s.chosen = rw is_n at k in
        rw (u, lt-leb (pixel_count s.chosen) (length cells) l) (refl, refl, refl)

    run_sound : sound_record (length ring) s ≡ true
    run_sound = sym is_t ∙ granted t h

    run_enough : n ≤ length cells → leb (pixel_count s.chosen) (length cells) ≡ true
    run_enough k = le-leb (pixel_count s.chosen) (length cells) (rw is_n at k)

    pub may_begin : n ≤ length cells → (leb (pixel_count s.chosen) (length cells) ≡ true) × (sound_record (length ring) s ≡ true)
    may_begin k = (run_enough k, run_sound)

    pub run_done : n ≤ length cells → (p : HowFar) (r : Ended) (ring' cells' : List ℕ) → RunTo (run_from budget (world_of s ring cells) tape) p ring' cells'
        → r ≡ ended_by p → RunsAs (world_of s ring cells) (run_of budget (world_of s ring cells) tape) (Ok r) ring' cells'
    unfolding run_of
    run_done k p r ring' cells' to e =
        let u : sound_record (length ring) s ≡ true = sym is_t ∙ granted t h in
        rw (u, run_enough k) (
          ap Ok e ∙ rw (ap (λ (x : World). x.state) to.world, to.steps, to.evaluations, to.tape, to.ending),
          ap (λ (x : World). x.ring) to.world,
          ap (λ (x : World). x.cells) to.world,
        )
