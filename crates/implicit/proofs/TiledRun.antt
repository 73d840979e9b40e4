-- A run with a table: its steps are the run's own, its loop is the run's, and the table goes along. Assumes nothing.
use Rattle.queue.specs.declared.QueueError.{QueueError}
use mathlib.Core.Path.{◌≡◌, refl, sym, ap, ◌∙◌, subst}
use mathlib.Core.Bool.{Bool, true, false, not, cond}
use mathlib.Core.List.{List}
use Prim.Native.Nat.{ℕ, zero, suc, ◌+◌, ◌-◌, ◌≤◌, ◌<◌}
use native.Mathlib.Omega.{arith}
use lib.Dec.{leb}
use lib.ListN.{length, take, drop}
use lib.Seq.{drop-drop}
use borrow.Author.Tests.{leb-true, leb-false, le-leb, lt-leb}
use Rattle.std.specs.Prelude.{Result, Ok, Err}
use Rattle.base.proofs.Test.{cases, cond_yes}
use Rattle.refusal.specs.declared.Refusal.TheVariants as R
use Rattle.image.specs.Cell.{meanings}
use Rattle.tiles.specs.Tiles.{touches}
use Rattle.tiles.proofs.RecountLaws.{recount_length}
use Rattle.queue.specs.declared.Taken.{Taken}
use Rattle.queue.proofs.QueueAnswers.{denied, granted}
use Rattle.queue.proofs.RingLaws.{rest_all}
use Rattle.implicit.specs.declared.state.State.{State}
use Rattle.implicit.specs.declared.state.Ending.TheVariants as E
use Rattle.implicit.specs.declared.state.Refused.{Refused}
use Rattle.implicit.specs.declared.state.Finished.{Finished}
use Rattle.implicit.specs.declared.state.Ended.{Ended}
use Rattle.implicit.specs.Record.{pixel_count, sound_record, queue_empty}
use Rattle.implicit.specs.Listing.{front_of}
use Rattle.implicit.specs.Step.{World, world_of, StepEnd, refused, finished, world_after}
use Rattle.implicit.specs.Run.{ended_as, empty_ending, gone_on}
use Rattle.implicit.specs.RunComputed.{HowFar, progress_after, ended_by, progress_once, world_once, OnceGone, RunTo}
use Rattle.implicit.specs.Tiled.{room_for_tiles, covered_by, tiled_step_with, tiled_tape_step_of, table_taking, table_after, TiledEndsAs}
use Rattle.implicit.specs.Tiled.{table_on, tiled_run_from, table_run_from, tiled_run_of, TiledRunsAs}
use Rattle.implicit.specs.TiledComputed.{CleanIf, next_tiled, table_once}
use Rattle.implicit.proofs.StepLawsWent.{step_few, step_stays}
use Rattle.implicit.proofs.RunLoop.{RunsBy}
use Rattle.implicit.proofs.RunLaws.{AsNext}
use Rattle.implicit.proofs.TiledLaws.{finished_plain}
use Rattle.implicit.proofs.TiledTests.{step_clean}

-- A STEP OF THE RUN

-- finished, it is the next step of the run without a table
pub next_plain : (room : ℕ) (p : HowFar) (ring cells tape : List ℕ) → AsNext p ring cells tape (next_tiled room p ring cells tape)
next_plain room p ring cells tape left e n h = finished_plain true room (world_of p.state ring cells) (drop p.tape tape) left e n h

-- it was lent the rest of the tape
pub tiled_rest : (p : HowFar) (ring cells tape table : List ℕ) (a : Result Finished Refused) (ring' cells' table' : List ℕ)
    → TiledEndsAs (world_of p.state ring cells) table
    (tiled_step_with true (length table) (world_of p.state ring cells) (take (length tape - p.tape) (drop p.tape tape))) a ring' cells' table'
    → TiledEndsAs (world_of p.state ring cells) table (next_tiled (length table) p ring cells tape) a ring' cells' table'
tiled_rest p ring cells tape table a ring' cells' table' h = rw (rest_all tape p.tape) at h

-- what the loop leaves of clean cells is clean
pub once_clean : (clean : Bool) (budget room : ℕ) (p : HowFar) (ring cells tape : List ℕ) (q : HowFar) (ring' cells' : List ℕ)
    → world_of q.state ring' cells' ≡ world_once budget p (world_of p.state ring cells) (next_tiled room p ring cells tape)
    → CleanIf clean p.state.chosen cells → CleanIf clean q.state.chosen cells'
unfolding world_once
once_clean clean budget room p ring cells tape q ring' cells' e k =
    let w = world_of p.state ring cells in
    subst CleanWorld (sym e)
    (cases (queue_empty p.state) (λ f. rw f k)
    (λ f. cases (leb budget p.steps) (λ g. rw (f, g) k) (λ g. rw (f, g) (after (next_tiled room p ring cells tape) refl))))
  where
    CleanWorld : World → Type 0
    CleanWorld v = CleanIf clean v.state.chosen v.cells

    after : (s : StepEnd) → next_tiled room p ring cells tape ≡ s → CleanIf clean (world_after (world_of p.state ring cells) s).state.chosen
        (world_after (world_of p.state ring cells) s).cells
    after (refused why) f = k
    after (finished left evals bytes) f =
        step_clean clean true (world_of p.state ring cells) (drop p.tape tape) left evals bytes
        (next_plain room p ring cells tape left evals bytes f) k

-- THE TABLE AFTER ONE PASS, by the tests that the code makes

module _ (budget : ℕ) (p : HowFar) (w : World) (next : StepEnd) (table : List ℕ) (t : Bool) (is_t : t ≡ queue_empty p.state) where
  pub table_empty : t ≡ true → table ≡ table_once budget p w next table
  unfolding table_once
  table_empty h = let u : queue_empty p.state ≡ true = sym is_t ∙ h in rw u

  pub table_spent : t ≡ false → budget ≤ p.steps → table ≡ table_once budget p w next table
  unfolding table_once
  table_spent h k = let u : queue_empty p.state ≡ false = sym is_t ∙ h in rw (u, le-leb budget p.steps k)

  pub table_step : (table' : List ℕ) → t ≡ false → p.steps < budget → table' ≡ table_after w table next → table' ≡ table_once budget p w next table
  unfolding table_once
  table_step table' h k e = let u : queue_empty p.state ≡ false = sym is_t ∙ h in rw (u, lt-leb budget p.steps k) e

-- THE LOOP

run_empty : (room budget : ℕ) (w : World) (tape : List ℕ) → queue_empty w.state ≡ true
    → tiled_run_from room budget w tape ≡ ended_as w (empty_ending w.state.chosen w.cells)
unfolding tiled_run_from
run_empty room zero w tape e = rw e
run_empty room (suc left) w tape e = rw e

run_more : (room : ℕ) (w : World) (tape : List ℕ) → queue_empty w.state ≡ false → tiled_run_from room 0 w tape ≡ ended_as w E.More
unfolding tiled_run_from
run_more room w tape e = rw e

run_step : (room left : ℕ) (w : World) (tape : List ℕ) → queue_empty w.state ≡ false
    → tiled_run_from room (suc left) w tape ≡ gone_on w (tiled_tape_step_of room w tape) (λ next bytes. tiled_run_from room left next (drop bytes tape))
unfolding tiled_run_from
run_step room left w tape e = rw e

pub runs_tiled : (room : ℕ) → RunsBy (tiled_tape_step_of room) (tiled_run_from room)
runs_tiled room = record {
  when_empty = run_empty room;
  when_spent = run_more room;
  when_left = run_step room;
  few = (λ w tape next e n h. step_few true w tape next e n (finished_plain true room w tape next e n h));
  stays = (λ w tape next e n h. step_stays true w tape next e n (finished_plain true room w tape next e n h));
}

-- the table that what is left of the run leaves
abbrev table_left : ℕ → List ℕ → HowFar → World → List ℕ → List ℕ
table_left budget tape p w table = cond p.going (table_run_from (budget - p.steps) w (drop p.tape tape) table) table

unfoldable pub table_to_come : ℕ → List ℕ → HowFar → List ℕ → List ℕ → List ℕ → List ℕ
table_to_come budget tape p ring cells table = table_left budget tape p (world_of p.state ring cells) table

table_ends : (budget : ℕ) (w : World) (tape table : List ℕ) → queue_empty w.state ≡ true → table_run_from budget w tape table ≡ table
unfolding table_run_from
table_ends zero w tape table e = refl
table_ends (suc left) w tape table e = rw e

table_goes : (left : ℕ) (w : World) (tape table : List ℕ) → queue_empty w.state ≡ false
    → table_run_from (suc left) w tape table
    ≡ table_on w table (tiled_tape_step_of (length table) w tape) (λ next bytes further. table_run_from left next (drop bytes tape) further)
unfolding table_run_from
table_goes left w tape table e = rw e

table_stops : (w : World) (tape table : List ℕ) → table_run_from 0 w tape table ≡ table
unfolding table_run_from
table_stops w tape table = refl

-- the table stays as long as it is
pub table_length : (w : World) (table : List ℕ) (s : StepEnd) → length (table_after w table s) ≡ length table
unfolding table_after
table_length w table (refused why) = refl
table_length w table (finished left evals bytes) = go (front_of w.state w.ring)
  where
    go : (t : Result Taken QueueError) → length (table_taking t left table) ≡ length table
    go (Ok t) =
        let p = left.state.chosen in
        recount_length (touches p.width p.height (covered_by p t.block)) p.width p.height left.state.taken (meanings left.cells) table
    go (Err why) = refl

pub once_length : (budget : ℕ) (p : HowFar) (w : World) (next : StepEnd) (table table' : List ℕ) → table' ≡ table_once budget p w next table
    → length table' ≡ length table
unfolding table_once
once_length budget p w next table table' e =
    ap length e
    ∙ cases (queue_empty p.state) (λ f. rw f)
    (λ f. cases (leb budget p.steps) (λ g. rw (f, g)) (λ g. rw (f, g) (table_length w table next)))

-- so that a step by its length now is one by its length at first
pub by_room : (room room' budget : ℕ) (p : HowFar) (ring cells tape : List ℕ) (q : HowFar) (ring' cells' : List ℕ) → room ≡ room'
    → OnceGone budget p (world_of p.state ring cells) (next_tiled room p ring cells tape) q ring' cells'
    → OnceGone budget p (world_of p.state ring cells) (next_tiled room' p ring cells tape) q ring' cells'
by_room room room' budget p ring cells tape q ring' cells' e h =
    subst (λ (n : ℕ). OnceGone budget p (world_of p.state ring cells) (next_tiled n p ring cells tape) q ring' cells') e h

-- what the rest of the run makes of the table is what was to come of it
module _ (budget : ℕ) (tape : List ℕ) (p : HowFar) (ring cells table : List ℕ) (going : p.going ≡ true) where
  abbrev from : World
  from = world_of p.state ring cells

  abbrev rest : List ℕ
  rest = table_run_from (budget - p.steps) from (drop p.tape tape) table

  abbrev step : StepEnd
  step = next_tiled (length table) p ring cells tape

  step_pass : queue_empty p.state ≡ false → p.steps < budget → (s : StepEnd) → step ≡ s
      → table_left budget tape (progress_after p s) (world_after from s) (table_after from table s) ≡ rest
  unfolding table_after
  step_pass e h s f =
      let k : budget - p.steps ≡ suc (budget - p.steps - 1) = omega arith in
      let g : rest ≡ table_on from table s (λ v n further. table_run_from (budget - p.steps - 1) v (drop n (drop p.tape tape)) further) =
      ap (λ (n : ℕ). table_run_from n from (drop p.tape tape) table) k
      ∙ table_goes (budget - p.steps - 1) from (drop p.tape tape) table e
      ∙ ap (λ (s : StepEnd). table_on from table s (λ v n further. table_run_from (budget - p.steps - 1) v (drop n (drop p.tape tape)) further)) f in
      after s ∙ sym g
    where
      after : (s : StepEnd) → table_left budget tape (progress_after p s) (world_after from s) (table_after from table s)
          ≡ table_on from table s (λ v n further. table_run_from (budget - p.steps - 1) v (drop n (drop p.tape tape)) further)
      after (refused why) = refl
      after (finished next evals bytes) =
          let k : budget - (p.steps + 1) ≡ budget - p.steps - 1 = omega arith in
          let d : drop bytes (drop p.tape tape) ≡ drop (p.tape + bytes) tape = drop-drop bytes p.tape tape in
          rw (d, k)

  pass_rest : table_left budget tape (progress_once budget p cells step) (world_once budget p from step) (table_once budget p from step table) ≡ rest
  unfolding progress_once world_once table_once
  pass_rest =
      cases (queue_empty p.state) (λ e. rw e (sym (table_ends (budget - p.steps) from (drop p.tape tape) table e)))
      (λ e. cases (leb budget p.steps) (λ k. rw (e, k) (spent (leb-true budget p.steps k)))
      (λ k. rw (e, k) (step_pass e (leb-false budget p.steps k) step refl)))
    where
      spent : budget ≤ p.steps → table ≡ rest
      spent h =
          let z : budget - p.steps ≡ 0 = omega arith in
          sym (ap (λ (n : ℕ). table_run_from n from (drop p.tape tape) table) z ∙ table_stops from (drop p.tape tape) table)

  pub table_pass : (q : HowFar) (ring' cells' table' : List ℕ) → q ≡ progress_once budget p cells step
      → world_of q.state ring' cells' ≡ world_once budget p from step → table' ≡ table_once budget p from step table
      → table_to_come budget tape q ring' cells' table' ≡ table_to_come budget tape p ring cells table
  unfolding table_to_come
  table_pass q ring' cells' table' e f g = rw (f, e, g) (pass_rest ∙ sym (cond_yes p.going rest table going))

pub table_start : (budget : ℕ) (s : State) (ring cells tape table : List ℕ)
    → table_to_come budget tape (record { state = s; steps = 0; evaluations = 0; tape = 0; ending = E.More; going = true }) ring cells table
    ≡ table_run_from budget (world_of s ring cells) tape table
unfolding table_to_come
table_start budget s ring cells tape table = let z : budget - 0 ≡ budget = omega arith in rw z

pub table_end : (budget : ℕ) (p : HowFar) (ring cells tape table : List ℕ) → p.going ≡ false → table ≡ table_to_come budget tape p ring cells table
unfolding table_to_come
table_end budget p ring cells tape table e = rw e

-- THE RUN'S ANSWER

module _ (budget : ℕ) (s : State) (ring cells tape table : List ℕ) (t : Bool) (is_t : t ≡ sound_record (length ring) s) where
  abbrev given : World
  given = world_of s ring cells

  -- what a run answered and left is what is promised of it
  abbrev Said : Result Ended Refused → List ℕ → List ℕ → List ℕ → Type 0
  Said r ring' cells' table' = TiledRunsAs budget given tape table (tiled_run_of budget (length table) given tape) r ring' cells' table'

  pub tiled_damaged : not t ≡ true → Said (Err (record { why = R.Damaged; state = s })) ring cells table
  unfolding tiled_run_of
  tiled_damaged h = let u : sound_record (length ring) s ≡ false = sym is_t ∙ denied t h in rw u ((refl, refl, refl), refl)

  module _ (h : not t ≡ false) (n : ℕ) (is_n : n ≡ pixel_count s.chosen) where
    record_sound : sound_record (length ring) s ≡ true
    record_sound = sym is_t ∙ granted t h

    pub tiled_short : length cells < n → Said (Err (record { why = R.Cells; state = s })) ring cells table
    unfolding tiled_run_of
    tiled_short k = rw (record_sound, lt-leb (pixel_count s.chosen) (length cells) (rw is_n at k)) ((refl, refl, refl), refl)

    module _ (k : n ≤ length cells) (m : Bool) (is_m : m ≡ room_for_tiles s.chosen (length table)) where
      cells_enough : leb (pixel_count s.chosen) (length cells) ≡ true
      cells_enough = le-leb (pixel_count s.chosen) (length cells) (rw is_n at k)

      pub tiled_table : not m ≡ true → Said (Err (record { why = R.Table; state = s })) ring cells table
      unfolding tiled_run_of
      tiled_table g = rw (record_sound, cells_enough, sym is_m ∙ denied m g) ((refl, refl, refl), refl)

      module _ (g : not m ≡ false) where
        table_enough : room_for_tiles s.chosen (length table) ≡ true
        table_enough = sym is_m ∙ granted m g

        pub tiled_begins : (leb (pixel_count s.chosen) (length cells) ≡ true) × (sound_record (length ring) s ≡ true)
        tiled_begins = (cells_enough, record_sound)

        pub tiled_done : (p : HowFar) (r : Ended) (ring' cells' table' : List ℕ)
            → RunTo (tiled_run_from (length table) budget given tape) p ring' cells'
            → r ≡ ended_by p → table' ≡ table_run_from budget given tape table
            → Said (Ok r) ring' cells' table'
        unfolding tiled_run_of
        tiled_done p r ring' cells' table' to e f =
            rw (record_sound, cells_enough, table_enough) (
              (
                ap Ok e ∙ rw (ap (λ (x : World). x.state) to.world, to.steps, to.evaluations, to.tape, to.ending),
                ap (λ (x : World). x.ring) to.world,
                ap (λ (x : World). x.cells) to.world,
              ),
              f,
            )
