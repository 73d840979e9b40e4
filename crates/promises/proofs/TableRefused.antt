-- What refuses the calls with a table: 8 for a damaged cell in a touched tile; never 17 within a run. And a refused call leaves the table. Assumes nothing.
use Rattle.queue.specs.declared.QueueError.{QueueError}
use Rattle.queue.specs.Queue.{front_taken}
use mathlib.Core.Path.{◌≡◌, refl, sym, ap, ◌∙◌}
use mathlib.Core.Bool.{Bool, true, false, cond}
use mathlib.Core.List.{List}
use Prim.Native.Nat.{ℕ, zero, suc, ◌*◌, ◌≤◌, ◌<◌}
use native.Mathlib.Omega.{arith}
use lib.Dec.{leb, ltb}
use lib.ListN.{length, get_or, drop}
use borrow.Author.Tests.{le-leb, lt-ltb}
use Rattle.std.specs.Prelude.{Result, Ok, Err}
use Rattle.base.proofs.Test.{cases}
use Rattle.refusal.specs.declared.Refusal.{Refusal}
use Rattle.refusal.specs.declared.Refusal.TheVariants as R
use Rattle.refusal.specs.Number.{number}
use Rattle.image.specs.Cell.{Named, meanings, is_damaged, is_given_up}
use Rattle.image.specs.Range.{picture_ready}
use Rattle.image.specs.Painting.{some_of}
use Rattle.image.proofs.BlockLaws.{rectangle_ready}
use Rattle.queue.specs.declared.Block.{Block}
use Rattle.queue.specs.declared.Last.{Last}
use Rattle.queue.specs.declared.Taken.{Taken}
use Rattle.tiles.specs.Tiles.{touches}
use Rattle.tiles.proofs.PlaceLaws.{tile_of}
use Rattle.tiles.proofs.TilePromises.{touched_damage}
use Rattle.decide.specs.declared.Chosen.{Chosen}
use Rattle.implicit.specs.declared.state.State.{State}
use Rattle.implicit.specs.declared.state.Ending.TheVariants as E
use Rattle.implicit.specs.declared.state.Refused.{Refused}
use Rattle.implicit.specs.declared.state.Ended.{Ended}
use Rattle.implicit.specs.Record.{pixel_count, pixel_cells, sound_record, queue_empty}
use Rattle.implicit.specs.Listing.{front_of}
use Rattle.implicit.specs.Step.{World, StepEnd, refused, finished, unless, judged, after_taking}
use Rattle.implicit.specs.Run.{RunResult, empty_ending, gone_on, not_run, has_run, run_answer}
use Rattle.implicit.specs.Tiled.{room_for_tiles, covered_by, none_seen, touched_sound, tiled_after_taking, tiled_step_with, tiled_tape_step_of}
use Rattle.implicit.specs.Tiled.{tiled_run_from, tiled_run_of, TiledRunsAs}
use Rattle.implicit.specs.Answers.{stop_number, run_stop}
use Rattle.implicit.proofs.StepLawsWent.{step_stays}
use Rattle.implicit.proofs.TiledLaws.{finished_plain}

-- 8 FOR A CELL IN A TOUCHED TILE

module _ (room : ℕ) (w : World) (b : Block) (last : Last) (head used : ℕ) where
  abbrev p : Chosen
  p = w.state.chosen

  pub touched_refused : sound_record (length w.ring) w.state ≡ true → pixel_count p ≤ length w.cells → room_for_tiles p room ≡ true
      → w.state.taken < w.state.queued → front_of w.state w.ring ≡ front_taken b last head used
      → (covered_by p b).left < (covered_by p b).right → (covered_by p b).top < (covered_by p b).bottom
      → (i : ℕ) → i < p.width * p.height → touches p.width p.height (covered_by p b) (tile_of p.width i) ≡ true
      → is_damaged (get_or (meanings w.cells) i (Named 0)) ≡ true → (tape : Bool) (vs : List ℕ) → tiled_step_with tape room w vs ≡ refused R.Damaged
  unfolding tiled_step_with tiled_after_taking unless
  touched_refused sound enough table waiting front across down i h on harmed tape vs =
      let test = le-leb (pixel_count p) (length w.cells) enough in
      let ready : picture_ready p.width p.height (covered_by p b) (length w.cells) ≡ true =
      rectangle_ready b.x b.y p.width p.height (length w.cells) ∙ test in
      let seen = (touched_damage p.width p.height (covered_by p b) w.cells ready across down).1 (i, h, on, harmed) in
      let bad : touched_sound p w.cells b ≡ false = ap none_seen seen in
      rw (sound, test, table, lt-ltb w.state.taken w.state.queued waiting, front, bad)

-- NEVER 17 WITHIN A RUN

-- one test of a chain
step_on : (n : Refusal) (t : Bool) (rest : StepEnd) (why : Refusal) → ¬ (number n ≡ 17) → (rest ≡ refused why → ¬ (number why ≡ 17))
    → unless n t rest ≡ refused why → ¬ (number why ≡ 17)
unfolding unless
step_on n true rest why i f e k = f e k
step_on n false rest why i f e k = let g : n ≡ why = cc in i (ap number g ∙ k)

finished_not : {P : Type 0} (left : World) (e n : ℕ) (why : Refusal) → finished left e n ≡ refused why → P
finished_not left e n why h = let z : ◌≡◌ {A = ℕ} 0 1 = cc in absurd (omega arith)

eight_not : (why : Refusal) → refused R.Damaged ≡ refused why → ¬ (number why ≡ 17)
eight_not why e k = let g : R.Damaged ≡ why = cc in let m : 8 ≡ number why = ap number g in omega (arith, m, k)

after_not : (tape : Bool) (w : World) (vs : List ℕ) (why : Refusal) (t : Result Taken QueueError) → tiled_after_taking tape w vs t ≡ refused why → ¬ (number why ≡ 17)
unfolding tiled_after_taking after_taking judged
after_not tape w vs why (Err error) = eight_not why
after_not tape w vs why (Ok t) =
    step_on R.Damaged _ _ why (λ k. omega arith)
    (step_on R.Damaged _ _ why (λ k. omega arith)
    (step_on R.Verdicts _ _ why (λ k. omega arith)
    (step_on R.Verdict _ _ why (λ k. omega arith)
    (step_on R.Numbers _ _ why (λ k. omega arith)
    (step_on R.Room _ _ why (λ k. omega arith) (finished_not _ _ _ why))))))

through : (t : Bool) (rest : StepEnd) (why : Refusal) → t ≡ true → unless R.Table t rest ≡ refused why → rest ≡ refused why
unfolding unless
through true rest why i e = e
through false rest why i e = let z : ◌≡◌ {A = ℕ} 0 1 = cc in absurd (omega arith)

step_not : (tape : Bool) (room : ℕ) (w : World) (vs : List ℕ) (why : Refusal) → room_for_tiles w.state.chosen room ≡ true
    → tiled_step_with tape room w vs ≡ refused why → ¬ (number why ≡ 17)
unfolding tiled_step_with
step_not tape room w vs why enough =
    step_on R.Damaged (sound_record (length w.ring) w.state) _ why (λ k. omega arith)
    (step_on R.Cells (leb (pixel_count w.state.chosen) (length w.cells)) _ why (λ k. omega arith)
    (λ e. step_on R.Empty (ltb w.state.taken w.state.queued) _ why (λ k. omega arith) (after_not tape w vs why (front_of w.state w.ring))
    (through (room_for_tiles w.state.chosen room) _ why enough e)))

empty_not : (p : Chosen) (cells : List ℕ) → ¬ (stop_number (empty_ending p cells) ≡ 17)
empty_not p cells = go (some_of is_given_up (pixel_cells p cells))
  where
    go : (t : Bool) → ¬ (stop_number (cond t E.Limit E.Done) ≡ 17)
    go true k = omega arith
    go false k = omega arith

more_not : ¬ (stop_number E.More ≡ 17)
more_not k = omega arith

gone_not : (room left : ℕ) (w : World) (tape : List ℕ) (s : StepEnd) → tiled_tape_step_of room w tape ≡ s → room_for_tiles w.state.chosen room ≡ true
    → ((v : World) (l : List ℕ) → room_for_tiles v.state.chosen room ≡ true → ¬ (stop_number (tiled_run_from room left v l).ending ≡ 17))
    → ¬ (stop_number (gone_on w s (λ next bytes. tiled_run_from room left next (drop bytes tape))).ending ≡ 17)
gone_not room left w tape (refused why) e enough f = step_not true room w tape why enough e
gone_not room left w tape (finished next evals bytes) e enough f =
    f next (drop bytes tape)
    (ap (λ (c : Chosen). room_for_tiles c room) (step_stays true w tape next evals bytes (finished_plain true room w tape next evals bytes e)).chosen ∙ enough)

from_not : (room budget : ℕ) (w : World) (tape : List ℕ) → room_for_tiles w.state.chosen room ≡ true
    → ¬ (stop_number (tiled_run_from room budget w tape).ending ≡ 17)
unfolding tiled_run_from
from_not room zero w tape enough =
    cases (queue_empty w.state) (λ q. rw q (empty_not w.state.chosen w.cells)) (λ q. rw q more_not)
from_not room (suc left) w tape enough =
    cases (queue_empty w.state) (λ q. rw q (empty_not w.state.chosen w.cells))
    (λ q. rw q (gone_not room left w tape (tiled_tape_step_of room w tape) refl enough (λ v l h. from_not room left v l h)))

pub never_inside : (budget room : ℕ) (w : World) (tape : List ℕ) → ¬ (run_stop (run_answer w.state (tiled_run_of budget room w tape)) ≡ 17)
unfolding tiled_run_of
never_inside budget room w tape =
    go (sound_record (length w.ring) w.state) (leb (pixel_count w.state.chosen) (length w.cells)) (room_for_tiles w.state.chosen room) refl
  where
    go : (i j k : Bool) → room_for_tiles w.state.chosen room ≡ k
        → ¬ (run_stop (run_answer w.state
        (cond i (cond j (cond k (has_run (tiled_run_from room budget w tape)) (not_run R.Table)) (not_run R.Cells)) (not_run R.Damaged))) ≡ 17)
    go true true true e = from_not room budget w tape e
    go true true false e = (λ k. omega arith)
    go true false m e = (λ k. omega arith)
    go false j m e = (λ k. omega arith)

-- A REFUSED RUN LEAVES THE TABLE
pub run_keeps : (budget : ℕ) (w : World) (tape table : List ℕ) (a : RunResult) (r : Result Ended Refused) (ring cells left : List ℕ)
    → TiledRunsAs budget w tape table a r ring cells left → (why : Refusal) (s : State) → r ≡ Err (record { why = why; state = s }) → left ≡ table
run_keeps budget w tape table (not_run reason) r ring cells left h why s e = h.1
run_keeps budget w tape table (has_run end) r ring cells left h why s e =
    let f : Ok (record { state = end.world.state; steps = end.steps; evaluations = end.evaluations; tape = end.tape; ending = end.ending }) ≡ Err (record { why = why; state = s }) = sym h.0.0 ∙ e in
    let z : ◌≡◌ {A = ℕ} 0 1 = cc in absurd (omega arith)
