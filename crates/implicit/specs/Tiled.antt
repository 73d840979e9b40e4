-- Document 02, (iv): setup, step and run that take a table of tile counts beside the picture, and the call that fills one. What they answer is what the
-- calls without a table answer, but for 17 "just after 2", and "there 8 for the block also speaks of every cell in a touched tile".
use Rattle.queue.specs.declared.QueueError.{QueueError}
use Rattle.std.specs.Prelude.{◌≡◌, Bool, true, false, cond, ◌&&◌, List, ℕ, zero, suc, leb, ltb, length, drop, Result, Ok, Err, not, Option, Some, None}
use Rattle.refusal.specs.declared.Refusal.TheVariants as R
use Rattle.refusal.specs.declared.Refusal.{Refusal}
use Rattle.image.specs.declared.PixelRange.{PixelRange}
use Rattle.image.specs.Cell.{meanings}
use Rattle.image.specs.Range.{rectangle_of}
use Rattle.tiles.specs.Tiles.{table_enough, touched_damaged, recounted_under, recounted}
use Rattle.queue.specs.declared.Block.{Block}
use Rattle.queue.specs.declared.Taken.{Taken}
use Rattle.decide.specs.declared.Chosen.{Chosen}
use Rattle.decide.specs.Damage.{legal_side}
use Rattle.implicit.specs.declared.state.Ending.TheVariants as End
use Rattle.implicit.specs.declared.state.State.{State}
use Rattle.implicit.specs.declared.state.Ranges.{Ranges}
use Rattle.implicit.specs.declared.state.Refused.{Refused}
use Rattle.implicit.specs.declared.state.Finished.{Finished}
use Rattle.implicit.specs.declared.state.Ended.{Ended}
use Rattle.implicit.specs.Record.{refused_unless, pixel_count, sound_record, queue_empty}
use Rattle.implicit.specs.Setup.{ranges_legal, first_bytes, start_record, start_ring, start_cells, started_by, if_begun}
use Rattle.implicit.specs.Listing.{front_of}
use Rattle.implicit.specs.Step.{World, StepEnd, refused, finished, unless, after_taking, EndsAs}
use Rattle.implicit.specs.Run.{RunEnd, ended_as, empty_ending, gone_on, RunResult, not_run, has_run, RunsAs}
use Rattle.implicit.specs.View.{cells_sound}

-- what row 17 does not refuse: a table of so many numbers has four a tile
abbrev pub room_for_tiles : Chosen → ℕ → Bool
room_for_tiles p room = table_enough p.width p.height room

-- every tile of the picture recounted: what a table holds that equals a recount. Numbers beyond four a tile are as they were
abbrev pub table_of : Chosen → ℕ → List ℕ → List ℕ → List ℕ
table_of p taken cells table = recounted p.width p.height taken (meanings cells) table

-- the pixels that a block covers
abbrev pub covered_by : Chosen → Block → PixelRange
covered_by p b = rectangle_of b.x b.y p.width p.height

-- THE SETUP, with refusals 1, 2, 17, 3 and 6 in this order; it fills the table
unfoldable pub tiled_setup_refusal : Chosen → Ranges → ℕ → ℕ → ℕ → Result (Unit {0}) Refusal
tiled_setup_refusal p r len count room =
    refused_unless (Err R.Side) (legal_side p.width && legal_side p.height)
    (refused_unless (Err R.Cells) (leb (pixel_count p) count)
    (refused_unless (Err R.Table) (room_for_tiles p room)
    (refused_unless (Err R.Parameter) (ranges_legal p.set r)
    (refused_unless (Err R.Room) (leb (length (first_bytes p r)) len) (Ok tt)))))

unfoldable pub tiled_setup_answer : Chosen → Ranges → ℕ → ℕ → ℕ → Result State Refusal
tiled_setup_answer p r len count room = started_by (tiled_setup_refusal p r len count room) (start_record p r len)

-- what the ring, the cells or the table hold afterwards: `after`, where the setup begins, else what they held
abbrev pub if_tiled : Chosen → Ranges → ℕ → ℕ → ℕ → List ℕ → List ℕ → List ℕ
if_tiled p r len count room after before = if_begun (tiled_setup_refusal p r len count room) after before

unfoldable pub tiled_ring_begun : Chosen → Ranges → List ℕ → ℕ → ℕ → List ℕ
tiled_ring_begun p r ring count room = if_tiled p r (length ring) count room (start_ring p r ring) ring

unfoldable pub tiled_cells_begun : Chosen → Ranges → ℕ → List ℕ → ℕ → List ℕ
tiled_cells_begun p r len cells room = if_tiled p r len (length cells) room (start_cells p r cells) cells

unfoldable pub table_begun : Chosen → Ranges → ℕ → List ℕ → List ℕ → List ℕ
table_begun p r len cells table = if_tiled p r len (length cells) (length table) (table_of p 0 (start_cells p r cells) table) table

-- THE STEP, with refusals 8 for the record, 2, 17, 13, 8 for the block, 4, 5, 7 and 6 in this order

-- no cell in a tile that the block touches is damaged
abbrev pub none_seen : Option Bool → Bool
none_seen (Some b) = not b
none_seen None = false

abbrev pub touched_sound : Chosen → List ℕ → Block → Bool
touched_sound p cells b = none_seen (touched_damaged p.width p.height (covered_by p b) cells)

-- the front block's refusals: 8 speaks of these cells too, and all else is as without a table
unfoldable pub tiled_after_taking : Bool → World → List ℕ → Result Taken QueueError → StepEnd
tiled_after_taking tape w vs (Err why) = refused R.Damaged
tiled_after_taking tape w vs (Ok t) =
    unless R.Damaged (touched_sound w.state.chosen w.cells t.block) (after_taking tape w vs (Ok t))

-- for a table of `room` numbers
unfoldable pub tiled_step_with : Bool → ℕ → World → List ℕ → StepEnd
tiled_step_with tape room w vs =
    unless R.Damaged (sound_record (length w.ring) w.state)
    (unless R.Cells (leb (pixel_count w.state.chosen) (length w.cells))
    (unless R.Table (room_for_tiles w.state.chosen room)
    (unless R.Empty (ltb w.state.taken w.state.queued)
    (tiled_after_taking tape w vs (front_of w.state w.ring)))))

abbrev pub tiled_step_of : ℕ → World → List ℕ → StepEnd
tiled_step_of = tiled_step_with false

abbrev pub tiled_tape_step_of : ℕ → World → List ℕ → StepEnd
tiled_tape_step_of = tiled_step_with true

-- the table once a block was taken: the tiles that it touches recounted, by what the step left
abbrev pub table_taking : Result Taken QueueError → World → List ℕ → List ℕ
table_taking (Ok t) left table =
    recounted_under left.state.chosen.width left.state.chosen.height (covered_by left.state.chosen t.block) left.state.taken
    (meanings left.cells) table
table_taking (Err why) left table = table

-- the table after a step: by a refusal as it was
unfoldable pub table_after : World → List ℕ → StepEnd → List ℕ
table_after w table (refused why) = table
table_after w table (finished left evals bytes) = table_taking (front_of w.state w.ring) left table

-- what a call answered, with the ring, the cells and the table afterwards, is what the step's end says
abbrev pub TiledEndsAs : World → List ℕ → StepEnd → Result Finished Refused → List ℕ → List ℕ → List ℕ → Type 0
TiledEndsAs w table e r ring cells left = EndsAs w e r ring cells × (left ≡ table_after w table e)

-- THE RUN: document 01's, of steps with a table. It is itself refused by 8 for the record, 2 and 17
unfoldable pub tiled_run_from : ℕ → ℕ → World → List ℕ → RunEnd
tiled_run_from room zero w tape = cond (queue_empty w.state) (ended_as w (empty_ending w.state.chosen w.cells)) (ended_as w End.More)
tiled_run_from room (suc left) w tape =
    cond (queue_empty w.state) (ended_as w (empty_ending w.state.chosen w.cells))
    (gone_on w (tiled_tape_step_of room w tape) (λ next bytes. tiled_run_from room left next (drop bytes tape)))

-- the table after it: brought up to date by each of its finished steps
abbrev pub table_on : World → List ℕ → StepEnd → (World → ℕ → List ℕ → List ℕ) → List ℕ
table_on w table (refused why) rest = table
table_on w table (finished next evals bytes) rest = rest next bytes (table_after w table (finished next evals bytes))

unfoldable pub table_run_from : ℕ → World → List ℕ → List ℕ → List ℕ
table_run_from zero w tape table = table
table_run_from (suc left) w tape table =
    cond (queue_empty w.state) table
    (table_on w table (tiled_tape_step_of (length table) w tape) (λ next bytes further. table_run_from left next (drop bytes tape) further))

unfoldable pub tiled_run_of : ℕ → ℕ → World → List ℕ → RunResult
tiled_run_of budget room w tape =
    refused_unless (not_run R.Damaged) (sound_record (length w.ring) w.state)
    (refused_unless (not_run R.Cells) (leb (pixel_count w.state.chosen) (length w.cells))
    (refused_unless (not_run R.Table) (room_for_tiles w.state.chosen room) (has_run (tiled_run_from room budget w tape))))

abbrev pub table_run : ℕ → World → List ℕ → List ℕ → RunResult → List ℕ
table_run budget w tape table (not_run why) = table
table_run budget w tape table (has_run e) = table_run_from budget w tape table

abbrev pub TiledRunsAs : ℕ → World → List ℕ → List ℕ → RunResult → Result Ended Refused → List ℕ → List ℕ → List ℕ → Type 0
TiledRunsAs budget w tape table a r ring cells left = RunsAs w a r ring cells × (left ≡ table_run budget w tape table a)

-- A TABLE FILLED from a record and its cells, with refusals 8, 2, 17 and 8 for a cell: every tile recounted
unfoldable pub fill_answer : State → List ℕ → ℕ → Result (Unit {0}) Refusal
fill_answer s cells room =
    refused_unless (Err R.Damaged) (sound_record s.len s)
    (refused_unless (Err R.Cells) (leb (pixel_count s.chosen) (length cells))
    (refused_unless (Err R.Table) (room_for_tiles s.chosen room)
    (refused_unless (Err R.Damaged) (cells_sound s cells) (Ok tt))))

abbrev pub table_filled : State → List ℕ → List ℕ → List ℕ
table_filled s cells table = table_of s.chosen s.taken cells table
