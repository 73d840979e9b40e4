-- What a step with a table is about to touch, and how a run with one goes on: what private functions compute. The laws say that this is the step and the run.
use Rattle.queue.specs.declared.QueueError.{QueueError}
use Rattle.std.specs.Prelude.{◌≡◌, Bool, true, false, cond, List, ℕ, ◌*◌, ◌≤◌, leb, ltb, length, drop, Result, Ok, Err}
use Rattle.refusal.specs.declared.Refusal.TheVariants as R
use Rattle.refusal.specs.declared.Refusal.{Refusal}
use Rattle.image.specs.declared.PixelRange.{PixelRange}
use Rattle.image.specs.Cell.{is_damaged}
use Rattle.image.specs.Painting.{some_of}
use Rattle.queue.specs.declared.Block.{Block}
use Rattle.queue.specs.declared.Taken.{Taken}
use Rattle.decide.specs.declared.Chosen.{Chosen}
use Rattle.implicit.specs.declared.state.State.{State}
use Rattle.implicit.specs.RunComputed.{HowFar}
use Rattle.implicit.specs.Record.{refused_unless, pixel_count, pixel_cells, sound_record, queue_empty}
use Rattle.implicit.specs.Listing.{front_of}
use Rattle.implicit.specs.Step.{World, world_of, StepEnd}
use Rattle.implicit.specs.View.{cells_sound}
use Rattle.implicit.specs.Tiled.{room_for_tiles, covered_by, touched_sound, tiled_tape_step_of, table_after}

-- what is known where the pixels' cells were looked over: every pixel has one, and none is damaged
abbrev pub CleanIf : Bool → Chosen → List ℕ → Type 0
CleanIf clean p cells = clean ≡ true → (pixel_count p ≤ length cells) × (some_of is_damaged (pixel_cells p cells) ≡ false)

-- they are looked over where the steps' tiles would have as many cells
abbrev pub looked_over : ℕ → State → List ℕ → Bool
looked_over budget s cells = cond (leb (pixel_count s.chosen) (256 * budget)) (cells_sound s cells) false

-- by the block that is taken
unfoldable pub touch_block : Chosen → List ℕ → Block → Result PixelRange Refusal
touch_block p cells b = refused_unless (Err R.Damaged) (touched_sound p cells b) (Ok (covered_by p b))

abbrev pub touch_taken : Chosen → List ℕ → Result Taken QueueError → Result PixelRange Refusal
touch_taken p cells (Ok t) = touch_block p cells t.block
touch_taken p cells (Err why) = Err R.Damaged

unfoldable pub touch_front : World → Result PixelRange Refusal
touch_front w =
    refused_unless (Err R.Empty) (ltb w.state.taken w.state.queued)
    (touch_taken w.state.chosen w.cells (front_of w.state w.ring))

-- by the record, the cells and a table of `room` numbers
unfoldable pub touch_of : ℕ → World → Result PixelRange Refusal
touch_of room w =
    refused_unless (Err R.Damaged) (sound_record (length w.ring) w.state)
    (refused_unless (Err R.Cells) (leb (pixel_count w.state.chosen) (length w.cells))
    (refused_unless (Err R.Table) (room_for_tiles w.state.chosen room) (touch_front w)))

-- the step that comes next in a run with a table of `room` numbers, on the rest of the tape
abbrev pub next_tiled : ℕ → HowFar → List ℕ → List ℕ → List ℕ → StepEnd
next_tiled room p ring cells tape = tiled_tape_step_of room (world_of p.state ring cells) (drop p.tape tape)

-- the table after one pass of the loop
unfoldable pub table_once : ℕ → HowFar → World → StepEnd → List ℕ → List ℕ
table_once budget p w next table = cond (queue_empty p.state) table (cond (leb budget p.steps) table (table_after w table next))
