-- FOR READERS: the number of each call that takes a table, document 02, (iv): the first of these rows that applies, and 0 where none does.
-- "Refusals: 17 if the table has under four numbers a tile, just after 2, in calls that take a table; there 8 for the block also speaks of every cell in a
-- touched tile."
use Rattle.std.specs.Prelude.{Ok}
use Rattle.queue.specs.declared.QueueError.{QueueError}
use mathlib.Core.Path.{◌≡◌, refl}
use mathlib.Core.Bool.{Bool, not, ◌||◌, ◌&&◌}
use mathlib.Core.List.{List, [], ◌∷◌}
use Prim.Native.Nat.{ℕ, ◌*◌}
use lib.Dec.{leb, ltb}
use lib.ListN.{length}
use Rattle.std.specs.Prelude.{Err, Result}
use Rattle.refusal.specs.declared.Refusal.TheVariants as R
use Rattle.refusal.specs.declared.Refusal.{Refusal}
use Rattle.refusal.specs.Number.{first_of}
use Rattle.refusal.proofs.Rows.{row, none, one_fails}
use Rattle.image.specs.Cell.{is_damaged}
use Rattle.image.specs.Painting.{some_of}
use Rattle.tiles.specs.Tiles.{tile_count}
use Rattle.queue.specs.declared.Taken.{Taken}
use Rattle.decide.specs.declared.Chosen.{Chosen}
use Rattle.decide.specs.Damage.{legal_side}
use Rattle.implicit.specs.declared.state.State.{State}
use Rattle.implicit.specs.declared.state.Ranges.{Ranges}
use Rattle.implicit.specs.Record.{pixel_count, pixel_cells, sound_record, queue_empty}
use Rattle.implicit.specs.Setup.{ranges_legal, first_bytes, start_record, started_by}
use Rattle.implicit.specs.Listing.{front_of}
use Rattle.implicit.specs.Step.{World, StepEnd, refused, unless, step_answer}
use Rattle.implicit.specs.Run.{RunResult, not_run, run_answer}
use Rattle.implicit.specs.View.{cells_sound}
use Rattle.implicit.specs.Tiled.{room_for_tiles, touched_sound, tiled_setup_refusal, tiled_setup_answer, tiled_after_taking, tiled_step_with}
use Rattle.implicit.specs.Tiled.{tiled_run_of, fill_answer}
use Rattle.implicit.specs.Answers.{setup_number, step_number, run_number, call_number}
use Rattle.implicit.proofs.Numbers.{fewer, not_not, none_left, unread, block_rows, block_number}

-- under four numbers a tile
abbrev pub TableShort : Chosen → ℕ → Bool
TableShort p room = ltb room (4 * tile_count p.width p.height)

-- setup_with_table
pub setup_with_table_number : (p : Chosen) (r : Ranges) (len count room : ℕ)
    → setup_number (tiled_setup_answer p r len count room)
    ≡ first_of ((1, not (legal_side p.width) || not (legal_side p.height))
    ∷ (2, ltb count (pixel_count p))
    ∷ (17, TableShort p room)
    ∷ (3, not (ranges_legal p.set r))
    ∷ (6, ltb len (length (first_bytes p r)))
    ∷ [])
unfolding tiled_setup_answer tiled_setup_refusal
setup_with_table_number p r len count room =
    let f : Result (Unit {0}) Refusal → ℕ = λ e. setup_number (started_by e (start_record p r len)) in
    row f (legal_side p.width && legal_side p.height) (Err R.Side) _ _ _ (one_fails (legal_side p.width) (legal_side p.height)) (λ _.
    row f (leb (pixel_count p) count) (Err R.Cells) _ _ _ (fewer (pixel_count p) count) (λ _.
    row f (room_for_tiles p room) (Err R.Table) _ _ _ (fewer (4 * tile_count p.width p.height) room) (λ _.
    row f (ranges_legal p.set r) (Err R.Parameter) _ _ _ refl (λ _.
    row f (leb (length (first_bytes p r)) len) (Err R.Room) _ _ _ (fewer (length (first_bytes p r)) len) (λ _. none)))))

-- step_with_table, on a tape or a single one: before the rows of the block that was read, 8 for a cell in a tile that it touches
unfoldable pub tiled_block_rows : Bool → World → List ℕ → Result Taken QueueError → List (ℕ × Bool)
tiled_block_rows tape w vs (Err why) = block_rows tape w vs (Err why)
tiled_block_rows tape w vs (Ok t) =
    (8, not (touched_sound w.state.chosen w.cells t.block)) ∷ block_rows tape w vs (Ok t)

tiled_block_number : (tape : Bool) (w : World) (vs : List ℕ) (t : Result Taken QueueError)
    → step_number (step_answer w.state (tiled_after_taking tape w vs t)) ≡ first_of (tiled_block_rows tape w vs t)
unfolding tiled_after_taking tiled_block_rows block_rows unless
tiled_block_number tape w vs (Err why) = unread
tiled_block_number tape w vs (Ok t) =
    let f : StepEnd → ℕ = λ e. step_number (step_answer w.state e) in
    row f (touched_sound w.state.chosen w.cells t.block) (refused R.Damaged) _ _ _ refl (λ _. block_number tape w vs (Ok t))

pub step_with_table_number : (tape : Bool) (room : ℕ) (w : World) (vs : List ℕ)
    → step_number (step_answer w.state (tiled_step_with tape room w vs))
    ≡ first_of ((8, not (sound_record (length w.ring) w.state))
    ∷ (2, ltb (length w.cells) (pixel_count w.state.chosen))
    ∷ (17, TableShort w.state.chosen room)
    ∷ (13, queue_empty w.state)
    ∷ tiled_block_rows tape w vs (front_of w.state w.ring))
unfolding tiled_step_with unless
step_with_table_number tape room w vs =
    let f : StepEnd → ℕ = λ e. step_number (step_answer w.state e) in
    let p = w.state.chosen in
    row f (sound_record (length w.ring) w.state) (refused R.Damaged) _ _ _ refl (λ h.
    row f (leb (pixel_count p) (length w.cells)) (refused R.Cells) _ _ _ (fewer (pixel_count p) (length w.cells)) (λ _.
    row f (room_for_tiles p room) (refused R.Table) _ _ _ (fewer (4 * tile_count p.width p.height) room) (λ _.
    row f (ltb w.state.taken w.state.queued) (refused R.Empty) _ _ _ (none_left (length w.ring) w.state h) (λ _.
    tiled_block_number tape w vs (front_of w.state w.ring)))))

-- run_with_table: once, before its first step
pub run_with_table_number : (budget room : ℕ) (w : World) (tape : List ℕ)
    → run_number (run_answer w.state (tiled_run_of budget room w tape))
    ≡ first_of ((8, not (sound_record (length w.ring) w.state))
    ∷ (2, ltb (length w.cells) (pixel_count w.state.chosen))
    ∷ (17, TableShort w.state.chosen room)
    ∷ [])
unfolding tiled_run_of
run_with_table_number budget room w tape =
    let f : RunResult → ℕ = λ a. run_number (run_answer w.state a) in
    let p = w.state.chosen in
    row f (sound_record (length w.ring) w.state) (not_run R.Damaged) _ _ _ refl (λ _.
    row f (leb (pixel_count p) (length w.cells)) (not_run R.Cells) _ _ _ (fewer (pixel_count p) (length w.cells)) (λ _.
    row f (room_for_tiles p room) (not_run R.Table) _ _ _ (fewer (4 * tile_count p.width p.height) room) (λ _. none)))

-- fill_table
pub fill_table_number : (s : State) (cells : List ℕ) (room : ℕ)
    → call_number (fill_answer s cells room)
    ≡ first_of ((8, not (sound_record s.len s))
    ∷ (2, ltb (length cells) (pixel_count s.chosen))
    ∷ (17, TableShort s.chosen room)
    ∷ (8, some_of is_damaged (pixel_cells s.chosen cells))
    ∷ [])
unfolding fill_answer
fill_table_number s cells room =
    let p = s.chosen in
    row call_number (sound_record s.len s) (Err R.Damaged) _ _ _ refl (λ _.
    row call_number (leb (pixel_count p) (length cells)) (Err R.Cells) _ _ _ (fewer (pixel_count p) (length cells)) (λ _.
    row call_number (room_for_tiles p room) (Err R.Table) _ _ _ (fewer (4 * tile_count p.width p.height) room) (λ _.
    row call_number (cells_sound s cells) (Err R.Damaged) _ _ _ (not_not (some_of is_damaged (pixel_cells p cells))) (λ _. none))))
