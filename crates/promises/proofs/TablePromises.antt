-- WHAT IS PROMISED of the table of tile counts: document 02, (iv). Each promise stands under its sentence; each proof is one line that names the law. To
-- judge them one reads this page, document 02 and these definitions: specs/ Steps, Calls and Tables of this crate; specs/Tiled of `implicit`, which the
-- contracts of the calls with a table cite, and what it is written over; and specs/Tiles of `tiles`. No proof file.
--
-- A tile's numbers are the table's from four times its own number on: True, False, Uncertain, given up. "Tiles at the right and bottom edge may be smaller":
-- `tile_at` ends where the picture does.
-- Assumes nothing.
use Rattle.queue.specs.Queue.{front_taken}
use mathlib.Core.Path.{◌≡◌, refl, ap, ◌∙◌}
use mathlib.Core.Bool.{Bool, true, false}
use mathlib.Core.List.{List}
use Prim.Native.Nat.{ℕ, suc, ◌+◌, ◌*◌, ◌/◌, ◌%◌, ◌≤◌, ◌<◌}
use lib.ListN.{length, get_or}
use Rattle.std.specs.Prelude.{Result, Ok, Err}
use Rattle.refusal.specs.declared.Refusal.{Refusal}
use Rattle.refusal.specs.declared.Refusal.TheVariants as R
use Rattle.interval.specs.Bounds.{InFormat}
use Rattle.image.specs.Cell.{Named, meanings, is_damaged}
use Rattle.queue.specs.declared.Block.{Block}
use Rattle.queue.specs.declared.Last.{Last}
use Rattle.tiles.specs.Tiles.{tiles_along, tile_count, touches, tile_tally, tile_number}
use Rattle.decide.specs.declared.Chosen.{Chosen}
use Rattle.implicit.specs.declared.state.Ranges.{Ranges}
use Rattle.implicit.specs.declared.state.State.{State}
use Rattle.implicit.specs.declared.state.Ending.{Ending}
use Rattle.implicit.specs.declared.state.Refused.{Refused}
use Rattle.implicit.specs.declared.state.Finished.{Finished}
use Rattle.implicit.specs.declared.state.Ended.{Ended}
use Rattle.implicit.specs.Record.{pixel_count, sound_record}
use Rattle.implicit.specs.Setup.{cleared, setup_answer, ring_begun, cells_begun}
use Rattle.implicit.specs.Listing.{front_of}
use Rattle.implicit.specs.Step.{World, world_of, refused, finished, step_with}
use Rattle.implicit.specs.Run.{RunEnd, RunResult, has_run, run_of, run_answer}
use Rattle.implicit.specs.Answers.{run_stop}
use Rattle.implicit.specs.View.{if_done}
use Rattle.implicit.specs.Tiled.{room_for_tiles, covered_by, tiled_setup_answer, tiled_ring_begun, tiled_cells_begun, table_begun, tiled_step_with, tiled_step_of, table_after}
use Rattle.implicit.specs.Tiled.{TiledEndsAs, tiled_run_of, table_run_from, TiledRunsAs, fill_answer, table_filled}
use Rattle.promises.specs.Steps.{Asked, BegunAs, Steps, no_steps}
use Rattle.promises.specs.Calls.{asked_by}
use Rattle.promises.specs.Tables.{TiledBegunAs, TiledSteps, EqualsRecount}
use Rattle.promises.proofs.Linked.{reached_by}
use Rattle.promises.proofs.TableSteps.{table_taken, table_length, untouched_kept, beyond_kept, touched_counted, touched_alike}
use Rattle.promises.proofs.TableSteps.{steps_plain, tiled_follow, setup_same, setup_keeps, begun_plain, steps_room, begun_recount}
use Rattle.promises.proofs.TableKept.{recounts_on}
use Rattle.promises.proofs.TableRuns.{step_same, run_same, run_tiled, filled_recount, fill_reached}
use Rattle.promises.proofs.TableRefused.{touched_refused, never_inside, run_keeps}
use Rattle.promises.proofs.TableAnswered.{tiled_setup_begins, tiled_step_counts, tiled_step_keeps, tiled_run_ends, recount_number, recount_given_up}

-- ---- THE CONDITIONS ARE WHAT THE CONTRACTS ENSURE of the calls that take a table: `table` stands for it at entry, `table'` at exit, and so of the ring and
-- the cells

-- setup, where it answers a record: a chart is begun, with a table;
pub table_setup_answered : (chosen : Chosen) (ranges : Ranges) (ring cells table ring' cells' table' : List ℕ) (r : Result State Refusal)
    → InFormat ranges.m × InFormat ranges.n × InFormat ranges.theta × InFormat ranges.t
    → r ≡ tiled_setup_answer (cleared chosen) ranges (length ring) (length cells) (length table)
    → ring' ≡ tiled_ring_begun (cleared chosen) ranges ring (length cells) (length table)
    → cells' ≡ tiled_cells_begun (cleared chosen) ranges (length ring) cells (length table)
    → table' ≡ table_begun (cleared chosen) ranges (length ring) cells table
    → (s : State) → r ≡ Ok s → TiledBegunAs (asked_by chosen ranges ring cells) table (world_of s ring' cells') table'
table_setup_answered = tiled_setup_begins

-- step, where it answers that it is finished: one step more that took the table as the call before left it;
pub table_step_answered : (s : State) (ring cells table verdicts ring' cells' table' : List ℕ) (r : Result Finished Refused)
    → TiledEndsAs (world_of s ring cells) table (tiled_step_of (length table) (world_of s ring cells) verdicts) r ring' cells' table'
    → (s' : State) (evals bytes : ℕ) → r ≡ Ok (record { state = s'; evaluations = evals; verdicts = bytes })
    → {n : ℕ} {w₀ : World} {t₀ : List ℕ} → TiledSteps n w₀ t₀ (world_of s ring cells) table → TiledSteps (suc n) w₀ t₀ (world_of s' ring' cells') table'
table_step_answered = tiled_step_counts

-- where it answers a refusal, all is as it was, the table too
pub table_step_refused : (s : State) (ring cells table verdicts ring' cells' table' : List ℕ) (r : Result Finished Refused)
    → TiledEndsAs (world_of s ring cells) table (tiled_step_of (length table) (world_of s ring cells) verdicts) r ring' cells' table'
    → (why : Refusal) (s' : State) → r ≡ Err (record { why = why; state = s' }) → (world_of s' ring' cells' ≡ world_of s ring cells) × (table' ≡ table)
table_step_refused = tiled_step_keeps

-- run, where it answers how it ended: as many steps more, each with the table that the step before it left
pub table_run_answered : (s : State) (ring cells tape table ring' cells' table' : List ℕ) (budget : ℕ) (r : Result Ended Refused)
    → TiledRunsAs budget (world_of s ring cells) tape table (tiled_run_of budget (length table) (world_of s ring cells) tape) r ring' cells' table'
    → (s' : State) (steps evals bytes : ℕ) (ending : Ending) → r ≡ Ok (record { state = s'; steps = steps; evaluations = evals; tape = bytes; ending = ending })
    → TiledSteps steps (world_of s ring cells) table (world_of s' ring' cells') table'
table_run_answered = tiled_run_ends

-- A REFUSED CALL LEAVES THE TABLE as it was: a setup, and a run; of a step it stands above, and of the call that fills a table below
pub table_setup_refused : (p : Chosen) (r : Ranges) (ring cells table : List ℕ) (why : Refusal)
    → tiled_setup_answer p r (length ring) (length cells) (length table) ≡ Err why → table_begun p r (length ring) cells table ≡ table
table_setup_refused = setup_keeps

pub table_run_refused : (budget : ℕ) (w : World) (tape table : List ℕ) (a : RunResult) (r : Result Ended Refused) (ring' cells' table' : List ℕ)
    → TiledRunsAs budget w tape table a r ring' cells' table' → (why : Refusal) (s' : State) → r ≡ Err (record { why = why; state = s' }) → table' ≡ table
table_run_refused = run_keeps

-- ---- THE TABLE EQUALS A RECOUNT

module _ (a : Asked) (table : List ℕ) {w₀ : World} {t₀ : List ℕ} (z : TiledBegunAs a table w₀ t₀) where
  -- "Setup fills it."
  pub table_begun_lem : EqualsRecount a.chosen w₀ t₀
  table_begun_lem = begun_recount a table z

  -- "From an accepted setup that took the table, if every step since took it as the call before left it, the table equals a recount after every finished step"
  pub table_recounts : {n : ℕ} {w : World} {t : List ℕ} → TiledSteps n w₀ t₀ w t → EqualsRecount a.chosen w t
  table_recounts = recounts_on a (begun_plain a table z) no_steps (begun_recount a table z)

  -- it has "four numbers a tile" as long as it is taken along,
  pub table_room : {n : ℕ} {w : World} {t : List ℕ} → TiledSteps n w₀ t₀ w t → room_for_tiles a.chosen (length t) ≡ true
  table_room = steps_room a table z

  -- so each of its numbers, the k-th of the i-th tile, is what a count of the tile's pixels gives
  pub table_numbers_after : {n : ℕ} {w : World} {t : List ℕ} → TiledSteps n w₀ t₀ w t → (i k : ℕ) → i < tile_count a.chosen.width a.chosen.height → k < 4
      → get_or t (4 * i + k) 0 ≡ tile_number (tile_tally a.chosen.width a.chosen.height w.state.taken (meanings w.cells) i) k
  table_numbers_after {w = w} {t = t} r = recount_number a.chosen w t (table_recounts r) (table_room r)

  -- "Demands 2 and 3 stand.": what a setup and steps with a table leave, a setup and steps without one leave, so every promise over these holds of it
  pub demands_stand : {n : ℕ} {w : World} {t : List ℕ} → TiledSteps n w₀ t₀ w t → BegunAs a w₀ × Steps n w₀ w
  demands_stand r = (begun_plain a table z, steps_plain r)

-- so from any point on: of a chart whose table was filled later, or that went on without the table and had it filled again
pub table_recounts_from : (a : Asked) {w₀ : World} → BegunAs a w₀ → {n : ℕ} {w : World} → Steps n w₀ w → {t : List ℕ} → EqualsRecount a.chosen w t
    → {m : ℕ} {w' : World} {t' : List ℕ} → TiledSteps m w t w' t' → EqualsRecount a.chosen w' t'
table_recounts_from a z r k = recounts_on a z r k

-- and steps may follow steps
pub tiled_steps_follow : {n m : ℕ} {w w' w'' : World} {t t' t'' : List ℕ} → TiledSteps n w t w' t' → TiledSteps m w' t' w'' t'' → TiledSteps (n + m) w t w'' t''
tiled_steps_follow {n = n} {m = m} = tiled_follow (n + m) refl

-- what that says of a number, with four numbers a tile: the k-th of the i-th tile is what a count of its pixels gives,
pub table_numbers : (p : Chosen) (w : World) (t : List ℕ) → EqualsRecount p w t → room_for_tiles p (length t) ≡ true → (i k : ℕ)
    → i < tile_count p.width p.height → k < 4
    → get_or t (4 * i + k) 0 ≡ tile_number (tile_tally p.width p.height w.state.taken (meanings w.cells) i) k
table_numbers = recount_number

-- and ".. given-up pixels (these also counted as Uncertain)": they are no more than those
pub table_given_up : (p : Chosen) (w : World) (t : List ℕ) → EqualsRecount p w t → room_for_tiles p (length t) ≡ true → (i : ℕ)
    → i < tile_count p.width p.height → get_or t (4 * i + 3) 0 ≤ get_or t (4 * i + 2) 0
table_given_up = recount_given_up

-- ---- WHAT A STEP CHANGES OF IT, whatever the world and the table are: a finished step took the block b, the first in the queue

module _ (w : World) (t vs : List ℕ) (left : World) (evals bytes : ℕ) (e : tiled_step_of (length t) w vs ≡ finished left evals bytes)
    (b : Block) (last : Last) (head used : ℕ) (front : front_of w.state w.ring ≡ front_taken b last head used) where
  -- ".. and a step changes no tile that the taken block doesn't touch",
  pub table_elsewhere : (i k : ℕ) → touches w.state.chosen.width w.state.chosen.height (covered_by w.state.chosen b) i ≡ false → k < 4
      → get_or (table_after w t (finished left evals bytes)) (4 * i + k) 0 ≡ get_or t (4 * i + k) 0
  table_elsewhere = untouched_kept w t vs left evals bytes e b last head used front

  -- nor a number behind the tiles'
  pub table_beyond : (j : ℕ) → 4 * tile_count w.state.chosen.width w.state.chosen.height ≤ j
      → get_or (table_after w t (finished left evals bytes)) j 0 ≡ get_or t j 0
  table_beyond = beyond_kept w t vs left evals bytes e b last head used front

  -- "A touched tile's new counts don't depend on what the table held before": they are what a count of its pixels gives
  pub table_heals : (i k : ℕ) → touches w.state.chosen.width w.state.chosen.height (covered_by w.state.chosen b) i ≡ true → k < 4
      → get_or (table_after w t (finished left evals bytes)) (4 * i + k) 0
      ≡ tile_number (tile_tally w.state.chosen.width w.state.chosen.height left.state.taken (meanings left.cells) i) k
  table_heals = touched_counted w t vs left evals bytes e b last head used front

  -- and so the same of another table as long
  pub table_forgets : (u : List ℕ) → length u ≡ length t → (i k : ℕ)
      → touches w.state.chosen.width w.state.chosen.height (covered_by w.state.chosen b) i ≡ true → k < 4
      → get_or (table_after w u (finished left evals bytes)) (4 * i + k) 0 ≡ get_or (table_after w t (finished left evals bytes)) (4 * i + k) 0
  table_forgets u same = touched_alike w t u vs left evals bytes e b last head used front same

-- it stays as long as it was
pub table_stays_long : (w : World) (t : List ℕ) (left : World) (evals bytes : ℕ) → length (table_after w t (finished left evals bytes)) ≡ length t
table_stays_long w t left evals bytes = table_length w t (finished left evals bytes)

-- ---- WHAT REFUSES IT

-- "there 8 for the block also speaks of every cell in a touched tile": of any world whose record is sound, with cells and table enough and a block left, that
-- covers a pixel, a damaged cell i of a pixel in a tile that the block touches refuses the step. The tile's number is that of its column and row
pub touched_eight : (room : ℕ) (w : World) (b : Block) (last : Last) (head used : ℕ) → sound_record (length w.ring) w.state ≡ true
    → pixel_count w.state.chosen ≤ length w.cells → room_for_tiles w.state.chosen room ≡ true → w.state.taken < w.state.queued
    → front_of w.state w.ring ≡ front_taken b last head used
    → (covered_by w.state.chosen b).left < (covered_by w.state.chosen b).right
    → (covered_by w.state.chosen b).top < (covered_by w.state.chosen b).bottom
    → (i : ℕ) → i < w.state.chosen.width * w.state.chosen.height
    → touches w.state.chosen.width w.state.chosen.height (covered_by w.state.chosen b)
    (i / w.state.chosen.width / 16 * tiles_along w.state.chosen.width + i % w.state.chosen.width / 16) ≡ true
    → is_damaged (get_or (meanings w.cells) i (Named 0)) ≡ true → (tape : Bool) (vs : List ℕ) → tiled_step_with tape room w vs ≡ refused R.Damaged
touched_eight = touched_refused

-- "17 if the table has under four numbers a tile, just after 2": this is told of a run as a whole, and stops none
pub never_seventeen_inside : (budget room : ℕ) (w : World) (tape : List ℕ) → ¬ (run_stop (run_answer w.state (tiled_run_of budget room w tape)) ≡ 17)
never_seventeen_inside = never_inside

-- ---- A TABLE CHANGES NOTHING ELSE ("Demands 2 and 3 stand.")

-- with room for the tiles a setup with a table answers as one without it, whatever it is given, and leaves the same ring and cells
pub table_setup_same : (p : Chosen) (r : Ranges) (ring cells : List ℕ) (room : ℕ) → room_for_tiles p room ≡ true
    → (tiled_setup_answer p r (length ring) (length cells) room ≡ setup_answer p r (length ring) (length cells))
    × (tiled_ring_begun p r ring (length cells) room ≡ ring_begun p r ring cells)
    × (tiled_cells_begun p r (length ring) cells room ≡ cells_begun p r ring cells)
table_setup_same = setup_same

-- of any world: a finished step with a table is the one without it,
pub tiled_is_plain : (tape : Bool) (room : ℕ) (w : World) (vs : List ℕ) (left : World) (evals bytes : ℕ)
    → tiled_step_with tape room w vs ≡ finished left evals bytes → step_with tape w vs ≡ finished left evals bytes
tiled_is_plain tape room w vs left evals bytes e = (table_taken tape room w vs left evals bytes e).plain

-- and so any number of them;
pub tiled_steps_plain : {n : ℕ} {w w' : World} {t t' : List ℕ} → TiledSteps n w t w' t' → Steps n w w'
tiled_steps_plain = steps_plain

module _ (a : Asked) {w₀ : World} (z : BegunAs a w₀) {n : ℕ} {w : World} (r : Steps n w₀ w) (room : ℕ) (enough : room_for_tiles a.chosen room ≡ true) where
  -- on a chart from an accepted setup, with room for the tiles, a step with a table ends as one without it, by its answer, its ring and its cells,
  pub table_step_same : (tape : Bool) (vs : List ℕ) → tiled_step_with tape room w vs ≡ step_with tape w vs
  table_step_same = step_same a.chosen room enough w (reached_by a w₀ z r)

  -- and so does a run
  pub table_run_same : (budget : ℕ) (tape : List ℕ) → tiled_run_of budget room w tape ≡ run_of budget w tape
  table_run_same = run_same a.chosen room enough w (reached_by a w₀ z r)

-- ---- RUNS: a run with a table is steps with it, and the table after it is what these leave
pub tiled_run_reaches : (budget : ℕ) (w : World) (tape t : List ℕ) (e : RunEnd) → tiled_run_of budget (length t) w tape ≡ has_run e
    → TiledSteps e.steps w t e.world (table_run_from budget w tape t)
tiled_run_reaches = run_tiled

-- ---- A TABLE FILLED from a record and its cells, where the call is done, equals a recount;
pub table_filled_lem : (w : World) (t t' : List ℕ) (r : Result (Unit {0}) Refusal) → r ≡ fill_answer w.state w.cells (length t)
    → t' ≡ if_done r (table_filled w.state w.cells t) t → r ≡ Ok tt → EqualsRecount w.state.chosen w t'
table_filled_lem = filled_recount

-- where it is refused, the table is as it was
pub table_fill_refused : (s : State) (cells t t' : List ℕ) (r : Result (Unit {0}) Refusal) → t' ≡ if_done r (table_filled s cells t) t
    → (why : Refusal) → r ≡ Err why → t' ≡ t
table_fill_refused s cells t t' r e why refused_by = e ∙ ap (λ (d : Result (Unit {0}) Refusal). if_done d (table_filled s cells t) t) refused_by

-- and on a chart from an accepted setup, with room for the tiles, it is done
pub fill_goes : (a : Asked) {w₀ : World} → BegunAs a w₀ → {n : ℕ} {w : World} → Steps n w₀ w → (t : List ℕ) → room_for_tiles a.chosen (length t) ≡ true
    → (fill_answer w.state w.cells (length t) ≡ Ok tt) × EqualsRecount a.chosen w (table_filled w.state w.cells t)
fill_goes a {w₀} z {w = w} r = fill_reached a.chosen w (reached_by a w₀ z r)
