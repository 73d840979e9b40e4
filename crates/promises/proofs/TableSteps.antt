-- What a call with a table is: a finished step with one is a finished step, and the table that it leaves, number by number; a setup with one is a setup.
-- Assumes nothing.
use Rattle.queue.specs.declared.QueueError.{QueueError}
use Rattle.queue.specs.Queue.{front_taken}
use Rattle.queue.specs.Answers.{taken_block}
use mathlib.Core.Path.{◌≡◌, refl, sym, ap, ◌∙◌}
use mathlib.Core.Bool.{Bool, true, false, ◌&&◌}
use mathlib.Core.List.{List}
use Prim.Native.Nat.{ℕ, suc, ◌+◌, ◌*◌, ◌/◌, ◌≤◌, ◌<◌}
use native.Mathlib.Omega.{arith}
use lib.Dec.{leb, ltb}
use lib.ListN.{length, get_or, take}
use borrow.Author.Tests.{leb-true, le-ltb}
use Rattle.std.specs.Prelude.{Result, Ok, Err}
use Rattle.base.proofs.Test.{cases, cond_yes}
use Rattle.refusal.specs.declared.Refusal.{Refusal}
use Rattle.refusal.specs.declared.Refusal.TheVariants as R
use Rattle.image.specs.Cell.{meanings}
use Rattle.queue.specs.declared.Block.{Block}
use Rattle.queue.specs.declared.Last.{Last}
use Rattle.queue.specs.declared.Taken.{Taken}
use Rattle.tiles.specs.Tiles.{tile_count, touches, tile_tally, tile_number, recounted_under}
use Rattle.tiles.proofs.TileLaws.{touched_bounds}
use Rattle.tiles.proofs.RecountLaws.{recount_length, number_tile, number_kept, number_counted, recounted_twice}
use Rattle.decide.specs.declared.Chosen.{Chosen}
use Rattle.decide.specs.Damage.{legal_side}
use Rattle.implicit.specs.declared.state.State.{State}
use Rattle.implicit.specs.declared.state.Ranges.{Ranges}
use Rattle.implicit.specs.Record.{pixel_count, sound_record}
use Rattle.implicit.specs.Setup.{ranges_legal, first_bytes, setup_refusal, start_record, start_cells, setup_answer, ring_begun, cells_begun}
use Rattle.implicit.specs.Listing.{front_of}
use Rattle.implicit.specs.Step.{World, StepEnd, finished, unless, after_taking, step_with}
use Rattle.implicit.specs.Tiled.{room_for_tiles, table_of, covered_by, touched_sound}
use Rattle.implicit.specs.Tiled.{tiled_setup_refusal, tiled_setup_answer, tiled_ring_begun, tiled_cells_begun, table_begun}
use Rattle.implicit.specs.Tiled.{tiled_after_taking, tiled_step_with, tiled_step_of, tiled_tape_step_of, table_taking, table_after}
use Rattle.implicit.specs.Answers.{setup_number, setup_state}
use Rattle.implicit.proofs.Numbers.{ready_by_number}
use Rattle.implicit.proofs.StepLawsWent.{passed, step_stays}
use Rattle.implicit.proofs.TiledLaws.{finished_plain}
pub use Rattle.implicit.proofs.TiledRun.{table_length}
use Rattle.promises.specs.Steps.{Asked, BegunAs, Steps, no_steps, then_step, then_move}
use Rattle.promises.specs.Tables.{TiledBegunAs, TiledSteps, no_tiled_steps, then_tiled_step, then_tiled_move, EqualsRecount}
use Rattle.promises.proofs.RunSteps.{tape_step}

-- THE STEP

-- the cells of the touched tiles are fine, whatever block is read
abbrev pub TouchedFine : World → Type 0
TouchedFine w = (b : Block) (last : Last) (head used : ℕ) → front_of w.state w.ring ≡ front_taken b last head used
    → touched_sound w.state.chosen w.cells b ≡ true

-- all that a finished step with a table of `room` numbers has been through
pub record TableTaken (tape : Bool) (room : ℕ) (w : World) (vs : List ℕ) (left : World) (evals bytes : ℕ) : Type 0 where
  pub plain : step_with tape w vs ≡ finished left evals bytes
  pub room_enough : room_for_tiles w.state.chosen room ≡ true
  pub touched : TouchedFine w

pub table_taken : (tape : Bool) (room : ℕ) (w : World) (vs : List ℕ) (left : World) (evals bytes : ℕ) → tiled_step_with tape room w vs ≡ finished left evals bytes
    → TableTaken tape room w vs left evals bytes
unfolding tiled_step_with tiled_after_taking
table_taken tape room w vs left evals bytes h =
    let a = passed R.Damaged (sound_record (length w.ring) w.state) _ left evals bytes h in
    let b = passed R.Cells (leb (pixel_count w.state.chosen) (length w.cells)) _ left evals bytes a.1 in
    let c = passed R.Table (room_for_tiles w.state.chosen room) _ left evals bytes b.1 in
    let d = passed R.Empty (ltb w.state.taken w.state.queued) _ left evals bytes c.1 in
    record {
      plain = finished_plain tape room w vs left evals bytes h;
      room_enough = c.0;
      touched = front (front_of w.state w.ring) d.1;
    }
  where
    front : (t : Result Taken QueueError) → tiled_after_taking tape w vs t ≡ finished left evals bytes
        → (b : Block) (last : Last) (head used : ℕ) → t ≡ front_taken b last head used → touched_sound w.state.chosen w.cells b ≡ true
    front (Ok t) g b l h u e =
        let same : t.block ≡ b = ap taken_block e in
        ap (touched_sound w.state.chosen w.cells) (sym same)
        ∙ (passed R.Damaged (touched_sound w.state.chosen w.cells t.block) _ left evals bytes g).0
    front (Err why) g b l h u e = let z : ◌≡◌ {A = ℕ} 0 1 = cc in absurd (omega arith)

-- a test that passes refuses nothing
unless_not : (t : Bool) (why : Refusal) (rest : StepEnd) → t ≡ true → unless why t rest ≡ rest
unfolding unless
unless_not t why rest e = cond_yes t _ _ e

-- with room, and no damaged cell in a touched tile, a step with a table is one without
pub as_plain : (tape : Bool) (room : ℕ) (w : World) (vs : List ℕ) → room_for_tiles w.state.chosen room ≡ true → TouchedFine w
    → tiled_step_with tape room w vs ≡ step_with tape w vs
unfolding tiled_step_with step_with tiled_after_taking after_taking
as_plain tape room w vs enough fine =
    ap
    (λ (rest : StepEnd). unless R.Damaged (sound_record (length w.ring) w.state)
    (unless R.Cells (leb (pixel_count w.state.chosen) (length w.cells)) rest))
    (unless_not (room_for_tiles w.state.chosen room) R.Table _ enough
    ∙ ap (unless R.Empty (ltb w.state.taken w.state.queued)) (front (front_of w.state w.ring) refl))
  where
    front : (t : Result Taken QueueError) → front_of w.state w.ring ≡ t → tiled_after_taking tape w vs t ≡ after_taking tape w vs t
    front (Ok t) e = unless_not (touched_sound w.state.chosen w.cells t.block) R.Damaged _ (fine t.block t.last t.head t.used e)
    front (Err why) e = refl

-- a step on a tape is one on the verdicts that it takes
pub tiled_tape_step : (room : ℕ) (w : World) (tape : List ℕ) (left : World) (evals bytes : ℕ) → tiled_tape_step_of room w tape ≡ finished left evals bytes
    → tiled_step_of room w (take bytes tape) ≡ finished left evals bytes
tiled_tape_step room w tape left evals bytes e =
    let g = table_taken true room w tape left evals bytes e in
    as_plain false room w (take bytes tape) g.room_enough g.touched ∙ tape_step w tape left evals bytes g.plain

-- THE TABLE THAT IT LEAVES

-- the touched tiles recounted by what the step left, of the picture that it was given
pub table_is : (room : ℕ) (w : World) (t vs : List ℕ) (left : World) (evals bytes : ℕ) → tiled_step_of room w vs ≡ finished left evals bytes
    → (b : Block) (last : Last) (head used : ℕ) → front_of w.state w.ring ≡ front_taken b last head used
    → table_after w t (finished left evals bytes)
    ≡ recounted_under w.state.chosen.width w.state.chosen.height (covered_by w.state.chosen b) left.state.taken (meanings left.cells) t
unfolding table_after
table_is room w t vs left evals bytes e b last head used front =
    ap (λ (k : Result Taken QueueError). table_taking k left t) front
    ∙ ap (λ (p : Chosen). recounted_under p.width p.height (covered_by p b) left.state.taken (meanings left.cells) t)
    (step_stays false w vs left evals bytes (table_taken false room w vs left evals bytes e).plain).chosen

-- a number beyond the tiles' is of no tile
beyond_tiles : (n j : ℕ) → 4 * n ≤ j → ltb (j / 4) n ≡ false
beyond_tiles n j h = le-ltb (j / 4) n (omega arith)

-- a tile's numbers come before the next tile's
pub within_tiles : (n i k room : ℕ) → i < n → k < 4 → 4 * n ≤ room → 4 * i + k < room
within_tiles n i k room h l e = omega arith

module _ (w : World) (t vs : List ℕ) (left : World) (evals bytes : ℕ) (e : tiled_step_of (length t) w vs ≡ finished left evals bytes)
    (b : Block) (last : Last) (head used : ℕ) (front : front_of w.state w.ring ≡ front_taken b last head used) where
  abbrev p : Chosen
  p = w.state.chosen

  left_kept : (j : ℕ) → touches p.width p.height (covered_by p b) (j / 4) ≡ false → get_or (table_after w t (finished left evals bytes)) j 0 ≡ get_or t j 0
  left_kept j away =
      ap (λ (m : List ℕ). get_or m j 0) (table_is (length t) w t vs left evals bytes e b last head used front)
      ∙ number_kept (touches p.width p.height (covered_by p b)) p.width p.height left.state.taken (meanings left.cells) t j away

  -- of a tile that the block does not touch no number changes
  pub untouched_kept : (i k : ℕ) → touches p.width p.height (covered_by p b) i ≡ false → k < 4
      → get_or (table_after w t (finished left evals bytes)) (4 * i + k) 0 ≡ get_or t (4 * i + k) 0
  untouched_kept i k away h = left_kept (4 * i + k) (ap (touches p.width p.height (covered_by p b)) (number_tile i k h) ∙ away)

  -- none beyond the tiles
  pub beyond_kept : (j : ℕ) → 4 * tile_count p.width p.height ≤ j → get_or (table_after w t (finished left evals bytes)) j 0 ≡ get_or t j 0
  unfolding touches
  beyond_kept j h = left_kept j (rw (beyond_tiles (tile_count p.width p.height) j h))

  -- of a touched tile all are counted
  pub touched_counted : (i k : ℕ) → touches p.width p.height (covered_by p b) i ≡ true → k < 4
      → get_or (table_after w t (finished left evals bytes)) (4 * i + k) 0
      ≡ tile_number (tile_tally p.width p.height left.state.taken (meanings left.cells) i) k
  touched_counted i k on h =
      let enough = leb-true (4 * tile_count p.width p.height) (length t) (table_taken false (length t) w vs left evals bytes e).room_enough in
      ap (λ (m : List ℕ). get_or m (4 * i + k) 0) (table_is (length t) w t vs left evals bytes e b last head used front)
      ∙ number_counted (touches p.width p.height (covered_by p b)) p.width p.height left.state.taken (meanings left.cells) t i k h
      (within_tiles (tile_count p.width p.height) i k (length t) (touched_bounds p.width p.height (covered_by p b) i on).tile h enough) on

-- whatever it held before
pub touched_alike : (w : World) (t u vs : List ℕ) (left : World) (evals bytes : ℕ) → tiled_step_of (length t) w vs ≡ finished left evals bytes
    → (b : Block) (last : Last) (head used : ℕ) → front_of w.state w.ring ≡ front_taken b last head used → length u ≡ length t → (i k : ℕ)
    → touches w.state.chosen.width w.state.chosen.height (covered_by w.state.chosen b) i ≡ true → k < 4
    → get_or (table_after w u (finished left evals bytes)) (4 * i + k) 0 ≡ get_or (table_after w t (finished left evals bytes)) (4 * i + k) 0
touched_alike w t u vs left evals bytes e b last head used front same i k on h =
    touched_counted w u vs left evals bytes (ap (λ (n : ℕ). tiled_step_of n w vs) same ∙ e) b last head used front i k on h
    ∙ sym (touched_counted w t vs left evals bytes e b last head used front i k on h)

-- ANY NUMBER OF STEPS

pub steps_plain : {n : ℕ} {w w' : World} {t t' : List ℕ} → TiledSteps n w t w' t' → Steps n w w'
steps_plain no_tiled_steps = no_steps
steps_plain (then_tiled_step {w' = w'} {w'' = w''} {t' = t'} r vs evals bytes e k) =
    then_step (steps_plain r) vs evals bytes (table_taken false (length t') w' vs w'' evals bytes e).plain
steps_plain (then_tiled_move r m) = then_move (steps_plain r) m

-- a table stays as long as it was
pub steps_long : {n : ℕ} {w w' : World} {t t' : List ℕ} → TiledSteps n w t w' t' → length t' ≡ length t
steps_long no_tiled_steps = refl
steps_long (then_tiled_step {w' = w'} {w'' = w''} {t' = t'} r vs evals bytes e k) =
    ap length k ∙ table_length w' t' (finished w'' evals bytes) ∙ steps_long r
steps_long (then_tiled_move r m) = steps_long r

-- steps after steps
pub tiled_follow : {n m : ℕ} {w w' w'' : World} {t t' t'' : List ℕ} (k : ℕ) → k ≡ n + m → TiledSteps n w t w' t' → TiledSteps m w' t' w'' t''
    → TiledSteps k w t w'' t''
tiled_follow {n} k h r no_tiled_steps = let f : k ≡ n = omega arith in rw f r
tiled_follow {n} k h r (then_tiled_step {n = m} s vs evals bytes e g) =
    let f : k ≡ suc (n + m) = omega arith in
    let all = tiled_follow (n + m) refl r s in
    rw f (then_tiled_step all vs evals bytes e g)
tiled_follow k h r (then_tiled_move s m) = then_tiled_move (tiled_follow k h r s) m

-- THE SETUP

-- with room it is the one without a table
pub setup_same : (p : Chosen) (r : Ranges) (ring cells : List ℕ) (room : ℕ) → room_for_tiles p room ≡ true
    → (tiled_setup_answer p r (length ring) (length cells) room ≡ setup_answer p r (length ring) (length cells))
    × (tiled_ring_begun p r ring (length cells) room ≡ ring_begun p r ring cells)
    × (tiled_cells_begun p r (length ring) cells room ≡ cells_begun p r ring cells)
unfolding tiled_setup_answer tiled_setup_refusal tiled_ring_begun tiled_cells_begun setup_answer setup_refusal ring_begun cells_begun
setup_same p r ring cells room enough = rw enough (refl, refl, refl)

refused_not : {P : Type 0} (why : Refusal) (s : State) → ◌≡◌ {A = Result State Refusal} (Err why) (Ok s) → P
refused_not why s e = let z : ◌≡◌ {A = ℕ} 0 1 = cc in absurd (omega arith)

-- refused, it leaves the table
pub setup_keeps : (p : Chosen) (r : Ranges) (ring cells table : List ℕ) (why : Refusal)
    → tiled_setup_answer p r (length ring) (length cells) (length table) ≡ Err why → table_begun p r (length ring) cells table ≡ table
unfolding tiled_setup_answer tiled_setup_refusal table_begun
setup_keeps p r ring cells table why e =
    cases (legal_side p.width && legal_side p.height)
    (λ i. cases (leb (pixel_count p) (length cells))
    (λ j. cases (room_for_tiles p (length table))
    (λ m. cases (ranges_legal p.set r)
    (λ k. cases (leb (length (first_bytes p r)) (length ring))
    (λ l. refused_not why (start_record p r (length ring)) (sym (rw (i, j, m, k, l) at e)))
    (λ l. rw (i, j, m, k, l)))
    (λ k. rw (i, j, m, k)))
    (λ m. rw (i, j, m)))
    (λ j. rw (i, j)))
    (λ i. rw i)

-- an answer with a record: the setup without a table is accepted too, and the record, the ring, the cells and the table are the starting ones
pub record TableBegins (p : Chosen) (r : Ranges) (ring cells table : List ℕ) (s : State) : Type 0 where
  pub plain : setup_answer p r (length ring) (length cells) ≡ Ok s
  pub ring_is : tiled_ring_begun p r ring (length cells) (length table) ≡ ring_begun p r ring cells
  pub cells_are : tiled_cells_begun p r (length ring) cells (length table) ≡ cells_begun p r ring cells
  pub room_enough : room_for_tiles p (length table) ≡ true
  pub state : s ≡ start_record p r (length ring)
  pub begun_as_started : cells_begun p r ring cells ≡ start_cells p r cells
  pub table_is_counted : table_begun p r (length ring) cells table ≡ table_of p 0 (start_cells p r cells) table

pub table_begins : (p : Chosen) (r : Ranges) (ring cells table : List ℕ) (s : State)
    → tiled_setup_answer p r (length ring) (length cells) (length table) ≡ Ok s → TableBegins p r ring cells table s
unfolding tiled_setup_answer tiled_setup_refusal tiled_ring_begun tiled_cells_begun table_begun setup_answer setup_refusal ring_begun cells_begun
table_begins p r ring cells table s e =
    cases (legal_side p.width && legal_side p.height)
    (λ i. cases (leb (pixel_count p) (length cells))
    (λ j. cases (room_for_tiles p (length table))
    (λ m. cases (ranges_legal p.set r)
    (λ k. cases (leb (length (first_bytes p r)) (length ring))
    (λ l. (let h : Ok (start_record p r (length ring)) ≡ Ok s = rw (i, j, m, k, l) at e in
    let g : start_record p r (length ring) ≡ s = cc in
    record {
      plain = rw (i, j, k, l) h;
      ring_is = rw (i, j, m, k, l);
      cells_are = rw (i, j, m, k, l);
      room_enough = m;
      state = sym g;
      begun_as_started = rw (i, j, k, l);
      table_is_counted = rw (i, j, m, k, l);
    }))
    (λ l. refused_not _ s (rw (i, j, m, k, l) at e)))
    (λ k. refused_not _ s (rw (i, j, m, k) at e)))
    (λ m. refused_not _ s (rw (i, j, m) at e)))
    (λ j. refused_not _ s (rw (i, j) at e)))
    (λ i. refused_not _ s (rw i at e))

module _ (a : Asked) (table : List ℕ) {w : World} {t : List ℕ} (z : TiledBegunAs a table w t) where
  begun_with : TableBegins a.chosen a.ranges a.ring a.cells table w.state
  begun_with =
      table_begins a.chosen a.ranges a.ring a.cells table w.state
      (ready_by_number (tiled_setup_answer a.chosen a.ranges (length a.ring) (length a.cells) (length table)) w.state z.accepted z.state)

  pub begun_plain : BegunAs a w
  begun_plain =
      let b = begun_with in
      record {
        accepted = ap setup_number b.plain;
        state = ap setup_state b.plain;
        ring = z.ring ∙ b.ring_is;
        cells = z.cells ∙ b.cells_are;
        held = z.held;
      }

  -- the table had room
  pub begun_room : room_for_tiles a.chosen (length table) ≡ true
  begun_room = begun_with.room_enough

  -- and has it after any number of steps
  pub steps_room : {n : ℕ} {v : World} {u : List ℕ} → TiledSteps n w t v u → room_for_tiles a.chosen (length u) ≡ true
  steps_room r =
      let b = begun_with in
      let long : length t ≡ length table = ap length (z.table_left ∙ b.table_is_counted) ∙ recount_length _ _ _ _ _ table in
      ap (room_for_tiles a.chosen) (steps_long r ∙ long) ∙ b.room_enough

  -- it equals a recount
  pub begun_recount : EqualsRecount a.chosen w t
  unfolding EqualsRecount start_record
  begun_recount =
      let b = begun_with in
      let taken : w.state.taken ≡ 0 = ap (λ (s : State). s.taken) b.state in
      let cells : w.cells ≡ start_cells a.chosen a.ranges a.cells = z.cells ∙ b.cells_are ∙ b.begun_as_started in
      rw (taken, cells, z.table_left ∙ b.table_is_counted)
      (recounted_twice a.chosen.width a.chosen.height 0 (meanings (start_cells a.chosen a.ranges a.cells)) table)
