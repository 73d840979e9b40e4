-- A step with a table is the step without it, once what it touches is known; and the table afterwards. Assumes nothing.
use Rattle.queue.specs.declared.QueueError.{QueueError}
use Rattle.queue.specs.Queue.{front_taken}
use mathlib.Core.Path.{◌≡◌, refl, sym, ap, ◌∙◌}
use mathlib.Core.Bool.{Bool, true, false}
use mathlib.Core.List.{List}
use Prim.Native.Nat.{ℕ}
use native.Mathlib.Omega.{arith}
use lib.Dec.{leb, ltb}
use lib.ListN.{length}
use Rattle.std.specs.Prelude.{Result, Err, Ok}
use Rattle.refusal.specs.declared.Refusal.{Refusal}
use Rattle.refusal.specs.declared.Refusal.TheVariants as R
use Rattle.image.specs.declared.PixelRange.{PixelRange}
use Rattle.image.specs.Range.{picture_ready}
use Rattle.image.proofs.BlockLaws.{rectangle_ready}
use Rattle.tiles.specs.Tiles.{table_enough, recountable, table_recounted}
use Rattle.queue.specs.declared.Block.{Block}
use Rattle.queue.specs.declared.Last.{Last}
use Rattle.queue.specs.declared.Taken.{Taken}
use Rattle.implicit.specs.declared.state.Refused.{Refused}
use Rattle.implicit.specs.declared.state.Finished.{Finished}
use Rattle.implicit.specs.Record.{refused_unless, pixel_count, sound_record}
use Rattle.implicit.specs.Listing.{front_of}
use Rattle.implicit.specs.Step.{World, StepEnd, refused, finished, unless, after_taking, step_with, EndsAs}
use Rattle.implicit.specs.Tiled.{room_for_tiles, covered_by, touched_sound, tiled_after_taking, tiled_step_with, table_after, TiledEndsAs}
use Rattle.implicit.specs.TiledComputed.{touch_block, touch_taken, touch_front, touch_of}
use Rattle.implicit.proofs.StepLawsWent.{passed, step_stays}

-- REFUSED BEFORE THE STEP

-- one test of a chain: where it fails both are refused by its number, where it passes the rest decides
same_refusal : (t : Bool) (x : Result PixelRange Refusal) (y : StepEnd) (number why : Refusal) → (x ≡ Err why → y ≡ refused why)
    → refused_unless (Err number) t x ≡ Err why → unless number t y ≡ refused why
unfolding unless
same_refusal true x y number why f e = f e
same_refusal false x y number why f e = let k : number ≡ why = cc in ap refused k

pub tiled_refused : (tape : Bool) (room : ℕ) (w : World) (vs : List ℕ) (why : Refusal) → touch_of room w ≡ Err why
    → tiled_step_with tape room w vs ≡ refused why
unfolding touch_of touch_front touch_block tiled_step_with tiled_after_taking
tiled_refused tape room w vs why =
    same_refusal (sound_record (length w.ring) w.state) _ _ R.Damaged why
    (same_refusal (leb (pixel_count w.state.chosen) (length w.cells)) _ _ R.Cells why
    (same_refusal (room_for_tiles w.state.chosen room) _ _ R.Table why
    (same_refusal (ltb w.state.taken w.state.queued) _ _ R.Empty why (go (front_of w.state w.ring)))))
  where
    go : (t : Result Taken QueueError) → touch_taken w.state.chosen w.cells t ≡ Err why → tiled_after_taking tape w vs t ≡ refused why
    go (Ok t) e =
        same_refusal (touched_sound w.state.chosen w.cells t.block) (Ok (covered_by w.state.chosen t.block)) _ R.Damaged why
        (λ f. let z : ◌≡◌ {A = ℕ} 0 1 = cc in absurd (omega arith)) e
    go (Err error) e = let k : R.Damaged ≡ why = cc in ap refused k

-- NOT REFUSED BEFORE IT

-- what is known once a step touches these pixels: all that is tested before the step's own refusals has passed, and they are what its block covers
pub record Touches (room : ℕ) (w : World) (r : PixelRange) : Type 0 where
  pub block : Block
  pub last : Last
  pub head : ℕ
  pub used : ℕ
  pub record_sound : sound_record (length w.ring) w.state ≡ true
  pub enough : leb (pixel_count w.state.chosen) (length w.cells) ≡ true
  pub table_is_enough : room_for_tiles w.state.chosen room ≡ true
  pub not_empty : ltb w.state.taken w.state.queued ≡ true
  pub front : front_of w.state w.ring ≡ front_taken block last head used
  pub tiles_sound : touched_sound w.state.chosen w.cells block ≡ true
  pub pixels : r ≡ covered_by w.state.chosen block

test_passed : (t : Bool) (x : Result PixelRange Refusal) (number : Refusal) (r : PixelRange) → refused_unless (Err number) t x ≡ Ok r → (t ≡ true) × (x ≡ Ok r)
test_passed true x number r e = (refl, e)
test_passed false x number r e = let z : ◌≡◌ {A = ℕ} 0 1 = cc in absurd (omega arith)

pub touch_known : (room : ℕ) (w : World) (r : PixelRange) → touch_of room w ≡ Ok r → Touches room w r
unfolding touch_of touch_front touch_block
touch_known room w r e =
    let a = test_passed (sound_record (length w.ring) w.state) _ R.Damaged r e in
    let b = test_passed (leb (pixel_count w.state.chosen) (length w.cells)) _ R.Cells r a.1 in
    let c = test_passed (room_for_tiles w.state.chosen room) _ R.Table r b.1 in
    let d = test_passed (ltb w.state.taken w.state.queued) _ R.Empty r c.1 in
    go a.0 b.0 c.0 d.0 (front_of w.state w.ring) refl d.1
  where
    go : sound_record (length w.ring) w.state ≡ true → leb (pixel_count w.state.chosen) (length w.cells) ≡ true
        → room_for_tiles w.state.chosen room ≡ true → ltb w.state.taken w.state.queued ≡ true
        → (t : Result Taken QueueError) → front_of w.state w.ring ≡ t → touch_taken w.state.chosen w.cells t ≡ Ok r → Touches room w r
    go a b c d (Ok t) f e =
        let s = test_passed (touched_sound w.state.chosen w.cells t.block) _ R.Damaged r e in
        record {
          block = t.block;
          last = t.last;
          head = t.head;
          used = t.used;
          record_sound = a;
          enough = b;
          table_is_enough = c;
          not_empty = d;
          front = f;
          tiles_sound = s.0;
          pixels = (let k : covered_by w.state.chosen t.block ≡ r = (let m = s.1 in cc) in sym k);
        }
    go a b c d (Err why) f e = let z : ◌≡◌ {A = ℕ} 0 1 = cc in absurd (omega arith)

module _ (room : ℕ) (w : World) (r : PixelRange) (known : Touches room w r) where
  -- then the step is the one without a table
  pub touched_plain : (tape : Bool) (vs : List ℕ) → tiled_step_with tape room w vs ≡ step_with tape w vs
  unfolding tiled_step_with step_with tiled_after_taking unless
  touched_plain tape vs =
      let k = known in
      rw (k.record_sound, k.enough, k.table_is_enough, k.not_empty, k.front, k.tiles_sound)

  -- and the tiles recounted under these pixels are the table afterwards
  pub touched_table : (tape : Bool) (vs table : List ℕ) (left : World) (e n : ℕ) → length table ≡ room → step_with tape w vs ≡ finished left e n
      → table_recounted left.state.chosen.width left.state.chosen.height r left.state.taken left.cells table
      ≡ table_after w table (finished left e n)
  unfolding table_recounted recountable table_after
  touched_table tape vs table left e n long h =
      let k = known in
      let s = step_stays tape w vs left e n h in
      let p = w.state.chosen in
      let ready : picture_ready p.width p.height (covered_by p k.block) (length left.cells) ≡ true =
      rectangle_ready k.block.x k.block.y p.width p.height (length left.cells) ∙ ap (leb (pixel_count p)) s.cells ∙ k.enough in
      let long_enough : table_enough p.width p.height (length table) ≡ true = ap (table_enough p.width p.height) long ∙ k.table_is_enough in
      rw (s.chosen, k.pixels, k.front, ready, long_enough)

-- THE STEP'S ANSWER

pub step_tiled : (tape : Bool) (w : World) (table vs : List ℕ) (r : PixelRange) (f : Finished) (ring' cells' table' : List ℕ)
    → touch_of (length table) w ≡ Ok r → EndsAs w (step_with tape w vs) (Ok f) ring' cells'
    → table' ≡ table_recounted f.state.chosen.width f.state.chosen.height r f.state.taken cells' table
    → TiledEndsAs w table (tiled_step_with tape (length table) w vs) (Ok f) ring' cells' table'
unfolding table_after
step_tiled tape w table vs r f ring' cells' table' e h g =
    let k = touch_known (length table) w r e in
    rw (touched_plain (length table) w r k tape vs) (go (step_with tape w vs) refl h)
  where
    go : (s : StepEnd) → step_with tape w vs ≡ s → EndsAs w s (Ok f) ring' cells' → TiledEndsAs w table s (Ok f) ring' cells' table'
    go (refused why) i j = let k = j.0 in let z : ◌≡◌ {A = ℕ} 0 1 = cc in absurd (omega arith)
    go (finished left evals bytes) i j =
        let l = j.0 in
        let same : f ≡ record { state = left.state; evaluations = evals; verdicts = bytes } = cc in (
          j,
          g ∙ ap (λ (x : Finished). table_recounted x.state.chosen.width x.state.chosen.height r x.state.taken cells' table) same
              ∙ ap (λ (l : List ℕ). table_recounted left.state.chosen.width left.state.chosen.height r left.state.taken l table) j.2
              ∙ touched_table (length table) w r (touch_known (length table) w r e) tape vs table left evals bytes refl i,
        )

-- a step that is refused without a table is refused with it, and its table stays
pub step_tiled_refused : (tape : Bool) (w : World) (table vs : List ℕ) (r : PixelRange) (f : Refused) (ring' cells' : List ℕ)
    → touch_of (length table) w ≡ Ok r → EndsAs w (step_with tape w vs) (Err f) ring' cells'
    → TiledEndsAs w table (tiled_step_with tape (length table) w vs) (Err f) ring' cells' table
unfolding table_after
step_tiled_refused tape w table vs r f ring' cells' e h =
    rw (touched_plain (length table) w r (touch_known (length table) w r e) tape vs) (go (step_with tape w vs) h)
  where
    go : (s : StepEnd) → EndsAs w s (Err f) ring' cells' → TiledEndsAs w table s (Err f) ring' cells' table
    go (refused why) j = (j, refl)
    go (finished left evals bytes) j = let k = j.0 in let z : ◌≡◌ {A = ℕ} 0 1 = cc in absurd (omega arith)

pub step_untouched : (tape : Bool) (w : World) (table vs : List ℕ) (why : Refusal) → touch_of (length table) w ≡ Err why
    → TiledEndsAs w table (tiled_step_with tape (length table) w vs) (Err (record { why = why; state = w.state })) w.ring w.cells table
unfolding table_after
step_untouched tape w table vs why e = rw (tiled_refused tape (length table) w vs why e) ((refl, refl, refl), refl)

-- a step that is finished with a table is finished without it, and leaves the same
pub finished_plain : (tape : Bool) (room : ℕ) (w : World) (vs : List ℕ) (left : World) (e n : ℕ) → tiled_step_with tape room w vs ≡ finished left e n
    → step_with tape w vs ≡ finished left e n
unfolding tiled_step_with step_with tiled_after_taking unless
finished_plain tape room w vs left e n h =
    let a = passed R.Damaged (sound_record (length w.ring) w.state) _ left e n h in
    let b = passed R.Cells (leb (pixel_count w.state.chosen) (length w.cells)) _ left e n a.1 in
    let c = passed R.Table (room_for_tiles w.state.chosen room) _ left e n b.1 in
    let d = passed R.Empty (ltb w.state.taken w.state.queued) _ left e n c.1 in
    goes a.0 b.0 d.0 (front_of w.state w.ring) refl d.1
  where
    goes : sound_record (length w.ring) w.state ≡ true → leb (pixel_count w.state.chosen) (length w.cells) ≡ true
        → ltb w.state.taken w.state.queued ≡ true → (t : Result Taken QueueError) → front_of w.state w.ring ≡ t
        → tiled_after_taking tape w vs t ≡ finished left e n → step_with tape w vs ≡ finished left e n
    goes x y z (Ok t) f g =
        rw (x, y, z, f) (passed R.Damaged (touched_sound w.state.chosen w.cells t.block) (after_taking tape w vs (Ok t)) left e n g).1
    goes x y z (Err why) f g = let u : ◌≡◌ {A = ℕ} 0 1 = cc in absurd (omega arith)
