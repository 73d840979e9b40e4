-- What a step with a table is about to touch, by the tests that the code makes. Assumes nothing.
use Rattle.queue.specs.declared.QueueError.{QueueError}
use mathlib.Core.Path.{◌≡◌, sym, ap, ◌∙◌, refl}
use mathlib.Core.Bool.{Bool, true, false, not, cond, false≢true}
use mathlib.Core.List.{List}
use Prim.Native.Nat.{ℕ, ◌*◌, ◌≤◌, ◌<◌}
use lib.Dec.{leb, ltb}
use lib.ListN.{length}
use borrow.Author.Tests.{leb-true, le-leb, lt-leb, lt-ltb, le-ltb}
use Rattle.std.specs.Prelude.{Result, Ok, Err, Option, Some, None}
use Rattle.std.specs.Option.{unwrap_or}
use Rattle.base.proofs.Test.{cond_yes}
use Rattle.refusal.specs.declared.Refusal.TheVariants as R
use Rattle.refusal.specs.declared.Refusal.{Refusal}
use Rattle.image.specs.declared.PixelRange.{PixelRange}
use Rattle.image.specs.Cell.{is_damaged}
use Rattle.image.specs.Painting.{some_of}
use Rattle.image.proofs.RangeLaws.{rectangle_in_picture}
use Rattle.tiles.specs.Tiles.{touched_damaged}
use Rattle.queue.specs.declared.Block.{Block}
use Rattle.queue.specs.declared.Taken.{Taken}
use Rattle.queue.proofs.QueueAnswers.{denied, granted}
use Rattle.decide.specs.declared.Chosen.{Chosen}
use Rattle.implicit.specs.declared.state.State.{State}
use Rattle.implicit.specs.Record.{pixel_count, pixel_cells, sound_record}
use Rattle.implicit.specs.Listing.{front_of}
use Rattle.implicit.specs.Step.{World, finished, step_with}
use Rattle.implicit.specs.View.{cells_sound}
use Rattle.implicit.specs.Tiled.{room_for_tiles, covered_by, none_seen}
use Rattle.implicit.specs.TiledComputed.{CleanIf, looked_over, touch_block, touch_taken, touch_front, touch_of}
use Rattle.implicit.proofs.StepLawsWent.{step_stays}
use Rattle.implicit.proofs.CellsWhole.{whole_touched, looked_whole, whole_looked, step_whole}

-- BY THE BLOCK

-- by what is seen of the touched tiles
pub block_touch : (p : Chosen) (cells : List ℕ) (b : Block) (r : PixelRange) (s : Option Bool) (t : Bool) → r ≡ covered_by p b
    → s ≡ touched_damaged p.width p.height r cells → t ≡ unwrap_or s true → cond t (Err R.Damaged) (Ok r) ≡ touch_block p cells b
unfolding touch_block
block_touch p cells b r s t e f g = rw (← e, ← f, g) (go s)
  where
    go : (s : Option Bool) → ◌≡◌ {A = Result PixelRange Refusal} (cond (unwrap_or s true) (Err R.Damaged) (Ok r)) (cond (none_seen s) (Ok r) (Err R.Damaged))
    go (Some true) = refl
    go (Some false) = refl
    go None = refl

-- where the pixels' cells are clean, nothing is to be seen
pub block_clean : (clean : Bool) (p : Chosen) (cells : List ℕ) (b : Block) (r : PixelRange) → CleanIf clean p cells → clean ≡ true → r ≡ covered_by p b
    → Ok r ≡ touch_block p cells b
unfolding touch_block
block_clean clean p cells b r k e f =
    let h = k e in
    let none = whole_touched p (covered_by p b) cells (rectangle_in_picture b.x b.y p.width p.height) h.0 (looked_whole p cells h.0 h.1) in
    rw (none, f)

-- no cells are called clean that were not looked over
pub never_clean : (p : Chosen) (cells : List ℕ) → CleanIf false p cells
never_clean p cells e = absurd (false≢true e)

-- whether they are to be looked over, by the tests that the code makes
module _ (budget : ℕ) (s : State) (cells : List ℕ) (n : ℕ) (is_n : n ≡ pixel_count s.chosen) where
  pub not_looked : 256 * budget < n → false ≡ looked_over budget s cells
  not_looked h = rw (lt-leb (pixel_count s.chosen) (256 * budget) (rw is_n at h))

  pub looked : n ≤ 256 * budget → (t : Bool) → t ≡ cells_sound s cells → t ≡ looked_over budget s cells
  looked h t e = rw (le-leb (pixel_count s.chosen) (256 * budget) (rw is_n at h)) e

-- those that were are
pub looked_clean : (clean : Bool) (budget : ℕ) (s : State) (cells : List ℕ) → clean ≡ looked_over budget s cells
    → leb (pixel_count s.chosen) (length cells) ≡ true → CleanIf clean s.chosen cells
looked_clean clean budget s cells e h f =
    (leb-true (pixel_count s.chosen) (length cells) h, go (leb (pixel_count s.chosen) (256 * budget)) (some_of is_damaged (pixel_cells s.chosen cells)) (sym e ∙ f))
  where
    go : (a b : Bool) → cond a (not b) false ≡ true → b ≡ false
    go true true g = absurd (false≢true g)
    go true false g = refl
    go false b g = absurd (false≢true g)

-- a step leaves clean cells clean
pub step_clean : (clean tape : Bool) (w : World) (vs : List ℕ) (left : World) (e n : ℕ) → step_with tape w vs ≡ finished left e n
    → CleanIf clean w.state.chosen w.cells → CleanIf clean left.state.chosen left.cells
step_clean clean tape w vs left e n h k c =
    let s = step_stays tape w vs left e n h in
    let q = k c in (
      rw (s.chosen, s.cells) q.0,
      whole_looked left.state.chosen left.cells (step_whole tape w vs left e n h (looked_whole w.state.chosen w.cells q.0 q.1)),
    )

-- BY THE FRONT BLOCK

pub front_empty : (w : World) → w.state.queued ≤ w.state.taken → Err R.Empty ≡ touch_front w
unfolding touch_front
front_empty w h = rw (le-ltb w.state.taken w.state.queued h)

pub front_touch : (w : World) (t : Result Taken QueueError) (a : Result PixelRange Refusal) → w.state.taken < w.state.queued → t ≡ front_of w.state w.ring
    → a ≡ touch_taken w.state.chosen w.cells t → a ≡ touch_front w
unfolding touch_front
front_touch w t a h e f =
    f ∙ ap (touch_taken w.state.chosen w.cells) e
    ∙ sym (cond_yes (ltb w.state.taken w.state.queued) _ (Err R.Empty) (lt-ltb w.state.taken w.state.queued h))

-- BY THE RECORD

module _ (room : ℕ) (w : World) (t : Bool) (is_t : t ≡ sound_record (length w.ring) w.state) where
  pub touch_damaged : not t ≡ true → Err R.Damaged ≡ touch_of room w
  unfolding touch_of
  touch_damaged h = let u : sound_record (length w.ring) w.state ≡ false = sym is_t ∙ denied t h in rw u

  module _ (h : not t ≡ false) (n : ℕ) (is_n : n ≡ pixel_count w.state.chosen) where
    sound : sound_record (length w.ring) w.state ≡ true
    sound = sym is_t ∙ granted t h

    pub touch_short : length w.cells < n → Err R.Cells ≡ touch_of room w
    unfolding touch_of
    touch_short k = rw (sound, lt-leb (pixel_count w.state.chosen) (length w.cells) (rw is_n at k))

    module _ (k : n ≤ length w.cells) (m : Bool) (is_m : m ≡ room_for_tiles w.state.chosen room) where
      enough : leb (pixel_count w.state.chosen) (length w.cells) ≡ true
      enough = le-leb (pixel_count w.state.chosen) (length w.cells) (rw is_n at k)

      pub touch_table : not m ≡ true → Err R.Table ≡ touch_of room w
      unfolding touch_of
      touch_table g = rw (sound, enough, sym is_m ∙ denied m g)

      pub touch_goes : not m ≡ false → (a : Result PixelRange Refusal) → a ≡ touch_front w → a ≡ touch_of room w
      unfolding touch_of
      touch_goes g a e = rw (sound, enough, sym is_m ∙ granted m g) e
