-- The invariant of a world that a setup and finished steps leave: its record is sound, its bytes hold undamaged blocks, as many as are waiting, and
-- no pixel's cell is damaged. So none of the tests for damage refuses a step on it. Assumes nothing.
use Rattle.queue.specs.Queue.{front_taken}
use mathlib.Core.Path.{◌≡◌, ap}
use mathlib.Core.Bool.{Bool, true, false, not}
use mathlib.Core.List.{List, [], ◌∷◌}
use Prim.Native.Nat.{ℕ, ◌+◌, ◌-◌, ◌*◌, ◌≤◌, ◌<◌}
use native.Mathlib.Omega.{arith}
use lib.Dec.{leb, ltb}
use lib.ListN.{length, take}
use lib.ListN as L
use borrow.Author.Tests.{le-leb, lt-ltb, le-ltb}
use Rattle.base.proofs.Test.{and_both}
use Rattle.base.specs.Lists.{Every}
use Rattle.refusal.specs.declared.Refusal.TheVariants as R
use Rattle.image.specs.Cell.{Cell, meanings, meaning_of, is_damaged}
use Rattle.image.proofs.BlockLaws.{pixels_every}
use Rattle.queue.specs.declared.Block.{Block}
use Rattle.queue.specs.Block.{remembered}
use Rattle.queue.specs.Code.{encode}
use Rattle.queue.specs.Ring.{content, fits_ring, wrapped}
use Rattle.queue.proofs.QueueLaws.{BytesHold, queue_is, take_answers}
use Rattle.decide.specs.declared.Chosen.{Chosen}
use Rattle.decide.specs.Damage.{undamaged, sound, covered_cells, cell_damaged}
use Rattle.decide.specs.Children.{children_of}
use Rattle.implicit.specs.Record.{pixel_count, sound_record}
use Rattle.implicit.specs.Listing.{front_of}
use Rattle.implicit.specs.Step.{World, refused, unless, enough_verdicts, block_sound, judged, after_taking, step_with}
pub use Rattle.implicit.proofs.CellsWhole.{not_damaged}
use Rattle.implicit.proofs.RecordLaws.{SoundRecord, sound_record_lem, sound_chosen}
use Rattle.promises.specs.Chart.{queued_blocks}
use Rattle.promises.proofs.CellsKept.{PixelsWhole}
use Rattle.promises.proofs.Remembered.{Put}

-- THE INVARIANT, with the queued blocks q
pub record Keeps (w : World) (q : List Block) : Type 0 where
  pub record_is_sound : sound_record (length w.ring) w.state ≡ true
  pub enough : pixel_count w.state.chosen ≤ length w.cells
  pub holds : BytesHold w.state.chosen.set w.state.front w.state.back (content w.ring w.state.head w.state.used) q
  pub count : w.state.taken + length q ≡ w.state.queued
  pub undamaged_all : Every (λ b. undamaged w.state.chosen b ≡ true) q
  pub whole : PixelsWhole w.state.chosen (meanings w.cells)
  pub front_put : Put w.state.front

-- the queued blocks are what the bytes decode to
pub keeps_queue : (w : World) (q : List Block) → Keeps w q → queued_blocks w ≡ q
unfolding queued_blocks
keeps_queue w q k =
    let n : w.state.queued - w.state.taken ≡ length q = omega (arith, k.count) in
    rw n (queue_is q k.holds)

-- no block covers a damaged cell
pub cells_whole : (p : Chosen) (b : Block) (l : List Cell) → p.width * p.height ≤ length l → PixelsWhole p l → cell_damaged p b l ≡ false
unfolding cell_damaged
cells_whole p b l h k =
    not_damaged is_damaged (covered_cells p b l)
    (pixels_every b.x b.y p.width p.height l h (λ c. not (is_damaged c)) (λ px py i j e. ap not (k px py i j)))

-- its bytes lie in the ring
pub keeps_fits : (w : World) (q : List Block) → Keeps w q → fits_ring (length w.ring) w.state.head w.state.used ≡ true
keeps_fits w q k =
    let f : SoundRecord (length w.ring) w.state = sound_record_lem (length w.ring) w.state k.record_is_sound in
    and_both (ltb w.state.head (length w.ring)) (leb w.state.used (length w.ring))
    (lt-ltb w.state.head (length w.ring) f.head) (le-leb w.state.used (length w.ring) f.used)

-- ON A WAITING BLOCK

module _ (w : World) (c : Block) (rest : List Block) (k : Keeps w (c ∷ rest)) where
  abbrev pub size : ℕ
  size = length (encode w.state.chosen.set w.state.front c)

  abbrev pub head' : ℕ
  head' = wrapped (length w.ring) (w.state.head + length (encode w.state.chosen.set w.state.front c))

  abbrev pub used' : ℕ
  used' = w.state.used - length (encode w.state.chosen.set w.state.front c)

  pub fits : fits_ring (length w.ring) w.state.head w.state.used ≡ true
  fits = keeps_fits w (c ∷ rest) k

  taking : (front_of w.state w.ring ≡ front_taken c (remembered c) head' used') × (size ≤ w.state.used)
      × BytesHold w.state.chosen.set (remembered c) w.state.back (content w.ring head' used') rest
  taking = take_answers w.ring w.state.head w.state.used w.state.chosen.set fits k.holds

  -- the front block is read
  pub front_is : front_of w.state w.ring ≡ front_taken c (remembered c) head' used'
  front_is = taking.0

  pub size_in : size ≤ w.state.used
  size_in = taking.1

  pub rest_holds : BytesHold w.state.chosen.set (remembered c) w.state.back (content w.ring head' used') rest
  rest_holds = taking.2

  pub block_sound_lem : sound w.state.chosen c ≡ true
  block_sound_lem = and_both _ _ (sound_chosen (length w.ring) w.state k.record_is_sound) k.undamaged_all.0

  pub fine : block_sound w.state.chosen w.cells c ≡ true
  fine =
      and_both (undamaged w.state.chosen c) (not (cell_damaged w.state.chosen c (meanings w.cells))) k.undamaged_all.0
      (ap not (cells_whole w.state.chosen c (meanings w.cells) (rw (L.length-map w.cells meaning_of) k.enough) k.whole))

  -- A STEP ON IT passes all tests but those of its verdicts, of room and of numbers
  pub step_passes : (tape : Bool) (vs : List ℕ)
      → step_with tape w vs
      ≡ unless R.Verdicts (enough_verdicts tape (length (children_of w.state.chosen c)) (length vs))
      (judged w c (remembered c) head' used' (take (length (children_of w.state.chosen c)) vs))
  unfolding step_with after_taking unless
  step_passes tape vs =
      let n : w.state.taken < w.state.queued = omega (arith, k.count) in
      rw (
        k.record_is_sound,
        le-leb (pixel_count w.state.chosen) (length w.cells) k.enough,
        lt-ltb w.state.taken w.state.queued n,
        front_is,
        fine,
      )

-- ON AN EMPTY QUEUE a step is refused by 13
pub step_empty : (w : World) → Keeps w [] → (tape : Bool) (vs : List ℕ) → step_with tape w vs ≡ refused R.Empty
unfolding step_with unless
step_empty w k tape vs =
    rw (
      k.record_is_sound,
      le-leb (pixel_count w.state.chosen) (length w.cells) k.enough,
      le-ltb w.state.taken w.state.queued (omega (arith, k.count)),
    )
