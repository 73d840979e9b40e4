-- An accepted setup begins the invariant, with its first blocks queued; and it is `theory`'s accepted setup. Assumes nothing.
use mathlib.Core.Path.{◌≡◌, refl, sym, ap, ◌∙◌}
use mathlib.Core.Bool.{true, ◌&&◌}
use mathlib.Core.List.{List, [], ◌∷◌}
use Prim.Native.Nat.{ℕ, ◌-◌, ◌≤◌, ◌<◌}
use native.Mathlib.Omega.{arith}
use native.Mathlib.Nat.{zero-add}
use lib.Dec.{T, leb, ltb}
use lib.ListN.{length}
use lib.ListN as L
use borrow.Author.Tests.{lt-ltb, ne_eqb}
use Rattle.std.specs.Prelude.{Result, Ok, Err}
use Rattle.refusal.specs.declared.Refusal.{Refusal}
use Rattle.base.proofs.Test.{cases, and_both, ≡→T}
use Rattle.base.specs.Lists.{Every}
use Rattle.base.proofs.ListLaws.{every_also}
use Rattle.theory.specs.Runs.{AcceptedSetup}
use Rattle.image.specs.declared.Op.TheVariants as O
use Rattle.image.specs.Cell.{Named, meanings, meaning_of, done_to, nameable, is_damaged}
use Rattle.image.specs.Range.{cell_index, whole_picture, picture_ready}
use Rattle.image.specs.Painting.{paintable, pixel_cell}
use Rattle.image.proofs.RangeLaws.{cell_below, whole_holds}
use Rattle.image.proofs.PaintLaws.{painted_meanings, painted_inside, painted_cells_length}
use Rattle.coordinate.proofs.Covering.{covers1}
use Rattle.queue.specs.declared.Block.{Block}
use Rattle.queue.specs.declared.Last.{Last}
use Rattle.queue.specs.Block.{starting_last}
use Rattle.queue.specs.Ring.{content}
use Rattle.queue.specs.Queue.{queue_codes, memory}
use Rattle.queue.proofs.RoundTrip.{CanQueue}
use Rattle.queue.proofs.RingLaws.{content_length, content_store}
use Rattle.queue.proofs.KeptLaws.{known_start}
use Rattle.queue.proofs.QueueLaws.{BytesHold, holds_none, holds_append, codes_some}
use Rattle.decide.specs.declared.Chosen.{Chosen}
use Rattle.decide.specs.Damage.{legal_side, undamaged}
use Rattle.implicit.specs.declared.state.State.{State}
use Rattle.implicit.specs.declared.state.Ranges.{Ranges}
use Rattle.implicit.specs.Record.{pixel_count}
use Rattle.implicit.specs.Setup.{first_blocks, first_bytes, ranges_legal, setup_refusal, start_record, start_ring, start_cells, setup_answer, ring_begun, cells_begun}
use Rattle.implicit.specs.Step.{World, world_of}
use Rattle.implicit.proofs.RecordLaws.{SoundRecord, record_sound, sound_last_lem, starting_sound, whole_ready}
use Rattle.implicit.proofs.SetupLawsFirst.{legal_ranges}
use Rattle.implicit.proofs.SetupLawsBlocks.{RangesHeld, FirstBlock, first_blocks_lem, first_count, first_can, first_undamaged, first_covers}
use Rattle.implicit.proofs.SetupLawsRefusal.{Accepted, accepted}
use Rattle.implicit.proofs.SetupLawsStart.{length_start}
use Rattle.promises.specs.Chart.{Pixel, covers_in}
use Rattle.promises.proofs.Snapshots.{standing, standing_at, snapshot_of}
use Rattle.promises.proofs.Covering.{covers_as}
use Rattle.promises.proofs.Remembered.{starting_put, memory_sound}
use Rattle.promises.proofs.Invariant.{Keeps, keeps_queue}

-- WHAT AN ANSWER TELLS

-- an answer with a record: the setup was accepted, and the record, the ring and the cells are the starting ones
pub record Begins (p : Chosen) (r : Ranges) (ring cells : List ℕ) (s : State) : Type 0 where
  pub passed : Accepted p r (length ring) (length cells)
  pub state : s ≡ start_record p r (length ring)
  pub ring_is : ring_begun p r ring cells ≡ start_ring p r ring
  pub cells_are : cells_begun p r ring cells ≡ start_cells p r cells

refused_not : {P : Type 0} (why : Refusal) (s : State) → ◌≡◌ {A = Result State Refusal} (Err why) (Ok s) → P
refused_not why s e = let z : ◌≡◌ {A = ℕ} 0 1 = cc in absurd (omega arith)

pub begins : (p : Chosen) (r : Ranges) (ring cells : List ℕ) (s : State) → setup_answer p r (length ring) (length cells) ≡ Ok s → Begins p r ring cells s
unfolding setup_answer setup_refusal ring_begun cells_begun
begins p r ring cells s e =
    cases (legal_side p.width && legal_side p.height)
    (λ i. cases (leb (pixel_count p) (length cells))
    (λ j. cases (ranges_legal p.set r)
    (λ k. cases (leb (length (first_bytes p r)) (length ring))
    (λ l. (let h : Ok (start_record p r (length ring)) ≡ Ok s = rw (i, j, k, l) at e in
    let g : start_record p r (length ring) ≡ s = cc in
    record { passed = accepted p r (length ring) (length cells) (rw (i, j, k, l)); state = sym g; ring_is = rw (i, j, k, l); cells_are = rw (i, j, k, l) }))
    (λ l. refused_not _ s (rw (i, j, k, l) at e)))
    (λ k. refused_not _ s (rw (i, j, k) at e)))
    (λ j. refused_not _ s (rw (i, j) at e)))
    (λ i. refused_not _ s (rw i at e))

-- THE INVARIANT AT THE START

codes_more : (set : ℕ) (last : Last) (q : List Block) → 1 ≤ length q → 0 < length (queue_codes set last q)
codes_more set last [] h = absurd (omega arith)
codes_more set last (b ∷ q) h = codes_some set last b q

empty_list : (l : List ℕ) → length l ≡ 0 → l ≡ []
empty_list [] e = refl
empty_list (n ∷ l) e = absurd (omega arith)

module _ (p : Chosen) (r : Ranges) (ring cells : List ℕ) (held : RangesHeld r) (ok : Accepted p r (length ring) (length cells)) where
  abbrev start : World
  start = world_of (start_record p r (length ring)) (start_ring p r ring) (start_cells p r cells)

  each_first : Every (FirstBlock p) (first_blocks p r)
  each_first = first_blocks_lem p r held ok.ranges

  some_bytes : 0 < length (first_bytes p r)
  unfolding first_bytes
  some_bytes = codes_more p.set starting_last (first_blocks p r) (first_count p r held ok.ranges).0

  all_undamaged : Every (λ b. undamaged p b ≡ true) (first_blocks p r)
  all_undamaged =
      every_also (FirstBlock p) (λ b. undamaged p b ≡ true) (λ b f. first_undamaged p b f ok.width_some ok.width_most ok.height_some ok.height_most) (first_blocks p r)
      (first_blocks_lem p r held ok.ranges)

  -- the bytes are written from byte 0
  start_content : content (start_ring p r ring) 0 (length (first_bytes p r)) ≡ first_bytes p r
  unfolding start_ring
  start_content =
      let some : 0 < length ring = omega (arith, some_bytes, ok.room) in
      let none : content ring 0 0 ≡ [] = empty_list (content ring 0 0) (content_length ring 0 0 (omega arith) (omega arith)) in
      let e = content_store (first_bytes p r) ring 0 0 some (rw (zero-add (length (first_bytes p r))) ok.room) in
      rw (lt-ltb 0 (length ring) some, none, zero-add (length (first_bytes p r))) at e

  start_holds : BytesHold p.set starting_last (memory starting_last (first_blocks p r)) (content (start_ring p r ring) 0 (length (first_bytes p r))) (first_blocks p r)
  start_holds =
      rw start_content
      (unfold first_bytes in holds_append (first_blocks p r) (holds_none p.set starting_last known_start)
      (every_also (FirstBlock p) (CanQueue p.set) (first_can p) (first_blocks p r) (first_blocks_lem p r held ok.ranges)))

  ring_length : length (start_ring p r ring) ≡ length ring
  ring_length = length_start p r ring (start_ring p r ring) refl

  start_record_lem : SoundRecord (length ring) (start_record p r (length ring))
  unfolding start_record
  start_record_lem =
      let n = first_count p r held ok.ranges in
      let b = some_bytes in
      record {
        chosen = record { width_some = ok.width_some; width_most = ok.width_most; height_some = ok.height_some; height_most = ok.height_most; set_most = (legal_ranges p.set r ok.ranges).set_most };
        order = omega arith;
        numbers = omega (arith, n.1);
        ring = refl;
        head = omega (arith, ok.room);
        used = ok.room;
        empty = ne_eqb (length (first_bytes p r)) 0 (λ e. omega arith) ∙ sym (ne_eqb 0 (length (first_blocks p r)) (λ e. omega (arith, n.0)));
        front = sound_last_lem starting_last starting_sound;
        back = sound_last_lem (memory starting_last (first_blocks p r)) (memory_sound p starting_last (first_blocks p r) starting_sound all_undamaged);
      }

  -- every pixel's cell names the last block
  start_cell : (x y : ℕ) → x < p.width → y < p.height
      → pixel_cell p.width p.height x y (meanings (start_cells p r cells)) ≡ Named (length (first_blocks p r) - 1)
  unfolding start_cells paintable nameable done_to
  start_cell x y h k =
      let n = first_count p r held ok.ranges in
      let whole = whole_picture p.width p.height in
      let op = O.Fill (length (first_blocks p r) - 1) in
      let small : ltb (length (first_blocks p r) - 1) 4294967296 ≡ true = lt-ltb (length (first_blocks p r) - 1) 4294967296 (omega arith) in
      let done : picture_ready p.width p.height whole (length cells) && ltb (length (first_blocks p r) - 1) 4294967296 ≡ true =
      and_both _ _ (whole_ready p (length cells) ok.cells) small in
      let below = cell_below p.width p.height x y h k in
      ap (pixel_cell p.width p.height x y) (painted_meanings p.width p.height whole op cells done)
      ∙ painted_inside p.width whole op (meanings cells) (cell_index p.width p.height x y) (Named 0)
      (rw (L.length-map cells meaning_of) (omega (arith, ok.cells, below))) (whole_holds p.width p.height (cell_index p.width p.height x y) below)

  pub start_keeps : Keeps start (first_blocks p r)
  unfolding start_record
  start_keeps =
      record {
        record_is_sound = rw ring_length (record_sound (length ring) (start_record p r (length ring)) start_record_lem);
        enough = unfold start_cells in rw (painted_cells_length p.width p.height (whole_picture p.width p.height) (O.Fill (length (first_blocks p r) - 1)) cells) ok.cells;
        holds = start_holds;
        count = zero-add (length (first_blocks p r));
        undamaged_all = all_undamaged;
        whole = λ x y h k. unfold is_damaged in ap is_damaged (start_cell x y h k);
        front_put = starting_put;
      }

  -- it is an accepted setup there
  pub start_accepted : AcceptedSetup (covers_in p) (snapshot_of p start)
  start_accepted =
      let is = keeps_queue start (first_blocks p r) start_keeps in
      record {
        none_taken = unfold start_record in refl;
        some_block = rw is (first_count p r held ok.ranges).0;
        cover_all = rw is (every_also (FirstBlock p) (λ b. (q : Pixel p) → T (covers_in p b q)) covers_all (first_blocks p r) each_first);
        name_last = λ q. rw is (unfold standing_at standing in ap standing (start_cell q.x q.y q.x_in q.y_in));
      }
    where
      covers_all : (b : Block) → FirstBlock p b → (q : Pixel p) → T (covers_in p b q)
      covers_all b f q =
          let c = first_covers p b f ok.width_most ok.height_most q.x q.y q.x_in q.y_in in
          ≡→T (covers_as p b q (rw (f.x, f.y)) ∙ and_both (covers1 b.x.rank b.x.index q.x) (covers1 b.y.rank b.y.index q.y) c.0 c.1)
