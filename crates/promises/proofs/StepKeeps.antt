-- A finished step keeps the invariant: what it takes and what it leaves, in terms of the blocks that wait. Assumes nothing.
use Rattle.queue.specs.Queue.{front_taken}
use Rattle.queue.specs.Answers.{taken_block, taken_last, taken_head, taken_used}
use mathlib.Core.Path.{◌≡◌, sym, ap, ◌∙◌}
use mathlib.Core.Bool.{true, false}
use mathlib.Core.List.{List, [], ◌∷◌, ◌++◌}
use Prim.Native.Nat.{ℕ, ◌+◌, ◌-◌, ◌*◌, ◌^◌, ◌≤◌, ◌<◌}
use native.Mathlib.Omega.{arith}
use lib.Dec.{leb, ltb, eqb}
use lib.ListN.{length, length-append}
use lib.ListN as L
use lib.Seq.{take_all}
use borrow.Author.Tests.{eqb-true, eq-eqb, le-leb, lt-ltb}
use Rattle.base.proofs.Test.{and_both, and_right, both_ways, by_ltb}
use Rattle.base.specs.Lists.{Every}
use Rattle.base.proofs.ListLaws.{every_also, every_append}
use Rattle.image.specs.Cell.{meanings, meaning_of}
use Rattle.queue.specs.declared.Block.{Block}
use Rattle.queue.specs.declared.Last.{Last}
use Rattle.queue.specs.Block.{remembered}
use Rattle.queue.specs.Ring.{content, fits_ring, wrapped, stored_behind}
use Rattle.queue.specs.Queue.{queue_codes, memory}
use Rattle.queue.proofs.RoundTrip.{CanQueue}
use Rattle.queue.proofs.RingLaws.{length_stored, content_store}
use Rattle.queue.proofs.QueueLaws.{BytesHold, holds_append, used_none, none_used}
use Rattle.decide.specs.Damage.{undamaged, legal_chosen, sound}
use Rattle.decide.specs.Children.{children_of}
use Rattle.decide.specs.Verdict.{all_legal}
use Rattle.plan.specs.Plan.{cells_after}
use Rattle.plan.proofs.EventLaws.{queued_sound}
use Rattle.implicit.specs.Record.{put_last}
use Rattle.implicit.specs.Step.{World, finished, outcomes_of, events_of, new_blocks, new_bytes, world_left, step_of}
use Rattle.implicit.proofs.RecordLaws.{SoundRecord, sound_record_lem, record_sound, sound_last_lem, last_sound, remembered_sound, put_last_sound}
use Rattle.implicit.proofs.StepLawsWent.{went, step_stays}
use Rattle.promises.proofs.CellsKept.{meanings_coded, codes_back, coded_after, whole_after}
use Rattle.promises.proofs.Remembered.{Put, remembered_put, memory_put, memory_sound}
use Rattle.promises.proofs.Invariant.{Keeps, size, head', used', front_is, size_in, rest_holds, block_sound_lem}

-- WHAT A FINISHED STEP TOOK

pub record TookFront (w : World) (c : Block) (rest : List Block) (k : Keeps w (c ∷ rest)) (vs : List ℕ) (left : World) : Type 0 where
  pub verdicts : length vs ≡ length (children_of w.state.chosen c)
  pub legal : all_legal (children_of w.state.chosen c) vs ≡ true
  pub numbers : w.state.queued + length (new_blocks w c vs) ≤ 2 ^ 32
  pub room : used' w c rest k + length (new_bytes w c vs) ≤ length w.ring
  pub left_is : left ≡ world_left w c (remembered c) (head' w c rest k) (used' w c rest k) vs
  pub cells_stay : length left.cells ≡ length w.cells

pub took_front : (w : World) (c : Block) (rest : List Block) (k : Keeps w (c ∷ rest)) (vs : List ℕ) (left : World) (evals bytes : ℕ)
    → step_of w vs ≡ finished left evals bytes → TookFront w c rest k vs left
took_front w c rest k vs left evals bytes e =
    let g = went false w vs left evals bytes e in
    let f : front_taken g.block g.last g.head g.used ≡ front_taken c (remembered c) (head' w c rest k) (used' w c rest k) = sym g.front_read ∙ front_is w c rest k in
    let b : g.block ≡ c = ap taken_block f in
    let l : g.last ≡ remembered c = ap taken_last f in
    let h : g.head ≡ head' w c rest k = ap taken_head f in
    let u : g.used ≡ used' w c rest k = ap taken_used f in
    let n : length vs ≡ length (children_of w.state.chosen c) = eqb-true (length vs) (length (children_of w.state.chosen c)) (rw b at g.enough) in
    let o : g.own ≡ vs = g.own_is ∙ take_all (length (children_of w.state.chosen g.block)) vs (rw b (omega arith)) in
    record {
      verdicts = n;
      legal = rw (b, o) at g.legal;
      numbers = rw (b, o) at g.numbers;
      room = rw (b, o, u) at g.room;
      left_is = rw (b, l, h, u, o) at g.leaves;
      cells_stay = (step_stays false w vs left evals bytes e).cells;
    }

-- WHAT IT LEAVES

module _ (w : World) (c : Block) (rest : List Block) (k : Keeps w (c ∷ rest)) (vs : List ℕ) where
  abbrev set : ℕ
  set = w.state.chosen.set

  -- each new block is undamaged and can be queued
  new_each : Every (λ d. (sound w.state.chosen d ≡ true) × CanQueue w.state.chosen.set d) (new_blocks w c vs)
  new_each = queued_sound w.state.chosen c (block_sound_lem w c rest k) (outcomes_of w c vs) k.holds.all.0.fine

  new_undamaged : Every (λ d. undamaged w.state.chosen d ≡ true) (new_blocks w c vs)
  new_undamaged =
      every_also (λ d. (sound w.state.chosen d ≡ true) × CanQueue w.state.chosen.set d) (λ d. undamaged w.state.chosen d ≡ true)
      (λ d h. and_right (legal_chosen w.state.chosen) (undamaged w.state.chosen d) h.0) (new_blocks w c vs) new_each

  new_can : Every (CanQueue w.state.chosen.set) (new_blocks w c vs)
  new_can =
      every_also (λ d. (sound w.state.chosen d ≡ true) × CanQueue w.state.chosen.set d) (CanQueue w.state.chosen.set) (λ d h. h.1) (new_blocks w c vs) new_each

  -- what the writer remembers is put
  back_put : Put w.state.back
  back_put = rw k.holds.back_is (memory_put w.state.chosen.set w.state.front (c ∷ rest) k.front_put k.holds.all)

  bytes_are : new_bytes w c vs ≡ queue_codes w.state.chosen.set w.state.back (new_blocks w c vs)
  bytes_are = ap (λ (l : Last). queue_codes w.state.chosen.set l (new_blocks w c vs)) back_put

  head_in : head' w c rest k < length w.ring
  head_in =
      let f = sound_record_lem (length w.ring) w.state k.record_is_sound in
      by_ltb (λ n. n < length w.ring) (w.state.head + size w c rest k) (length w.ring) (w.state.head + size w c rest k) (w.state.head + size w c rest k - length w.ring)
      (λ h. h) (λ h. omega (arith, f.head, f.used, size_in w c rest k))

  module _ (room : used' w c rest k + length (new_bytes w c vs) ≤ length w.ring) (numbers : w.state.queued + length (new_blocks w c vs) ≤ 2 ^ 32) where
    abbrev ring' : List ℕ
    ring' = stored_behind w.ring (head' w c rest k) (used' w c rest k) (new_bytes w c vs)

    abbrev left : World
    left = world_left w c (remembered c) (head' w c rest k) (used' w c rest k) vs

    ring_length : length ring' ≡ length w.ring
    ring_length = length_stored (new_bytes w c vs) w.ring (wrapped (length w.ring) (head' w c rest k + used' w c rest k))

    -- the bytes hold the rest and the new ones behind it
    pub left_holds : BytesHold w.state.chosen.set (remembered c) (memory (put_last w.state.back) (new_blocks w c vs))
        (content ring' (head' w c rest k) (used' w c rest k + length (new_bytes w c vs))) (rest ++ new_blocks w c vs)
    left_holds =
        rw (content_store (new_bytes w c vs) w.ring (head' w c rest k) (used' w c rest k) head_in room, bytes_are, back_put)
        (holds_append (new_blocks w c vs) (rest_holds w c rest k) new_can)

    left_count : w.state.taken + 1 + length (rest ++ new_blocks w c vs) ≡ w.state.queued + length (new_blocks w c vs)
    left_count = omega (arith, k.count, length-append rest (new_blocks w c vs))

    left_fits : fits_ring (length ring') (head' w c rest k) (used' w c rest k + length (new_bytes w c vs)) ≡ true
    left_fits =
        rw ring_length
        (and_both (ltb (head' w c rest k) (length w.ring)) (leb (used' w c rest k + length (new_bytes w c vs)) (length w.ring))
        (lt-ltb (head' w c rest k) (length w.ring) head_in) (le-leb (used' w c rest k + length (new_bytes w c vs)) (length w.ring) room))

    -- no byte is used exactly if no block waits
    empty_both : (used n m : ℕ) (q : List Block) {front back : Last} → fits_ring (length ring') (head' w c rest k) used ≡ true
        → BytesHold w.state.chosen.set front back (content ring' (head' w c rest k) used) q → n + length q ≡ m → eqb used 0 ≡ eqb n m
    empty_both used n m [] f h e =
        eq-eqb used 0 (none_used ring' (head' w c rest k) used w.state.chosen.set f h) ∙ sym (eq-eqb n m (omega arith))
    empty_both used n m (b ∷ q) f h e =
        both_ways (eqb used 0) (eqb n m)
        (λ t. absurd (nonempty (used_none ring' (head' w c rest k) used w.state.chosen.set f h (eqb-true used 0 t))))
        (λ t. absurd (omega (arith, eqb-true n m t)))
      where
        nonempty : ¬ (b ∷ q ≡ [])
        nonempty g = let z = ap length g in omega arith

    left_record : SoundRecord (length ring') left.state
    unfolding world_left
    left_record =
        let f = sound_record_lem (length w.ring) w.state k.record_is_sound in
        let n = ring_length in
        record {
          chosen = f.chosen;
          order = omega (arith, left_count);
          numbers = numbers;
          ring = f.ring ∙ sym ring_length;
          head = rw ring_length head_in;
          used = rw ring_length room;
          empty = empty_both (used' w c rest k + length (new_bytes w c vs)) (w.state.taken + 1) (w.state.queued + length (new_blocks w c vs)) (rest ++ new_blocks w c vs) left_fits left_holds left_count;
          front = sound_last_lem (remembered c) (remembered_sound w.state.chosen c k.undamaged_all.0);
          back = sound_last_lem (memory (put_last w.state.back) (new_blocks w c vs))
              (memory_sound w.state.chosen (put_last w.state.back) (new_blocks w c vs) (put_last_sound w.state.back ∙ last_sound w.state.back f.back) new_undamaged);
        }

    -- the cells afterwards mean what the events made of them
    pub left_cells : meanings left.cells ≡ cells_after w.state.chosen c w.state.taken w.state.queued (events_of w c vs) (meanings w.cells)
    unfolding world_left
    left_cells =
        codes_back (cells_after w.state.chosen c w.state.taken w.state.queued (events_of w c vs) (meanings w.cells))
        (coded_after w.state.chosen c w.state.taken w.state.queued (events_of w c vs) (meanings w.cells) numbers (meanings_coded w.cells))

    pub left_keeps : length left.cells ≡ length w.cells → Keeps left (rest ++ new_blocks w c vs)
    unfolding world_left
    left_keeps same =
        let enough : w.state.chosen.width * w.state.chosen.height ≤ length (meanings w.cells) = rw (L.length-map w.cells meaning_of) k.enough in
        record {
          record_is_sound = record_sound (length ring') left.state left_record;
          enough = rw same k.enough;
          holds = left_holds;
          count = left_count;
          undamaged_all = every_append (λ b. undamaged w.state.chosen b ≡ true) rest (new_blocks w c vs) k.undamaged_all.1 new_undamaged;
          whole = rw left_cells
              (whole_after w.state.chosen c w.state.taken w.state.queued (events_of w c vs) (meanings w.cells) enough k.whole);
          front_put = remembered_put w.state.chosen.set c k.holds.all.0;
        }

-- A FINISHED STEP KEEPS IT
pub step_keeps : (w : World) (c : Block) (rest : List Block) → Keeps w (c ∷ rest) → (vs : List ℕ) (left : World) (evals bytes : ℕ)
    → step_of w vs ≡ finished left evals bytes → Keeps left (rest ++ new_blocks w c vs)
step_keeps w c rest k vs left evals bytes e =
    let t = took_front w c rest k vs left evals bytes e in
    rw t.left_is (left_keeps w c rest k vs t.room t.numbers (rw t.left_is at t.cells_stay))
