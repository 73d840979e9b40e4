-- A move keeps the invariant with the same blocks, and leaves the same snapshot to `theory`: `move_keeps`, a case for each way to move. What stands on it looks
-- into no move. Assumes nothing.
use mathlib.Core.Path.{◌≡◌, refl, sym, ap, ◌∙◌}
use mathlib.Core.Logic.{◌⊎◌, inl, inr}
use mathlib.Core.Bool.{Bool, true, false, ◌&&◌}
use mathlib.Core.List.{List, [], ◌∷◌}
use Prim.Native.Nat.{ℕ, ◌≤◌, ◌<◌}
use native.Mathlib.Omega.{arith}
use native.Mathlib.Nat.{zero-add}
use lib.Dec.{leb, ltb}
use lib.ListN.{length}
use borrow.Author.Tests.{lt-ltb, le-ltb, le-leb, lt-leb, ltb-true, leb-true}
use Rattle.base.proofs.Test.{cases, and_left, and_right, and_both}
use Rattle.refusal.specs.declared.Refusal.{Refusal}
use Rattle.refusal.specs.declared.Refusal.TheVariants as R
use Rattle.image.specs.Cell.{meanings}
use Rattle.queue.specs.declared.Block.{Block}
use Rattle.queue.specs.Ring.{content, stored}
use Rattle.queue.proofs.RingLaws.{content_length, content_store, length_stored}
use Rattle.decide.specs.declared.Chosen.{Chosen}
use Rattle.implicit.specs.Record.{refused_unless, sound_record}
use Rattle.implicit.specs.Step.{World}
use Rattle.implicit.specs.Move.{moved_record, moved_world, not_moved, moved, move_of}
use Rattle.implicit.proofs.RecordLaws.{SoundRecord, sound_record_lem, record_sound}
use Rattle.promises.specs.Chart.{queued_blocks}
use Rattle.promises.specs.Steps.{MovesTo, to_ring}
use Rattle.promises.proofs.Snapshots.{snapshot_of}
use Rattle.promises.proofs.Invariant.{Keeps, keeps_queue}

-- what is kept where the blocks q are queued: the invariant with these blocks, what was chosen, what the cells mean, the blocks taken and the bytes used
pub record Kept (w : World) (q : List Block) (w' : World) : Type 0 where
  pub keeps : Keeps w' q
  pub chosen : w'.state.chosen ≡ w.state.chosen
  pub meanings : meanings w'.cells ≡ meanings w.cells
  pub taken : w'.state.taken ≡ w.state.taken
  pub used : w'.state.used ≡ w.state.used

-- TO ANOTHER RING

-- bytes stored from byte 0 on are what the ring then holds
stored_first : (ring bytes : List ℕ) → 0 < length ring → length bytes ≤ length ring → content (stored ring 0 bytes) 0 (length bytes) ≡ bytes
stored_first ring bytes some room =
    let none : content ring 0 0 ≡ [] = empty_list (content ring 0 0) (content_length ring 0 0 (omega arith) (omega arith)) in
    let e = content_store bytes ring 0 0 some (rw (zero-add (length bytes)) room) in
    rw (lt-ltb 0 (length ring) some, none, zero-add (length bytes)) at e
  where
    empty_list : (l : List ℕ) → length l ≡ 0 → l ≡ []
    empty_list [] e = refl
    empty_list (n ∷ l) e = absurd (omega arith)

module _ (w : World) (ring : List ℕ) (q : List Block) (k : Keeps w q) (some : 0 < length ring) (room : w.state.used ≤ length ring) where
  abbrev bytes : List ℕ
  bytes = content w.ring w.state.head w.state.used

  facts : SoundRecord (length w.ring) w.state
  facts = sound_record_lem (length w.ring) w.state k.record_is_sound

  bytes_used : length bytes ≡ w.state.used
  bytes_used = content_length w.ring w.state.head w.state.used (omega (arith, facts.head)) facts.used

  pub moved_content : content (stored ring 0 bytes) 0 w.state.used ≡ bytes
  moved_content = ap (content (stored ring 0 bytes) 0) (sym bytes_used) ∙ stored_first ring bytes some (rw bytes_used room)

  moved_record_lem : SoundRecord (length (stored ring 0 bytes)) (moved_record w.state (length ring))
  unfolding moved_record
  moved_record_lem =
      let n = length_stored bytes ring 0 in
      let f = facts in
      record {
        chosen = f.chosen;
        order = f.order;
        numbers = f.numbers;
        ring = sym n;
        head = rw n some;
        used = rw n room;
        empty = f.empty;
        front = f.front;
        back = f.back;
      }

  pub ring_kept : Kept w q (moved_world w ring)
  unfolding moved_world moved_record
  ring_kept = record {
    keeps = record {
      record_is_sound = record_sound (length (stored ring 0 bytes)) (moved_record w.state (length ring)) moved_record_lem;
      enough = k.enough;
      holds = rw moved_content k.holds;
      count = k.count;
      undamaged_all = k.undamaged_all;
      whole = k.whole;
      front_put = k.front_put;
    };
    chosen = refl;
    meanings = refl;
    taken = refl;
    used = refl;
  }

-- a move to a ring that was made had room there
pub record Went (w : World) (ring : List ℕ) (w' : World) : Type 0 where
  pub some : 0 < length ring
  pub room : w.state.used ≤ length ring
  pub is : w' ≡ moved_world w ring

not_moved_lem : {P : Type 0} (why : Refusal) (w : World) → not_moved why ≡ moved w → P
not_moved_lem why w e = let z : ◌≡◌ {A = ℕ} 0 1 = cc in absurd (omega arith)

pub went : (w : World) (ring : List ℕ) (w' : World) → move_of w ring ≡ moved w' → Went w ring w'
unfolding move_of
went w ring w' e =
    let has = ltb 0 (length ring) in
    let fits = leb w.state.used (length ring) in
    cases (sound_record (length w.ring) w.state)
    (λ i. cases (ltb 0 (length ring) && leb w.state.used (length ring))
    (λ j. (let h : moved (moved_world w ring) ≡ moved w' = rw (i, j) at e in
    let g : moved_world w ring ≡ w' = cc in
    record {
      some = ltb-true 0 (length ring) (and_left has fits j);
      room = leb-true w.state.used (length ring) (and_right has fits j);
      is = sym g;
    }))
    (λ j. not_moved_lem _ w' (rw (i, j) at e)))
    (λ i. not_moved_lem _ w' (rw i at e))

-- a ring with a byte and room for the bytes used is taken,
pub ring_taken : (w : World) (ring : List ℕ) (q : List Block) → Keeps w q → 0 < length ring → w.state.used ≤ length ring
    → move_of w ring ≡ moved (moved_world w ring)
unfolding move_of
ring_taken w ring q k some room =
    let has = lt-ltb 0 (length ring) some in
    let fits = le-leb w.state.used (length ring) room in
    rw (k.record_is_sound, and_both (ltb 0 (length ring)) (leb w.state.used (length ring)) has fits)

-- and any other refused by 6
pub ring_refused : (w : World) (ring : List ℕ) (q : List Block) → Keeps w q → (length ring ≡ 0) ⊎ (length ring < w.state.used)
    → move_of w ring ≡ not_moved R.Room
unfolding move_of
ring_refused w ring q k (inl none) = rw (k.record_is_sound, le-ltb 0 (length ring) (omega arith))
ring_refused w ring q k (inr short) = rw (k.record_is_sound, lt-leb w.state.used (length ring) short) (neither (ltb 0 (length ring)))
  where
    neither : (t : Bool) → refused_unless (not_moved R.Room) (t && false) (moved (moved_world w ring)) ≡ not_moved R.Room
    neither true = refl
    neither false = refl

-- ANY MOVE

pub move_keeps : {w w' : World} → MovesTo w w' → (q : List Block) → Keeps w q → Kept w q w'
move_keeps {w} {w'} (to_ring ring e) q k = let g = went w ring w' e in rw g.is (ring_kept w ring q k g.some g.room)

-- the same blocks are queued,
pub kept_queue : (w : World) (q : List Block) (w' : World) → Keeps w q → Kept w q w' → queued_blocks w' ≡ queued_blocks w
kept_queue w q w' k m = keeps_queue w' q m.keeps ∙ sym (keeps_queue w q k)

-- and to `theory` it is the same
pub kept_same : (p : Chosen) (w : World) (q : List Block) (w' : World) → Keeps w q → Kept w q w' → snapshot_of p w ≡ snapshot_of p w'
kept_same p w q w' k m = rw (kept_queue w q w' k m, m.meanings, m.taken)
