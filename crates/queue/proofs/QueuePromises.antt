-- What the queue promises, each law under what it says: the page to open after specs/. The words are those of
-- specs/; each proof stands in the module cited. `BytesHold set front back bytes q` (QueueLaws) says that bytes are
-- the codes of the blocks q, the first against `front`, each other against the one before, that `back` is what is
-- remembered after the last, and that each of q comes out as it went in. A block or a memory of f64s is asked for
-- where bounds are spelled out: those of the code are. Assumes nothing.
use Rattle.std.specs.Prelude.{Err}
use Rattle.queue.specs.declared.QueueError.TheVariants as Q
use Rattle.queue.specs.Queue.{front_taken, code_appended, code_measured}
use Rattle.std.specs.Prelude.{Some, None}
use mathlib.Core.Path.{◌≡◌, ap}
use mathlib.Core.Logic.{◌⊎◌, ◌↔◌}
use mathlib.Core.Bool.{true, false, ◌&&◌}
use mathlib.Core.List.{List, [], ◌∷◌, ◌++◌}
use Prim.Native.Nat.{ℕ, suc, ◌+◌, ◌-◌, ◌≤◌, ◌<◌}
use lib.IntN.{pos, negsuc}
use lib.Signed.{le_z}
use lib.ListN.{length, get_or, drop}
use mir.Syntax.{w8}
use mir.Val.{to_z, of_z}
use Rattle.coordinate.specs.Axis.{level}
use Rattle.interval.specs.Bounds.{InFormat}
use Rattle.queue.specs.declared.Block.{Block}
use Rattle.queue.specs.declared.Last.{Last}
use Rattle.queue.specs.declared.directions.Direction.{Direction}
use Rattle.queue.specs.Ring.{content, fits_ring, wrapped, stored, stored_behind}
use Rattle.queue.specs.Block.{parameter_of, recalled, as_queued, remembered}
use Rattle.queue.specs.Code.{level_byte}
use Rattle.queue.specs.Decode.{level_of, decode}
use Rattle.queue.specs.Answers.{taken_number, taken_block, taken_last, taken_head, taken_used}
use Rattle.queue.specs.Answers.{measured_number, appended_number, copied_number}
use Rattle.queue.specs.Queue.{taken, codable, code_of_kept, measured, appended, appended_ring, copied, copied_ring}
use Rattle.queue.specs.Queue.{queue_of}
use Rattle.queue.proofs.RingLaws.{content_store, content_take, stored_other}
use Rattle.queue.proofs.LevelBytes.{byte_of_level, level_of_byte, no_level_of_byte}
use Rattle.queue.proofs.NumberLaws.{take_is_0, take_is_8, take_gives, append_is_0, append_is_6, append_is_8}
use Rattle.queue.proofs.NumberLaws.{append_gives, refused_stays, measure_is_0, measure_gives, measure_is_8}
use Rattle.queue.proofs.NumberLaws.{take_by_content}
use Rattle.queue.proofs.CopyLaws.{copy_is_0, copy_is_6, copy_is_8, copy_refused, copy_content}
use Rattle.queue.proofs.QueueLaws.{BytesHold, kept_round, queue_is, take_first, take_queue, take_none}
use Rattle.queue.proofs.QueueLaws.{take_frees, append_holds, append_queue, append_fills, append_stores}

-- ---- Document 01's number of each answer, and what an answer of 0 holds

module _ (ring : List ℕ) (head used set : ℕ) (front : Last) where
  -- take: 0 exactly if head and use fit the ring and the bytes used start with a block's code
  pub take_zero_exactly : (taken_number (taken ring head used set front) ≡ 0)
      ↔ ((fits_ring (length ring) head used ≡ true)
      × ((b : Block) × (count : ℕ) × (decode set front (content ring head used) ≡ Some (b, count))))
  take_zero_exactly = take_is_0 ring head used set front

  -- and then it is that block, what is remembered of it, and the head and the use behind its bytes
  pub take_value : (b : Block) (count : ℕ) → fits_ring (length ring) head used ≡ true
      → decode set front (content ring head used) ≡ Some (b, count)
      → taken ring head used set front ≡ front_taken b (remembered b) (wrapped (length ring) (head + count)) (used - count)
  take_value = take_gives ring head used set front

  -- the same by its values
  pub take_values : (b : Block) (count : ℕ) → fits_ring (length ring) head used ≡ true
      → decode set front (content ring head used) ≡ Some (b, count)
      → (taken_block (taken ring head used set front) ≡ b) × (taken_last (taken ring head used set front) ≡ remembered b)
      × (taken_head (taken ring head used set front) ≡ wrapped (length ring) (head + count))
      × (taken_used (taken ring head used set front) ≡ used - count)
  take_values b count fits read =
      let e = take_gives ring head used set front b count fits read in
      (ap taken_block e, ap taken_last e, ap taken_head e, ap taken_used e)

  -- 8 exactly if they do not fit, or the bytes do not decode
  pub take_eight_exactly : (taken_number (taken ring head used set front) ≡ 8)
      ↔ ((fits_ring (length ring) head used ≡ false) ⊎ (decode set front (content ring head used) ≡ None))
  take_eight_exactly = take_is_8 ring head used set front

  -- no byte past those used plays a part: a ring as long that holds the same bytes has the same answer
  pub take_looks_at_used : (other : List ℕ) → length ring ≡ length other
      → content ring head used ≡ content other head used
      → taken ring head used set front ≡ taken other head used set front
  take_looks_at_used = take_by_content ring head used set front

module _ (ring : List ℕ) (head used set : ℕ) (back : Last) (b : Block) where
  -- append: 0 exactly if head and use fit the ring, the block can be coded, and its code's bytes have room behind
  -- those used
  pub append_zero_exactly : (appended_number (appended (length ring) head used set back b) ≡ 0)
      ↔ ((fits_ring (length ring) head used ≡ true) × (codable set back b ≡ true)
      × (used + length (code_of_kept set back b) ≤ length ring))
  append_zero_exactly = append_is_0 (length ring) head used set back b

  -- and then it is what is remembered of the block as kept, and the use with its bytes
  pub append_value : fits_ring (length ring) head used ≡ true → codable set back b ≡ true
      → used + length (code_of_kept set back b) ≤ length ring
      → appended (length ring) head used set back b
      ≡ code_appended (remembered (as_queued set b)) (used + length (code_of_kept set back b))
  append_value = append_gives (length ring) head used set back b

  -- with its code stored behind the bytes used
  pub append_bytes : (last : Last) (used₁ : ℕ) → appended (length ring) head used set back b ≡ code_appended last used₁
      → appended_ring ring head used set back b ≡ stored_behind ring head used (code_of_kept set back b)
  append_bytes = append_stores ring head used set back b

  -- 6 exactly if all is well but the room
  pub append_six_exactly : (appended_number (appended (length ring) head used set back b) ≡ 6)
      ↔ ((fits_ring (length ring) head used ≡ true) × (codable set back b ≡ true)
      × (length ring < used + length (code_of_kept set back b)))
  append_six_exactly = append_is_6 (length ring) head used set back b

  -- 8 exactly if head and use do not fit, or the block cannot be coded
  pub append_eight_exactly : (appended_number (appended (length ring) head used set back b) ≡ 8)
      ↔ ((fits_ring (length ring) head used ≡ false) ⊎ (codable set back b ≡ false))
  append_eight_exactly = append_is_8 (length ring) head used set back b

  -- a refusal changes no byte
  pub append_refused_keeps : ¬ (appended_number (appended (length ring) head used set back b) ≡ 0)
      → appended_ring ring head used set back b ≡ ring
  append_refused_keeps = refused_stays ring head used set back b

module _ (set : ℕ) (back : Last) (b : Block) where
  -- measure: 0 exactly if the block can be coded
  pub measure_zero_exactly : (measured_number (measured set back b) ≡ 0) ↔ (codable set back b ≡ true)
  measure_zero_exactly = measure_is_0 set back b

  -- and then it is the length of the code that append would store, and the memory that it would answer
  pub measure_value : codable set back b ≡ true
      → measured set back b ≡ code_measured (length (code_of_kept set back b)) (remembered (as_queued set b))
  measure_value = measure_gives set back b

  -- 8 exactly if it cannot
  pub measure_eight_exactly : (measured_number (measured set back b) ≡ 8) ↔ (codable set back b ≡ false)
  measure_eight_exactly = measure_is_8 set back b

module _ (ring : List ℕ) (head used : ℕ) (other : List ℕ) where
  -- copy: 0 exactly if head and use fit the ring, and byte 0 and the use the other
  pub copy_zero_exactly : (copied_number (copied (length ring) head used (length other)) ≡ 0)
      ↔ ((fits_ring (length ring) head used ≡ true) × (fits_ring (length other) 0 used ≡ true))
  copy_zero_exactly = copy_is_0 ring head used other

  -- 6 exactly if all is well but the other's room
  pub copy_six_exactly : (copied_number (copied (length ring) head used (length other)) ≡ 6)
      ↔ ((fits_ring (length ring) head used ≡ true) × (fits_ring (length other) 0 used ≡ false))
  copy_six_exactly = copy_is_6 ring head used other

  -- 8 exactly if head and use do not fit the ring
  pub copy_eight_exactly : (copied_number (copied (length ring) head used (length other)) ≡ 8)
      ↔ (fits_ring (length ring) head used ≡ false)
  copy_eight_exactly = copy_is_8 ring head used other

  -- a refusal changes no byte
  pub copy_refused_keeps : ¬ (copied_number (copied (length ring) head used (length other)) ≡ 0)
      → copied_ring ring head used other ≡ other
  copy_refused_keeps = copy_refused ring head used other

-- ---- Bytes

-- "level as one byte": the two's complement of document 01's level, k, which is the rank less 48
pub level_written : (rank : ℕ) → rank < 64 → level_byte rank ≡ of_z w8 (level rank)
level_written = byte_of_level

-- a byte is read as the level whose two's complement it is
pub level_read_back : (byte rank : ℕ) → byte < 256 → level_of byte ≡ Some rank → level rank ≡ to_z w8 byte
level_read_back = level_of_byte

-- and is damage exactly if that is none of -32 to 15 (`negsuc 31` is -32)
pub level_unread : (byte : ℕ) → byte < 256
    → (level_of byte ≡ None) ↔ (le_z (negsuc 31) (to_z w8 byte) && le_z (to_z w8 byte) (pos 15) ≡ false)
level_unread = no_level_of_byte

-- decode after encode: the code of a block that can be coded, whatever follows it, is read as the block, its used
-- parameters put
pub decode_after_encode : (set : ℕ) (last : Last) (b : Block) (rest : List ℕ) → codable set last b ≡ true
    → ((d : Direction) → InFormat (parameter_of b d))
    → ((d : Direction) → InFormat (recalled last d))
    → decode set last (code_of_kept set last b ++ rest) ≡ Some (as_queued set b, length (code_of_kept set last b))
decode_after_encode = kept_round

-- content after storing: what the ring held, then the bytes stored, if there is room
pub content_after_storing : (bytes ring : List ℕ) (head used : ℕ) → head < length ring
    → used + length bytes ≤ length ring
    → content (stored_behind ring head used bytes) head (used + length bytes) ≡ content ring head used ++ bytes
content_after_storing = content_store

-- content after taking: what the ring held, without the bytes passed
pub content_after_taking : (ring : List ℕ) (head used count : ℕ) → head < length ring → used ≤ length ring
    → count ≤ used
    → content ring (wrapped (length ring) (head + count)) (used - count) ≡ drop count (content ring head used)
content_after_taking = content_take

-- content after copying: the other ring holds the same bytes, so that it decodes to the same blocks
pub content_after_copying : (ring : List ℕ) (head used : ℕ) (other : List ℕ) → fits_ring (length ring) head used ≡ true
    → fits_ring (length other) 0 used ≡ true
    → content (copied_ring ring head used other) 0 used ≡ content ring head used
content_after_copying = copy_content

-- storing from p on, round the end, leaves the byte at i as it was if none of the bytes comes to lie there
pub others_stay : (bytes ring : List ℕ) (p i : ℕ) → p < length ring → i < length ring → (p ≤ i → p + length bytes ≤ i)
    → (i < p → p + length bytes ≤ length ring + i)
    → get_or (stored ring p bytes) i 0 ≡ get_or ring i 0
others_stay = stored_other

-- ---- The queue

-- what is queued comes out equal: bytes that hold q decode to q
pub queue_comes_out : (q : List Block) {set : ℕ} {front back : Last} {bytes : List ℕ}
    → BytesHold set front back bytes q → queue_of set front (length q) bytes ≡ q
queue_comes_out = queue_is

module _ (ring : List ℕ) (head used set : ℕ) (fits : fits_ring (length ring) head used ≡ true) where
  -- append appends: where the ring held q, it decodes to q and then the block as kept, once append is done
  pub append_appends : {front back : Last} {q : List Block} (b : Block) (last : Last) (used₁ : ℕ)
      → BytesHold set front back (content ring head used) q
      → ((d : Direction) → InFormat (parameter_of b d)) → appended (length ring) head used set back b ≡ code_appended last used₁
      → queue_of set front (length q + 1) (content (appended_ring ring head used set back b) head used₁)
      ≡ q ++ (as_queued set b ∷ [])
  append_appends = append_queue ring head used set fits

  -- and holds that, for the memory that append answers
  pub append_keeps_holding : {front back : Last} {q : List Block} (b : Block) (last : Last) (used₁ : ℕ)
      → BytesHold set front back (content ring head used) q
      → ((d : Direction) → InFormat (parameter_of b d)) → appended (length ring) head used set back b ≡ code_appended last used₁
      → BytesHold set front last (content (appended_ring ring head used set back b) head used₁)
      (q ++ (as_queued set b ∷ []))
  append_keeps_holding = append_holds ring head used set fits

  -- the ring keeps its length, and the use grows, to that length at most
  pub append_stays_inside : (back : Last) (b : Block) (last : Last) (used₁ : ℕ)
      → appended (length ring) head used set back b ≡ code_appended last used₁
      → (length (appended_ring ring head used set back b) ≡ length ring) × (used < used₁) × (used₁ ≤ length ring)
  append_stays_inside = append_fills ring head used set fits

  -- take removes the first: where the ring held b and then q, take answers b, and what is left decodes to q
  pub take_removes : {front back : Last} {b : Block} {q : List Block}
      → BytesHold set front back (content ring head used) (b ∷ q)
      → (head₁ : ℕ) × (used₁ : ℕ) × (taken ring head used set front ≡ front_taken b (remembered b) head₁ used₁)
      × (queue_of set (remembered b) (length q) (content ring head₁ used₁) ≡ q)
  take_removes = take_queue ring head used set fits

  -- whatever the bytes: what take answers is the first of what they decode to, and the rest is what they decode to
  -- afterwards
  pub take_is_first : (front : Last) (b : Block) (last : Last) (head₁ used₁ n : ℕ)
      → taken ring head used set front ≡ front_taken b last head₁ used₁
      → queue_of set front (suc n) (content ring head used) ≡ b ∷ queue_of set last n (content ring head₁ used₁)
  take_is_first = take_first ring head used set fits

  -- the head taken stays under the ring's length, and the use shrinks
  pub take_stays_inside : (front : Last) (b : Block) (last : Last) (head₁ used₁ : ℕ)
      → taken ring head used set front ≡ front_taken b last head₁ used₁
      → (head₁ < length ring) × (used₁ < used)
  take_stays_inside = take_frees ring head used set fits

  -- an empty queue has no front
  pub take_of_none : {front back : Last} → BytesHold set front back (content ring head used) []
      → taken ring head used set front ≡ Err Q.Damaged
  take_of_none = take_none ring head used set fits
