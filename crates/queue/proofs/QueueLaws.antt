-- The laws that callers cite: what bytes hold, that append appends and take gives the first, and that the bytes
-- decode to it. Assumes nothing.
use Rattle.std.specs.Prelude.{Err}
use Rattle.queue.specs.declared.QueueError.TheVariants as Q
use Rattle.queue.specs.Queue.{front_taken, code_appended, code_measured}
use Rattle.std.specs.Prelude.{Some}
use mathlib.Core.Path.{◌≡◌, refl, sym, ap, ◌∙◌}
use mathlib.Core.Bool.{true}
use mathlib.Core.List.{List, [], ◌∷◌, ◌++◌, append_assoc, append-nil}
use Prim.Native.Nat.{ℕ, suc, ◌+◌, ◌-◌, ◌≤◌, ◌<◌}
use native.Mathlib.Omega.{arith}
use lib.ListN.{length, drop, length-append}
use lib.Seq.{drop_at}
use Rattle.base.proofs.Test.{by_ltb, and_left, and_right, and_both}
use Rattle.base.specs.Lists.{Every}
use Rattle.base.proofs.ListLaws.{every_append}
use Rattle.interval.specs.Bounds.{InFormat}
use Rattle.queue.specs.declared.Block.{Block}
use Rattle.queue.specs.declared.Last.{Last}
use Rattle.queue.specs.declared.directions.Direction.{Direction}
use Rattle.queue.specs.Ring.{content, fits_ring, wrapped, stored_behind}
use Rattle.queue.specs.Block.{parameter_of, recalled, as_queued, remembered}
use Rattle.queue.specs.Code.{encode, can_queue, indices_known}
use Rattle.queue.specs.Decode.{decode}
use Rattle.queue.specs.Queue.{taken, codable, code_of_kept, measured, appended, appended_ring, queue_of, queue_codes}
use Rattle.queue.specs.Queue.{memory}
use Rattle.queue.proofs.WriteLaws.{encode_length}
use Rattle.queue.proofs.RingLaws.{content_length, content_store, content_take, store_append, length_stored}
use Rattle.queue.proofs.QueueableLaws.{known_indices}
use Rattle.queue.proofs.RoundTrip.{CanQueue, Known, decode_encode}
use Rattle.queue.proofs.BlockReading.{read_takes, none_decodes}
use Rattle.queue.proofs.KeptLaws.{known_after, known_test, can_test, as_queued_is, can_queue_lem}
use Rattle.queue.proofs.QueueAnswers.{fits_both}
use Rattle.queue.proofs.NumberLaws.{taken_parts, append_gives, appended_parts}

-- bytes hold the blocks q, for a reader and a writer with these memories: they are the codes of q, and the writer
-- remembers what is left after q
pub record BytesHold (set : ℕ) (front back : Last) (bytes : List ℕ) (q : List Block) : Type 0 where
  pub bytes_are : bytes ≡ queue_codes set front q
  pub back_is : back ≡ memory front q
  pub known : Known front
  pub all : Every (CanQueue set) q

pub codes_append : (set : ℕ) (last : Last) (q r : List Block)
    → queue_codes set last (q ++ r) ≡ queue_codes set last q ++ queue_codes set (memory last q) r
unfolding queue_codes memory
codes_append set last [] r = refl
codes_append set last (b ∷ q) r =
    ap (λ (l : List ℕ). encode set last b ++ l) (codes_append set (remembered b) q r)
    ∙ sym (append_assoc (encode set last b) (queue_codes set (remembered b) q)
    (queue_codes set (memory (remembered b) q) r))

pub memory_append : (last : Last) (q r : List Block) → memory last (q ++ r) ≡ memory (memory last q) r
unfolding memory
memory_append last [] r = refl
memory_append last (b ∷ q) r = memory_append (remembered b) q r

known_memory : (set : ℕ) (last : Last) (q : List Block) → Known last → Every (CanQueue set) q → Known (memory last q)
unfolding memory
known_memory set last [] k a = k
known_memory set last (b ∷ q) k a = known_memory set (remembered b) q (known_after set b a.0) a.1

-- ---- bytes

-- an empty queue
pub holds_none : (set : ℕ) (last : Last) → Known last → BytesHold set last last [] []
unfolding queue_codes memory
holds_none set last k = record { bytes_are = refl; back_is = refl; known = k; all = tt }

-- APPENDING APPENDS
pub holds_append : {set : ℕ} {front back : Last} {bytes : List ℕ} {q : List Block} (r : List Block)
    → BytesHold set front back bytes q → Every (CanQueue set) r
    → BytesHold set front (memory back r) (bytes ++ queue_codes set back r) (q ++ r)
holds_append {set} {front} {back} {bytes} {q} r h a =
    record {
      bytes_are = rw (h.back_is, h.bytes_are) (sym (codes_append set front q r));
      back_is = rw h.back_is (sym (memory_append front q r));
      known = h.known;
      all = every_append (CanQueue set) q r h.all a;
    }

pub holds_one : {set : ℕ} {front back : Last} {bytes : List ℕ} {q : List Block} {b : Block}
    → BytesHold set front back bytes q → CanQueue set b
    → BytesHold set front (remembered b) (bytes ++ encode set back b) (q ++ (b ∷ []))
unfolding queue_codes memory
holds_one {set} {front} {back} {bytes} {q} {b} h c = one (holds_append (b ∷ []) h (c, tt))
  where
    one : BytesHold set front (memory back (b ∷ [])) (bytes ++ queue_codes set back (b ∷ [])) (q ++ (b ∷ []))
        → BytesHold set front (remembered b) (bytes ++ encode set back b) (q ++ (b ∷ []))
    one k = rw append-nil at k

-- TAKING GIVES THE FIRST, and leaves the rest
pub holds_take : {set : ℕ} {front back : Last} {bytes : List ℕ} {b : Block} {q : List Block}
    → BytesHold set front back bytes (b ∷ q)
    → (decode set front bytes ≡ Some (b, length (encode set front b)))
    × BytesHold set (remembered b) back (drop (length (encode set front b)) bytes) q
unfolding queue_codes memory
holds_take {set} {front} {back} {bytes} {b} {q} h =
    let code : List ℕ = encode set front b in
    let rest : List ℕ = queue_codes set (remembered b) q in (
      rw h.bytes_are (decode_encode set front b rest h.known h.all.0),
      record {
        bytes_are = rw h.bytes_are (drop_at code rest (length code) refl);
        back_is = h.back_is;
        known = known_after set b h.all.0;
        all = h.all.1;
      },
    )

-- DECODE AFTER ENCODE of a block that can be coded, as the queue keeps it, with any bytes behind
pub kept_round : (set : ℕ) (last : Last) (b : Block) (rest : List ℕ) → codable set last b ≡ true
    → ((d : Direction) → InFormat (parameter_of b d))
    → ((d : Direction) → InFormat (recalled last d))
    → decode set last (code_of_kept set last b ++ rest) ≡ Some (as_queued set b, length (code_of_kept set last b))
kept_round set last b rest e f g =
    let k = known_indices last (and_right (can_queue set b) (indices_known last) e) in
    decode_encode set last (as_queued set b) rest (record { x = k.0; y = k.1; format = g })
    (can_queue_lem set b (and_left (can_queue set b) (indices_known last) e) f)

-- what the writer remembers is what a block can have left
pub known_back : {set : ℕ} {front back : Last} {bytes : List ℕ} {q : List Block} → BytesHold set front back bytes q
    → Known back
known_back {set} {front} {q = q} h = rw h.back_is (known_memory set front q h.known h.all)

-- one block more of the queue
queue_step : (set : ℕ) (front : Last) (n : ℕ) (bytes : List ℕ) (b : Block) (count : ℕ)
    → decode set front bytes ≡ Some (b, count)
    → queue_of set front (suc n) bytes ≡ b ∷ queue_of set (remembered b) n (drop count bytes)
unfolding queue_of
queue_step set front n bytes b count e = rw e

-- THE BYTES DECODE TO THE BLOCKS THAT THEY HOLD
pub queue_is : (q : List Block) {set : ℕ} {front back : Last} {bytes : List ℕ} → BytesHold set front back bytes q
    → queue_of set front (length q) bytes ≡ q
queue_is [] h = unfold queue_of in refl
queue_is (b ∷ q) {set} {front} {back} {bytes} h =
    let (e, r) = holds_take h in
    queue_step set front (length q) bytes b (length (encode set front b)) e
    ∙ ap (λ (l : List Block). b ∷ l) (queue_is q r)

-- a code has a byte, so the bytes of a queue are none only if it is empty
pub encode_some : (set : ℕ) (last : Last) (b : Block) → 0 < length (encode set last b)
encode_some set last b = omega (arith, encode_length set last b)

pub codes_some : (set : ℕ) (last : Last) (b : Block) (q : List Block) → 0 < length (queue_codes set last (b ∷ q))
unfolding queue_codes
codes_some set last b q =
    omega (arith, length-append (encode set last b) (queue_codes set (remembered b) q), encode_some set last b)

-- ---- what append and measure answer

-- what can be queued can be coded
pub can_code : (set : ℕ) (back : Last) (b : Block) → Known back → CanQueue set b → codable set back b ≡ true
can_code set back b k c = and_both (can_queue set b) (indices_known back) (can_test set b c) (known_test back k)

pub measure_answers : (set : ℕ) (back : Last) (b : Block) → Known back → CanQueue set b
    → measured set back b ≡ code_measured (length (encode set back b)) (remembered b)
unfolding measured
measure_answers set back b k c = rw (can_code set back b k c, as_queued_is set b c)

pub append_stores : (ring : List ℕ) (head used set : ℕ) (back : Last) (b : Block) (last : Last) (n : ℕ)
    → appended (length ring) head used set back b ≡ code_appended last n
    → appended_ring ring head used set back b ≡ stored_behind ring head used (code_of_kept set back b)
unfolding appended_ring
append_stores ring head used set back b last n e = rw e

-- ---- the ring

module _ (ring : List ℕ) (head used set : ℕ) (fits : fits_ring (length ring) head used ≡ true) where
  -- a ring of which the bytes used hold b and then q gives b, and then holds q
  pub take_answers : {front back : Last} {b : Block} {q : List Block}
      → BytesHold set front back (content ring head used) (b ∷ q)
      → (taken ring head used set front
      ≡ front_taken b (remembered b) (wrapped (length ring) (head + length (encode set front b))) (used - length (encode set front b)))
      × (length (encode set front b) ≤ used)
      × BytesHold set (remembered b) back
      (content ring (wrapped (length ring) (head + length (encode set front b)))
      (used - length (encode set front b))) q
  unfolding taken
  take_answers {front} {back} {b} {q} h =
      let (e, r) = holds_take h in
      let n : ℕ = length (encode set front b) in
      let f = fits_both (length ring) head used fits in
      let inside : n ≤ used = omega (
        arith,
        content_length ring head used (omega (arith, f.0)) f.1,
        read_takes set front (content ring head used) b n e,
      ) in
      (rw (fits, e), inside, rw (content_take ring head used n f.0 f.1 inside) r)

  -- what take answers is the first of the queue, whatever the bytes
  pub take_first : (front : Last) (b : Block) (last : Last) (head₁ used₁ n : ℕ)
      → taken ring head used set front ≡ front_taken b last head₁ used₁
      → queue_of set front (suc n) (content ring head used) ≡ b ∷ queue_of set last n (content ring head₁ used₁)
  take_first front b last head₁ used₁ n e =
      let t = taken_parts ring head used set front b last head₁ used₁ e in
      go t.count t.read t.last_is t.head_is t.used_is
    where
      go : (k : ℕ) → decode set front (content ring head used) ≡ Some (b, k) → last ≡ remembered b
          → head₁ ≡ wrapped (length ring) (head + k) → used₁ ≡ used - k
          → queue_of set front (suc n) (content ring head used) ≡ b ∷ queue_of set last n (content ring head₁ used₁)
      go k d l h u =
          let f = fits_both (length ring) head used fits in
          let inside : k ≤ used = omega (
            arith,
            content_length ring head used (omega (arith, f.0)) f.1,
            (read_takes set front (content ring head used) b k d).1,
          ) in
          queue_step set front n (content ring head used) b k d
          ∙ rw (l, h, u, content_take ring head used k f.0 f.1 inside)

  -- the first of what the ring holds comes out, and what is left decodes to the rest
  pub take_queue : {front back : Last} {b : Block} {q : List Block}
      → BytesHold set front back (content ring head used) (b ∷ q)
      → (head₁ : ℕ) × (used₁ : ℕ) × (taken ring head used set front ≡ front_taken b (remembered b) head₁ used₁)
      × (queue_of set (remembered b) (length q) (content ring head₁ used₁) ≡ q)
  take_queue {q = q} h = let (e, k, r) = take_answers h in (_, _, e, queue_is q r)

  -- an empty queue has no front
  pub take_none : {front back : Last} → BytesHold set front back (content ring head used) []
      → taken ring head used set front ≡ Err Q.Damaged
  unfolding taken queue_codes
  take_none {front} h = rw (fits, h.bytes_are, none_decodes set front)

  -- the head taken lies in the ring, and its bytes are free
  pub take_frees : (front : Last) (b : Block) (last : Last) (head₁ used₁ : ℕ)
      → taken ring head used set front ≡ front_taken b last head₁ used₁
      → (head₁ < length ring) × (used₁ < used)
  take_frees front b last head₁ used₁ e =
      let t = taken_parts ring head used set front b last head₁ used₁ e in
      let f = fits_both (length ring) head used fits in
      let k = read_takes set front (content ring head used) b t.count t.read in
      let inside : t.count ≤ used =
      omega (arith, content_length ring head used (omega (arith, f.0)) f.1, k.1) in (
        rw t.head_is
            (by_ltb (λ (p : ℕ). p < length ring) (head + t.count) (length ring) (head + t.count)
            (head + t.count - length ring) (λ h. h) (λ h. omega (arith, f, inside))),
        omega (arith, t.used_is, k.0, inside),
      )

  -- a ring with room for b's code behind the bytes used takes it, and then holds b too, last
  pub append_answers : {front back : Last} {q : List Block} (b : Block)
      → BytesHold set front back (content ring head used) q → CanQueue set b
      → used + length (encode set back b) ≤ length ring
      → (appended (length ring) head used set back b ≡ code_appended (remembered b) (used + length (encode set back b)))
      × (appended_ring ring head used set back b ≡ stored_behind ring head used (encode set back b))
      × BytesHold set front (remembered b)
      (content (stored_behind ring head used (encode set back b)) head (used + length (encode set back b)))
      (q ++ (b ∷ []))
  append_answers {front} {back} {q} b h c room =
      let f = fits_both (length ring) head used fits in
      let code : List ℕ = encode set back b in
      let one : BytesHold set front (remembered b) (content ring head used ++ code) (q ++ (b ∷ [])) = holds_one h c in
      let is : as_queued set b ≡ b = as_queued_is set b c in
      let can : codable set back b ≡ true = can_code set back b (known_back h) c in
      let done : appended (length ring) head used set back b ≡ code_appended (remembered b) (used + length code) =
      append_gives (length ring) head used set back b fits can (rw is room) ∙ rw is in (
        done,
        append_stores ring head used set back b (remembered b) (used + length code) done ∙ rw is,
        rw (content_store code ring head used f.0 room) one,
      )

  -- a ring that holds q holds q and then b, as the queue keeps it, once append was done with b
  pub append_holds : {front back : Last} {q : List Block} (b : Block) (last : Last) (used₁ : ℕ)
      → BytesHold set front back (content ring head used) q
      → ((d : Direction) → InFormat (parameter_of b d)) → appended (length ring) head used set back b ≡ code_appended last used₁
      → BytesHold set front last (content (appended_ring ring head used set back b) head used₁)
      (q ++ (as_queued set b ∷ []))
  append_holds {front} {back} {q} b last used₁ h format e =
      let t = appended_parts (length ring) head used set back b last used₁ e in
      let f = fits_both (length ring) head used fits in
      let c : CanQueue set (as_queued set b) =
      can_queue_lem set b (and_left (can_queue set b) (indices_known back) t.can) format in
      let one : BytesHold set front (remembered (as_queued set b)) (content ring head used ++ code_of_kept set back b)
      (q ++ (as_queued set b ∷ [])) = holds_one h c in
      rw (
        append_stores ring head used set back b last used₁ e,
        t.last_is,
        t.used_is,
        content_store (code_of_kept set back b) ring head used f.0 (omega (arith, t.room, t.used_is)),
      ) one

  -- so it decodes to q and then b
  pub append_queue : {front back : Last} {q : List Block} (b : Block) (last : Last) (used₁ : ℕ)
      → BytesHold set front back (content ring head used) q
      → ((d : Direction) → InFormat (parameter_of b d)) → appended (length ring) head used set back b ≡ code_appended last used₁
      → queue_of set front (length q + 1) (content (appended_ring ring head used set back b) head used₁)
      ≡ q ++ (as_queued set b ∷ [])
  append_queue {q = q} b last used₁ h format e =
      rw (← length-append q (as_queued set b ∷ []))
      (queue_is (q ++ (as_queued set b ∷ [])) (append_holds b last used₁ h format e))

  -- the ring keeps its length, and the use grows and does not pass it
  pub append_fills : (back : Last) (b : Block) (last : Last) (used₁ : ℕ)
      → appended (length ring) head used set back b ≡ code_appended last used₁
      → (length (appended_ring ring head used set back b) ≡ length ring) × (used < used₁) × (used₁ ≤ length ring)
  append_fills back b last used₁ e =
      let t = appended_parts (length ring) head used set back b last used₁ e in (
        rw (append_stores ring head used set back b last used₁ e)
            (length_stored (code_of_kept set back b) ring (wrapped (length ring) (head + used))),
        omega (arith, t.used_is, encode_some set back (as_queued set b)),
        t.room,
      )

  -- the bytes used are none if and only if no block is queued
  pub used_none : {front back : Last} {q : List Block} → BytesHold set front back (content ring head used) q
      → used ≡ 0 → q ≡ []
  used_none {q = []} h e = refl
  used_none {front} {q = b ∷ q} h e =
      let f = fits_both (length ring) head used fits in
      absurd (omega (
        arith,
        content_length ring head used (omega (arith, f.0)) f.1,
        ap length h.bytes_are,
        codes_some set front b q,
      ))

  pub none_used : {front back : Last} → BytesHold set front back (content ring head used) [] → used ≡ 0
  unfolding queue_codes
  none_used h =
      let f = fits_both (length ring) head used fits in
      sym (content_length ring head used (omega (arith, f.0)) f.1) ∙ ap length h.bytes_are

-- the codes of several blocks stored behind: one block's, then the others'
pub store_codes : (ring : List ℕ) (head used set : ℕ) (back : Last) (b : Block) (r : List Block) → head < length ring
    → used + length (encode set back b) ≤ length ring
    → stored_behind (stored_behind ring head used (encode set back b)) head (used + length (encode set back b))
    (queue_codes set (remembered b) r)
    ≡ stored_behind ring head used (queue_codes set back (b ∷ r))
unfolding queue_codes
store_codes ring head used set back b r h k =
    store_append (encode set back b) (queue_codes set (remembered b) r) ring head used h k
