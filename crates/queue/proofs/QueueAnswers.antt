-- What take, measure and append answer, by the tests that the code makes. Assumes nothing.
use Rattle.std.specs.Prelude.{Result, Err}
use Rattle.queue.specs.declared.QueueError.{QueueError}
use Rattle.queue.specs.declared.QueueError.TheVariants as Q
use Rattle.queue.specs.Queue.{code_appended, code_measured}
use Rattle.std.specs.Prelude.{Option, Some, None}
use mathlib.Core.Path.{◌≡◌, refl, sym, ap, ◌∙◌}
use mathlib.Core.Bool.{Bool, true, false, cond, not, ◌||◌}
use mathlib.Core.List.{List}
use Prim.Native.Nat.{ℕ, ◌+◌, ◌-◌, ◌≤◌, ◌<◌}
use native.Mathlib.Omega.{arith}
use lib.Dec.{leb, ltb}
use lib.ListN.{length, take}
use native.Mathlib.Nat.{zero-add}
use borrow.Author.Tests.{ltb-true, leb-true, le-leb, lt-leb, not-true, not-false}
use Rattle.base.proofs.Test.{and_left, and_right}
use Rattle.interval.specs.declared.Interval.{Interval}
use Rattle.interval.specs.Bounds.{legal_interval}
use Rattle.interval.proofs.Legality.{put_legal}
use Rattle.queue.specs.declared.Block.{Block}
use Rattle.queue.specs.declared.Last.{Last}
use Rattle.queue.specs.declared.Appended.{Appended}
use Rattle.queue.specs.declared.directions.Direction.TheVariants as D
use Rattle.refusal.specs.declared.Refusal.TheVariants as R
use Rattle.queue.specs.Answers.{refusal_of}
use Rattle.queue.specs.Ring.{content, fits_ring, wrapped, stored, stored_behind}
use Rattle.queue.specs.Directions.{in_use}
use Rattle.queue.specs.Block.{as_queued_at, as_queued, remembered}
use Rattle.queue.specs.Code.{encode, can_queue, indices_known}
use Rattle.queue.specs.Decode.{decode}
use Rattle.queue.specs.Queue.{taken_with, taken, codable, code_of_kept, measured, appended_code, appended, changed_by, appended_ring}
use Rattle.queue.specs.CodeComputed.{Written}
use Rattle.queue.proofs.RingLaws.{content_length}
use Rattle.queue.proofs.WriteLaws.{take_sets}
use Rattle.queue.proofs.QueueableLaws.{encode_few}
use Rattle.queue.proofs.BlockReading.{read_takes}

pub denied : (b : Bool) → not b ≡ true → b ≡ false
denied = not-true

pub granted : (b : Bool) → not b ≡ false → b ≡ true
granted = not-false

pub fits_both : (len head used : ℕ) → fits_ring len head used ≡ true → (head < len) × (used ≤ len)
fits_both len head used e = (
  ltb-true head len (and_left (ltb head len) (leb used len) e),
  leb-true used len (and_right (ltb head len) (leb used len) e),
)

-- ---- take

module _ (ring : List ℕ) (head used set : ℕ) (front : Last) where
  pub taken_outside : fits_ring (length ring) head used ≡ false → Err Q.Outside ≡ taken ring head used set front
  unfolding taken
  taken_outside e = rw e

  pub taken_read : (bytes : List ℕ) (r : Option (Block × ℕ)) → fits_ring (length ring) head used ≡ true
      → bytes ≡ content ring head used → r ≡ decode set front bytes
      → taken_with (length ring) head used r ≡ taken ring head used set front
  unfolding taken
  taken_read bytes r e p f = rw (e, f, p)

  pub taken_inside : (bytes : List ℕ) (b : Block) (count : ℕ) → fits_ring (length ring) head used ≡ true
      → bytes ≡ content ring head used → Some (b, count) ≡ decode set front bytes → count ≤ used
  taken_inside bytes b count e p f =
      let (h, k) = fits_both (length ring) head used e in
      omega (
        arith,
        (read_takes set front bytes b count (sym f)).1,
        ap length p,
        content_length ring head used (omega arith) k,
      )

-- what is not taken is damage, as document 01 numbers it
pub take_refused : (ring : List ℕ) (head used set : ℕ) (front : Last) (why : QueueError) → taken ring head used set front ≡ Err why
    → refusal_of why ≡ R.Damaged
unfolding taken
take_refused ring head used set front why e =
    go (fits_ring (length ring) head used) (decode set front (content ring head used)) e
  where
    go : (f : Bool) (r : Option (Block × ℕ)) → cond f (taken_with (length ring) head used r) (Err Q.Outside) ≡ Err why
        → refusal_of why ≡ R.Damaged
    go true (Some (b, n)) e = cc
    go true None e = let g : Q.Damaged ≡ why = cc in ap refusal_of (sym g)
    go false r e = let g : Q.Outside ≡ why = cc in ap refusal_of (sym g)

-- ---- what is kept can be queued too

legal_as_queued : (used integer : Bool) (p : Interval)
    → not used || legal_interval (as_queued_at used p) integer ≡ not used || legal_interval p integer
legal_as_queued true integer p = put_legal p integer
legal_as_queued false integer p = refl

pub kept_can : (set : ℕ) (b : Block) → can_queue set (as_queued set b) ≡ can_queue set b
unfolding can_queue as_queued
kept_can set b =
    rw (
      legal_as_queued (in_use set D.M) true b.m,
      legal_as_queued (in_use set D.N) true b.n,
      legal_as_queued (in_use set D.Theta) true b.theta,
      legal_as_queued (in_use set D.T) false b.t,
    )

pub codable_both : (set : ℕ) (back : Last) (b : Block) → codable set back b ≡ true
    → (can_queue set (as_queued set b) ≡ true) × (indices_known back ≡ true)
codable_both set back b e = (
  kept_can set b ∙ and_left (can_queue set b) (indices_known back) e,
  and_right (can_queue set b) (indices_known back) e,
)

-- what is kept of a block that can be coded: it can be queued, the indices are known, and its code is short
pub kept_codable : (set : ℕ) (back : Last) (b kept : Block) → codable set back b ≡ true → kept ≡ as_queued set b
    → (can_queue set kept ≡ true) × (indices_known back ≡ true) × (length (encode set back kept) ≤ 83)
kept_codable set back b kept e f =
    let k = codable_both set back b e in
    let can : can_queue set kept ≡ true = rw f k.0 in
    (can, k.1, encode_few set back kept can k.1)

-- ---- measure

module _ (set : ℕ) (back : Last) (b : Block) where
  pub measured_no : codable set back b ≡ false → Err Q.NotCodable ≡ measured set back b
  unfolding measured
  measured_no e = rw e

  pub measured_yes : (kept : Block) (count : ℕ) (last : Last) → codable set back b ≡ true → kept ≡ as_queued set b
      → count ≡ length (encode set back kept) → last ≡ remembered kept
      → code_measured count last ≡ measured set back b
  unfolding measured
  measured_yes kept count last e k c l = rw (e, c, l, k)

-- ---- append

module _ (ring : List ℕ) (head used set : ℕ) (back : Last) (b : Block) where
  pub append_outside : fits_ring (length ring) head used ≡ false
      → (Err Q.Outside ≡ appended (length ring) head used set back b) × (ring ≡ appended_ring ring head used set back b)
  unfolding appended appended_ring
  append_outside e = (rw e, rw e)

  pub append_uncodable : fits_ring (length ring) head used ≡ true → codable set back b ≡ false
      → (Err Q.NotCodable ≡ appended (length ring) head used set back b) × (ring ≡ appended_ring ring head used set back b)
  unfolding appended appended_ring
  append_uncodable e f = (rw (e, f), rw (e, f))

  module _ (kept : Block) (is_kept : kept ≡ as_queued set b) (e : fits_ring (length ring) head used ≡ true)
      (f : codable set back b ≡ true) where
    -- the code stored, in whatever way, where there is room
    pub append_stored : (count : ℕ) (last : Last) (ring₁ : List ℕ) → count ≡ length (encode set back kept)
        → used + count ≤ length ring → last ≡ remembered kept
        → ring₁ ≡ stored_behind ring head used (code_of_kept set back b)
        → (code_appended last (used + count) ≡ appended (length ring) head used set back b)
        × (ring₁ ≡ appended_ring ring head used set back b)
    unfolding appended appended_ring
    append_stored count last ring₁ n h l s =
        let n₁ : count ≡ length (code_of_kept set back b) = n ∙ rw is_kept in
        let g : leb (used + length (code_of_kept set back b)) (length ring) ≡ true = le-leb _ (length ring) (omega (arith, n₁)) in
        (rw (e, f, g, l, is_kept, n₁), rw (e, f, g) s)

    -- the code made apart, and appended
    pub append_made : (count : ℕ) (code code₀ : List ℕ) (last : Last) (r : Result Appended QueueError) (ring₁ : List ℕ)
        → Written code₀ 0 (encode set back kept) count code → length (encode set back kept) ≤ length code₀ → last ≡ remembered kept
        → (r ≡ appended_code (length ring) used (take count code) last)
        × (ring₁ ≡ changed_by (appended_code (length ring) used (take count code) last) ring (stored_behind ring head used (take count code)))
        → (r ≡ appended (length ring) head used set back b) × (ring₁ ≡ appended_ring ring head used set back b)
    unfolding appended appended_ring
    append_made count code code₀ last r ring₁ (n, c) k l (p, q) =
        let bytes : take count code ≡ code_of_kept set back b =
        ap (λ (m : ℕ). take m code) (n ∙ zero-add (length (encode set back kept))) ∙ ap (take (length (encode set back kept))) c
        ∙ take_sets (encode set back kept) code₀ k ∙ ap (encode set back) is_kept in
        let done : last ≡ remembered (as_queued set b) = rw is_kept at l in
        (p ∙ rw (e, f, bytes, done), q ∙ rw (e, f, bytes, done))

-- a code appended, by the test of the room
module _ (ring : List ℕ) (head used : ℕ) (code : List ℕ) (last : Last) where
  pub code_full : used ≤ length ring → length ring - used < length code
      → (Err Q.NoRoom ≡ appended_code (length ring) used code last)
      × (ring ≡ changed_by (appended_code (length ring) used code last) ring (stored_behind ring head used code))
  code_full h k = let g : leb (used + length code) (length ring) ≡ false = lt-leb _ (length ring) (omega arith) in (rw g, rw g)

  pub code_done : (from : ℕ) (ring₁ : List ℕ) → used ≤ length ring → length code ≤ length ring - used
      → from ≡ wrapped (length ring) (head + used) → ring₁ ≡ stored ring from code
      → (code_appended last (used + length code) ≡ appended_code (length ring) used code last)
      × (ring₁ ≡ changed_by (appended_code (length ring) used code last) ring (stored_behind ring head used code))
  code_done from ring₁ h k w s =
      let g : leb (used + length code) (length ring) ≡ true = le-leb _ (length ring) (omega arith) in
      (rw g, rw (g, ← w) s)
