-- Sets without parameters: they are as set 0, and a block's code there is its place and its direction. Assumes nothing.
use Rattle.queue.specs.Queue.{code_appended, code_measured}
use mathlib.Core.Path.{◌≡◌, refl, sym, ◌∙◌}
use mathlib.Core.Bool.{Bool, true, false, ◌&&◌, and_comm}
use mathlib.Core.List.{List, [], ◌∷◌, ◌++◌}
use Prim.Native.Nat.{ℕ, ◌+◌, ◌-◌, ◌%◌, ◌^◌, ◌≤◌, ◌<◌}
use native.Mathlib.Omega.{arith}
use lib.Dec.{leb, ltb}
use lib.ListN.{length, set, length-append}
use borrow.Author.Tests.{leb-true}
use Rattle.base.proofs.Test.{and_left, and_right}
use Rattle.coordinate.specs.Axis.{ordinary_floor}
use Rattle.coordinate.specs.Lone.{legal}
use Rattle.queue.specs.declared.Block.{Block}
use Rattle.queue.specs.declared.Last.{Last}
use Rattle.queue.specs.Ring.{fits_ring, wrapped}
use Rattle.queue.specs.RingComputed.{straight_room}
use Rattle.queue.specs.Block.{as_queued, remembered}
use Rattle.queue.specs.Code.{coordinate_code, parameter_code, parameters_code, place_code, encode, parameters_legal}
use Rattle.queue.specs.Code.{can_queue, indices_known}
use Rattle.queue.specs.CodeComputed.{place_codable, Written}
use Rattle.queue.specs.Queue.{codable, code_of_kept, measured, appended, appended_ring}
use Rattle.queue.proofs.DirectionLaws.{unused}
use Rattle.queue.proofs.RingLaws.{stored_straight, tail_inside}
use Rattle.queue.proofs.WriteLaws.{join, one_byte, place_few}
use Rattle.queue.proofs.QueueableLaws.{Tested, queueable, known_indices}
use Rattle.queue.proofs.QueueAnswers.{fits_both, append_stored}

-- ---- the test in two parts

parts : (place fine i j : Bool) → place && fine && (i && j) ≡ place && i && j && fine
parts true fine i j = and_comm fine (i && j)
parts false fine i j = refl

-- a block can be coded if its place can and its used parameters are legal
pub codable_parts : (set : ℕ) (back : Last) (b : Block) (place fine : Bool)
    → place ≡ place_codable b.x b.y back.x back.y
    → fine ≡ parameters_legal set b.m b.n b.theta b.t → codable set back b ≡ place && fine
unfolding can_queue indices_known
codable_parts set back b place fine e f =
    rw (e, f)
    (parts (legal ordinary_floor b.x && legal ordinary_floor b.y)
    (parameters_legal set b.m b.n b.theta b.t) (ltb back.x (2 ^ 47)) (ltb back.y (2 ^ 47)))

-- not, if its place cannot
pub codable_nowhere : (set : ℕ) (back : Last) (b : Block) → place_codable b.x b.y back.x back.y ≡ false
    → codable set back b ≡ false
codable_nowhere set back b e =
    codable_parts set back b false (parameters_legal set b.m b.n b.theta b.t) (sym e) refl

pub codable_placed : (back : Last) (b : Block) → place_codable b.x b.y back.x back.y ≡ true
    → codable 0 back b ≡ true
codable_placed back b e = codable_parts 0 back b true true (sym e) refl

pub codable_legal : (set : ℕ) (back : Last) (b : Block) (fine : Bool)
    → place_codable b.x b.y back.x back.y ≡ true
    → fine ≡ parameters_legal set b.m b.n b.theta b.t → codable set back b ≡ fine
codable_legal set back b fine e f = codable_parts set back b true fine (sym e) f

-- ---- as set 0

module _ (set : ℕ) (h : set % 16 ≡ 0) (back : Last) (b : Block) where
  as_queued_plain : as_queued set b ≡ as_queued 0 b
  unfolding as_queued
  as_queued_plain = let (m, n, theta, t) = unused set h in rw (m, n, theta, t)

  can_plain : can_queue set b ≡ can_queue 0 b
  unfolding can_queue
  can_plain = let (m, n, theta, t) = unused set h in rw (m, n, theta, t)

  encode_plain : (k : Block) → encode set back k ≡ encode 0 back k
  unfolding encode parameters_code parameter_code
  encode_plain k = let (m, n, theta, t) = unused set h in rw (m, n, theta, t)

  pub measured_plain : measured 0 back b ≡ measured set back b
  unfolding measured
  measured_plain = rw (can_plain, as_queued_plain, encode_plain (as_queued 0 b))

  pub appended_plain : (len head used : ℕ) → appended len head used 0 back b ≡ appended len head used set back b
  unfolding appended
  appended_plain len head used = rw (can_plain, as_queued_plain, encode_plain (as_queued 0 b))

  pub ring_plain : (ring : List ℕ) (head used : ℕ)
      → appended_ring ring head used 0 back b ≡ appended_ring ring head used set back b
  unfolding appended_ring
  ring_plain ring head used = rw (← appended_plain (length ring) head used, as_queued_plain, encode_plain (as_queued 0 b))

-- ---- the code

module _ (back : Last) (b : Block) where
  pub plain_put : (out out₁ out₂ : List ℕ) (at middle end : ℕ)
      → Written out at (coordinate_code back.x b.x) middle out₁
      → Written out₁ middle (coordinate_code back.y b.y) end out₂
      → Written out at (code_of_kept 0 back b) (end + 1) (set out₂ end b.dir)
  unfolding as_queued encode place_code parameters_code parameter_code
  plain_put out out₁ out₂ at middle end v w =
      let x : List ℕ = coordinate_code back.x b.x in
      let y : List ℕ = coordinate_code back.y b.y in
      join out at (x ++ y) (b.dir ∷ []) (join out at x y v w) (one_byte out₂ end b.dir)

  pub plain_length : length (code_of_kept 0 back b) ≡ length (place_code back b) + 1
  unfolding as_queued encode place_code parameters_code parameter_code
  plain_length = length-append (coordinate_code back.x b.x ++ coordinate_code back.y b.y) (b.dir ∷ [])

  pub measured_place : (count : ℕ) (last : Last) → codable 0 back b ≡ true → count ≡ length (place_code back b)
      → last ≡ remembered (as_queued 0 b)
      → code_measured (count + 1) last ≡ measured 0 back b
  unfolding measured
  measured_place count last e c l =
      let k : count + 1 ≡ length (code_of_kept 0 back b) = rw c (sym plain_length) in rw (e, k, l)

-- what it says that it can be coded, and its longest code
pub placed : (back : Last) (b : Block) → codable 0 back b ≡ true → Tested 0 b × (back.x < 2 ^ 47) × (back.y < 2 ^ 47)
placed back b e =
    let (x, y) = known_indices back (and_right (can_queue 0 b) (indices_known back) e) in
    (queueable 0 b (and_left (can_queue 0 b) (indices_known back) e), x, y)

pub plain_few : (back : Last) (b : Block) → codable 0 back b ≡ true → length (code_of_kept 0 back b) ≤ 19
plain_few back b e =
    let (q, x, y) = placed back b e in
    omega (arith, plain_length back b, place_few back b x y q.x.bound q.y.bound)

-- ---- straight into the ring

pub straight_both : (len head used : ℕ) → straight_room 19 len head used ≡ true
    → (19 ≤ len - wrapped len (head + used)) × (19 ≤ len - used)
straight_both len head used e =
    let a : Bool = leb 19 (len - wrapped len (head + used)) in
    let b : Bool = leb 19 (len - used) in
    (leb-true 19 (len - wrapped len (head + used)) (and_left a b e), leb-true 19 (len - used) (and_right a b e))

pub straight_done : (ring : List ℕ) (head used : ℕ) (back : Last) (b : Block) (from end : ℕ) (ring₁ : List ℕ)
    (last : Last)
    → fits_ring (length ring) head used ≡ true → codable 0 back b ≡ true → straight_room 19 (length ring) head used ≡ true
    → from ≡ wrapped (length ring) (head + used) → Written ring from (code_of_kept 0 back b) end ring₁
    → last ≡ remembered (as_queued 0 b)
    → (code_appended last (used + (end - from)) ≡ appended (length ring) head used 0 back b)
    × (ring₁ ≡ appended_ring ring head used 0 back b)
straight_done ring head used back b from end ring₁ last e f g w (n, r) l =
    let few : length (code_of_kept 0 back b) ≤ 19 = plain_few back b f in
    let (before_end, room) = straight_both (length ring) head used g in
    let fits = fits_both (length ring) head used e in
    let inside : from < length ring = rw w (tail_inside (length ring) head used fits.0 fits.1) in
    append_stored ring head used 0 back b (as_queued 0 b) refl e f (end - from) last ring₁ (omega (arith, n))
    (omega (arith, n)) l
    (r ∙ sym (stored_straight (code_of_kept 0 back b) ring from (omega (arith, w, before_end, few, inside))) ∙ rw w)
