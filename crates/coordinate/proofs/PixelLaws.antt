-- Laws of a coordinate's pixel, of the places along a side and of the ranges, each over every rank. Assumes nothing.
use mathlib.Core.Path.{◌≡◌, refl, sym, ap, ◌∙◌}
use mathlib.Core.Bool.{true, ◌&&◌}
use Prim.Native.Nat.{ℕ, zero, suc, ◌+◌, ◌-◌, ◌*◌, ◌/◌, ◌^◌, ◌≤◌, ◌<◌}
use native.Mathlib.Nat.{pow-suc, le-div_iff_mul-le, mul-le-mul_right}
use native.Mathlib.Decide.{dec_le}
use native.Mathlib.Omega.{arith}
use lib.Dec.{leb, ltb}
use lib.IntN.{pos, negsuc}
use lib.Pow.{pow_pos, pow_mono, pow-add, shl_lt, shr_le}
use borrow.Author.Tests.{ltb-true, leb-true, lt-ltb, le-ltb, le-leb}
use Rattle.base.specs.Axis.{begins_in, covers_along, places_along}
use Rattle.base.proofs.Test.{cond_yes, cond_no, and_left, and_right, and_both, both_ways}
use Rattle.base.proofs.AxisLaws.{begins_over, begins_under, counted_begins, places_over, places_under}
use Rattle.base.proofs.AxisLaws as Axis
use Rattle.coordinate.specs.Axis.{level, in_range, pixel_at_level, pixel, places, inside}
use Rattle.coordinate.proofs.Covering.{covers1}

-- the definitions are those of base's Axis, where the pixel's level stands as the rank 48: so base's laws are theirs
pub axis_at_48 : (side rank i p : ℕ)
    → (pixel rank i ≡ begins_in 48 rank i) × (places side rank ≡ places_along (side * 2 ^ 48) rank) × (covers1 rank i p ≡ covers_along 48 rank i p)
unfolding pixel begins_in places places_along covers1 covers_along
axis_at_48 side rank i p = (refl, refl, refl)

-- from the pixel's rank up, the index times 2^k
pub pixel_big : (rank i : ℕ) → 48 ≤ rank → pixel rank i ≡ i * 2 ^ (rank - 48)
unfolding pixel begins_in
pixel_big rank i h = begins_over 48 rank i h

-- from it down, the index over 2^(-k)
pub pixel_small : (rank i : ℕ) → rank ≤ 48 → pixel rank i ≡ i / 2 ^ (48 - rank)
unfolding pixel begins_in
pixel_small rank i h = begins_under 48 rank i h

-- the one formula is the document's two
pub pixel_level : (rank i : ℕ) → pixel rank i ≡ pixel_at_level (level rank) i
pixel_level rank i = elim (dec_le 48 rank) [
  | yes k ↦ pixel_big rank i k ∙ sym (ap (λ z. pixel_at_level z i) (cond_no (ltb rank 48) (negsuc (48 - suc rank)) (pos (rank - 48)) (le-ltb rank 48 k)))
  | no k ↦ (let e : 48 - rank ≡ suc (48 - suc rank) = omega arith in
      pixel_small rank i (omega arith) ∙ ap (λ (n : ℕ). i / 2 ^ n) e ∙ sym (ap (λ z. pixel_at_level z i) (cond_yes (ltb rank 48) (negsuc (48 - suc rank)) (pos (rank - 48)) (lt-ltb rank 48 (omega arith)))))
]

-- beginning inside a side, by the places and by the pixel: two ways to say the same
pub inside_pixel : (side rank i : ℕ) → inside side rank i ≡ ltb (pixel rank i) side
unfolding inside places places_along pixel begins_in
inside_pixel side rank i = counted_begins 48 side rank i

-- from the pixel's rank up there are side / 2^k places, rounded up
pub places_big : (side rank : ℕ) → 48 ≤ rank → places side rank ≡ (side + (2 ^ (rank - 48) - 1)) / 2 ^ (rank - 48)
unfolding places places_along
places_big side rank h = let e : 48 + (rank - 48) ≡ rank = omega arith in rw e at (places_over side 48 (rank - 48))

-- from it down, side times 2^(-k)
pub places_small : (side rank : ℕ) → rank ≤ 48 → places side rank ≡ side * 2 ^ (48 - rank)
unfolding places places_along
places_small side rank h = let e : rank + (48 - rank) ≡ 48 = omega arith in rw e at (places_under side rank (48 - rank))

-- a level up there are half as many places, rounded up
pub places_suc : (side rank : ℕ) → places side (suc rank) ≡ (places side rank + 1) / 2
unfolding places places_along
places_suc side rank = Axis.places_suc (side * 2 ^ 48) rank

-- where 2^k holds the whole side there is one place
pub places_one : (side k : ℕ) → zero < side → side ≤ 2 ^ k → places side (48 + k) ≡ 1
unfolding places places_along
places_one side k h l = places_over side 48 k ∙ Axis.places_one side k h l

-- the low half begins inside exactly if its coordinate does
pub low_inside : (side rank i : ℕ) → inside side rank (2 * i) ≡ inside side (suc rank) i
unfolding inside
low_inside side rank i =
    let e = places_suc side rank in
    both_ways (ltb (2 * i) (places side rank)) (ltb i (places side (suc rank)))
    (λ t. lt-ltb i (places side (suc rank)) (omega (arith, ltb-true (2 * i) (places side rank) t)))
    (λ t. lt-ltb (2 * i) (places side rank) (omega (arith, ltb-true i (places side (suc rank)) t)))

-- ---- ranges

-- an index that leaves its range begins outside every legal side: both are damage, 8
pub beyond_bound : (floor rank i : ℕ) → floor ≤ rank → rank < 64 → 2 ^ (63 - floor) ≤ i → 32768 ≤ pixel rank i
beyond_bound floor rank i f r h = elim (dec_le 48 rank) [
  | yes k ↦ rw (pixel_big rank i k) (omega (arith, big k, mul-le-mul_right {m = 2 ^ (63 - floor)} {n = i} (2 ^ (rank - 48)) h))
  | no k ↦ (let q : rank ≤ 48 = omega arith in rw (pixel_small rank i q) ((le-div_iff_mul-le {k = 2 ^ (48 - rank)} {x = 32768} {y = i} (pow_pos (48 - rank))).1 (omega (arith, small q))))
]
  where
    big : 48 ≤ rank → 32768 ≤ 2 ^ (63 - floor) * 2 ^ (rank - 48)
    big k = rw (← pow-add 2 (63 - floor) (rank - 48)) (pow_mono {i = 15} {j = 63 - floor + (rank - 48)} (omega arith))

    small : rank ≤ 48 → 32768 * 2 ^ (48 - rank) ≤ 2 ^ (63 - floor)
    small k = rw (← pow-add 2 15 (48 - rank)) (pow_mono {i = 15 + (48 - rank)} {j = 63 - floor} (omega arith))

-- an index that begins inside a legal side is below 2^(15 - k)
pub inside_bound : (side rank i : ℕ) → side ≤ 32768 → rank < 64 → inside side rank i ≡ true → i < 2 ^ (63 - rank)
inside_bound side rank i s r t = elim (dec_le (2 ^ (63 - rank)) i) [
  | yes k ↦ absurd (omega (arith, beyond_bound rank rank i (omega arith) r k, ltb-true (pixel rank i) side (sym (inside_pixel side rank i) ∙ t)))
  | no k ↦ omega arith
]

-- so it is in the range of every floor at or below it
pub inside_in_range : (side floor rank i : ℕ) → side ≤ 32768 → floor ≤ rank → rank < 64 → inside side rank i ≡ true → in_range floor rank i ≡ true
unfolding in_range
inside_in_range side floor rank i s f r t =
    and_both (leb floor rank && ltb rank 64) (ltb i (2 ^ (63 - floor)))
    (and_both (leb floor rank) (ltb rank 64) (le-leb floor rank f) (lt-ltb rank 64 r))
    (lt-ltb i (2 ^ (63 - floor)) (omega (arith, inside_bound side rank i s r t, pow_mono {i = 63 - rank} {j = 63 - floor} (omega arith))))

-- and so are its halves, where the coordinate is above the floor
pub halves_in_range : (side floor rank i : ℕ) → side ≤ 32768 → floor ≤ rank → suc rank < 64 → inside side (suc rank) i ≡ true
    → (in_range floor rank (2 * i) ≡ true) × (in_range floor rank (2 * i + 1) ≡ true)
halves_in_range side floor rank i s f r t = (half (2 * i) (omega arith), half (2 * i + 1) (omega arith))
  where
    below : i < 2 ^ (63 - suc rank)
    below = inside_bound side (suc rank) i s r t

    half : (h : ℕ) → h ≤ 2 * i + 1 → in_range floor rank h ≡ true
    half h l = unfold in_range in
        let e : 63 - rank ≡ suc (63 - suc rank) = omega arith in
        let b : h < 2 ^ (63 - rank) = rw e (omega (arith, below, pow-suc 2 (63 - suc rank))) in
        and_both (leb floor rank && ltb rank 64) (ltb h (2 ^ (63 - floor)))
        (and_both (leb floor rank) (ltb rank 64) (le-leb floor rank f) (lt-ltb rank 64 (omega arith)))
        (lt-ltb h (2 ^ (63 - floor)) (omega (arith, b, pow_mono {i = 63 - rank} {j = 63 - floor} (omega arith))))

-- what the ranges say
pub record Ranged (floor rank i : ℕ) : Type 0 where
  pub low : floor ≤ rank
  pub high : rank < 64
  pub bound : i < 2 ^ (63 - floor)

pub ranged : (floor rank i : ℕ) → in_range floor rank i ≡ true → Ranged floor rank i
unfolding in_range
ranged floor rank i t =
    let both : leb floor rank && ltb rank 64 ≡ true = and_left (leb floor rank && ltb rank 64) (ltb i (2 ^ (63 - floor))) t in
    record {
      low = leb-true floor rank (and_left (leb floor rank) (ltb rank 64) both);
      high = ltb-true rank 64 (and_right (leb floor rank) (ltb rank 64) both);
      bound = ltb-true i (2 ^ (63 - floor)) (and_right (leb floor rank && ltb rank 64) (ltb i (2 ^ (63 - floor))) t);
    }

-- a pixel stays below 2^(30 - the floor's level): 2^62 at level -32
pub pixel_bound : (floor rank i : ℕ) → in_range floor rank i ≡ true → pixel rank i < 2 ^ (78 - floor)
pixel_bound floor rank i t =
    let r = ranged floor rank i t in
    elim (dec_le 48 rank) [
      | yes k ↦ rw (pixel_big rank i k) (omega (arith, shl_lt (63 - floor) (rank - 48) r.bound, pow_mono {i = 63 - floor + (rank - 48)} {j = 78 - floor} (omega (arith, r.high, r.low))))
      | no k ↦ (let q : rank ≤ 48 = omega arith in
          rw (pixel_small rank i q) (omega (arith, shr_le i (48 - rank), r.bound, pow_mono {i = 63 - floor} {j = 78 - floor} (omega arith))))
    ]

-- where the high half is in range, so is the low one
pub low_in_range : (floor rank i : ℕ) → in_range floor rank (2 * i + 1) ≡ true → in_range floor rank (2 * i) ≡ true
low_in_range floor rank i t =
    let r = ranged floor rank (2 * i + 1) t in
    unfold in_range in
    and_both (leb floor rank && ltb rank 64) (ltb (2 * i) (2 ^ (63 - floor)))
    (and_both (leb floor rank) (ltb rank 64) (le-leb floor rank r.low) (lt-ltb rank 64 r.high))
    (lt-ltb (2 * i) (2 ^ (63 - floor)) (omega (arith, r.bound)))
