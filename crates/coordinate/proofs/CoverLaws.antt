-- Laws of the pixels that a coordinate covers along its axis, and of its halves': base's, at the rank 48. An index c of a rank is a half of c / 2 one
-- rank up. Assumes nothing.
use mathlib.Core.Path.{◌≡◌}
use mathlib.Core.Bool.{true}
use Prim.Native.Nat.{ℕ, suc, ◌+◌, ◌/◌, ◌^◌, ◌≤◌, ◌<◌}
use Rattle.base.specs.Axis.{begins_in, covers_along}
use Rattle.base.proofs.Test.{T→≡, ≡→T}
use Rattle.base.proofs.AxisLaws.{covers_start, covers_apart, half_of, half_begins}
use Rattle.base.proofs.AxisLaws as Axis
use Rattle.coordinate.specs.Axis.{pixel}
use Rattle.coordinate.proofs.Covering.{covers1}

-- from the pixel's rank down it covers its own pixel alone
pub one_pixel : (rank i p : ℕ) → rank ≤ 48 → covers1 rank i p ≡ true → p ≡ pixel rank i
unfolding covers1 covers_along pixel begins_in
one_pixel rank i p h t = covers_start 48 rank i p h (≡→T t)

-- index 0 of a rank whose 2^k holds the side covers it whole
pub root_covers : (side k p : ℕ) → side ≤ 2 ^ k → p < side → covers1 (48 + k) 0 p ≡ true
unfolding covers1 covers_along pixel begins_in
root_covers side k p h l = T→≡ (covers1 (48 + k) 0 p) (Axis.root_covers 48 k side p h l)

-- below the pixel's rank a half has its whole's pixel
pub half_pixel : (rank c : ℕ) → rank < 48 → pixel rank c ≡ pixel (suc rank) (c / 2)
unfolding pixel begins_in
half_pixel rank c h = half_begins 48 rank (c / 2) c (half_of c) h

-- so it covers what its whole covers
pub half_same : (rank c p : ℕ) → rank < 48 → covers1 rank c p ≡ covers1 (suc rank) (c / 2) p
unfolding covers1 covers_along pixel begins_in
half_same rank c p h = Axis.half_same 48 rank (c / 2) c p (half_of c) h

-- on every rank it covers only that
pub half_covers : (rank c p : ℕ) → covers1 rank c p ≡ true → covers1 (suc rank) (c / 2) p ≡ true
unfolding covers1 covers_along pixel begins_in
half_covers rank c p t = T→≡ (covers1 (suc rank) (c / 2) p) (Axis.half_covers 48 rank (c / 2) c p (half_of c) (≡→T t))

-- and from the pixel's rank up two indices of one rank cover no pixel together
pub apart : (rank i c p : ℕ) → 48 ≤ rank → covers1 rank i p ≡ true → covers1 rank c p ≡ true → i ≡ c
unfolding covers1 covers_along pixel begins_in
apart rank i c p h s t = covers_apart 48 rank i c p h (≡→T s) (≡→T t)
