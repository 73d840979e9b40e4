-- The composed enclosure: wherever in their intervals the picture's edges stand, the exact value that a point is mapped to lies in its image, for either kind of
-- map (`image_around`). Assumes nothing.
use mathlib.Core.Path.{◌≡◌, ap, ◌∙◌}
use Prim.Native.Nat.{ℕ, suc, ◌+◌, ◌-◌, ◌*◌, ◌≤◌}
use native.Mathlib.Omega.{arith}
use lib.IntN.{ℤ, pos, ◌+ℤ◌, ◌*ℤ◌}
use Rattle.interval.specs.declared.Interval.{Interval}
use Rattle.interval.proofs.UnitsOrder.{sub_ge}
use Rattle.interval.proofs.HalfSum.{plus_neg}
use Rattle.boxes.specs.declared.transformation.MapKind.{MapKind}
use Rattle.boxes.specs.declared.transformation.MapKind.TheVariants as K
use Rattle.boxes.specs.Arithmetic.{plus, negative, minus, times, over}
use Rattle.boxes.specs.Maps.{slope_of, map_of, image_of}
use Rattle.boxes.specs.Ratios.{Ratio, sum_of, minus_of, difference_of, product_of, whole_ratio, one_over}
use Rattle.boxes.proofs.Integers.{times_neg}
use Rattle.boxes.proofs.RatioLaws.{Same, same_from, same_sym, same_trans, same_left, same_times, associated, commuted, sums_associated, distributed}
use Rattle.boxes.proofs.Enclosures.{Around, around_same, negative_around, plus_around, minus_around, times_around, over_around}

-- n pixels from b to b + n: the difference of two whole numbers
pub whole_difference : (b n : ℕ) → Same (difference_of (whole_ratio (b + n)) (whole_ratio b)) (whole_ratio n)
whole_difference b n =
    same_from (difference_of (whole_ratio (b + n)) (whole_ratio b)) (whole_ratio n)
    (ap (λ (z : ℤ). z *ℤ pos 1)
    (ap (λ (z : ℤ). pos ((b + n) * 1) +ℤ z) (times_neg (pos b) 1) ∙ plus_neg ((b + n) * 1) (b * 1) ∙ sub_ge ((b + n) * 1) (b * 1) (less b n))
    ∙ ap (λ (z : ℕ). pos (z * 1)) (left b n))
  where
    less : (b n : ℕ) → b * 1 ≤ (b + n) * 1
    less b n = omega arith

    left : (b n : ℕ) → (b + n) * 1 - b * 1 ≡ n
    left b n = omega arith

-- the exact value of the quick map is that of the precise one
module _ (A0 r E X0 P : Ratio) where
  abbrev slope : Ratio
  slope = product_of E r

  abbrev pub mapped : Ratio
  mapped = sum_of (product_of (product_of (difference_of P A0) r) E) X0

  pub quick_same : Same (sum_of (product_of P slope) (sum_of (product_of (minus_of A0) slope) X0)) mapped
  quick_same =
      let u = product_of P slope in
      let v = product_of (minus_of A0) slope in
      let D = difference_of P A0 in
      let DS = product_of D slope in
      let turned = same_trans DS (product_of D (product_of r E)) (product_of (product_of D r) E) (same_times D slope (product_of r E) (commuted E r))
      (same_sym (product_of (product_of D r) E) (product_of D (product_of r E)) (associated D r E)) in
      let gathered = same_trans (sum_of u v) DS (product_of (product_of D r) E) (same_sym DS (sum_of u v) (distributed P (minus_of A0) slope)) turned in
      same_trans (sum_of u (sum_of v X0)) (sum_of (sum_of u v) X0) mapped
      (same_sym (sum_of (sum_of u v) X0) (sum_of u (sum_of v X0)) (sums_associated u v X0))
      (same_left (sum_of u v) (product_of (product_of D r) E) X0 gathered)

-- where the picture's edges in pixels, its edges, and a point stand
pub record Standing (a0 a1 x0 x1 p : Interval) (b n : ℕ) (X0 X1 P : Ratio) : Type 0 where
  pub first : Around a0 (whole_ratio b)
  pub last : Around a1 (whole_ratio (b + suc n))
  pub from : Around x0 X0
  pub upto : Around x1 X1
  pub point : Around p P

module _ (a0 a1 x0 x1 p : Interval) (b n : ℕ) (X0 X1 P : Ratio) (z : Standing a0 a1 x0 x1 p b n X0 X1 P) where
  abbrev A0 : Ratio
  A0 = whole_ratio b

  abbrev r : Ratio
  r = one_over (suc n)

  abbrev E : Ratio
  E = difference_of X1 X0

  -- the spans
  x01 : Around (minus x1 x0) E
  x01 = minus_around x1 x0 X1 X0 z.upto z.from

  a01 : Around (minus a1 a0) (whole_ratio (suc n))
  a01 =
      let A1 = whole_ratio (b + suc n) in
      let s = whole_difference b (suc n) in
      around_same (minus a1 a0) (difference_of A1 A0) (whole_ratio (suc n)) (minus_around a1 a0 A1 A0 z.last z.first) s.0 s.1

  quick : Around (image_of (map_of K.Quick a0 a1 x0 x1) p) (mapped A0 r E X0 P)
  unfolding map_of image_of slope_of
  quick =
      let s = over (minus x1 x0) (minus a1 a0) in
      let S = product_of E r in
      let hs : Around s S = over_around (minus x1 x0) (minus a1 a0) E n x01 a01 in
      let hn = negative_around a0 A0 z.first in
      let ho = plus_around (times (negative a0) s) x0 (product_of (minus_of A0) S) X0 (times_around (negative a0) s (minus_of A0) S hn hs) z.from in
      let hp = times_around p s P S z.point hs in
      let o = plus (times (negative a0) s) x0 in
      let O = sum_of (product_of (minus_of A0) S) X0 in
      let q = quick_same A0 r E X0 P in
      around_same (plus (times p s) o) (sum_of (product_of P S) O) (mapped A0 r E X0 P) (plus_around (times p s) o (product_of P S) O hp ho) q.0 q.1

  precise : Around (image_of (map_of K.Precise a0 a1 x0 x1) p) (mapped A0 r E X0 P)
  unfolding map_of image_of
  precise =
      let d = minus p a0 in
      let D = difference_of P A0 in
      let hd = minus_around p a0 P A0 z.point z.first in
      let hq = over_around d (minus a1 a0) D n hd a01 in
      let ht = times_around (over d (minus a1 a0)) (minus x1 x0) (product_of D r) E hq x01 in
      plus_around (times (over d (minus a1 a0)) (minus x1 x0)) x0 (product_of (product_of D r) E) X0 ht z.from

  pub image_around : (kind : MapKind) → Around (image_of (map_of kind a0 a1 x0 x1) p) (mapped A0 r E X0 P)
  image_around K.Quick = quick
  image_around K.Precise = precise
