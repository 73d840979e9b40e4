-- Along one axis: each edge of the block encloses the exact value that it is mapped to, wherever in their intervals the picture's edges stand, for both kinds of
-- map; and where these stand in order, the outermost ends hold what every point of the block is mapped to. Assumes nothing.
use mathlib.Core.Path.{◌≡◌, refl, sym, ap, ◌∙◌, subst}
use Prim.Native.Nat.{ℕ, zero, suc, ◌+◌, ◌-◌, ◌^◌, ◌≤◌, ◌<◌}
use native.Mathlib.Nat.{mul-le-mul_right, le_trans}
use native.Mathlib.Omega.{arith}
use lib.IntN.{ℤ, pos, neg_ℤ, ◌+ℤ◌, ◌*ℤ◌, +ℤ_comm, +ℤ-neg_ℤ_cancel}
use Rattle.interval.specs.declared.Interval.{Interval}
use Rattle.interval.proofs.UnitsOrder.{gap}
use Rattle.coordinate.specs.declared.Coordinate.{Coordinate}
use Rattle.boxes.specs.declared.axis.PlotAxis.{PlotAxis}
use Rattle.boxes.specs.declared.transformation.MapKind.{MapKind}
use Rattle.boxes.specs.Maps.{map_of, image_of}
use Rattle.boxes.specs.Pixels.{parts_of, point_at, begins_at, ends_at, clipped_end, axis_map, low_edge, high_edge}
use Rattle.boxes.specs.Ratios.{Ratio, ◌⊑◌, sum_of, minus_of, difference_of, product_of, whole_ratio, one_over, Encloses}
use Rattle.boxes.specs.Enclosure.{exact_pixels, mapped_to, Stand, WithinEnds}
use Rattle.boxes.proofs.Integers.{times_neg}
use Rattle.boxes.proofs.RatioLaws.{⊑_refl, ⊑_trans, sum_⊑, times_⊑, commuted, over_less, under_more}
use Rattle.boxes.proofs.Enclosures.{Around}
use Rattle.boxes.proofs.MapEnclosures.{Standing, image_around}
use Rattle.boxes.proofs.PixelPoints.{point_around, whole_around}
use Rattle.boxes.proofs.BoxLaws.{clip_le}

-- an axis of a legal plot
pub record Sound (a : PlotAxis) : Type 0 where
  pub small : a.side ≤ 32768
  pub room : a.before + a.after < a.side

-- the pixels between the paddings, one at least
across : (a : PlotAxis) → Sound a → (n : ℕ) × (a.side - (a.before + a.after) ≡ suc n) × (a.side - a.after ≡ a.before + suc n)
across a s = (a.side - (a.before + a.after) - 1, one a.side a.before a.after s.room, two a.side a.before a.after s.room)
  where
    one : (w b f : ℕ) → b + f < w → w - (b + f) ≡ suc (w - (b + f) - 1)
    one w b f h = omega arith

    two : (w b f : ℕ) → b + f < w → w - f ≡ b + suc (w - (b + f) - 1)
    two w b f h = omega arith

few : (n : ℕ) → n ≤ 2 ^ 47 → n < 2 ^ 53
few n h = omega arith

begins_le : (c : Coordinate) → begins_at c ≤ ends_at c
begins_le c = mul-le-mul_right (2 ^ (c.rank - 16)) (next c.index)
  where
    next : (i : ℕ) → i ≤ i + 1
    next i = omega arith

module _ (kind : MapKind) (a : PlotAxis) (s : Sound a) (X0 X1 : Ratio) (z : Stand a X0 X1) where
  -- the image of a point that is so many parts from the side's beginning
  part_around : (n : ℕ) → n < 2 ^ 53 → Around (image_of (axis_map kind a) (point_at n)) (mapped_to a X0 X1 (exact_pixels n))
  unfolding axis_map
  part_around n h =
      let (m, e, f) = across a s in
      let a0 = point_at (parts_of a.before) in
      let a1 = point_at (parts_of (a.side - a.after)) in
      let last = subst (λ (k : ℕ). Around a1 (whole_ratio k)) f (whole_around (a.side - a.after) (less a.side a.after s.small)) in
      let standing : Standing a0 a1 a.from a.upto (point_at n) a.before m X0 X1 (exact_pixels n) =
      record {
        first = whole_around a.before (below a.side a.before a.after s.small s.room);
        last = last;
        from = (z.in_format.0, z.first);
        upto = (z.in_format.1, z.last);
        point = point_around n h;
      } in
      subst (λ (k : ℕ). Around (image_of (map_of kind a0 a1 a.from a.upto) (point_at n)) (mapped k)) (sym e)
      (image_around a0 a1 a.from a.upto (point_at n) a.before m X0 X1 (exact_pixels n) standing kind)
    where
      mapped : ℕ → Ratio
      mapped k = sum_of (product_of (product_of (difference_of (exact_pixels n) (whole_ratio a.before)) (one_over k)) (difference_of X1 X0)) X0

      less : (w f : ℕ) → w ≤ 32768 → w - f ≤ 32768
      less w f h = omega arith

      below : (w b f : ℕ) → w ≤ 32768 → b + f < w → b ≤ 32768
      below w b f h k = omega arith

  module _ (c : Coordinate) (ends : ends_at c ≤ 2 ^ 47) where
    pub low_around : Around (low_edge kind a c) (mapped_to a X0 X1 (exact_pixels (begins_at c)))
    unfolding low_edge
    low_around = part_around (begins_at c) (few (begins_at c) (le_trans (begins_le c) ends))

    pub high_around : Around (high_edge kind a c) (mapped_to a X0 X1 (exact_pixels (clipped_end a.side c)))
    unfolding high_edge
    high_around = part_around (clipped_end a.side c) (few (clipped_end a.side c) (le_trans (clip_le a.side c) ends))

-- ---- where the edges stand in order, what stands further along is no less
forward : (a b : Ratio) → a ⊑ b → (n : ℕ) × ((difference_of b a).num ≡ pos n)
forward a b h =
    let (n, e) = gap (a.num *ℤ pos b.den) (b.num *ℤ pos a.den) h in
    (n, ap (λ (z : ℤ). b.num *ℤ pos a.den +ℤ z) (times_neg a.num b.den) ∙ ahead (a.num *ℤ pos b.den) (b.num *ℤ pos a.den) n e)
  where
    ahead : (z w : ℤ) (n : ℕ) → w ≡ z +ℤ pos n → w +ℤ neg_ℤ z ≡ pos n
    ahead z w n e = ap (λ (v : ℤ). v +ℤ neg_ℤ z) (e ∙ +ℤ_comm z (pos n)) ∙ +ℤ-neg_ℤ_cancel (pos n) z

times_right : (k a b : Ratio) (n : ℕ) → k.num ≡ pos n → a ⊑ b → product_of a k ⊑ product_of b k
times_right k a b n e h =
    ⊑_trans (product_of a k) (product_of k a) (product_of b k) (commuted a k).0
    (⊑_trans (product_of k a) (product_of k b) (product_of b k) (times_⊑ n k a b e h) (commuted k b).0)

-- 1 / n is not below zero
one_over_lem : (n : ℕ) → (m : ℕ) × ((one_over n).num ≡ pos m)
one_over_lem zero = (0, refl)
one_over_lem (suc n) = (1, refl)

pub further : (a : PlotAxis) (X0 X1 P Q : Ratio) → X0 ⊑ X1 → P ⊑ Q → mapped_to a X0 X1 P ⊑ mapped_to a X0 X1 Q
further a X0 X1 P Q h k =
    let A = whole_ratio a.before in
    let n = a.side - (a.before + a.after) in
    let r = one_over n in
    let E = difference_of X1 X0 in
    let D = difference_of P A in
    let F = difference_of Q A in
    let (m, e) = one_over_lem n in
    let (l, f) = forward X0 X1 h in
    sum_⊑ (product_of (product_of D r) E) X0 (product_of (product_of F r) E) X0
    (times_right E (product_of D r) (product_of F r) l f (times_right r D F m e (sum_⊑ P (minus_of A) Q (minus_of A) k (⊑_refl (minus_of A))))) (⊑_refl X0)

pub ends_hold : (low high : Interval) (u v w : Ratio) → Encloses low u → Encloses high w → u ⊑ v → v ⊑ w → WithinEnds low high v
ends_hold low high u v w h k p q = (over_less low.lower u v p h.0, under_more high.upper w v q k.1)
