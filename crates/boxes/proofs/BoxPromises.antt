-- FOR READERS: what is promised of boxes, each statement under the sentence that it is. The words are those of specs/; what is longer than a few lines is proved in
-- the modules cited. Assumes nothing.
use mathlib.Core.Path.{◌≡◌, refl, subst}
use mathlib.Core.List.{[], ◌∷◌}
use mathlib.Core.Bool.{Bool, true, false, not, ◌&&◌, ◌||◌}
use Prim.Native.Nat.{ℕ, ◌≤◌, ◌<◌, ◌^◌}
use lib.Dec.{T, eqb, eqb→eq}
use lib.Ieee.{Float, binary64, lt, le, fits}
use lib.Ieee.Scale.{finite}
use Rattle.base.proofs.Test.{≡→T, and_right}
use Rattle.std.specs.Prelude.{Ok, Err}
use Rattle.refusal.specs.declared.Refusal.TheVariants as R
use Rattle.refusal.specs.Number.{answer_number, first_of}
use Rattle.refusal.proofs.Rows.{row, none, one_fails}
use Rattle.interval.specs.declared.Interval.{Interval}
use Rattle.interval.specs.Bounds.{legal_interval}
use Rattle.interval.specs.Next.{nought, next_below, next_above}
use Rattle.interval.proofs.Beside.{next_fits, above_fits, next_lt, next_greatest, above_lt, next_least}
use Rattle.coordinate.specs.declared.Coordinate.{Coordinate}
use Rattle.coordinate.specs.Axis.{legal_side}
use Rattle.coordinate.specs.Lone.{place_right}
use Rattle.boxes.specs.declared.Plot.{Plot}
use Rattle.boxes.specs.declared.BlockBox.{BlockBox}
use Rattle.boxes.specs.declared.axis.PlotAxis.{PlotAxis}
use Rattle.boxes.specs.declared.transformation.MapKind.{MapKind}
use Rattle.boxes.specs.Arithmetic.{finite_bounds, plus, minus, times, over}
use Rattle.boxes.specs.Pixels.{parts_of, point_at, begins_at, clipped_end, axis_map, low_edge, high_edge}
use Rattle.boxes.specs.Boxes.{x_axis, y_axis, has_room, has_legal_edges, box_along, is_sound, joined, box_of}
use Rattle.boxes.specs.Enclosure.{exact_pixels, mapped_to, EdgesEnclosed, PointsEnclosed}
use Rattle.boxes.proofs.BoxLaws.{sides, room, edges, places, from_room, from_edges, from_places, found}
use Rattle.boxes.proofs.AxisEnclosures.{low_around, high_around, further, ends_hold}
use Rattle.boxes.proofs.BoxInverted.{passes_places, answered}
use Rattle.boxes.proofs.Fifteen.{plus_finite, minus_finite, times_finite, over_finite, image_legal, span_positive}

-- ---- THE NUMBERS

-- one of three fails
one_of_three : (a b c : Bool) → not a || not b || not c ≡ not (a && b && c)
one_of_three true true c = refl
one_of_three true false c = refl
one_of_three false b c = refl

-- "Refusals: 1, then 16 if padding leaves no width or height, 3 for an edge interval that isn't legal, 8 for the coordinates or a block outside the picture, 15 if an
-- operation's bound isn't finite, or a box's outermost or narrowed ends cross": the number of the first row that applies, and 0 where none does
pub box_number_lem : (p : Plot) (kind : MapKind) (i j : Coordinate)
    → answer_number (box_of p kind i j)
    ≡ first_of ((1, not (legal_side p.width) || not (legal_side p.height))
    ∷ (16, not (has_room (x_axis p)) || not (has_room (y_axis p)))
    ∷ (3, not (has_legal_edges (x_axis p)) || not (has_legal_edges (y_axis p)))
    ∷ (8, not (place_right p.width i) || not (place_right p.height j) || not (eqb i.rank j.rank))
    ∷ (15, not (is_sound (box_along kind (x_axis p) i)) || not (is_sound (box_along kind (y_axis p) j)))
    ∷ [])
unfolding box_of
box_number_lem p kind i j =
    row answer_number (sides p kind i j) (Err R.Side) _ (from_room p kind i j) _ (one_fails (legal_side p.width) (legal_side p.height))
    (λ _. row answer_number (room p kind i j) (Err R.Padding) _ (from_edges p kind i j) _ (one_fails (has_room (x_axis p)) (has_room (y_axis p)))
    (λ _. row answer_number (edges p kind i j) (Err R.Parameter) _ (from_places p kind i j) _ (one_fails (has_legal_edges (x_axis p)) (has_legal_edges (y_axis p)))
    (λ _. row answer_number (places p kind i j) (Err R.Damaged) _ (found p kind i j) _
    (one_of_three (place_right p.width i) (place_right p.height j) (eqb i.rank j.rank))
    (λ _. row answer_number (is_sound (box_along kind (x_axis p) i) && is_sound (box_along kind (y_axis p) j)) (Err R.Bounds) _
    (Ok (joined (box_along kind (x_axis p) i) (box_along kind (y_axis p) j))) _ (one_fails (is_sound (box_along kind (x_axis p) i)) (is_sound (box_along kind (y_axis p) j)))
    (λ _. none)))))

-- "an operation's bound isn't finite": an operation on a bound that is not finite has one that is not, so that it shows in the edges
pub infinite_stays : (x y : Interval)
    → (finite_bounds (plus x y) ≡ true → (finite_bounds x ≡ true) × (finite_bounds y ≡ true))
    × (finite_bounds (minus x y) ≡ true → (finite_bounds x ≡ true) × (finite_bounds y ≡ true))
    × (finite_bounds (times x y) ≡ true → (finite_bounds x ≡ true) × (finite_bounds y ≡ true))
    × (finite_bounds (over x y) ≡ true → (finite_bounds x ≡ true) × (finite_bounds y ≡ true))
infinite_stays x y = (plus_finite x y, minus_finite x y, times_finite x y, over_finite x y)

-- and no quotient is refused for its divisor: the span of m pixels less n, where it is finite, is above zero
pub divisor_positive : (m n : ℕ) → n < m → parts_of m < 2 ^ 53 → parts_of n < 2 ^ 53 → finite_bounds (minus (point_at (parts_of m)) (point_at (parts_of n))) ≡ true
    → lt nought (minus (point_at (parts_of m)) (point_at (parts_of n))).lower ≡ true
divisor_positive = span_positive

-- nor is a midpoint, since every edge is a legal interval
pub edge_legal : (kind : MapKind) (a : PlotAxis) (c : Coordinate) → (legal_interval (low_edge kind a c) false ≡ true) × (legal_interval (high_edge kind a c) false ≡ true)
unfolding low_edge high_edge
edge_legal kind a c = (image_legal (axis_map kind a) (point_at (begins_at c)), image_legal (axis_map kind a) (point_at (clipped_end a.side c)))

-- ---- THE NEIGHBOURS

-- "the next number below": of all numbers of the format below a finite x, the greatest
pub next_number_below : (x y : Float) → T (fits binary64 x) → T (finite x) → T (fits binary64 y) → T (finite y)
    → T (fits binary64 (next_below x)) × T (lt (next_below x) x) × (T (lt y x) → T (le y (next_below x)))
next_number_below x y f g u v = (next_fits x f, next_lt x f g, next_greatest x y f g u v)

-- "the next above": the least above it
pub next_number_above : (x y : Float) → T (fits binary64 x) → T (finite x) → T (fits binary64 y) → T (finite y)
    → T (fits binary64 (next_above x)) × T (lt x (next_above x)) × (T (lt x y) → T (le (next_above x) y))
next_number_above x y f g u v = (above_fits x f, above_lt x f g, next_least x y f g u v)

-- ---- THE ENCLOSURE

module _ (p : Plot) (kind : MapKind) (i j : Coordinate) (b : BlockBox) (h : box_of p kind i j ≡ Ok b) where
  -- a block that has a box is on one level, and not below level -32
  pub box_levels : i.rank ≡ j.rank
  box_levels =
      eqb→eq i.rank j.rank (≡→T (and_right (place_right p.width i && place_right p.height j) (eqb i.rank j.rank) (passes_places p kind i j b h)))

  pub box_placed : (16 ≤ i.rank) × (16 ≤ j.rank)
  box_placed = let a = answered p kind i j b h in (a.first.low, a.second.low)

  -- "Proved for each of the four edges, before narrowing: wherever in their intervals the picture's edges stand, the exact mapped value, as a fraction of whole
  -- numbers, lies inside."
  pub edges_enclosed : EdgesEnclosed p i j b.edges
  edges_enclosed =
      let a = answered p kind i j b h in
      subst (EdgesEnclosed p i j) a.these (
        (λ X0 X1 z.
            ((low_around kind (x_axis p) a.across X0 X1 z i a.first.ends).1, (high_around kind (x_axis p) a.across X0 X1 z i a.first.ends).1)),
        (λ Y0 Y1 z. ((low_around kind (y_axis p) a.up Y0 Y1 z j a.second.ends).1, (high_around kind (y_axis p) a.up Y0 Y1 z j a.second.ends).1)),
      )

  -- the outermost ends hold what every point of the block is mapped to, where the picture's edges stand in order
  pub points_enclosed : PointsEnclosed p i j b.edges
  points_enclosed =
      let E = edges_enclosed in
      let a = x_axis p in
      let c = y_axis p in (
        (λ X0 X1 P z o u v.
            let k = E.0 X0 X1 z in
            let z0 = exact_pixels (begins_at i) in
            let d = exact_pixels (clipped_end a.side i) in
            ends_hold b.edges.left b.edges.right (mapped_to a X0 X1 z0) (mapped_to a X0 X1 P) (mapped_to a X0 X1 d) k.0 k.1 (further a X0 X1 z0 P o u) (further a X0 X1 P d o v)),
        (λ Y0 Y1 P z o u v.
            let k = E.1 Y0 Y1 z in
            let z0 = exact_pixels (begins_at j) in
            let d = exact_pixels (clipped_end c.side j) in
            ends_hold b.edges.bottom b.edges.top (mapped_to c Y0 Y1 z0) (mapped_to c Y0 Y1 P) (mapped_to c Y0 Y1 d) k.0 k.1 (further c Y0 Y1 z0 P o u) (further c Y0 Y1 P d o v)),
      )
