-- Boxes, computed, as one table: 4 by 4 pixels, the left edge at 0, the right one at 1, bottom and top at 0 and 2, without padding. A block of 2 by 2 pixels and a
-- quarter of a pixel, which is narrowed, by both kinds of map; one that is padded and clipped; each refusal, with more wrong that comes later in their order; and a box
-- that shows why the picture's edges must stand in order for what is said of the points between. Closed facts, checked before the laws. Assumes nothing.
use mathlib.Core.Path.{◌≡◌, refl}
use mathlib.Core.List.{List, [], ◌∷◌}
use Prim.Native.Nat.{ℕ}
use native.Mathlib.Nat.{zero-lt-suc}
use lib.IntN.{pos}
use lib.Ieee.{binary64, fits, of_bits, to_bits, of_fields, add, mul, div, neg, lt, le, eq, round, sum, units, odd, size, span, climb}
use Rattle.base.specs.Lists.{Every}
use Rattle.std.specs.Prelude.{Result, Ok, Err}
use Rattle.refusal.specs.declared.Refusal.{Refusal}
use Rattle.refusal.specs.declared.Refusal.TheVariants as R
use Rattle.interval.specs.declared.Interval.{Interval}
use Rattle.interval.specs.Bounds.{in_units, zero_as, put_interval, legal_interval, whole_bound}
use Rattle.interval.specs.Middle.{rounded, half_sum}
use Rattle.interval.specs.Kinds.{kind_of, middle_at}
use Rattle.interval.specs.Next.{next_below, next_above}
use Rattle.coordinate.specs.declared.Coordinate.{Coordinate}
use Rattle.coordinate.specs.Axis.{in_range, places, inside}
use Rattle.boxes.specs.declared.Plot.{Plot}
use Rattle.boxes.specs.declared.Edges.{Edges}
use Rattle.boxes.specs.declared.BlockBox.{BlockBox}
use Rattle.boxes.specs.declared.transformation.MapKind.TheVariants as K
use Rattle.boxes.specs.Arithmetic.{least_of, greatest_of, around, plus, negative, minus, times, over}
use Rattle.boxes.specs.Maps.{slope_of, map_of, image_of}
use Rattle.boxes.specs.Pixels.{parts_of, in_pixels, point_at, axis_map, low_edge, high_edge}
use Rattle.boxes.specs.Boxes.{middle_of, low_end, high_end, box_along, x_axis, box_of}
use Rattle.boxes.specs.Ratios.{Ratio, ◌⊑◌, whole_ratio, Encloses}
use Rattle.boxes.specs.Enclosure.{exact_pixels, mapped_to, Stand, WithinEnds}

-- an interval by its bounds' bits
abbrev bounds : ℕ → ℕ → Interval
bounds a b = record { lower = of_bits binary64 a; upper = of_bits binary64 b }

abbrev at_0 : Interval
at_0 = bounds 0x8000000000000000 0x0000000000000000

abbrev at_1 : Interval
at_1 = bounds 0x3ff0000000000000 0x3ff0000000000000

abbrev at_2 : Interval
at_2 = bounds 0x4000000000000000 0x4000000000000000

-- no interval, and one to infinity
abbrev turned_round : Interval
turned_round = bounds 0x4000000000000000 0x3ff0000000000000

abbrev to_infinity : Interval
to_infinity = bounds 0x3ff0000000000000 0x7ff0000000000000

abbrev edges_at : Interval → Interval → Interval → Interval → Edges
edges_at left right bottom top = record { left = left; right = right; bottom = bottom; top = top }

-- sides, paddings left and right, edges
abbrev plot_of : ℕ → ℕ → ℕ → ℕ → Edges → Plot
plot_of width height left right e =
    record { width = width; height = height; padding = record { left = left; right = right; bottom = 0; top = 0 }; edges = e }

-- four paddings, all different
abbrev padded : Plot
padded = record { width = 5; height = 7; padding = record { left = 1; right = 2; bottom = 3; top = 0 }; edges = edges_at at_0 at_1 at_0 at_2 }

-- the left edge a last digit right of the right one: the outermost ends are equal, by the precise map
abbrev turned_edges : Edges
turned_edges = edges_at (bounds 0x3fb999999999999a 0x3fb999999999999a) (bounds 0x3fb9999999999998 0x3fb9999999999998) at_0 at_1

abbrev plotted : Plot
plotted = plot_of 4 4 0 0 (edges_at at_0 at_1 at_0 at_2)

-- the left edge in [4, 10], the right one in [0, 6]
abbrev overlapping : Plot
overlapping = plot_of 1 1 0 0 (edges_at (bounds 0x4010000000000000 0x4024000000000000) (bounds 0x8000000000000000 0x4018000000000000) at_0 at_1)

-- the left edge of the block of that plot, and the right one
abbrev overlapping_left : Interval
overlapping_left = bounds 0x400ffffffffffffe 0x4024000000000002

abbrev overlapping_right : Interval
overlapping_right = bounds 0xc018000000000009 0x4028000000000003

-- index i of a rank
abbrev at_index : ℕ → ℕ → Coordinate
at_index i rank = record { index = i; rank = rank }

-- a box of these edges and intervals
abbrev boxed : Edges → Interval → Interval → Result BlockBox Refusal
boxed e x y = Ok (record { edges = e; x = x; y = y })

-- asked, and answered
abbrev table : List (Result BlockBox Refusal × Result BlockBox Refusal)
table =
    -- a block of 2 by 2 pixels: quick map
    (
      box_of plotted K.Quick (at_index 1 49) (at_index 0 49),
      boxed (edges_at (bounds 0x3fdffffffffffffa 0x3fe0000000000005) (bounds 0x3feffffffffffffa 0x3ff0000000000005)
          (bounds 0x8000000000000004 0x0000000000000004) (bounds 0x3feffffffffffffa 0x3ff0000000000005))
          (bounds 0x3fdffffffffffffa 0x3ff0000000000005) (bounds 0x8000000000000004 0x3ff0000000000005),
    )
    -- a quarter of a pixel: quick map
    ∷ (
      box_of plotted K.Quick (at_index 3 47) (at_index 4 47),
      boxed (edges_at (bounds 0x3fd7fffffffffffb 0x3fd8000000000006) (bounds 0x3fdffffffffffffa 0x3fe0000000000005)
          (bounds 0x3feffffffffffffa 0x3ff0000000000005) (bounds 0x3ff3fffffffffffc 0x3ff4000000000006))
          (bounds 0x3fd8000000000000 0x3fe0000000000005) (bounds 0x3feffffffffffffa 0x3ff4000000000001),
    )
    -- a block of 2 by 2 pixels: precise map
    ∷ (
      box_of plotted K.Precise (at_index 1 49) (at_index 0 49),
      boxed (edges_at (bounds 0x3fdffffffffffff9 0x3fe0000000000006) (bounds 0x3feffffffffffff9 0x3ff0000000000006)
          (bounds 0x8000000000000004 0x0000000000000004) (bounds 0x3feffffffffffff9 0x3ff0000000000006))
          (bounds 0x3fdffffffffffff9 0x3ff0000000000006) (bounds 0x8000000000000004 0x3ff0000000000006),
    )
    -- a quarter of a pixel: precise map
    ∷ (
      box_of plotted K.Precise (at_index 3 47) (at_index 4 47),
      boxed (edges_at (bounds 0x3fd7fffffffffffa 0x3fd8000000000007) (bounds 0x3fdffffffffffff9 0x3fe0000000000006)
          (bounds 0x3feffffffffffff9 0x3ff0000000000006) (bounds 0x3ff3fffffffffffa 0x3ff4000000000006))
          (bounds 0x3fd8000000000000 0x3fe0000000000006) (bounds 0x3feffffffffffff9 0x3ff4000000000000),
    )
    -- 1: no side, and everything else is wrong too
    ∷ (box_of (plot_of 0 4 2 2 (edges_at at_0 turned_round at_0 at_1)) K.Quick (at_index 9 15) (at_index 9 63), Err R.Side)
    -- 16: paddings of 2 and 2 leave nothing of 4
    ∷ (box_of (plot_of 4 4 2 2 (edges_at at_0 turned_round at_0 at_1)) K.Quick (at_index 9 15) (at_index 9 63), Err R.Padding)
    -- 16: paddings whose sum passes 32 bits
    ∷ (box_of (plot_of 4 4 4294967295 4294967295 (edges_at at_0 at_1 at_0 at_1)) K.Quick (at_index 0 48) (at_index 0 48), Err R.Padding)
    -- 3: an edge in [2, 1]
    ∷ (box_of (plot_of 4 4 1 2 (edges_at at_0 turned_round at_0 at_1)) K.Quick (at_index 9 15) (at_index 9 63), Err R.Parameter)
    -- 8: an index past the last, though the right edge may be at infinity
    ∷ (box_of (plot_of 4 4 0 0 (edges_at at_0 to_infinity at_0 at_1)) K.Quick (at_index 4 48) (at_index 0 48), Err R.Damaged)
    -- 8: level -33
    ∷ (box_of (plot_of 4 4 0 0 (edges_at at_0 at_1 at_0 at_1)) K.Precise (at_index 0 15) (at_index 0 15), Err R.Damaged)
    -- 8: two levels
    ∷ (box_of (plot_of 4 4 0 0 (edges_at at_0 at_1 at_0 at_1)) K.Quick (at_index 0 47) (at_index 0 48), Err R.Damaged)
    -- 15: a right edge that may be at infinity
    ∷ (box_of (plot_of 4 4 0 0 (edges_at at_0 to_infinity at_0 at_1)) K.Quick (at_index 3 48) (at_index 0 48), Err R.Bounds)
    -- 15: the left edge at 1 and the right one at 0, so that the ends cross
    ∷ (box_of (plot_of 4 4 0 0 (edges_at at_1 at_0 at_0 at_1)) K.Precise (at_index 3 48) (at_index 0 48), Err R.Bounds)
    -- paddings of 1, 2, 3 and 0 about 5 by 7 pixels, and a block of 4 by 4 that is clipped at both sides
    ∷ (
      box_of padded K.Quick (at_index 1 50) (at_index 1 50),
      boxed (edges_at (bounds 0x3ff7fffffffffff7 0x3ff800000000000b) (bounds 0x3ffffffffffffff7 0x4000000000000007)
          (bounds 0x3fdfffffffffffd3 0x3fe000000000001b) (bounds 0x3fffffffffffffef 0x4000000000000009))
          (bounds 0x3ff7fffffffffff7 0x4000000000000007) (bounds 0x3fdfffffffffffd3 0x4000000000000009),
    )
    -- 15: the edges stand in order, and the outermost ends do not cross, but the narrowed ones do
    ∷ (box_of (plot_of 1 1 0 0 (edges_at at_0 (bounds 1 1) at_0 at_1)) K.Quick (at_index 4 45) (at_index 4 45), Err R.Bounds)
    -- ends that are equal do not cross
    ∷ (
      box_of (plot_of 1 1 0 0 turned_edges) K.Precise (at_index 0 48) (at_index 0 48),
      boxed (edges_at (bounds 0x3fb9999999999999 0x3fb999999999999b) (bounds 0x3fb9999999999997 0x3fb9999999999999)
          (bounds 0x8000000000000004 0x0000000000000004) (bounds 0x3feffffffffffff9 0x3ff0000000000006))
          (bounds 0x3fb9999999999999 0x3fb9999999999999) (bounds 0x8000000000000004 0x3ff0000000000006),
    )
    -- edges that overlap have a box
    ∷ (
      box_of overlapping K.Quick (at_index 0 48) (at_index 0 48),
      boxed (edges_at overlapping_left overlapping_right
          (bounds 0x8000000000000004 0x0000000000000004) (bounds 0x3feffffffffffffa 0x3ff0000000000005))
          (bounds 0x400ffffffffffffe 0x4028000000000003) (bounds 0x8000000000000004 0x3ff0000000000005),
    )
    ∷ []

pub boxes_computed : Every (λ (r : Result BlockBox Refusal × Result BlockBox Refusal). r.0 ≡ r.1) table
unfolding box_of box_along low_end high_end middle_of low_edge high_edge axis_map point_at in_pixels image_of map_of slope_of over times minus negative plus around
    greatest_of least_of next_below next_above put_interval zero_as legal_interval whole_bound in_units rounded half_sum kind_of middle_at in_range places inside of_bits to_bits
    of_fields add mul div neg lt le eq round sum units odd size span climb
boxes_computed = (refl, (refl, (refl, (refl, (refl, (refl, (refl, (refl, (refl, (refl, (refl, (refl, (refl, (refl, (refl, (refl, (refl, tt)))))))))))))))))

-- the overlapping edges may stand at 10 and at 0
pub may_stand : Stand (x_axis overlapping) (whole_ratio 10) (whole_ratio 0)
unfolding of_bits in_units of_fields odd fits
may_stand = record { in_format = ((tt, tt), (tt, tt)); first = (tt, tt); last = (tt, tt) }

-- then the point on the right edge stands at 0, which is not within the outermost ends
pub right_edge_at_0 : (mapped_to (x_axis overlapping) (whole_ratio 10) (whole_ratio 0) (whole_ratio 1)).num ≡ pos 0
right_edge_at_0 = refl

pub not_within : ¬ WithinEnds overlapping_left overlapping_right (mapped_to (x_axis overlapping) (whole_ratio 10) (whole_ratio 0) (whole_ratio 1))
unfolding of_bits in_units of_fields odd
not_within h = h.0

-- what the promises say of the first box is not empty: its left edge stands at 1/2, which its interval encloses, and neither 0 nor 1
abbrev half : Ratio
half = record { num = pos 1; den = 2; den_pos = zero-lt-suc 1 }

abbrev first_left : Interval
first_left = bounds 0x3fdffffffffffffa 0x3fe0000000000005

abbrev first_left_edge : Ratio
first_left_edge = mapped_to (x_axis plotted) (whole_ratio 0) (whole_ratio 1) (exact_pixels (parts_of 2))

pub left_edge_at_half : (first_left_edge ⊑ half) × (half ⊑ first_left_edge)
left_edge_at_half = (tt, tt)

pub left_edge_enclosed : Encloses first_left half × (¬ Encloses first_left (whole_ratio 0)) × (¬ Encloses first_left (whole_ratio 1))
unfolding of_bits in_units of_fields odd
left_edge_enclosed = ((tt, tt), (λ h. h.0), (λ h. h.1))

-- the left edge of the padded block stands at 3/2
abbrev three_halves : Ratio
three_halves = record { num = pos 3; den = 2; den_pos = zero-lt-suc 1 }

abbrev padded_left_edge : Ratio
padded_left_edge = mapped_to (x_axis padded) (whole_ratio 0) (whole_ratio 1) (exact_pixels (parts_of 4))

pub padded_edge_at_three_halves : (padded_left_edge ⊑ three_halves) × (three_halves ⊑ padded_left_edge)
padded_edge_at_three_halves = (tt, tt)
