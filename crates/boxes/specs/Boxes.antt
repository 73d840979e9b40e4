-- Document 02, (ii): "a block's box comes out as four intervals, clipped or not as `region_clipped` and `region` say, and from level 0 down narrowed to two as
-- `subpixel_outer` says"; and its refusals, in their order.
use Rattle.std.specs.Prelude.{ℕ, ◌+◌, ◌-◌, ◌%◌, ◌^◌, Bool, false, ◌&&◌, cond, Result, Ok, Err, ltb, eqb, Float}
use Rattle.std.specs.Float.Ieee.{le}
use Rattle.refusal.specs.declared.Refusal.{Refusal}
use Rattle.refusal.specs.declared.Refusal.TheVariants as R
use Rattle.refusal.specs.Number.{refused_unless}
use Rattle.interval.specs.declared.Interval.{Interval}
use Rattle.interval.specs.Bounds.{legal_interval, put_interval}
use Rattle.interval.specs.Kinds.{midpoint_of}
use Rattle.coordinate.specs.declared.Coordinate.{Coordinate}
use Rattle.coordinate.specs.Axis.{legal_side}
use Rattle.coordinate.specs.Lone.{place_right}
use Rattle.boxes.specs.declared.Plot.{Plot}
use Rattle.boxes.specs.declared.BlockBox.{BlockBox}
use Rattle.boxes.specs.declared.axis.PlotAxis.{PlotAxis}
use Rattle.boxes.specs.declared.axis.AxisBox.{AxisBox}
use Rattle.boxes.specs.declared.transformation.MapKind.{MapKind}
use Rattle.boxes.specs.Arithmetic.{finite_bounds}
use Rattle.boxes.specs.Pixels.{low_edge, high_edge}

-- document 01's midpoint; every edge is a legal interval (`edge_legal`), so that the other answer is never asked for
unfoldable pub middle_of : Interval → Float
middle_of x = cond (legal_interval x false) (midpoint_of (put_interval x)) x.lower

-- does index i of a rank begin on a pixel's edge? From level 0 up every one does
abbrev pub on_pixel_edge : ℕ → ℕ → Bool
on_pixel_edge rank i = eqb (i % 2 ^ (48 - rank)) 0

-- `subpixel_outer`: an edge of the block that is a pixel's edge keeps its outermost end, any other is put at the middle of its interval
unfoldable pub low_end : Coordinate → Interval → Float
low_end c low = cond (on_pixel_edge c.rank c.index) low.lower (middle_of low)

unfoldable pub high_end : Coordinate → Interval → Float
high_end c high = cond (on_pixel_edge c.rank (c.index + 1)) high.upper (middle_of high)

-- along an axis: the two edges, and the interval between the ends; above level 0 that is from the one outermost end to the other, as the Rust's `outer`
unfoldable pub box_along : MapKind → PlotAxis → Coordinate → AxisBox
box_along kind a c =
    record {
      low = low_edge kind a c;
      high = high_edge kind a c;
      narrowed = put_interval (record { lower = low_end c (low_edge kind a c); upper = high_end c (high_edge kind a c) });
    }

-- what 15 asks of it: every bound is finite, and neither the outermost nor the narrowed ends cross; equal ends do not
abbrev pub is_sound : AxisBox → Bool
is_sound b = finite_bounds b.low && finite_bounds b.high && le b.low.lower b.high.upper && le b.narrowed.lower b.narrowed.upper

-- the two axes of a plot
abbrev pub x_axis : Plot → PlotAxis
x_axis p = record { side = p.width; before = p.padding.left; after = p.padding.right; from = p.edges.left; upto = p.edges.right }

abbrev pub y_axis : Plot → PlotAxis
y_axis p = record { side = p.height; before = p.padding.bottom; after = p.padding.top; from = p.edges.bottom; upto = p.edges.top }

-- padding leaves something of the side
abbrev pub has_room : PlotAxis → Bool
has_room a = ltb (a.before + a.after) a.side

-- both edges stand in legal intervals
abbrev pub has_legal_edges : PlotAxis → Bool
has_legal_edges a = legal_interval a.from false && legal_interval a.upto false

-- the box of what was found along both axes
abbrev pub joined : AxisBox → AxisBox → BlockBox
joined x y =
    record { edges = record { left = x.low; right = x.high; bottom = y.low; top = y.high }; x = x.narrowed; y = y.narrowed }

-- and 15 where it is not sound
abbrev pub box_from : AxisBox → AxisBox → Result BlockBox Refusal
box_from x y = refused_unless (Err R.Bounds) (is_sound x && is_sound y) (Ok (joined x y))

-- "Refusals: 1, then 16 if padding leaves no width or height, 3 for an edge interval that isn't legal, 8 for the coordinates or a block outside the picture, 15
-- if an operation's bound isn't finite, or a box's outermost or narrowed ends cross." Our choice: two levels that differ are 8
unfoldable pub box_of : Plot → MapKind → Coordinate → Coordinate → Result BlockBox Refusal
box_of p kind i j =
    refused_unless (Err R.Side) (legal_side p.width && legal_side p.height)
    (refused_unless (Err R.Padding) (has_room (x_axis p) && has_room (y_axis p))
    (refused_unless (Err R.Parameter) (has_legal_edges (x_axis p) && has_legal_edges (y_axis p))
    (refused_unless (Err R.Damaged) (place_right p.width i && place_right p.height j && eqb i.rank j.rank)
    (box_from (box_along kind (x_axis p) i) (box_along kind (y_axis p) j)))))
