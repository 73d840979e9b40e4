-- Document 02, (ii): "Box edges in pixel units are exact". Along an axis the coordinate of index i and level k begins at i times 2^k and ends at i + 1 times
-- 2^k, "clipped or not as `region_clipped` and `region` say": at the side from level 0 up, and not below. All these are whole numbers of parts, 2^-32 pixels
-- each, the width of an index of the lowest level.
use Rattle.std.specs.Prelude.{ℕ, ◌+◌, ◌-◌, ◌*◌, ◌^◌, ◌&&◌, cond, leb, ltb, pos, Float}
use Rattle.interval.specs.declared.Interval.{Interval}
use Rattle.interval.specs.Bounds.{put_interval}
use Rattle.interval.specs.Middle.{rounded}
use Rattle.coordinate.specs.declared.Coordinate.{Coordinate}
use Rattle.boxes.specs.declared.axis.PlotAxis.{PlotAxis}
use Rattle.boxes.specs.declared.transformation.MapKind.{MapKind}
use Rattle.boxes.specs.declared.transformation.Transformation.{Transformation}
use Rattle.boxes.specs.Maps.{map_of, image_of}

-- so many pixels, in parts
abbrev pub parts_of : ℕ → ℕ
parts_of pixels = pixels * 2 ^ 32

-- n parts as an f64 in pixels, which is n times 2^-32 exactly (`parts_exact`), and as the interval of it alone
unfoldable pub in_pixels : ℕ → Float
in_pixels n = rounded (pos n) (2 ^ 32)

unfoldable pub point_at : ℕ → Interval
point_at n = put_interval (record { lower = in_pixels n; upper = in_pixels n })

-- where a coordinate begins and where it ends; the level k is the rank less 48
abbrev pub begins_at : Coordinate → ℕ
begins_at c = c.index * 2 ^ (c.rank - 16)

abbrev pub ends_at : Coordinate → ℕ
ends_at c = (c.index + 1) * 2 ^ (c.rank - 16)

-- the end, clipped to the side from level 0 up
abbrev pub clipped_end : ℕ → Coordinate → ℕ
clipped_end side c = cond (leb 48 c.rank && ltb (parts_of side) (ends_at c)) (parts_of side) (ends_at c)

-- an axis' map, built as in the Rust's `Implicit::new`: the first pixel edge behind the padding goes to `from`, the last one before it to `upto`
unfoldable pub axis_map : MapKind → PlotAxis → Transformation
axis_map kind a = map_of kind (point_at (parts_of a.before)) (point_at (parts_of (a.side - a.after))) a.from a.upto

-- the two edges of a block along an axis, mapped
unfoldable pub low_edge : MapKind → PlotAxis → Coordinate → Interval
low_edge kind a c = image_of (axis_map kind a) (point_at (begins_at c))

unfoldable pub high_edge : MapKind → PlotAxis → Coordinate → Interval
high_edge kind a c = image_of (axis_map kind a) (point_at (clipped_end a.side c))
