-- Document 02, (ii): "Take the two kinds of map in `Transformation1D`, each carrying its own intervals: the quick one with slope and offset, the precise one
-- with its two anchors and two spans." Both take a0 to x0 and a1 to x1; in the Rust (geom.rs) quick is `Fast`.
-- a1 - a0 and p - a0 are operations too, and widened like every other, though the difference of two points in pixels is exact.
use Rattle.interval.specs.declared.Interval.{Interval}
use Rattle.boxes.specs.declared.transformation.MapKind.{MapKind}
use Rattle.boxes.specs.declared.transformation.MapKind.TheVariants as K
use Rattle.boxes.specs.declared.transformation.Transformation.{Transformation}
use Rattle.boxes.specs.declared.transformation.Transformation.TheVariants as M
use Rattle.boxes.specs.Arithmetic.{plus, negative, minus, times, over}

-- the slope, (x1 - x0) / (a1 - a0)
unfoldable pub slope_of : Interval → Interval → Interval → Interval → Interval
slope_of a0 a1 x0 x1 = over (minus x1 x0) (minus a1 a0)

-- the map of a kind: the slope and the offset -a0 slope + x0; or the anchors a0 and x0 with the spans a1 - a0 and x1 - x0
unfoldable pub map_of : MapKind → Interval → Interval → Interval → Interval → Transformation
map_of K.Quick a0 a1 x0 x1 = M.Quick (slope_of a0 a1 x0 x1) (plus (times (negative a0) (slope_of a0 a1 x0 x1)) x0)
map_of K.Precise a0 a1 x0 x1 = M.Precise a0 (minus a1 a0) x0 (minus x1 x0)

-- the image of p: p slope + offset; or ((p - a0) / a01) x01 + x0
unfoldable pub image_of : Transformation → Interval → Interval
image_of (M.Quick slope offset) p = plus (times p slope) offset
image_of (M.Precise a0 a01 x0 x01) p = plus (times (over (minus p a0) a01) x01) x0
