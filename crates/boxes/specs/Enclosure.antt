-- What is promised of boxes, in whole numbers; no float but the bounds themselves. proofs/BoxPromises proves it of every box that is answered.
use Rattle.std.specs.Prelude.{ℕ, ◌+◌, ◌-◌, ◌^◌, pos}
use Rattle.std.proofs.Common.{pow_pos}
use Rattle.interval.specs.declared.Interval.{Interval}
use Rattle.interval.specs.Bounds.{InFormat}
use Rattle.coordinate.specs.declared.Coordinate.{Coordinate}
use Rattle.boxes.specs.declared.Plot.{Plot}
use Rattle.boxes.specs.declared.Edges.{Edges}
use Rattle.boxes.specs.declared.axis.PlotAxis.{PlotAxis}
use Rattle.boxes.specs.Pixels.{begins_at, clipped_end}
use Rattle.boxes.specs.Boxes.{x_axis, y_axis}
use Rattle.boxes.specs.Ratios.{Ratio, ◌⊑◌, sum_of, difference_of, product_of, whole_ratio, one_over, NotOver, NotUnder, Encloses}

-- n parts, in pixels
abbrev pub exact_pixels : ℕ → Ratio
exact_pixels n = record { num = pos n; den = 2 ^ 32; den_pos = pow_pos 32 }

-- what stands at P pixels along the axis where its edges stand at X0 and X1, as a fraction of whole numbers: X0, and of the way from X0 to X1 as much as P has
-- of the way across the pixels between the paddings
abbrev pub mapped_to : PlotAxis → (X0 X1 P : Ratio) → Ratio
mapped_to a X0 X1 P =
    sum_of (product_of (product_of (difference_of P (whole_ratio a.before)) (one_over (a.side - (a.before + a.after)))) (difference_of X1 X0)) X0

-- the edges stand there: each in its interval, whose bounds are f64s
pub record Stand (a : PlotAxis) (X0 X1 : Ratio) : Type 0 where
  pub in_format : InFormat a.from × InFormat a.upto
  pub first : Encloses a.from X0
  pub last : Encloses a.upto X1

-- v lies between the outermost ends: the lower bound of low, the upper of high
abbrev pub WithinEnds : Interval → Interval → Ratio → Type 0
WithinEnds low high v = NotOver low.lower v × NotUnder high.upper v

module _ (p : Plot) (i j : Coordinate) where
  abbrev x : PlotAxis
  x = x_axis p

  abbrev y : PlotAxis
  y = y_axis p

  -- "for each of the four edges, before narrowing: wherever in their intervals the picture's edges stand, the exact mapped value, as a fraction of whole
  -- numbers, lies inside"
  abbrev pub EdgesEnclosed : Edges → Type 0
  EdgesEnclosed e =
      ((X0 X1 : Ratio) → Stand x X0 X1
      → Encloses e.left (mapped_to x X0 X1 (exact_pixels (begins_at i)))
      × Encloses e.right (mapped_to x X0 X1 (exact_pixels (clipped_end x.side i))))
      × ((Y0 Y1 : Ratio) → Stand y Y0 Y1
      → Encloses e.bottom (mapped_to y Y0 Y1 (exact_pixels (begins_at j)))
      × Encloses e.top (mapped_to y Y0 Y1 (exact_pixels (clipped_end y.side j))))

  -- and of every point of the block, where the picture's left edge is not right of its right one, and its bottom not above its top: what stands there lies
  -- within the outermost ends
  abbrev pub PointsEnclosed : Edges → Type 0
  PointsEnclosed e =
      ((X0 X1 P : Ratio) → Stand x X0 X1 → X0 ⊑ X1 → exact_pixels (begins_at i) ⊑ P → P ⊑ exact_pixels (clipped_end x.side i)
      → WithinEnds e.left e.right (mapped_to x X0 X1 P))
      × ((Y0 Y1 P : Ratio) → Stand y Y0 Y1 → Y0 ⊑ Y1 → exact_pixels (begins_at j) ⊑ P → P ⊑ exact_pixels (clipped_end y.side j)
      → WithinEnds e.bottom e.top (mapped_to y Y0 Y1 P))
