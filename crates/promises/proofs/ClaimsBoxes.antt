-- What it says to judge by boxes, of closed numbers: a picture of two pixels with its edges at 0 and 2, and the relation that says: not over 1/2. The right pixel's box holds
-- no such place, so that a no is in order there; the left one's does. Assumes nothing.
use mathlib.Core.Path.{◌≡◌, refl}
use mathlib.Core.Logic.{inr}
use Prim.Native.Nat.{ℕ}
use native.Mathlib.Nat.{zero-lt-suc}
use lib.IntN.{pos}
use lib.Ieee.{binary64, fits, of_bits, to_bits, of_fields, add, mul, div, neg, lt, le, eq, round, sum, units, odd, size, span, climb}
use Rattle.interval.specs.declared.Interval.{Interval}
use Rattle.interval.specs.Bounds.{in_units, zero_as, put_interval, legal_interval, whole_bound}
use Rattle.interval.specs.Middle.{rounded, half_sum}
use Rattle.interval.specs.Kinds.{kind_of, middle_at}
use Rattle.interval.specs.Next.{next_below, next_above}
use Rattle.coordinate.specs.Axis.{in_range, places, inside}
use Rattle.boxes.specs.declared.Plot.{Plot}
use Rattle.boxes.specs.declared.Edges.{Edges}
use Rattle.std.specs.Prelude.{Ok}
use Rattle.boxes.specs.declared.BlockBox.{BlockBox}
use Rattle.boxes.specs.declared.transformation.MapKind.TheVariants as K
use Rattle.boxes.specs.Arithmetic.{least_of, greatest_of, around, plus, negative, minus, times, over}
use Rattle.boxes.specs.Maps.{slope_of, map_of, image_of}
use Rattle.boxes.specs.Pixels.{in_pixels, point_at, axis_map, low_edge, high_edge}
use Rattle.boxes.specs.Boxes.{middle_of, low_end, high_end, box_along, x_axis, y_axis, box_of}
use Rattle.boxes.specs.Ratios.{Ratio, ◌⊑◌, of_units, whole_ratio, NotOver}
use Rattle.boxes.specs.Enclosure.{mapped_to}
use Rattle.boxes.proofs.BoxPromises.{points_enclosed}
use Rattle.boxes.proofs.RatioLaws.{⊑_trans}
use Rattle.queue.specs.declared.Block.{Block}
use Rattle.queue.specs.Block.{whole_line}
use Rattle.promises.specs.Mixes.{Mix, HeldIn, HeldBy, whole_of, end_by}
use Rattle.theory.specs.Cuts.{FromEnd, UpToEnd, InSpan, OverEnd, UnderEnd, Owes}
use Rattle.promises.specs.ByBoxes.{NoneInBox, PlotStands, PlotOf}
use Rattle.promises.proofs.MixesExact.{exactly}
use Rattle.promises.proofs.ExampleSteps.{two}
use Rattle.promises.proofs.Claims.{corner}

-- an interval by its bounds' bits
abbrev pub bounds : ℕ → ℕ → Interval
bounds a b = record { lower = of_bits binary64 a; upper = of_bits binary64 b }

abbrev at_0 : Interval
at_0 = bounds 0x8000000000000000 0x0000000000000000

abbrev pub two_pixels : Plot
two_pixels =
    record {
      width = 2;
      height = 1;
      padding = record { left = 0; right = 0; bottom = 0; top = 0 };
      edges = record { left = at_0; right = bounds 0x4000000000000000 0x4000000000000000; bottom = at_0; top = bounds 0x3ff0000000000000 0x3ff0000000000000 };
    }

abbrev half : Ratio
half = record { num = pos 1; den = 2; den_pos = zero-lt-suc 1 }

-- the relation: not over 1/2
abbrev Low : (u v : Ratio) → Mix exactly → Type 0
Low u v a = u ⊑ half

-- a pixel of the picture, as a block
abbrev pixel_at : ℕ → Block
pixel_at i =
    record {
      x = record { index = i; rank = 48 };
      y = record { index = 0; rank = 48 };
      m = whole_line;
      n = whole_line;
      theta = whole_line;
      t = whole_line;
      dir = 0;
    }

abbrev right_edges : Edges
right_edges =
    record {
      left = bounds 0x3feffffffffffffa 0x3ff0000000000005;
      right = bounds 0x3ffffffffffffffa 0x4000000000000005;
      bottom = bounds 0x8000000000000004 0x0000000000000004;
      top = bounds 0x3feffffffffffffa 0x3ff0000000000005;
    }

abbrev right_x : Interval
right_x = bounds 0x3feffffffffffffa 0x4000000000000005

abbrev right_y : Interval
right_y = bounds 0x8000000000000004 0x3ff0000000000005

abbrev right_found : BlockBox
right_found = record { edges = right_edges; x = right_x; y = right_y }

right_box : box_of two_pixels K.Quick (pixel_at 1).x (pixel_at 1).y ≡ Ok right_found
unfolding box_of box_along low_end high_end middle_of low_edge high_edge axis_map point_at in_pixels image_of map_of slope_of over times minus negative plus around
    greatest_of least_of next_below next_above put_interval zero_as legal_interval whole_bound in_units rounded half_sum kind_of middle_at in_range places inside of_bits to_bits
    of_fields add mul div neg lt le eq round sum units odd size span climb
right_box = refl

-- its left bound is over 1/2
left_bound : (u : Ratio) → NotOver right_edges.left.lower u → ¬ (u ⊑ half)
unfolding of_bits in_units of_fields odd
left_bound u h k = ⊑_trans (of_units (in_units right_edges.left.lower)) u half h k

pub right_judged : NoneInBox exactly two_pixels Low (pixel_at 1)
unfolding NoneInBox
right_judged = (K.Quick, right_found, right_box, λ u v a h k held. left_bound u h.0)

-- the plot's edges stand where they are given, at 0 and 2 and at 0 and 1, and it is a plot of the chart of two pixels
pub two_stand : PlotStands two_pixels
unfolding of_bits in_units of_fields odd fits
two_stand =
    record {
      X0 = whole_ratio 0;
      X1 = whole_ratio 2;
      Y0 = whole_ratio 0;
      Y1 = whole_ratio 1;
      left_right = record { in_format = ((tt, tt), (tt, tt)); first = (tt, tt); last = (tt, tt) };
      bottom_top = record { in_format = ((tt, tt), (tt, tt)); first = (tt, tt); last = (tt, tt) };
      to_the_right = tt;
      upward = tt;
    }

pub of_two : PlotOf two_pixels two.chosen
of_two = (refl, refl)

-- the left pixel's box holds one, for either kind of map: the picture's corner stands at 0
corner_held : HeldBy exactly (pixel_at 0) corner
unfolding HeldIn Owes OverEnd UnderEnd whole_of corner InSpan FromEnd UpToEnd end_by in_units
corner_held = (inr (tt, tt), inr (tt, tt), inr (tt, tt), (tt, tt))

pub left_not_judged : ¬ NoneInBox exactly two_pixels Low (pixel_at 0)
unfolding NoneInBox two_stand
left_not_judged (kind, k, answer, none) =
    let P = points_enclosed two_pixels kind (pixel_at 0).x (pixel_at 0).y k answer in
    let u = mapped_to (x_axis two_pixels) (whole_ratio 0) (whole_ratio 2) (whole_ratio 0) in
    let v = mapped_to (y_axis two_pixels) (whole_ratio 0) (whole_ratio 1) (whole_ratio 0) in
    none u v corner (P.0 (whole_ratio 0) (whole_ratio 2) (whole_ratio 0) two_stand.left_right tt tt tt)
    (P.1 (whole_ratio 0) (whole_ratio 1) (whole_ratio 0) two_stand.bottom_top tt tt tt) corner_held tt
