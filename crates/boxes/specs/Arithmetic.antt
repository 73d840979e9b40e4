-- Document 02, (ii): "Each operation's lower bound is the next number below the least rounded candidate and its upper bound the next above the greatest
-- (negation is exact, a multiply-add is two operations)." The candidates are the operation's results on the four pairs of bounds. Where one of them is no
-- finite number the answer is the whole line, and so is what any operation makes of an infinite bound: once a bound is not finite, no later one is
-- (`infinite_stays`), and the box is refused.
use Rattle.std.specs.Prelude.{Bool, ◌&&◌, cond, Float}
use Rattle.std.specs.Float.{binary64}
use Rattle.std.specs.Float.Ieee.{lt, neg, add, mul, div}
use Rattle.std.specs.Float.Ieee.Scale.{finite}
use Rattle.interval.specs.declared.Interval.{Interval}
use Rattle.interval.specs.Bounds.{whole_line, put_interval}
use Rattle.interval.specs.Next.{nought, next_below, next_above}

-- both bounds are finite numbers
abbrev pub finite_bounds : Interval → Bool
finite_bounds x = finite x.lower && finite x.upper

-- the lesser and the greater of two, the least and the greatest of four
abbrev pub lesser : Float → Float → Float
lesser p q = cond (lt q p) q p

abbrev pub greater : Float → Float → Float
greater p q = cond (lt p q) q p

unfoldable pub least_of : Float → Float → Float → Float → Float
least_of p q r s = lesser (lesser p q) (lesser r s)

unfoldable pub greatest_of : Float → Float → Float → Float → Float
greatest_of p q r s = greater (greater p q) (greater r s)

-- outward from four rounded candidates, zeros put
unfoldable pub around : Float → Float → Float → Float → Interval
around p q r s =
    cond (finite p && finite q && finite r && finite s)
    (put_interval (record { lower = next_below (least_of p q r s); upper = next_above (greatest_of p q r s) }))
    whole_line

-- an operation of numbers, made one of intervals
abbrev pub corners : (Float → Float → Float) → Interval → Interval → Interval
corners f x y = around (f x.lower y.lower) (f x.lower y.upper) (f x.upper y.lower) (f x.upper y.upper)

-- x + y
unfoldable pub plus : Interval → Interval → Interval
plus x y = corners (add binary64) x y

-- -x
unfoldable pub negative : Interval → Interval
negative x = record { lower = neg x.upper; upper = neg x.lower }

-- x - y
unfoldable pub minus : Interval → Interval → Interval
minus x y = plus x (negative y)

-- x times y
unfoldable pub times : Interval → Interval → Interval
times x y = corners (mul binary64) x y

-- x over y, for a y above zero; a picture's span in pixels is, wherever it is finite (`divisor_positive`)
unfoldable pub over : Interval → Interval → Interval
over x y = cond (finite_bounds y && lt nought y.lower) (corners (div binary64) x y) whole_line
