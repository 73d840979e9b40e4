-- Document 01, the paragraph on the cut point: the four kinds of interval, told apart by which ends are numbers, and the point at which
-- each is cut. The midpoint of the paragraph before goes by the same kinds.
use Rattle.std.specs.Prelude.{ℕ, ◌-◌, ◌*◌, ◌^◌, Bool, true, false, cond, ℤ, pos, ◌*ℤ◌, neg_ℤ, int_lt, Float}
use Rattle.std.specs.Float.{fin}
use Rattle.std.specs.Float.Ieee.{neg}
use Rattle.std.specs.Float.Ieee.Scale.{finite}
use Rattle.interval.specs.declared.Interval.{Interval}
use Rattle.interval.specs.declared.kind.Kind.{Kind}
use Rattle.interval.specs.declared.kind.Kind.TheVariants.{Whole, UpTo, From, Between}
use Rattle.interval.specs.Bounds.{in_units, plus_zero}
use Rattle.interval.specs.Middle.{rounded, half_sum, largest_finite, whole_if}

-- the kind, by which ends are finite
unfoldable pub kind_of : Float → Float → Kind
kind_of a b = cond (finite a) (cond (finite b) (Between a b) (From a)) (cond (finite b) (UpTo b) Whole)

-- the midpoint by kinds: 0 for the whole line, a largest number on the open side of a half line
unfoldable pub middle_at : Kind → Float
middle_at Whole = fin false 0 (pos 0)
middle_at (UpTo b) = largest_finite true
middle_at (From a) = largest_finite false
middle_at (Between a b) = half_sum a b

-- the midpoint of an interval
abbrev pub midpoint_of : Interval → Float
midpoint_of x = middle_at (kind_of x.lower x.upper)

-- the largest finite number, in units
abbrev pub largest_units : ℕ
largest_units = (2 ^ 53 - 1) * 2 ^ 2045

-- where an interval from -inf up to b is cut, b in units: at 0 if b is above it, at -1 if b is zero, and below zero at twice b or,
-- where that overflows, at the least number of the format
abbrev pub cut_up_to : ℤ → Float
cut_up_to z =
    cond (int_lt z (pos 0))
    (cond (int_lt (z *ℤ pos 2) (neg_ℤ (pos largest_units))) (largest_finite true) (rounded (z *ℤ pos 2) (2 ^ 1074)))
    (cond (int_lt (pos 0) z) (fin false 0 (pos 0)) (fin true 1 (pos 0)))

-- the cut point by kinds: a half line to +inf is the mirror image of one from -inf; a finite interval is cut at its midpoint
unfoldable pub cut_point_at : Kind → Bool → Float
cut_point_at Whole integer = fin false 0 (pos 0)
cut_point_at (UpTo b) integer = cut_up_to (in_units b)
cut_point_at (From a) integer = plus_zero (neg (cut_up_to (neg_ℤ (in_units a))))
cut_point_at (Between a b) integer = whole_if integer (half_sum a b)

-- the cut point of an interval
abbrev pub cut_point_of : Interval → Bool → Float
cut_point_of x integer = cut_point_at (kind_of x.lower x.upper) integer
