-- Document 01, "Intervals and their cutting", first paragraph: which pairs of bounds are intervals, how zeros are stored, which
-- intervals count as the same. A bound is a value of IEEE 754's binary64, as lib.Ieee has it: a NaN, an infinity, or a number with a sign.
use Rattle.std.specs.Prelude.{ℕ, zero, suc, ◌*◌, ◌/◌, ◌%◌, ◌^◌, Bool, true, false, not, ◌&&◌, ◌||◌, T, ℤ, pos, neg_ℤ, ◌==◌, unsigned_abs, Float}
use Rattle.std.specs.Float.{nan, inf, fin, binary64}
use Rattle.std.specs.Float.Ieee.{up, down, le, lt, eq, fits}
use Rattle.interval.specs.declared.Interval.{Interval}

-- from minus infinity to infinity
abbrev pub whole_line : Interval
whole_line = record { lower = inf true; upper = inf false }

-- both bounds are values of binary64, as all are that code holds
abbrev pub InFormat : Interval → Type 0
InFormat x = T (fits binary64 x.lower) × T (fits binary64 x.upper)

-- n with a sign
abbrev pub signed : Bool → ℕ → ℤ
signed false n = pos n
signed true n = neg_ℤ (pos n)

-- a number in units of 2 ^ -1074, the smallest above zero: every f64 is a whole number of them
unfoldable pub in_units : Float → ℤ
in_units nan = pos 0
in_units (inf s) = pos 0
in_units (fin s m e) = signed s (m * up e * 2 ^ 1074 / down e)

-- what an integer parameter asks of a bound (last sentence): a number is a multiple of one; an infinity passes
unfoldable pub whole_bound : Float → Bool
whole_bound nan = false
whole_bound (inf s) = true
whole_bound (fin s m e) = unsigned_abs (in_units (fin s m e)) % 2 ^ 1074 == 0

-- first sentence: the bounds are in order, which none is with a NaN, and neither infinity stands alone
abbrev pub legal_bounds : Float → Float → Bool
legal_bounds a b = le a b && lt a (inf false) && lt (inf true) b

-- an interval, and one of an integer parameter where `integer` is set
unfoldable pub legal_interval : Interval → Bool → Bool
legal_interval x integer = legal_bounds x.lower x.upper && (not integer || (whole_bound x.lower && whole_bound x.upper))

-- second sentence: x, but a zero takes the sign s; zeros are negative below and positive above
unfoldable pub zero_as : Bool → Float → Float
zero_as s nan = nan
zero_as s (inf t) = inf t
zero_as s (fin t zero e) = fin s 0 (pos 0)
zero_as s (fin t (suc m) e) = fin t (suc m) e

-- a zero is +0: an upper bound, a midpoint, a cut point
abbrev pub plus_zero : Float → Float
plus_zero x = zero_as false x

-- a zero is -0: a lower bound
abbrev pub minus_zero : Float → Float
minus_zero x = zero_as true x

-- the interval as it is stored, whatever signs its zeros came with
unfoldable pub put_interval : Interval → Interval
put_interval x = record { lower = minus_zero x.lower; upper = plus_zero x.upper }

-- the bounds are equal as numbers, zeros of either sign too
unfoldable pub same_interval : Interval → Interval → Bool
same_interval x y = eq x.lower y.lower && eq x.upper y.upper
