-- Document 01, the paragraph on midpoints: half of a sum, worked out on whole numbers and rounded a single time, and the rounding
-- of a number to a whole one. Nothing here adds or halves floats.
use Rattle.std.specs.Prelude.{ℕ, suc, ◌+◌, ◌*◌, ◌/◌, ◌^◌, Bool, true, false, cond, ℤ, pos, negsuc, ◌+ℤ◌, neg_ℤ, Float}
use Rattle.std.specs.Float.{nan, inf, fin, binary64}
use Rattle.std.specs.Float.Ieee.{round}
use Rattle.interval.specs.Bounds.{in_units, plus_zero}

-- the f64 nearest to the fraction z / d; of two that are as near, the one whose last digit is even
unfoldable pub rounded : ℤ → ℕ → Float
rounded (pos n) d = round binary64 false n d
rounded (negsuc n) d = round binary64 true (suc n) d

-- the midpoint of two numbers: their exact half sum, rounded; a zero is positive
unfoldable pub half_sum : Float → Float → Float
half_sum a b = plus_zero (rounded (in_units a +ℤ in_units b) (2 ^ 1074 * 2))

-- the largest number of the format, (2 ^ 53 - 1) * 2 ^ 971, or its negative
abbrev pub largest_finite : Bool → Float
largest_finite s = fin s 0x1f_ffff_ffff_ffff (pos 971)

-- z units as a whole number, half away from zero: the size and a half more, rounded down, with its sign
unfoldable pub half_away : ℤ → ℤ
half_away (pos n) = pos ((n * 2 + 2 ^ 1074) / (2 ^ 1074 * 2))
half_away (negsuc n) = neg_ℤ (pos ((suc n * 2 + 2 ^ 1074) / (2 ^ 1074 * 2)))

-- the whole number nearest to x; a zero is positive
unfoldable pub whole_near : Float → Float
whole_near nan = nan
whole_near (inf s) = inf s
whole_near (fin s m e) = plus_zero (rounded (half_away (in_units (fin s m e))) 1)

-- the rounding that only integer parameters ask for
abbrev pub whole_if : Bool → Float → Float
whole_if integer m = cond integer (whole_near m) m
