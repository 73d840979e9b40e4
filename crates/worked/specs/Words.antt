-- The words in which document 01's worked values and the leaves' promises are written: what each function answers, as its number, 0 where it is done,
-- and its values; and the f64s that the table names, as bit patterns.
use Rattle.std.specs.Prelude.{Bool, false, List, ℕ, Float}
use Rattle.std.specs.Float.{binary64}
use Rattle.std.specs.Float.Ieee.{of_bits}
use Rattle.refusal.specs.Number.{answer_number, whether_value}
use Rattle.small.specs.Small.{code_of, code_bytes, read_small}
use Rattle.small.specs.Answers.{read_value, read_count}
use Rattle.coordinate.specs.declared.Coordinate.{Coordinate}
use Rattle.coordinate.specs.Axis.{ordinary_floor}
use Rattle.coordinate.specs.Lone.{pixel_asked, halves_asked, subdivisible_asked, inside_asked}
use Rattle.coordinate.specs.Answers.{pixel_value, halves_low, halves_high}
use Rattle.interval.specs.declared.Interval.{Interval}
use Rattle.interval.specs.Bounds.{legal_interval, put_interval}
use Rattle.interval.specs.Kinds.{midpoint_of, cut_point_of}
use Rattle.interval.specs.Cuts.{subdivisible, first_cut, later_cut}
use Rattle.interval.specs.Fraction.{simple_fraction}
use Rattle.interval.specs.Answers.{point_answer, whether_at, pieces_at, answer_from_bits, bounds_from}
use Rattle.interval.specs.Answers.{point_value, pieces_of, from_bits_value}

-- SMALL NUMBERS
-- `write_small`: the number, and the code's bytes
abbrev pub write_says : ℕ → ℕ × List ℕ
write_says x = let a = code_of x in (answer_number a, code_bytes a)

-- `read_small`: the number, what was read, and how many bytes it takes
abbrev pub read_says : List ℕ → ℕ × ℕ × ℕ
read_says s = let a = read_small s in (answer_number a, read_value a, read_count a)

-- COORDINATES
-- `pixel_index`: the number, and the pixel
abbrev pub pixel_says : Coordinate → ℕ × ℕ
pixel_says c = let a = pixel_asked ordinary_floor c in (answer_number a, pixel_value a)

-- `subdivide`: the number, and the two halves
abbrev pub halves_says : Coordinate → ℕ × Coordinate × Coordinate
halves_says c = let a = halves_asked ordinary_floor c in (answer_number a, halves_low a, halves_high a)

-- `is_subdivisible` of a coordinate: the number, and 1 for yes
abbrev pub halvable_says : Coordinate → ℕ × ℕ
halvable_says c = let a = subdivisible_asked ordinary_floor c in (answer_number a, whether_value a)

-- `is_inside`: the number, and 1 for yes
abbrev pub inside_says : Coordinate → ℕ → ℕ × ℕ
inside_says c side = let a = inside_asked ordinary_floor c side in (answer_number a, whether_value a)

-- INTERVALS
-- `midpoint`: the number, and the point
abbrev pub midpoint_says : Interval → ℕ × Float
midpoint_says x = let a = point_answer (legal_interval x false) (midpoint_of (put_interval x)) in (answer_number a, point_value a)

-- `subdivision_point`: the number, and the cut point
abbrev pub cut_point_says : Bool → Interval → ℕ × Float
cut_point_says integer x = let a = point_answer (legal_interval x integer) (cut_point_of (put_interval x) integer) in (answer_number a, point_value a)

-- `simple_fraction`: the number, and the point
abbrev pub fraction_says : Interval → ℕ × Float
fraction_says x =
    let a = point_answer (legal_interval x false) (simple_fraction (put_interval x).lower (put_interval x).upper) in
    (answer_number a, point_value a)

-- `is_subdivisible` of an interval: the number, and 1 for yes
abbrev pub divisible_says : Bool → Interval → ℕ × ℕ
divisible_says integer x = let a = whether_at (legal_interval x integer) (subdivisible (put_interval x) integer) in (answer_number a, whether_value a)

-- `first_cut`: the number, and the pieces
abbrev pub first_cut_says : Bool → Interval → ℕ × List Interval
first_cut_says integer x = let a = pieces_at (legal_interval x integer) (first_cut (put_interval x) integer) in (answer_number a, pieces_of a)

-- `later_cut`: the number, and the pieces
abbrev pub later_cut_says : Bool → Interval → ℕ × List Interval
later_cut_says integer x = let a = pieces_at (legal_interval x integer) (later_cut (put_interval x) integer) in (answer_number a, pieces_of a)

-- `interval_from_bits`: the number, and the interval
abbrev pub from_bits_says : Bool → ℕ → ℕ → ℕ × Interval
from_bits_says integer lower upper = let a = answer_from_bits lower upper integer in (answer_number a, from_bits_value a)

-- PATTERNS of binary64: a bit for the sign, 11 for the exponent, 52 for the fraction
abbrev pub zero0 : ℕ
zero0 = 0x0000_0000_0000_0000

abbrev pub one1 : ℕ
one1 = 0x3ff0_0000_0000_0000

abbrev pub two2 : ℕ
two2 = 0x4000_0000_0000_0000

abbrev pub three3 : ℕ
three3 = 0x4008_0000_0000_0000

abbrev pub five5 : ℕ
five5 = 0x4014_0000_0000_0000

abbrev pub minus1 : ℕ
minus1 = 0xbff0_0000_0000_0000

abbrev pub minus2 : ℕ
minus2 = 0xc000_0000_0000_0000

abbrev pub infinity : ℕ
infinity = 0x7ff0_0000_0000_0000

abbrev pub minus_infinity : ℕ
minus_infinity = 0xfff0_0000_0000_0000

abbrev pub point3 : ℕ
point3 = 0x3fd3_3333_3333_3333

abbrev pub point4 : ℕ
point4 = 0x3fd9_9999_9999_999a

abbrev pub point375 : ℕ
point375 = 0x3fd8_0000_0000_0000

-- the f64 of a pattern, and the interval between two
abbrev pub f64 : ℕ → Float
f64 w = of_bits binary64 w

abbrev pub between : ℕ → ℕ → Interval
between a b = bounds_from a b
