-- What stands in words and in bytes. Behind the end stand zeros.
use Rattle.std.specs.Prelude.{List, ℕ, ◌+◌, ◌-◌, ◌%◌, ◌++◌, length, get_or, take, replicate}
use Rattle.std.specs.Float.{binary64}
use Rattle.std.specs.Float.Ieee.{of_bits}
use Rattle.coordinate.specs.declared.Coordinate.{Coordinate}
use Rattle.interval.specs.declared.Interval.{Interval}

-- the first n, with zeros in the place of those that are missing
abbrev pub first_or_zeros : ℕ → List ℕ → List ℕ
first_or_zeros n items = take n items ++ replicate (n - length items) 0

-- bounds by their bit patterns, legal or not
abbrev pub interval_in : List ℕ → ℕ → Interval
interval_in words at = record { lower = of_bits binary64 (get_or words at 0); upper = of_bits binary64 (get_or words (at + 1) 0) }

-- an index and a rank
abbrev pub coordinate_in : List ℕ → ℕ → Coordinate
coordinate_in words at = record { index = get_or words at 0; rank = get_or words (at + 1) 0 % 256 }
