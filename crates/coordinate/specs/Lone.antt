-- What is answered of a lone coordinate, over the floor: document 01, the second half of refusal 8. A coordinate outside the ranges is refused
-- whatever is asked of it, and its halves are refused too where one of them would be outside.
use Rattle.std.specs.Prelude.{Bool, cond, Result, Ok, Err, ◌&&◌, ℕ, ◌+◌, ◌-◌, ◌*◌}
use Rattle.refusal.specs.declared.Refusal.{Refusal}
use Rattle.refusal.specs.declared.Refusal.TheVariants as R
use Rattle.coordinate.specs.declared.Coordinate.{Coordinate}
use Rattle.coordinate.specs.declared.Halves.{Halves}
use Rattle.coordinate.specs.Axis.{ordinary_floor, in_range, pixel, above_floor, inside}

-- index and level are in the ranges
abbrev pub legal : ℕ → Coordinate → Bool
legal floor c = in_range floor c.rank c.index

-- the lower half, one level down
abbrev pub low_half : Coordinate → Coordinate
low_half c = record { index = 2 * c.index; rank = c.rank - 1 }

-- the upper half
abbrev pub high_half : Coordinate → Coordinate
high_half c = record { index = 2 * c.index + 1; rank = c.rank - 1 }

-- the pixel, or 8
unfoldable pub pixel_asked : ℕ → Coordinate → Result ℕ Refusal
pixel_asked floor c = cond (legal floor c) (Ok (pixel c.rank c.index)) (Err R.Damaged)

-- the halves, or 8 where the coordinate or a half of it is outside the ranges: a half is at the floor or above if its coordinate is above it,
-- and the low one's index is less than the high one's
unfoldable pub halves_asked : ℕ → Coordinate → Result Halves Refusal
halves_asked floor c =
    cond (legal floor c && (above_floor floor c.rank && legal floor (high_half c)))
    (Ok (record { low = low_half c; high = high_half c }))
    (Err R.Damaged)

-- whether it is subdivisible, or 8
unfoldable pub subdivisible_asked : ℕ → Coordinate → Result Bool Refusal
subdivisible_asked floor c = cond (legal floor c) (Ok (above_floor floor c.rank)) (Err R.Damaged)

-- whether it begins inside a side, or 8
unfoldable pub inside_asked : ℕ → Coordinate → ℕ → Result Bool Refusal
inside_asked floor c side = cond (legal floor c) (Ok (inside side c.rank c.index)) (Err R.Damaged)

-- it is in the ranges for index and level, and begins inside its side: what a block's coordinates are asked
abbrev pub place_right : ℕ → Coordinate → Bool
place_right side c = legal ordinary_floor c && inside side c.rank c.index
