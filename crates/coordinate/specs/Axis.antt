-- One axis of a picture, on plain numbers: document 01, "Small numbers and coordinates", second paragraph.
-- A level k stands as its rank, k + 48, and a floor as the rank of its level. A difference that would be negative is 0, so that one formula
-- serves the levels above and below the pixel's: above, 2 ^ (48 - rank) is 1; below, 2 ^ (rank - 48) is. Pixel and places are those
-- of base's Axis with the pixel's level at 48 (proved, `axis_at_48`).
use Rattle.std.specs.Prelude.{Bool, ◌&&◌, ℕ, suc, ◌+◌, ◌-◌, ◌*◌, ◌/◌, ◌^◌, leb, ltb, ℤ, pos, negsuc}
use Rattle.std.proofs.Math.IntN.{sub_ℕ}

-- the document's level k, a signed number
abbrev pub level : ℕ → ℤ
level rank = sub_ℕ rank 48

-- the floor of document 01's pictures, level -32
abbrev pub ordinary_floor : ℕ
ordinary_floor = 16

-- the ranges: the level from the floor to 15, the index below 2^(15 - the floor's level), which is 2^47 at level -32
unfoldable pub in_range : ℕ → ℕ → ℕ → Bool
in_range floor rank i = leb floor rank && ltb rank 64 && ltb i (2 ^ (63 - floor))

-- the pixel that an index begins in, by the signed level: scaled up and kept whole, or divided and rounded down (`negsuc n` is -(n + 1))
abbrev pub pixel_at_level : ℤ → ℕ → ℕ
pixel_at_level (pos k) i = i * 2 ^ k
pixel_at_level (negsuc n) i = i / 2 ^ suc n

-- the same in one formula on the rank; `pixel_level` says that they are equal
unfoldable pub pixel : ℕ → ℕ → ℕ
pixel rank i = i * 2 ^ (rank - 48) / 2 ^ (48 - rank)

-- subdivisible: the level is above the floor
abbrev pub above_floor : ℕ → ℕ → Bool
above_floor floor rank = ltb floor rank

-- a side that row 1 of the table does not refuse
abbrev pub legal_side : ℕ → Bool
legal_side side = leb 1 side && leb side 32768

-- how many indices of a rank begin inside a side of so many pixels: the side over 2^k, rounded up
unfoldable pub places : ℕ → ℕ → ℕ
places side rank = (side * 2 ^ 48 + (2 ^ rank - 1)) / 2 ^ rank

-- does index i begin inside the side?
unfoldable pub inside : ℕ → ℕ → ℕ → Bool
inside side rank i = ltb i (places side rank)
