-- One axis of a picture, on plain numbers: where an index begins, which pixels it covers, its halves, and how many places a side has.
-- Levels are natural numbers, counted from a lowest one; px is the level of a pixel, and may stand anywhere above it. A difference that would be
-- negative is 0, so that one formula serves the levels above and below the pixel's. A unit is the width of a place of the lowest level: a side of w
-- pixels is w * 2 ^ px units, and a place of level j is 2 ^ j units wide.
use Rattle.std.specs.Prelude.{◌≡◌, ◌⊎◌, Bool, ◌&&◌, ℕ, suc, ◌+◌, ◌-◌, ◌*◌, ◌/◌, ◌^◌, leb, ltb}

-- the pixel in which index i of level j begins: i times 2 ^ (j - px), or i / 2 ^ (px - j) rounded down
unfoldable pub begins_in : ℕ → ℕ → ℕ → ℕ
begins_in px j i = i * 2 ^ (j - px) / 2 ^ (px - j)

-- does it cover pixel p? 2 ^ (j - px) pixels from the one in which it begins; from the pixel's level down, that one
unfoldable pub covers_along : ℕ → ℕ → ℕ → ℕ → Bool
covers_along px j i p = leb (begins_in px j i) p && ltb p (begins_in px j i + 2 ^ (j - px))

-- "halves are 2i and 2i+1": c is a half of i
unfoldable pub HalfOf : ℕ → ℕ → Type 0
HalfOf i c = (c ≡ i + i) ⊎ (c ≡ suc (i + i))

-- how many places of level j there are along a side of W units: W / 2 ^ j, rounded up
unfoldable pub places_along : ℕ → ℕ → ℕ
places_along W j = (W + (2 ^ j - 1)) / 2 ^ j
