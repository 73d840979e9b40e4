-- Tiles, computed: those of 20 by 18 pixels, as specs/Tiles draws them; which of them rectangles touch; the numbers of small tables; and what damage is seen.
-- Closed facts, checked before the laws. Assumes nothing.
use mathlib.Core.Path.{◌≡◌, refl}
use mathlib.Core.Bool.{Bool, true, false}
use mathlib.Core.List.{List, [], ◌∷◌, ◌++◌, map}
use Prim.Native.Nat.{ℕ}
use lib.ListN.{replicate}
use Rattle.std.specs.Prelude.{Option, Some, None}
use Rattle.base.specs.Lists.{Every}
use Rattle.image.specs.declared.CellTally.{CellTally}
use Rattle.image.specs.declared.PixelRange.{PixelRange}
use Rattle.image.specs.Cell.{Named, Marked, GivenUp, meaning_of, reading, is_true, is_false, is_uncertain, is_given_up, is_damaged, of_kind, count_of, tallied}
use Rattle.image.specs.Range.{holds_cell, in_picture, picture_ready, whole_picture}
use Rattle.image.specs.Painting.{held_cells, some_of, some_seen}
use Rattle.tiles.specs.Tiles.{tile_count, tile_at, meets, touches, touched_tiles, touched_damaged, tile_number, recounted_where, recounted_under, recounted}

-- THE TILES

abbrev rectangle : ℕ → ℕ → ℕ → ℕ → PixelRange
rectangle left right top bottom = record { left = left; right = right; top = top; bottom = bottom }

pub tiles_counted : tile_count 20 18 ≡ 4
tiles_counted = refl

-- the four tiles of 20 by 18
pub tiles_placed : map (tile_at 20 18) (0 ∷ 1 ∷ 2 ∷ 3 ∷ [])
    ≡ rectangle 0 16 0 16 ∷ rectangle 16 20 0 16 ∷ rectangle 0 16 16 18 ∷ rectangle 16 20 16 18 ∷ []
unfolding tile_at
tiles_placed = refl

-- WHICH ARE TOUCHED

-- the first five numbers of tiles: is that tile touched?
abbrev touched_of : PixelRange → List Bool
touched_of r = map (touches 20 18 r) (0 ∷ 1 ∷ 2 ∷ 3 ∷ 4 ∷ [])

abbrev touched_table : List (List Bool × List Bool)
touched_table =
    -- the block at the bottom left: it ends where tiles 1 and 3 begin
    (touched_of (rectangle 0 16 2 18), true ∷ false ∷ true ∷ false ∷ false ∷ [])
    -- the pixel in column 16 of row 15
    ∷ (touched_of (rectangle 16 17 15 16), false ∷ true ∷ false ∷ false ∷ false ∷ [])
    -- four pixels, one of each tile
    ∷ (touched_of (rectangle 15 17 15 17), true ∷ true ∷ true ∷ true ∷ false ∷ [])
    -- no column, and no row
    ∷ (touched_of (rectangle 3 3 2 18), false ∷ false ∷ false ∷ false ∷ false ∷ [])
    ∷ (touched_of (rectangle 0 16 5 5), false ∷ false ∷ false ∷ false ∷ false ∷ [])
    -- the whole picture
    ∷ (touched_of (whole_picture 20 18), true ∷ true ∷ true ∷ true ∷ false ∷ [])
    ∷ []

pub touched_computed : Every (λ (r : List Bool × List Bool). r.0 ≡ r.1) touched_table
unfolding touches meets tile_at
touched_computed = (refl, (refl, (refl, (refl, (refl, (refl, tt))))))

-- together: rectangles rounded out to tiles 0 and 2, to tile 1 and to the whole picture; one without a pixel is rounded out all the same
pub rounded_computed : map (touched_tiles 20 18) (rectangle 0 16 2 18 ∷ rectangle 16 17 15 16 ∷ rectangle 15 17 15 17 ∷ rectangle 3 3 2 18 ∷ [])
    ≡ rectangle 0 16 0 18 ∷ rectangle 16 20 0 16 ∷ rectangle 0 20 0 18 ∷ rectangle 0 16 0 18 ∷ []
unfolding touched_tiles
rounded_computed = refl

-- THE NUMBERS

abbrev tally : ℕ → ℕ → ℕ → ℕ → CellTally
tally t f u g = record { trues = t; falses = f; uncertain = u; givenup = g }

-- True, False, Uncertain, given up
pub numbers_placed : map (tile_number (tally 11 22 33 44)) (0 ∷ 1 ∷ 2 ∷ 3 ∷ []) ≡ 11 ∷ 22 ∷ 33 ∷ 44 ∷ []
unfolding tile_number
numbers_placed = refl

abbrev nines : ℕ → List ℕ
nines n = replicate n 9

-- tables of nines, recounted
abbrev numbers_table : List (List ℕ × List ℕ)
numbers_table =
    -- 2 by 1: block 0 has been taken, so that the cell that names it is False; the other is True. Two numbers lie beyond the tile's
    (recounted 2 1 1 (Named 0 ∷ Marked ∷ []) (nines 6), 1 ∷ 1 ∷ 0 ∷ 0 ∷ 9 ∷ 9 ∷ [])
    -- one is given up, and the other names a block to come: both are Uncertain
    ∷ (recounted 2 1 1 (GivenUp ∷ Named 1 ∷ []) (nines 6), 0 ∷ 0 ∷ 2 ∷ 1 ∷ 9 ∷ 9 ∷ [])
    -- a cell beyond the pixels is not counted
    ∷ (recounted 2 1 1 (Named 0 ∷ Marked ∷ Marked ∷ []) (nines 4), 1 ∷ 1 ∷ 0 ∷ 0 ∷ [])
    -- 17 by 1, under the pixels of columns 2 and 3: tile 0 is counted whole, and tile 1 not at all
    ∷ (recounted_under 17 1 (rectangle 2 4 0 1) 1 (Marked ∷ GivenUp ∷ replicate 15 (Named 0)) (nines 9), 1 ∷ 14 ∷ 1 ∷ 1 ∷ 9 ∷ 9 ∷ 9 ∷ 9 ∷ 9 ∷ [])
    -- under no pixel: nothing is
    ∷ (recounted_under 17 1 (rectangle 4 4 0 1) 1 (replicate 17 (Named 0)) (nines 9), nines 9)
    -- 20 by 18 as setup leaves it: 256, 64, 32 and 8 pixels
    ∷ (
      recounted 20 18 0 (replicate 360 (Named 0)) (nines 18),
      0 ∷ 0 ∷ 256 ∷ 0 ∷ 0 ∷ 0 ∷ 64 ∷ 0 ∷ 0 ∷ 0 ∷ 32 ∷ 0 ∷ 0 ∷ 0 ∷ 8 ∷ 0 ∷ 9 ∷ 9 ∷ [],
    )
    ∷ []

pub numbers_computed : Every (λ (r : List ℕ × List ℕ). r.0 ≡ r.1) numbers_table
unfolding recounted_where touches meets tile_at tile_number tallied held_cells holds_cell count_of reading is_true is_false is_uncertain is_given_up
numbers_computed = (refl, (refl, (refl, (refl, (refl, (refl, tt))))))

-- DAMAGE

-- 17 by 1: a damaged cell in a column, all others name block 0; asked of the one pixel in column 2
abbrev damaged_at : ℕ → ℕ → Option Bool
damaged_at before behind = touched_damaged 17 1 (rectangle 2 3 0 1) (replicate before 0 ++ 4294967298 ∷ replicate behind 0)

abbrev damage_table : List (Option Bool × Option Bool)
damage_table =
    -- the pixel's own, and others of its tile, the first and the last
    (damaged_at 2 14, Some true)
    ∷ (damaged_at 0 16, Some true)
    ∷ (damaged_at 15 1, Some true)
    -- in the other tile, and beyond the pixels
    ∷ (damaged_at 16 0, Some false)
    ∷ (damaged_at 17 0, Some false)
    -- a cell too few
    ∷ (damaged_at 2 13, None)
    ∷ []

pub damage_computed : Every (λ (r : Option Bool × Option Bool). r.0 ≡ r.1) damage_table
unfolding touched_damaged touched_tiles some_seen some_of of_kind is_damaged held_cells holds_cell picture_ready in_picture meaning_of
damage_computed = (refl, (refl, (refl, (refl, (refl, (refl, tt))))))
