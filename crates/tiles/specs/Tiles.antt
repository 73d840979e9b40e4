-- Document 02, (iv): "Keep, for each tile of 16 by 16 pixels, the number of True, False, Uncertain and given-up pixels (these also counted as
-- Uncertain) in a lent table". Tiles count row by row from the top left; "tiles at the right and bottom edge may be smaller".
--
--   a picture of 20 by 18          the table: four numbers a tile, and what lies beyond them is never touched
--
--     0 .. 15   16 .. 19           0     1      2          3         4     5      ..    15         16 on
--   +---------+--------+           True  False  Uncertain  given up  True  False  ..    given up   beyond
--   | tile 0  | tile 1 |  0 .. 15  \_________ tile 0 _____________/  \_________ .. ____ tile 3
--   +---------+--------+
--   | tile 2  | tile 3 | 16 .. 17
--   +---------+--------+
use Rattle.std.specs.Prelude.{Bool, cond, ◌&&◌, List, ℕ, ◌+◌, ◌*◌, ◌/◌, ◌%◌, min, max, leb, ltb, eqb, length, Option, None}
use Rattle.image.specs.declared.CellKind.TheVariants as K
use Rattle.image.specs.declared.CellTally.{CellTally}
use Rattle.image.specs.declared.PixelRange.{PixelRange}
use Rattle.image.specs.Cell.{Cell, meanings, tallied}
use Rattle.image.specs.Range.{picture_ready}
use Rattle.image.specs.Painting.{map_at, held_cells, some_seen}

-- the tiles along a side
abbrev pub tiles_along : ℕ → ℕ
tiles_along side = (side + 15) / 16

-- in all
abbrev pub tile_count : ℕ → ℕ → ℕ
tile_count width height = tiles_along width * tiles_along height

-- the pixels of the i-th tile, as far as the picture goes
unfoldable pub tile_at : ℕ → ℕ → ℕ → PixelRange
tile_at width height i = record {
  left = 16 * (i % tiles_along width);
  right = min (16 * (i % tiles_along width) + 16) width;
  top = 16 * (i / tiles_along width);
  bottom = min (16 * (i / tiles_along width) + 16) height;
}

-- two rectangles have a pixel in common
unfoldable pub meets : PixelRange → PixelRange → Bool
meets r t =
    ltb (max r.left t.left) (min r.right t.right) && ltb (max r.top t.top) (min r.bottom t.bottom)

-- a rectangle touches the i-th tile: there is such a tile, and a pixel of the rectangle lies in it
unfoldable pub touches : ℕ → ℕ → PixelRange → ℕ → Bool
touches width height r i = ltb i (tile_count width height) && meets r (tile_at width height i)

-- the touched tiles together: the rectangle, rounded out to whole tiles
unfoldable pub touched_tiles : ℕ → ℕ → PixelRange → PixelRange
touched_tiles width height r = record {
  left = 16 * (r.left / 16);
  right = min (16 * tiles_along r.right) width;
  top = 16 * (r.top / 16);
  bottom = min (16 * tiles_along r.bottom) height;
}

-- does a touched tile hold a damaged cell? Of a rectangle with a pixel in the picture
unfoldable pub touched_damaged : ℕ → ℕ → PixelRange → List ℕ → Option Bool
touched_damaged width height r l =
    cond (picture_ready width height r (length l)) (some_seen width height (touched_tiles width height r) K.Damaged l) None

-- the pixels of the i-th tile by what they read when so many blocks have been taken, and those that are given up
abbrev pub tile_tally : ℕ → ℕ → ℕ → List Cell → ℕ → CellTally
tile_tally width height taken l i = tallied taken (held_cells width (tile_at width height i) l)

-- a tile's four numbers, by their place
unfoldable pub tile_number : CellTally → ℕ → ℕ
tile_number t place =
    cond (eqb place 0) t.trues (cond (eqb place 1) t.falses (cond (eqb place 2) t.uncertain t.givenup))

-- the table with the tiles recounted that pass a test; every other number is as it was
unfoldable pub recounted_where : (ℕ → Bool) → ℕ → ℕ → ℕ → List Cell → List ℕ → List ℕ
recounted_where which width height taken l table =
    map_at (λ j n. cond (which (j / 4)) (tile_number (tile_tally width height taken l (j / 4)) (j % 4)) n) 0 table

-- the touched tiles recounted
abbrev pub recounted_under : ℕ → ℕ → PixelRange → ℕ → List Cell → List ℕ → List ℕ
recounted_under width height r = recounted_where (touches width height r) width height

-- every tile recounted
abbrev pub recounted : ℕ → ℕ → ℕ → List Cell → List ℕ → List ℕ
recounted width height = recounted_where (λ i. ltb i (tile_count width height)) width height

-- has the table four numbers a tile?
abbrev pub table_enough : ℕ → ℕ → ℕ → Bool
table_enough width height room = leb (4 * tile_count width height) room

-- can the touched tiles be recounted? The rectangle lies in the picture, every pixel has a cell, and every tile its numbers
unfoldable pub recountable : ℕ → ℕ → PixelRange → ℕ → ℕ → Bool
recountable width height r count room = picture_ready width height r count && table_enough width height room

-- the table afterwards
unfoldable pub table_recounted : ℕ → ℕ → PixelRange → ℕ → List ℕ → List ℕ → List ℕ
table_recounted width height r taken l table =
    cond (recountable width height r (length l) (length table)) (recounted_under width height r taken (meanings l) table) table
