-- What the private functions ensure and ask for, by columns and rows of tiles: the public contracts do not speak of it.
use Rattle.std.specs.Prelude.{List, ℕ, ◌+◌, ◌*◌, ◌/◌, ◌≤◌, ◌<◌, min, set}
use Rattle.image.specs.declared.CellTally.{CellTally}
use Rattle.image.specs.declared.PixelRange.{PixelRange}
use Rattle.tiles.specs.Tiles.{tiles_along, tile_count}

-- every pixel has a cell, and every tile its numbers
pub record TilesReady (width height count room : ℕ) : Type 0 where
  pub pixels : width * height ≤ count
  pub numbers : 4 * tile_count width height ≤ room

-- the columns and rows of tiles that a rectangle touches, as a rectangle of tiles
abbrev pub tiles_of : PixelRange → PixelRange
tiles_of r = record { left = r.left / 16; right = tiles_along r.right; top = r.top / 16; bottom = tiles_along r.bottom }

-- the pixels of the tile in a column and a row of tiles, as far as the picture goes
abbrev pub tile_in : ℕ → ℕ → ℕ → ℕ → PixelRange
tile_in width height column row = record {
  left = 16 * column;
  right = min (16 * column + 16) width;
  top = 16 * row;
  bottom = min (16 * row + 16) height;
}

-- counts that fit the table's numbers
pub record SmallNumbers (t : CellTally) : Type 0 where
  pub trues : t.trues < 4294967296
  pub falses : t.falses < 4294967296
  pub uncertain : t.uncertain < 4294967296
  pub givenup : t.givenup < 4294967296

-- four numbers written from a place on
unfoldable pub numbers_put : CellTally → ℕ → List ℕ → List ℕ
numbers_put t i l = set (set (set (set l i t.trues) (i + 1) t.falses) (i + 2) t.uncertain) (i + 3) t.givenup
