-- FOR READERS: what is promised of tiles, document 02, (iv), each statement under the words that it is. The names are those of specs/Tiles; to judge the page
-- one reads these and, in `image`, specs/Range (which cells a rectangle holds) and specs/Cell (what a cell means). What a step leaves in the table is said in
-- `promises`, TablePromises. Each proof is one line that names the law. Assumes nothing.
--
-- A pixel's cell is the i-th of the picture, i < width * height, in column i % width of row i / width, from the top. `tile_of width i` (PlaceLaws) is the number
-- that the first promise spells out.
use mathlib.Core.Path.{◌≡◌, sym, ◌∙◌}
use mathlib.Core.Logic.{◌↔◌}
use mathlib.Core.Bool.{true, false}
use mathlib.Core.List.{List}
use Prim.Native.Nat.{ℕ, ◌+◌, ◌-◌, ◌*◌, ◌/◌, ◌%◌, ◌≤◌, ◌<◌}
use lib.ListN.{length, get_or}
use Rattle.std.specs.Prelude.{Some, None}
use Rattle.image.specs.declared.PixelRange.{PixelRange}
use Rattle.image.specs.Cell.{Named, meanings, is_damaged}
use Rattle.image.specs.Range.{holds_cell, in_picture, picture_ready}
use Rattle.tiles.specs.Tiles.{tiles_along, tile_count, tile_at, touches, touched_tiles, touched_damaged, tile_tally}
use Rattle.tiles.proofs.TileLaws.{tile_adds}
use Rattle.tiles.proofs.PlaceLaws.{tile_of, tile_of_below, tile_holds, touched_place, touched_holds, damage_place, damage_out}

-- ---- "each tile of 16 by 16 pixels": every pixel's cell is in one tile, which its column and its row give, and in no other
pub every_pixel_once : (width height i k : ℕ) → i < width * height
    → (holds_cell width (tile_at width height k) i ≡ true) ↔ (k ≡ i / width / 16 * tiles_along width + i % width / 16)
every_pixel_once width height i k h = tile_holds width height i h k

-- and that is one of the picture's
pub every_pixel_some : (width height i : ℕ) → i < width * height → tile_of width i < tile_count width height
every_pixel_some = tile_of_below

-- ---- "the number of True, False, Uncertain and given-up pixels (these also counted as Uncertain)": the first three add up to the tile's pixels, and the
-- fourth is at most the third
pub tile_full : (width height taken k : ℕ) (l : List ℕ) → k < tile_count width height → width * height ≤ length l
    → (let t = tile_at width height k in let n = tile_tally width height taken (meanings l) k in
    (n.trues + n.falses + n.uncertain ≡ (t.bottom - t.top) * (t.right - t.left)) × (n.givenup ≤ n.uncertain))
tile_full = tile_adds

-- ---- "no tile that the taken block doesn't touch": a rectangle touches a tile exactly if it is one of the picture's and a pixel of the rectangle lies in it
pub touches_says : (width height : ℕ) (r : PixelRange) (k : ℕ)
    → (touches width height r k ≡ true)
    ↔ ((k < tile_count width height)
    × (i : ℕ) × (i < width * height) × (holds_cell width r i ≡ true) × (holds_cell width (tile_at width height k) i ≡ true))
touches_says = touched_place

-- ---- "there 8 for the block also speaks of every cell in a touched tile": of a rectangle of the picture that has a pixel, the touched tiles together hold a
-- pixel's cell exactly if its tile is touched,
pub touched_cells : (width height : ℕ) (r : PixelRange) (i : ℕ) → in_picture width height r ≡ true → r.left < r.right → r.top < r.bottom → i < width * height
    → (holds_cell width (touched_tiles width height r) i ≡ true) ↔ (touches width height r (tile_of width i) ≡ true)
touched_cells width height r i inside across down h = let e = touched_holds width height r i inside across down h in ((λ t. sym e ∙ t), (λ t. e ∙ t))

-- damage is seen exactly if a cell in a touched tile is damaged,
pub touched_damage : (width height : ℕ) (r : PixelRange) (l : List ℕ) → picture_ready width height r (length l) ≡ true → r.left < r.right → r.top < r.bottom
    → (touched_damaged width height r l ≡ Some true)
    ↔ ((i : ℕ) × (i < width * height) × (touches width height r (tile_of width i) ≡ true) × (is_damaged (get_or (meanings l) i (Named 0)) ≡ true))
touched_damage = damage_place

-- and else it is not, but where the rectangle leaves the picture or a pixel has no cell: there, and only there, the answer is neither
pub touched_outside : (width height : ℕ) (r : PixelRange) (l : List ℕ)
    → (touched_damaged width height r l ≡ None) ↔ (picture_ready width height r (length l) ≡ false)
touched_outside = damage_out
