-- Which cells a rectangle holds and which a block covers: document 01, "Picture and step". Rows count from the top, y from the bottom.
use Rattle.std.specs.Prelude.{Bool, ◌&&◌, ℕ, ◌+◌, ◌-◌, ◌*◌, ◌/◌, ◌%◌, ◌^◌, min, leb, ltb}
use Rattle.coordinate.specs.declared.Coordinate.{Coordinate}
use Rattle.coordinate.specs.Axis.{pixel}
use Rattle.image.specs.declared.PixelRange.{PixelRange}

-- where the cell of a pixel stands: rows are stored from the top, and the pixel in column x is the y-th from the bottom
abbrev pub cell_index : ℕ → ℕ → ℕ → ℕ → ℕ
cell_index width height x y = (height - 1 - y) * width + x

-- from a on, below b
abbrev pub in_stretch : ℕ → ℕ → ℕ → Bool
in_stretch a b i = leb a i && ltb i b

-- does a rectangle hold the i-th cell, which stands in column i % width of row i / width?
unfoldable pub holds_cell : ℕ → PixelRange → ℕ → Bool
holds_cell width r i = in_stretch r.left r.right (i % width) && in_stretch r.top r.bottom (i / width)

-- the rectangle lies in the picture
unfoldable pub in_picture : ℕ → ℕ → PixelRange → Bool
in_picture width height r = leb r.left r.right && leb r.right width && leb r.top r.bottom && leb r.bottom height

-- and each pixel has one of the n lent cells
unfoldable pub picture_ready : ℕ → ℕ → PixelRange → ℕ → Bool
picture_ready width height r n = in_picture width height r && leb (width * height) n

-- all pixels
abbrev pub whole_picture : ℕ → ℕ → PixelRange
whole_picture width height = record { left = 0; right = width; top = 0; bottom = height }

-- the first pixel that a coordinate covers along a side, clipped to the side
abbrev pub first_pixel : ℕ → ℕ → ℕ → ℕ
first_pixel side rank i = min (pixel rank i) side

-- and the one after the last: its upper bound
abbrev pub past_pixel : ℕ → ℕ → ℕ → ℕ
past_pixel side rank i = min (pixel rank i + 2 ^ (rank - 48)) side

-- what a block covers: a square of pixels, as far as the picture goes; from level 0 down one pixel. y is opposite over to rows
unfoldable pub rectangle_of : Coordinate → Coordinate → ℕ → ℕ → PixelRange
rectangle_of x y width height = record {
  left = first_pixel width x.rank x.index;
  right = past_pixel width x.rank x.index;
  top = height - past_pixel height y.rank y.index;
  bottom = height - first_pixel height y.rank y.index;
}
