-- Document 01's squares, and strips: what a place covers, and the places of its children, by what base's Axis says of each axis. px is the level
-- of a pixel.
use Rattle.std.specs.Prelude.{Bool, cond, ◌&&◌, ◌||◌, List, [], ◌∷◌, ℕ, zero, suc, ◌+◌, ◌<◌, ltb}
unfoldable pub use Rattle.base.specs.Axis.{begins_in, covers_along, HalfOf}
use Rattle.theory.specs.Levels.{BlockPlace, place_at}

-- a pixel of a picture of w by h
pub record PixelIn (w h : ℕ) : Type 0 where
  pub x : ℕ
  pub y : ℕ
  pub x_in : x < w
  pub y_in : y < h

-- a block covers a pixel of the picture exactly if it does along both axes
unfoldable pub covers_pixel : {w h : ℕ} → ℕ → BlockPlace → PixelIn w h → Bool
covers_pixel px b p = covers_along px b.level b.x p.x && covers_along px b.level b.y p.y

-- so does a block that lies at a place
abbrev pub covers_by_place : {Block : Type 0} (w h px : ℕ) → (Block → BlockPlace) → Block → PixelIn w h → Bool
covers_by_place w h px place_of b p = covers_pixel px (place_of b) p

-- is index i of level j listed as a child, along a side of w pixels? Of a parent above the pixel's level, which it is exactly if j is not below
-- that level, only what begins inside the picture
unfoldable pub is_listed : ℕ → ℕ → ℕ → ℕ → Bool
is_listed px w j i = ltb j px || ltb (begins_in px j i) w

-- a place in front of the others, if it is listed
unfoldable pub place_if : Bool → BlockPlace → List BlockPlace → List BlockPlace
place_if t c l = cond t (c ∷ l) l

-- the quarters of the place x, y of a level, one level down: the lower row first, each row from the left; under the lowest level there is nothing
unfoldable pub quarters_at : ℕ → ℕ → ℕ → ℕ → ℕ → ℕ → List BlockPlace
quarters_at px w h x y zero = []
quarters_at px w h x y (suc j) =
    place_if (is_listed px w j (x + x) && is_listed px h j (y + y)) (place_at (x + x) (y + y) j)
    (place_if (is_listed px w j (suc (x + x)) && is_listed px h j (y + y)) (place_at (suc (x + x)) (y + y) j)
    (place_if (is_listed px w j (x + x) && is_listed px h j (suc (y + y))) (place_at (x + x) (suc (y + y)) j)
    (place_if (is_listed px w j (suc (x + x)) && is_listed px h j (suc (y + y))) (place_at (suc (x + x)) (suc (y + y)) j) [])))

-- the children of a place of a picture of w by h
unfoldable pub quarters : ℕ → ℕ → ℕ → BlockPlace → List BlockPlace
quarters px w h b = quarters_at px w h b.x b.y b.level

-- the halves of index x of a level of a strip, which is cut along x alone: the left one, then the right one, as far as they are listed
unfoldable pub halves_at : ℕ → ℕ → ℕ → ℕ → List BlockPlace
halves_at px w x zero = []
halves_at px w x (suc j) = place_if (is_listed px w j (x + x)) (place_at (x + x) 0 j) (place_if (is_listed px w j (suc (x + x))) (place_at (suc (x + x)) 0 j) [])

-- the children of a place of a strip of width w
unfoldable pub halves_in_x : ℕ → ℕ → BlockPlace → List BlockPlace
halves_in_x px w b = halves_at px w b.x b.level
