-- Laws of rectangles: which cells they hold, row by row and pixel by pixel, and what a block's rectangle holds. Assumes nothing.
use mathlib.Core.Path.{◌≡◌, sym, ap, ap₂, ◌∙◌}
use mathlib.Core.Bool.{Bool, true, false, ◌&&◌, ◌||◌}
use Prim.Native.Nat.{ℕ, zero, suc, ◌+◌, ◌-◌, ◌*◌, ◌/◌, ◌%◌, ◌^◌, ◌≤◌, ◌<◌, min}
use native.Mathlib.Nat.{add-mul, mul_comm, one-mul, mul-le-mul_right, div-add-mod', div-eq_of_lt-le, div-lt_iff_lt-mul, le-div_iff_mul-le, mod-lt}
use native.Mathlib.Decide.{dec_lt}
use native.Mathlib.Omega.{arith}
use lib.Arith.{digits_div, digits_mod}
use lib.Dec.{leb, ltb}
use lib.Pow.{pow_pos, pow_mono, shl_exact}
use borrow.Author.Tests.{ltb-true, leb-true, leb-false, lt-ltb, le-leb}
use Rattle.base.proofs.Test.{cases, and_left, and_right, and_both, both_ways, or_neither}
use Rattle.coordinate.specs.declared.Coordinate.{Coordinate}
use Rattle.coordinate.specs.Axis.{pixel}
use Rattle.coordinate.proofs.Covering.{covers1}
use Rattle.coordinate.proofs.PixelLaws.{pixel_big, pixel_small}
use Rattle.image.specs.declared.PixelRange.{PixelRange}
use Rattle.image.specs.Range.{cell_index, in_stretch, holds_cell, in_picture, picture_ready, whole_picture, first_pixel, past_pixel, rectangle_of}
use Rattle.image.specs.RowsComputed.{ReadyRows}

-- the product of two sides fits a word
pub product_fits : (a b : ℕ) → a < 2 ^ 32 → b < 2 ^ 32 → a * b < 2 ^ 64
product_fits a b h k = omega (arith, mul-le-mul_right {m = a} {n = 2 ^ 32 - 1} b (omega arith))

-- TESTS AND BOUNDS

pub between_in : (a b i : ℕ) → a ≤ i → i < b → in_stretch a b i ≡ true
between_in a b i h k = and_both (leb a i) (ltb i b) (le-leb a i h) (lt-ltb i b k)

pub between_bounds : (a b i : ℕ) → in_stretch a b i ≡ true → (a ≤ i) × (i < b)
between_bounds a b i t = (leb-true a i (and_left (leb a i) (ltb i b) t), ltb-true i b (and_right (leb a i) (ltb i b) t))

pub between_out : (a b i : ℕ) → (a ≤ i → i < b → ⊥) → in_stretch a b i ≡ false
between_out a b i h = cases (in_stretch a b i) (λ t. absurd (let c = between_bounds a b i t in h c.0 c.1)) (λ t. t)

-- a held cell, as four bounds
pub record Held (width : ℕ) (r : PixelRange) (i : ℕ) : Type 0 where
  pub left : r.left ≤ i % width
  pub right : i % width < r.right
  pub top : r.top ≤ i / width
  pub bottom : i / width < r.bottom

pub held : (width : ℕ) (r : PixelRange) (i : ℕ) → holds_cell width r i ≡ true → Held width r i
unfolding holds_cell
held width r i t =
    let x = in_stretch r.left r.right (i % width) in
    let y = in_stretch r.top r.bottom (i / width) in
    let a = between_bounds r.left r.right (i % width) (and_left x y t) in
    let b = between_bounds r.top r.bottom (i / width) (and_right x y t) in
    record { left = a.0; right = a.1; top = b.0; bottom = b.1 }

pub holding : (width : ℕ) (r : PixelRange) (i : ℕ) → Held width r i → holds_cell width r i ≡ true
unfolding holds_cell
holding width r i h =
    and_both (in_stretch r.left r.right (i % width)) (in_stretch r.top r.bottom (i / width))
    (between_in r.left r.right (i % width) h.left h.right)
    (between_in r.top r.bottom (i / width) h.top h.bottom)

pub not_held : (width : ℕ) (r : PixelRange) (i : ℕ) → (Held width r i → ⊥) → holds_cell width r i ≡ false
not_held width r i h = cases (holds_cell width r i) (λ e. absurd (h (held width r i e))) (λ e. e)

-- a rectangle of the picture, as four bounds
pub record Within (width height : ℕ) (r : PixelRange) : Type 0 where
  pub across : r.left ≤ r.right
  pub right : r.right ≤ width
  pub down : r.top ≤ r.bottom
  pub bottom : r.bottom ≤ height

pub within : (width height : ℕ) (r : PixelRange) → in_picture width height r ≡ true → Within width height r
unfolding in_picture
within width height r t =
    let a = leb r.left r.right in
    let b = leb r.right width in
    let c = leb r.top r.bottom in
    let d = leb r.bottom height in
    let abc : a && b && c ≡ true = and_left (a && b && c) d t in
    let ab : a && b ≡ true = and_left (a && b) c abc in
    record {
      across = leb-true r.left r.right (and_left a b ab);
      right = leb-true r.right width (and_right a b ab);
      down = leb-true r.top r.bottom (and_right (a && b) c abc);
      bottom = leb-true r.bottom height (and_right (a && b && c) d t);
    }

pub in_picture_lem : (width height : ℕ) (r : PixelRange) → Within width height r → in_picture width height r ≡ true
unfolding in_picture
in_picture_lem width height r w =
    let a = leb r.left r.right in
    let b = leb r.right width in
    let c = leb r.top r.bottom in
    let d = leb r.bottom height in
    and_both (a && b && c) d
    (and_both (a && b) c (and_both a b (le-leb r.left r.right w.across) (le-leb r.right width w.right)) (le-leb r.top r.bottom w.down))
    (le-leb r.bottom height w.bottom)

pub ready_rows : (width height : ℕ) (r : PixelRange) (n : ℕ) → picture_ready width height r n ≡ true → ReadyRows width r n
unfolding picture_ready
ready_rows width height r n t =
    let w = within width height r (and_left (in_picture width height r) (leb (width * height) n) t) in
    let e = leb-true (width * height) n (and_right (in_picture width height r) (leb (width * height) n) t) in
    record {
      across = w.across;
      right = w.right;
      down = w.down;
      enough = omega (arith, e, mul-le-mul_right {m = r.bottom} {n = height} width w.bottom, mul_comm width height);
    }

-- ROW BY ROW

-- the rectangle of the columns from left to right and the rows from top to bottom
abbrev pub band : ℕ → ℕ → ℕ → ℕ → PixelRange
band left right top bottom = record { left = left; right = right; top = top; bottom = bottom }

-- a row ends inside the cells
pub row_fits : (width : ℕ) (r : PixelRange) (n row : ℕ) → ReadyRows width r n → row < r.bottom → row * width + r.right ≤ n
row_fits width r n row h k =
    omega (arith, h.right, h.enough, mul-le-mul_right {m = row + 1} {n = r.bottom} width (omega arith), add-mul row 1 width)

-- a place on the stretch of a row is on that row
on_row : (width left right row i : ℕ) → right ≤ width → row * width + left ≤ i → i < row * width + right
    → (i / width ≡ row) × (left ≤ i % width) × (i % width < right)
on_row width left right row i w h k =
    let q : i / width ≡ row = div-eq_of_lt-le width (omega arith) (omega (arith, add-mul row 1 width)) in
    let d : row * width + i % width ≡ i = ap (λ (n : ℕ). n * width + i % width) (sym q) ∙ div-add-mod' i width in
    (q, omega arith, omega arith)

-- and back
off_stretch : (width left right row i : ℕ) → i / width ≡ row → left ≤ i % width → i % width < right
    → (row * width + left ≤ i) × (i < row * width + right)
off_stretch width left right row i q h k =
    let d : row * width + i % width ≡ i = ap (λ (n : ℕ). n * width + i % width) (sym q) ∙ div-add-mod' i width in
    (omega arith, omega arith)

module _ (width left right row bottom : ℕ) (fits : right ≤ width) (more : row < bottom) where
  -- the first row's stretch is held, and not by the rows after it
  pub stretch_held : (i : ℕ) → row * width + left ≤ i → i < row * width + right → holds_cell width (band left right row bottom) i ≡ true
  stretch_held i h k =
      let o = on_row width left right row i fits h k in
      holding width (band left right row bottom) i record { left = o.1; right = o.2; top = omega (arith, o.0); bottom = omega (arith, o.0) }

  pub stretch_past : (i : ℕ) → i < row * width + right → holds_cell width (band left right (row + 1) bottom) i ≡ false
  stretch_past i k =
      not_held width (band left right (row + 1) bottom) i
      (λ c.
      let d = div-add-mod' i width in
      let m = mul-le-mul_right {m = row + 1} {n = i / width} width c.top in
      omega (arith, add-mul row 1 width))

  -- nothing before it is held
  pub stretch_first : (i : ℕ) → i < row * width + left → holds_cell width (band left right row bottom) i ≡ false
  stretch_first i k =
      not_held width (band left right row bottom) i
      (λ c.
      let d = div-add-mod' i width in
      let m = mul-le-mul_right {m = row} {n = i / width} width c.top in
      omega (arith, c.left))

  -- what is not on the stretch is held exactly if the rows after it hold it
  pub stretch_rest : (i : ℕ) → (row * width + left ≤ i → i < row * width + right → ⊥)
      → holds_cell width (band left right row bottom) i ≡ holds_cell width (band left right (row + 1) bottom) i
  stretch_rest i off =
      both_ways (holds_cell width (band left right row bottom) i) (holds_cell width (band left right (row + 1) bottom) i)
      (λ t.
      let c = held width (band left right row bottom) i t in
      holding width (band left right (row + 1) bottom) i record {
        left = c.left;
        right = c.right;
        top = elim (dec_lt row (i / width)) [ yes k ↦ omega arith | no k ↦ absurd (let o = off_stretch width left right row i (omega (arith, c.top)) c.left c.right in off o.0 o.1) ];
        bottom = c.bottom;
      })
      (λ t.
      let c = held width (band left right (row + 1) bottom) i t in
      holding width (band left right row bottom) i record { left = c.left; right = c.right; top = omega (arith, c.top); bottom = c.bottom })

-- no row, no cell
pub band_none : (width left right row i : ℕ) → holds_cell width (band left right row row) i ≡ false
band_none width left right row i = not_held width (band left right row row) i (λ c. omega (arith, c.top, c.bottom))

-- PIXEL BY PIXEL

-- a pixel's cell stands in its row, counted from the top, and in its column
pub cell_row : (width height x y : ℕ) → x < width → cell_index width height x y / width ≡ height - 1 - y
cell_row width height x y h = digits_div (height - 1 - y) h

pub cell_column : (width height x y : ℕ) → x < width → cell_index width height x y % width ≡ x
cell_column width height x y h = digits_mod (height - 1 - y) h

-- among the pixels' cells
pub cell_below : (width height x y : ℕ) → x < width → y < height → cell_index width height x y < width * height
cell_below width height x y h k =
    omega (arith, mul-le-mul_right {m = height - 1 - y + 1} {n = height} width (omega arith), add-mul (height - 1 - y) 1 width, mul_comm width height)

some_width : (width height i : ℕ) → i < width * height → 0 < width
some_width zero height i h = absurd (omega arith)
some_width (suc width) height i h = omega arith

row_below : (width height i : ℕ) → i < width * height → i / width < height
row_below width height i h = (div-lt_iff_lt-mul (some_width width height i h)).1 (rw mul_comm h)

-- every one of them is a pixel's
pub cell_pixel : (width height i : ℕ) → i < width * height
    → (i % width < width) × (height - 1 - i / width < height) × (cell_index width height (i % width) (height - 1 - i / width) ≡ i)
cell_pixel width height i h =
    let y = row_below width height i h in
    let e : height - 1 - (height - 1 - i / width) ≡ i / width = omega arith in
    (mod-lt i (some_width width height i h), omega arith, ap (λ (n : ℕ). n * width + i % width) e ∙ div-add-mod' i width)

-- cells beyond the pixels are held by no rectangle of the picture
pub beyond_not_held : (width height : ℕ) (r : PixelRange) (i : ℕ) → in_picture width height r ≡ true → width * height ≤ i → holds_cell width r i ≡ false
beyond_not_held width height r i t h =
    let w = within width height r t in
    not_held width r i
    (λ c.
    let z : 0 < width = omega (arith, c.right, w.right) in
    let y : height ≤ i / width = (le-div_iff_mul-le {k = width} {x = height} {y = i} z).1 (rw mul_comm h) in
    omega (arith, c.bottom, w.bottom))

-- the whole picture holds every pixel's cell
pub whole_holds : (width height i : ℕ) → i < width * height → holds_cell width (whole_picture width height) i ≡ true
whole_holds width height i h =
    let c = cell_pixel width height i h in
    holding width (whole_picture width height) i record { left = omega arith; right = c.0; top = omega arith; bottom = row_below width height i h }

pub whole_in_picture : (width height : ℕ) → in_picture width height (whole_picture width height) ≡ true
whole_in_picture width height = in_picture_lem width height (whole_picture width height) record { across = omega arith; right = omega arith; down = omega arith; bottom = omega arith }

-- THE BLOCK'S RECTANGLE

-- it never leaves the picture, whatever the coordinates
pub rectangle_in_picture : (x y : Coordinate) (width height : ℕ) → in_picture width height (rectangle_of x y width height) ≡ true
unfolding rectangle_of
rectangle_in_picture x y width height =
    in_picture_lem width height (rectangle_of x y width height) record { across = omega arith; right = omega arith; down = omega arith; bottom = omega arith }

-- the first pixel, by the tests that the code makes: as a word is shifted
pub first_right : (side rank i : ℕ) → rank < 48 → min (i / 2 ^ (48 - rank)) side ≡ first_pixel side rank i
first_right side rank i h = ap (λ (n : ℕ). min n side) (sym (pixel_small rank i (omega arith)))

pub first_zero : (side rank i : ℕ) → 48 ≤ rank → i ≡ 0 → 0 ≡ first_pixel side rank i
first_zero side rank i h e = let p : pixel rank i ≡ 0 = pixel_big rank i h ∙ rw e (omega arith) in omega arith

pub first_beyond : (side rank i : ℕ) → side < 4294967296 → 48 ≤ rank → (i ≡ 0 → ⊥) → (leb 4294967296 i || leb 80 rank) ≡ true → side ≡ first_pixel side rank i
first_beyond side rank i s h z t =
    let p = pixel_big rank i h in
    cases (leb 4294967296 i)
    (λ e. (let m = mul-le-mul_right {m = 1} {n = 2 ^ (rank - 48)} i (pow_pos (rank - 48)) in omega (arith, leb-true 4294967296 i e, mul_comm i (2 ^ (rank - 48)))))
    (λ e.
    let k = leb-true 80 rank (sym (ap (λ (b : Bool). b || leb 80 rank) e) ∙ t) in
    let m = mul-le-mul_right {m = 1} {n = i} (2 ^ (rank - 48)) (omega (arith, z)) in
    omega (arith, pow_mono {i = 32} {j = rank - 48} (omega arith)))

pub rank_bound : (rank i : ℕ) → (leb 4294967296 i || leb 80 rank) ≡ false → rank < 80
rank_bound rank i t = leb-false 80 rank (or_neither (leb 4294967296 i) (leb 80 rank) t).1

pub first_left : (side rank i : ℕ) → 48 ≤ rank → (leb 4294967296 i || leb 80 rank) ≡ false → min (i * 2 ^ (rank - 48) % 2 ^ 64) side ≡ first_pixel side rank i
first_left side rank i h t =
    let l = leb-false 4294967296 i (or_neither (leb 4294967296 i) (leb 80 rank) t).0 in
    let k = rank_bound rank i t in
    ap (λ (n : ℕ). min n side) (shl_exact 32 (rank - 48) 64 l (omega arith) ∙ sym (pixel_big rank i h))

pub width_word : (rank : ℕ) → rank < 80 → 1 * 2 ^ (rank - 48) % 2 ^ 64 ≡ 2 ^ (rank - 48)
width_word rank h = shl_exact 1 (rank - 48) 64 (omega arith) (omega arith) ∙ one-mul (2 ^ (rank - 48))

pub width_small : (rank : ℕ) → rank < 80 → 2 ^ (rank - 48) ≤ 2147483648
width_small rank h = pow_mono {i = rank - 48} {j = 31} (omega arith)

-- the one after the last
pub past_one : (side rank first : ℕ) → rank ≤ 48 → min (first + 1) side ≡ min (first + 2 ^ (rank - 48)) side
past_one side rank first h = let e : rank - 48 ≡ 0 = omega arith in rw e

pub past_beyond : (side rank first : ℕ) → side < 4294967296 → 80 ≤ rank → side ≡ min (first + 2 ^ (rank - 48)) side
past_beyond side rank first s h = omega (arith, pow_mono {i = 32} {j = rank - 48} (omega arith))

pub past_left : (side rank first : ℕ) → rank < 80 → min (first + 1 * 2 ^ (rank - 48) % 2 ^ 64) side ≡ min (first + 2 ^ (rank - 48)) side
past_left side rank first h = ap (λ (n : ℕ). min (first + n) side) (width_word rank h)

-- clipped twice is clipped once
pub past_clipped : (side p w : ℕ) → min (min p side + w) side ≡ min (p + w) side
past_clipped side p w = omega arith

-- the rectangle, from the four bounds
pub rectangle_made : (x y : Coordinate) (width height left right low high : ℕ) → left ≡ first_pixel width x.rank x.index
    → right ≡ min (left + 2 ^ (x.rank - 48)) width
    → low ≡ first_pixel height y.rank y.index → high ≡ min (low + 2 ^ (y.rank - 48)) height
    → record { left = left; right = right; top = height - high; bottom = height - low } ≡ rectangle_of x y width height
unfolding rectangle_of
rectangle_made x y width height left right low high a b c d =
    let e : right ≡ past_pixel width x.rank x.index = b ∙ ap (λ (n : ℕ). min (n + 2 ^ (x.rank - 48)) width) a ∙ past_clipped width (pixel x.rank x.index) (2 ^ (x.rank - 48)) in
    let f : high ≡ past_pixel height y.rank y.index = d ∙ ap (λ (n : ℕ). min (n + 2 ^ (y.rank - 48)) height) c ∙ past_clipped height (pixel y.rank y.index) (2 ^ (y.rank - 48)) in
    rw (a, e, c, f)

-- along one axis, clipping keeps what lies inside the side
clip : (side p f l : ℕ) → p < side → in_stretch (min f side) (min l side) p ≡ in_stretch f l p
clip side p f l h =
    both_ways (in_stretch (min f side) (min l side) p) (in_stretch f l p)
    (λ t. (let b = between_bounds (min f side) (min l side) p t in between_in f l p (omega (arith, b.0)) (omega (arith, b.1))))
    (λ t. (let b = between_bounds f l p t in between_in (min f side) (min l side) p (omega (arith, b.0)) (omega (arith, b.1))))

-- and counting it from the other end keeps it too
turn : (side p f l : ℕ) → p < side → in_stretch (side - min l side) (side - min f side) (side - 1 - p) ≡ in_stretch f l p
turn side p f l h =
    both_ways (in_stretch (side - min l side) (side - min f side) (side - 1 - p)) (in_stretch f l p)
    (λ t. (let b = between_bounds (side - min l side) (side - min f side) (side - 1 - p) t in between_in f l p (omega (arith, b.1)) (omega (arith, b.0))))
    (λ t. (let b = between_bounds f l p t in between_in (side - min l side) (side - min f side) (side - 1 - p) (omega (arith, b.1)) (omega (arith, b.0))))

-- it holds a pixel's cell exactly if both coordinates cover the pixel
pub rectangle_covers : (x y : Coordinate) (width height px py : ℕ) → px < width → py < height
    → holds_cell width (rectangle_of x y width height) (cell_index width height px py) ≡ (covers1 x.rank x.index px && covers1 y.rank y.index py)
unfolding holds_cell rectangle_of covers1
rectangle_covers x y width height px py h k =
    ap₂ (λ (s t : Bool). s && t)
    (ap (in_stretch (first_pixel width x.rank x.index) (past_pixel width x.rank x.index)) (cell_column width height px py h)
    ∙ clip width px (pixel x.rank x.index) (pixel x.rank x.index + 2 ^ (x.rank - 48)) h)
    (ap (in_stretch (height - past_pixel height y.rank y.index) (height - first_pixel height y.rank y.index)) (cell_row width height px py h)
    ∙ turn height py (pixel y.rank y.index) (pixel y.rank y.index + 2 ^ (y.rank - 48)) k)
