-- What is done to a block's rectangle and seen in it, and in the whole picture, pixel by pixel: in terms of which pixels the block's coordinates cover.
-- Assumes nothing.
use mathlib.Core.Path.{◌≡◌, refl, sym, ap, ◌∙◌}
use mathlib.Core.Logic.{◌↔◌}
use mathlib.Core.Bool.{Bool, true, cond, ◌&&◌, false≢true, true≢false}
use mathlib.Core.List.{List}
use Prim.Native.Nat.{ℕ, ◌-◌, ◌*◌, ◌/◌, ◌%◌, ◌≤◌, ◌<◌}
use native.Mathlib.Decide.{dec_lt}
use native.Mathlib.Omega.{arith}
use lib.Dec.{leb}
use lib.ListN.{length, get_or}
use Rattle.coordinate.specs.declared.Coordinate.{Coordinate}
use Rattle.coordinate.proofs.Covering.{covers1}
use Rattle.image.specs.declared.Op.{Op}
use Rattle.image.specs.declared.PixelRange.{PixelRange}
use Rattle.image.specs.Cell.{Cell, Named, Marked, GivenUp, Other, done_to, is_marked}
use Rattle.image.specs.Range.{cell_index, holds_cell, in_picture, picture_ready, rectangle_of, whole_picture}
use Rattle.image.specs.Painting.{painted, pixel_cell, held_cells, every_of}
use Rattle.image.proofs.RangeLaws.{cell_below, cell_pixel, beyond_not_held, whole_holds, whole_in_picture, rectangle_in_picture, rectangle_covers}
use Rattle.image.proofs.PaintLaws.{painted_cell}
use Rattle.image.proofs.CountLaws.{every_held, held_every}

-- a block's rectangle asks only for enough cells
pub rectangle_ready : (x y : Coordinate) (width height n : ℕ) → picture_ready width height (rectangle_of x y width height) n ≡ leb (width * height) n
unfolding picture_ready
rectangle_ready x y width height n = ap (λ (b : Bool). b && leb (width * height) n) (rectangle_in_picture x y width height)

-- every cell that a rectangle of the picture holds passes a test if that of every pixel does which it holds
held_pixels : (width height : ℕ) (r : PixelRange) (l : List Cell) → in_picture width height r ≡ true → (test : Cell → Bool)
    → ((px py : ℕ) → px < width → py < height → holds_cell width r (cell_index width height px py) ≡ true → test (pixel_cell width height px py l) ≡ true)
    → every_of test (held_cells width r l) ≡ true
held_pixels width height r l inside test f =
    held_every test width r l (Named 0)
    (λ i h t. elim (dec_lt i (width * height)) [
      | yes k ↦ pixel i k t
      | no k ↦ absurd (true≢false (sym t ∙ beyond_not_held width height r i inside (omega arith)))
    ])
  where
    pixel : (i : ℕ) → i < width * height → holds_cell width r i ≡ true → test (get_or l i (Named 0)) ≡ true
    pixel i k t =
        let p = cell_pixel width height i k in
        sym (ap (λ (n : ℕ). test (get_or l n (Named 0))) p.2) ∙ f (i % width) (height - 1 - i / width) p.0 p.1 (ap (holds_cell width r) p.2 ∙ t)

module _ (x y : Coordinate) (width height : ℕ) (l : List Cell) (enough : width * height ≤ length l) where
  -- a pixel's cell afterwards is a function of what it was and of whether the block covers the pixel
  pub painted_pixel : (op : Op) (px py : ℕ) → px < width → py < height
      → pixel_cell width height px py (painted width (rectangle_of x y width height) op l)
      ≡ cond (covers1 x.rank x.index px && covers1 y.rank y.index py) (done_to op (pixel_cell width height px py l)) (pixel_cell width height px py l)
  painted_pixel op px py h k =
      painted_cell width (rectangle_of x y width height) op l (cell_index width height px py) (Named 0) (omega (arith, cell_below width height px py h k))
      ∙ ap (λ (b : Bool). cond b (done_to op (pixel_cell width height px py l)) (pixel_cell width height px py l)) (rectangle_covers x y width height px py h k)

  -- every cell of the rectangle passes a test exactly if every covered pixel's does
  pub every_pixel : (test : Cell → Bool) → every_of test (held_cells width (rectangle_of x y width height) l) ≡ true
      → (px py : ℕ) → px < width → py < height → (covers1 x.rank x.index px && covers1 y.rank y.index py) ≡ true
      → test (pixel_cell width height px py l) ≡ true
  every_pixel test e px py h k c =
      every_held test width (rectangle_of x y width height) l (Named 0) e (cell_index width height px py) (omega (arith, cell_below width height px py h k))
      (rectangle_covers x y width height px py h k ∙ c)

  pub pixels_every : (test : Cell → Bool)
      → ((px py : ℕ) → px < width → py < height → (covers1 x.rank x.index px && covers1 y.rank y.index py) ≡ true → test (pixel_cell width height px py l) ≡ true)
      → every_of test (held_cells width (rectangle_of x y width height) l) ≡ true
  pixels_every test f =
      held_pixels width height (rectangle_of x y width height) l (rectangle_in_picture x y width height) test
      (λ px py h k t. f px py h k (sym (rectangle_covers x y width height px py h k) ∙ t))

-- every cell of the picture passes a test exactly if every pixel's does
pub whole_every : (width height : ℕ) (l : List Cell) → width * height ≤ length l → (test : Cell → Bool)
    → (every_of test (held_cells width (whole_picture width height) l) ≡ true)
    ↔ ((px py : ℕ) → px < width → py < height → test (pixel_cell width height px py l) ≡ true)
whole_every width height l enough test = (
  (λ e px py h k.
      let i = cell_below width height px py h k in
      every_held test width (whole_picture width height) l (Named 0) e (cell_index width height px py) (omega (arith, i)) (whole_holds width height _ i)),
  (λ f. held_pixels width height (whole_picture width height) l (whole_in_picture width height) test (λ px py h k t. f px py h k)),
)

-- a cell that passes as True is True
pub marked_is : (c : Cell) → is_marked c ≡ true → c ≡ Marked
unfolding is_marked
marked_is (Named n) e = absurd (false≢true e)
marked_is Marked e = refl
marked_is GivenUp e = absurd (false≢true e)
marked_is (Other n) e = absurd (false≢true e)
