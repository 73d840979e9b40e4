-- Laws of places: the tile of a pixel's cell, the cells that a rectangle and a tile both hold, those that the touched tiles hold, and the damage that is seen
-- in them. Assumes nothing.
use mathlib.Core.Path.{◌≡◌, refl, sym, ap, ap₂, ◌∙◌}
use mathlib.Core.Logic.{◌↔◌}
use mathlib.Core.Bool.{Bool, true, false, ◌&&◌, true≢false}
use mathlib.Core.List.{List}
use Prim.Native.Nat.{ℕ, ◌+◌, ◌*◌, ◌/◌, ◌%◌, ◌≤◌, ◌<◌, max}
use native.Mathlib.Decide.{dec_lt}
use native.Mathlib.Nat.{mul_comm, div-add-mod', div-lt_iff_lt-mul}
use native.Mathlib.Omega.{arith}
use lib.Arith.{digits_lt, digits_div, digits_mod}
use lib.Dec.{leb}
use lib.ListN.{length, get_or, length-map}
use borrow.Author.Tests.{leb-true, lt-ltb, le-leb}
use Rattle.std.specs.Prelude.{Some, None}
use Rattle.base.proofs.Test.{cases, and_right, and_both, both_ways}
use Rattle.image.specs.declared.CellKind.TheVariants as K
use Rattle.image.specs.declared.PixelRange.{PixelRange}
use Rattle.image.specs.Cell.{Named, meanings, meaning_of, is_damaged, of_kind}
use Rattle.image.specs.Range.{holds_cell, in_picture, picture_ready, whole_picture}
use Rattle.image.specs.Painting.{held_cells, some_of}
use Rattle.image.proofs.RangeLaws.{held, holding, not_held, within, in_picture_lem, beyond_not_held, whole_holds}
use Rattle.image.proofs.CountLaws.{seen_answered}
use Rattle.tiles.specs.Tiles.{tiles_along, tile_count, tile_at, meets, touches, touched_tiles, touched_damaged}
use Rattle.tiles.proofs.HeldLaws.{held_some}
use Rattle.tiles.proofs.TileLaws.{met, touched_bounds, bounds_touched, tile_below, ready_in, damage_outside, damage_seen}

-- THE TILE OF A PLACE

-- the tile of the i-th cell, which stands in column i % width of row i / width
abbrev pub tile_of : ℕ → ℕ → ℕ
tile_of width i = i / width / 16 * tiles_along width + i % width / 16

module _ (width height i : ℕ) (h : i < width * height) where
  -- a pixel's column and row
  on_picture : (i % width < width) × (i / width < height)
  on_picture = let w = held width (whole_picture width height) i (whole_holds width height i h) in (w.right, w.bottom)

  -- its tile's
  tile_column : tile_of width i % tiles_along width ≡ i % width / 16
  tile_column = let p = on_picture in digits_mod (i / width / 16) (omega arith)

  tile_row : tile_of width i / tiles_along width ≡ i / width / 16
  tile_row = let p = on_picture in digits_div (i / width / 16) (omega arith)

  pub tile_of_below : tile_of width i < tile_count width height
  tile_of_below = let p = on_picture in tile_below width height (i % width / 16) (i / width / 16) (omega arith) (omega arith)

  -- that tile holds it, and no other
  pub tile_holds : (k : ℕ) → (holds_cell width (tile_at width height k) i ≡ true) ↔ (k ≡ tile_of width i)
  unfolding tile_at
  tile_holds k =
      let p = on_picture in (
        (λ t.
            let c = held width (tile_at width height k) i t in
            let column : k % tiles_along width ≡ i % width / 16 = omega (arith, c.left, c.right) in
            let row : k / tiles_along width ≡ i / width / 16 = omega (arith, c.top, c.bottom) in
            sym (div-add-mod' k (tiles_along width)) ∙ ap₂ (λ (q m : ℕ). q * tiles_along width + m) row column),
        (λ e.
            let column : k % tiles_along width ≡ i % width / 16 = ap (λ (n : ℕ). n % tiles_along width) e ∙ tile_column in
            let row : k / tiles_along width ≡ i / width / 16 = ap (λ (n : ℕ). n / tiles_along width) e ∙ tile_row in
            holding width (tile_at width height k) i record { left = omega arith; right = omega arith; top = omega arith; bottom = omega arith }),
      )

-- WHAT A RECTANGLE TOUCHES

-- a tile is touched exactly if it is one of the picture's and a pixel's cell is held by both
pub touched_place : (width height : ℕ) (r : PixelRange) (k : ℕ)
    → (touches width height r k ≡ true)
    ↔ ((k < tile_count width height)
    × (i : ℕ) × (i < width * height) × (holds_cell width r i ≡ true) × (holds_cell width (tile_at width height k) i ≡ true))
unfolding tile_at
touched_place width height r k = (
  (λ t.
      let b = touched_bounds width height r k t in
      let x = max r.left (16 * (k % tiles_along width)) in
      let y = max r.top (16 * (k / tiles_along width)) in
      let x_in : x < width = omega (arith, b.across) in
      let y_in : y < height = omega (arith, b.down) in
      let column : (y * width + x) % width ≡ x = digits_mod y x_in in
      let row : (y * width + x) / width ≡ y = digits_div y x_in in (
        b.tile,
        y * width + x,
        omega (arith, digits_lt y_in x_in, mul_comm width height),
        holding width r (y * width + x) record {
          left = omega (arith, column, b.across);
          right = omega (arith, column, b.across);
          top = omega (arith, row, b.down);
          bottom = omega (arith, row, b.down);
        },
        holding width (tile_at width height k) (y * width + x) record {
          left = omega (arith, column, b.across);
          right = omega (arith, column, b.across);
          top = omega (arith, row, b.down);
          bottom = omega (arith, row, b.down);
        },
      )),
  (λ (n, i, below, in_r, in_tile).
      let c = held width r i in_r in
      let d = held width (tile_at width height k) i in_tile in
      bounds_touched width height r k record {
        tile = n;
        across = omega (arith, c.left, c.right, d.left, d.right);
        down = omega (arith, c.top, c.bottom, d.top, d.bottom);
      }),
)

-- the touched tiles together lie in the picture
pub touched_in_picture : (width height : ℕ) (r : PixelRange) → in_picture width height r ≡ true → in_picture width height (touched_tiles width height r) ≡ true
unfolding touched_tiles
touched_in_picture width height r e =
    let w = within width height r e in
    in_picture_lem width height (touched_tiles width height r) record {
      across = omega (arith, w.across, w.right);
      right = omega arith;
      down = omega (arith, w.down, w.bottom);
      bottom = omega arith;
    }

-- a pixel's cell is among theirs exactly if its tile is touched
pub touched_holds : (width height : ℕ) (r : PixelRange) (i : ℕ) → in_picture width height r ≡ true → r.left < r.right → r.top < r.bottom → i < width * height
    → holds_cell width (touched_tiles width height r) i ≡ touches width height r (tile_of width i)
unfolding touched_tiles
touched_holds width height r i e a d h =
    let w = within width height r e in
    let p = on_picture width height i h in
    let column = tile_column width height i h in
    let row = tile_row width height i h in
    both_ways (holds_cell width (touched_tiles width height r) i) (touches width height r (tile_of width i))
    (λ t.
    let c = held width (touched_tiles width height r) i t in
    bounds_touched width height r (tile_of width i) record {
      tile = tile_of_below width height i h;
      across = omega (arith, column, c.left, c.right, w.right);
      down = omega (arith, row, c.top, c.bottom, w.bottom);
    })
    (λ t.
    let b = touched_bounds width height r (tile_of width i) t in
    holding width (touched_tiles width height r) i record {
      left = omega (arith, column, b.across);
      right = omega (arith, column, b.across);
      top = omega (arith, row, b.down);
      bottom = omega (arith, row, b.down);
    })

-- of rectangles that do not meet no cell is held by both
pub none_held : (width : ℕ) (r t : PixelRange) (j : ℕ) → meets r t ≡ false → holds_cell width t j ≡ true → holds_cell width r j ≡ false
none_held width r t j e h =
    not_held width r j
    (λ c.
    let d = held width t j h in
    let m = met r t record { across = omega (arith, c.left, c.right, d.left, d.right); down = omega (arith, c.top, c.bottom, d.top, d.bottom) } in
    true≢false (sym m ∙ e))

-- an untouched tile of the picture does not meet the rectangle
pub not_met : (width height : ℕ) (r : PixelRange) (i : ℕ) → i < tile_count width height → touches width height r i ≡ false
    → meets r (tile_at width height i) ≡ false
unfolding touches
not_met width height r i h e = sym (ap (λ (t : Bool). t && meets r (tile_at width height i)) (lt-ltb i (tile_count width height) h)) ∙ e

-- every cell that a tile holds is a pixel's
pub tile_pixel : (width height i j : ℕ) → holds_cell width (tile_at width height i) j ≡ true → j < width * height
unfolding tile_at
tile_pixel width height i j h =
    let d = held width (tile_at width height i) j h in
    let row : j / width < height = omega (arith, d.bottom) in
    let some : 0 < width = omega (arith, d.right) in
    rw mul_comm ((div-lt_iff_lt-mul some).0 row)

-- DAMAGE

seen_yes : (b : Bool) → (Some b ≡ Some true) ↔ (b ≡ true)
seen_yes b = ((λ e. cc), ap Some)

module _ (width height : ℕ) (r : PixelRange) (l : List ℕ) (e : picture_ready width height r (length l) ≡ true) where
  -- every pixel has a cell
  enough : width * height ≤ length l
  unfolding picture_ready
  enough = leb-true (width * height) (length l) (and_right (in_picture width height r) (leb (width * height) (length l)) e)

  touched_ready : picture_ready width height (touched_tiles width height r) (length l) ≡ true
  unfolding picture_ready
  touched_ready =
      and_both (in_picture width height (touched_tiles width height r)) (leb (width * height) (length l))
      (touched_in_picture width height r (ready_in width height r (length l) e)) (le-leb (width * height) (length l) enough)

  -- the answer is one of two
  damage_answer : touched_damaged width height r l ≡ Some (some_of is_damaged (held_cells width (touched_tiles width height r) (meanings l)))
  unfolding of_kind
  damage_answer =
      damage_seen width height r l e
      ∙ seen_answered width height (touched_tiles width height r) K.Damaged l (some_of is_damaged (held_cells width (touched_tiles width height r) (meanings l)))
      touched_ready refl

  -- it is yes exactly if a pixel whose tile is touched has a damaged cell
  pub damage_place : r.left < r.right → r.top < r.bottom
      → (touched_damaged width height r l ≡ Some true)
      ↔ ((i : ℕ) × (i < width * height) × (touches width height r (tile_of width i) ≡ true) × (is_damaged (get_or (meanings l) i (Named 0)) ≡ true))
  damage_place a d =
      let inside = ready_in width height r (length l) e in
      let some = held_some is_damaged width (touched_tiles width height r) (meanings l) (Named 0) in
      let seen = seen_yes (some_of is_damaged (held_cells width (touched_tiles width height r) (meanings l))) in (
        (λ yes.
            let (i, n, on, bad) = some.0 (seen.0 (sym damage_answer ∙ yes)) in
            let below : i < width * height = pixel i on in
            (i, below, sym (touched_holds width height r i inside a d below) ∙ on, bad)),
        (λ (i, below, on, bad).
            damage_answer
            ∙ seen.1 (some.1 (i, omega (arith, below, enough, length-map l meaning_of), touched_holds width height r i inside a d below ∙ on, bad))),
      )
    where
      pixel : (i : ℕ) → holds_cell width (touched_tiles width height r) i ≡ true → i < width * height
      pixel i on =
          let inside = touched_in_picture width height r (ready_in width height r (length l) e) in
          elim (dec_lt i (width * height)) [
            | yes k ↦ k
            | no k ↦ absurd (true≢false (sym on ∙ beyond_not_held width height (touched_tiles width height r) i inside (omega arith)))
          ]

-- it is neither yes nor no exactly if the rectangle leaves the picture, or a pixel has no cell
pub damage_out : (width height : ℕ) (r : PixelRange) (l : List ℕ)
    → (touched_damaged width height r l ≡ None) ↔ (picture_ready width height r (length l) ≡ false)
damage_out width height r l = (
  (λ out.
      cases (picture_ready width height r (length l))
      (λ e. absurd (never (some_of is_damaged (held_cells width (touched_tiles width height r) (meanings l))) (sym (damage_answer width height r l e) ∙ out)))
      (λ e. e)),
  (λ e. damage_outside width height r l e),
)
  where
    never : (b : Bool) → Some b ≡ None → ⊥
    never b e = cc
