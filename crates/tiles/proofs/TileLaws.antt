-- Laws of tiles: which a rectangle touches, as columns and rows of tiles, and the bounds of one tile. Assumes nothing.
use mathlib.Core.Path.{◌≡◌, refl, sym, ap, ap₂, ◌∙◌}
use mathlib.Core.Bool.{Bool, true, false, ◌||◌}
use mathlib.Core.List.{List}
use Prim.Native.Nat.{ℕ, zero, suc, ◌+◌, ◌-◌, ◌*◌, ◌/◌, ◌%◌, ◌^◌, ◌≤◌, ◌<◌, min, max}
use native.Mathlib.Nat.{zero-mul, add-mul, mul_comm, mul-le-mul, mod-lt, div-lt_iff_lt-mul}
use native.Mathlib.Omega.{arith}
use lib.Arith.{digits_lt, digits_div, digits_mod}
use lib.Dec.{leb, ltb, eqb}
use lib.ListN.{length, take, drop, length-append, length-take, length-drop, length-map}
use borrow.Author.Tests.{ltb-true, lt-ltb, le-leb, eqb-true}
use Rattle.std.specs.Prelude.{Option, Some, None}
use Rattle.base.proofs.Test.{cases, cond_yes, cond_no, and_left, and_right, and_both, both_ways}
use Rattle.image.specs.declared.CellKind.TheVariants as K
use Rattle.image.specs.declared.CellTally.{CellTally}
use Rattle.image.specs.declared.PixelRange.{PixelRange}
use Rattle.image.specs.Cell.{Cell, meanings, meaning_of, reading, is_true, is_false, is_uncertain, is_given_up, tallied}
use Rattle.image.specs.Range.{holds_cell, in_picture, picture_ready, whole_picture}
use Rattle.image.specs.Painting.{held_cells, some_seen, tally_answer}
use Rattle.image.proofs.RangeLaws.{held, holding, within, in_picture_lem, ready_rows, row_fits}
use Rattle.image.proofs.CountLaws.{held_from, held_all, held_end, held_pass, count_le, tally_answered}
use Rattle.tiles.specs.Tiles.{tiles_along, tile_count, tile_at, meets, touches, touched_tiles, touched_damaged, tile_tally}
use Rattle.tiles.specs.TilesComputed.{tiles_of, tile_in, SmallNumbers}
use Rattle.tiles.proofs.HeldLaws.{tally_adds}

-- four numbers a tile can be counted
pub tiles_few : (width height : ℕ) → width < 2 ^ 32 → height < 2 ^ 32 → tile_count width height ≤ 2 ^ 56
tiles_few width height h k = mul-le-mul {n₁ = tiles_along width} {m₁ = tiles_along height} {n₂ = 2 ^ 28} {m₂ = 2 ^ 28} (omega arith) (omega arith)

-- WHICH TILES A RECTANGLE TOUCHES

-- a pixel in common, as bounds
pub record Meeting (r t : PixelRange) : Type 0 where
  pub across : max r.left t.left < min r.right t.right
  pub down : max r.top t.top < min r.bottom t.bottom

pub meeting : (r t : PixelRange) → meets r t ≡ true → Meeting r t
unfolding meets
meeting r t e =
    let a = ltb (max r.left t.left) (min r.right t.right) in
    let b = ltb (max r.top t.top) (min r.bottom t.bottom) in
    record { across = ltb-true _ _ (and_left a b e); down = ltb-true _ _ (and_right a b e) }

pub met : (r t : PixelRange) → Meeting r t → meets r t ≡ true
unfolding meets
met r t m =
    and_both (ltb (max r.left t.left) (min r.right t.right)) (ltb (max r.top t.top) (min r.bottom t.bottom))
    (lt-ltb _ _ m.across) (lt-ltb _ _ m.down)

-- a touched tile, as bounds of its column and its row
pub record Touched (width height : ℕ) (r : PixelRange) (i : ℕ) : Type 0 where
  pub tile : i < tile_count width height
  pub across : max r.left (16 * (i % tiles_along width)) < min r.right (min (16 * (i % tiles_along width) + 16) width)
  pub down : max r.top (16 * (i / tiles_along width)) < min r.bottom (min (16 * (i / tiles_along width) + 16) height)

pub touched_bounds : (width height : ℕ) (r : PixelRange) (i : ℕ) → touches width height r i ≡ true → Touched width height r i
unfolding touches tile_at
touched_bounds width height r i e =
    let m = meeting r (tile_at width height i) (and_right (ltb i (tile_count width height)) (meets r (tile_at width height i)) e) in
    record {
      tile = ltb-true i (tile_count width height) (and_left (ltb i (tile_count width height)) (meets r (tile_at width height i)) e);
      across = m.across;
      down = m.down;
    }

pub bounds_touched : (width height : ℕ) (r : PixelRange) (i : ℕ) → Touched width height r i → touches width height r i ≡ true
unfolding touches tile_at
bounds_touched width height r i t =
    and_both (ltb i (tile_count width height)) (meets r (tile_at width height i))
    (lt-ltb i (tile_count width height) t.tile) (met r (tile_at width height i) record { across = t.across; down = t.down })

-- the tiles' columns and rows lie among the picture's
pub tiles_in_picture : (width height : ℕ) (r : PixelRange) → in_picture width height r ≡ true
    → in_picture (tiles_along width) (tiles_along height) (tiles_of r) ≡ true
tiles_in_picture width height r t =
    let w = within width height r t in
    in_picture_lem (tiles_along width) (tiles_along height) (tiles_of r) record { across = omega arith; right = omega arith; down = omega arith; bottom = omega arith }

-- a place in a row and a column of tiles is a tile's
pub tile_below : (width height column row : ℕ) → column < tiles_along width → row < tiles_along height → row * tiles_along width + column < tile_count width height
tile_below width height column row h k = omega (arith, digits_lt k h, mul_comm (tiles_along width) (tiles_along height))

-- a rectangle with a pixel touches the tiles of its columns and rows of tiles
pub touches_tiles : (width height : ℕ) (r : PixelRange) (i : ℕ) → in_picture width height r ≡ true → r.left < r.right → r.top < r.bottom
    → touches width height r i ≡ holds_cell (tiles_along width) (tiles_of r) i
touches_tiles width height r i t a d =
    let w = within width height r t in
    both_ways (touches width height r i) (holds_cell (tiles_along width) (tiles_of r) i)
    (λ e.
    let b = touched_bounds width height r i e in
    holding (tiles_along width) (tiles_of r) i record {
      left = omega (arith, b.across);
      right = omega (arith, b.across);
      top = omega (arith, b.down);
      bottom = omega (arith, b.down);
    })
    (λ e.
    let h = held (tiles_along width) (tiles_of r) i e in
    let z : 0 < tiles_along width = omega (arith, h.right, w.right) in
    let q : i / tiles_along width < tiles_along height = omega (arith, h.bottom, w.bottom) in
    let n : i < tiles_along height * tiles_along width = (div-lt_iff_lt-mul z).0 q in
    bounds_touched width height r i record {
      tile = omega (arith, n, mul_comm (tiles_along width) (tiles_along height));
      across = omega (arith, h.left, h.right, w.right);
      down = omega (arith, h.top, h.bottom, w.bottom);
    })

-- one without a pixel touches none
pub empty_touches : (width height : ℕ) (r : PixelRange) (i : ℕ) → (eqb r.left r.right || eqb r.top r.bottom) ≡ true
    → touches width height r i ≡ false
empty_touches width height r i t =
    cases (touches width height r i)
    (λ e.
    let b = touched_bounds width height r i e in
    absurd (cases (eqb r.left r.right)
    (λ f. omega (arith, b.across, eqb-true r.left r.right f))
    (λ f. omega (arith, b.down, eqb-true r.top r.bottom (sym (ap (λ (u : Bool). u || eqb r.top r.bottom) f) ∙ t)))))
    (λ e. e)

-- the whole picture touches every tile
pub whole_touches : (width height i : ℕ) → 1 ≤ width → 1 ≤ height → touches width height (whole_picture width height) i ≡ ltb i (tile_count width height)
whole_touches width height i w h =
    both_ways (touches width height (whole_picture width height) i) (ltb i (tile_count width height))
    (λ e. lt-ltb i (tile_count width height) (touched_bounds width height (whole_picture width height) i e).tile)
    (λ e.
    let n = ltb-true i (tile_count width height) e in
    let z : 0 < tiles_along width = omega arith in
    let c = mod-lt i z in
    let q : i / tiles_along width < tiles_along height = (div-lt_iff_lt-mul z).1 (omega (arith, n, mul_comm (tiles_along width) (tiles_along height))) in
    bounds_touched width height (whole_picture width height) i record { tile = n; across = omega arith; down = omega arith })

-- ONE TILE

-- the tile in a column and a row of tiles, by its number
pub tile_in_lem : (width height column row : ℕ) → column < tiles_along width → tile_in width height column row ≡ tile_at width height (row * tiles_along width + column)
unfolding tile_at
tile_in_lem width height column row h =
    sym (ap₂ (tile_in width height) (digits_mod row h) (digits_div row h))

-- it lies in the picture
pub tile_ready : (width height column row n : ℕ) → column < tiles_along width → row < tiles_along height → width * height ≤ n
    → picture_ready width height (tile_in width height column row) n ≡ true
unfolding picture_ready
tile_ready width height column row n h k e =
    and_both (in_picture width height (tile_in width height column row)) (leb (width * height) n)
    (in_picture_lem width height (tile_in width height column row) record { across = omega arith; right = omega arith; down = omega arith; bottom = omega arith })
    (le-leb (width * height) n e)

-- so many rows hold so many cells each
held_many : (width left right row bottom n : ℕ) (l : List ℕ) → left ≤ right → right ≤ width → bottom * width ≤ length l → bottom ≡ row + n
    → length (held_from width left right row bottom l) ≡ n * (right - left)
held_many width left right row bottom zero l across fits enough e =
    ap length (held_end width left right row bottom l (omega arith)) ∙ sym (zero-mul (right - left))
held_many width left right row bottom (suc n) l across fits enough e =
    let r : PixelRange = record { left = left; right = right; top = row; bottom = bottom } in
    let start = row * width + left in
    let end = row * width + right in
    let room = row_fits width r (length l) row record { across = across; right = fits; down = omega arith; enough = enough } (omega arith) in
    let part = take (end - start) (drop start l) in
    let rest = held_from width left right (row + 1) bottom l in
    omega (
      arith,
      ap length (held_pass width left right row bottom start end l across fits (omega arith) refl refl room),
      length-append (meanings part) rest,
      length-map part meaning_of,
      length-take (end - start) (drop start l),
      length-drop start l,
      held_many width left right (row + 1) bottom n l across fits enough (omega arith),
      add-mul n 1 (right - left),
    )

-- a tile holds as many cells as it has pixels
pub tile_length : (width height column row : ℕ) (l : List ℕ) → column < tiles_along width → row < tiles_along height → width * height ≤ length l
    → (let t = tile_in width height column row in length (held_cells width t (meanings l)) ≡ (t.bottom - t.top) * (t.right - t.left))
tile_length width height column row l h k e =
    let t = tile_in width height column row in
    let y = ready_rows width height t (length l) (tile_ready width height column row (length l) h k e) in
    sym (ap length (held_all width t l))
    ∙ held_many width t.left t.right t.top t.bottom (t.bottom - t.top) l y.across y.right y.enough (omega (arith, y.down))

-- its counts fit the table's numbers
pub tile_small : (width height column row taken : ℕ) (l : List ℕ) → column < tiles_along width → row < tiles_along height → width * height ≤ length l
    → SmallNumbers (tallied taken (held_cells width (tile_in width height column row) (meanings l)))
unfolding tallied
tile_small width height column row taken l h k e =
    let t = tile_in width height column row in
    let m = held_cells width t (meanings l) in
    let few = mul-le-mul {n₁ = t.bottom - t.top} {m₁ = t.right - t.left} {n₂ = 16} {m₂ = 16} (omega arith) (omega arith) in
    let n : length m ≤ 256 = omega (arith, few, tile_length width height column row l h k e) in
    record {
      trues = omega (arith, count_le (λ c. is_true (reading taken c)) m);
      falses = omega (arith, count_le (λ c. is_false (reading taken c)) m);
      uncertain = omega (arith, count_le (λ c. is_uncertain (reading taken c)) m);
      givenup = omega (arith, count_le is_given_up m);
    }

-- its counts of True, False and Uncertain are its pixels together, and what is given up is among the Uncertain
pub tile_adds : (width height taken i : ℕ) (l : List ℕ) → i < tile_count width height → width * height ≤ length l
    → (let t = tile_at width height i in let n = tile_tally width height taken (meanings l) i in
    (n.trues + n.falses + n.uncertain ≡ (t.bottom - t.top) * (t.right - t.left)) × (n.givenup ≤ n.uncertain))
unfolding tile_at
tile_adds width height taken i l h e =
    let z : 0 < tiles_along width = some (tiles_along width) (tiles_along height) i h in
    let q : i / tiles_along width < tiles_along height = (div-lt_iff_lt-mul z).1 (omega (arith, h, mul_comm (tiles_along width) (tiles_along height))) in
    let a = tally_adds taken (held_cells width (tile_at width height i) (meanings l)) in
    (a.0 ∙ tile_length width height (i % tiles_along width) (i / tiles_along width) l (mod-lt i z) q e, a.1)
  where
    some : (m n i : ℕ) → i < m * n → 0 < m
    some zero n i h = absurd (omega arith)
    some (suc m) n i h = omega arith

-- what the count of its rectangle answers: its numbers
tile_answer : (width height column row taken : ℕ) (l : List ℕ) (tile : PixelRange) (a : Option CellTally)
    → column < tiles_along width → row < tiles_along height → width * height ≤ length l → tile ≡ tile_in width height column row
    → a ≡ tally_answer width height tile taken l → a ≡ Some (tallied taken (held_cells width (tile_in width height column row) (meanings l)))
tile_answer width height column row taken l tile a h k e f g =
    g ∙ ap (λ (t : PixelRange). tally_answer width height t taken l) f
    ∙ tally_answered width height (tile_in width height column row) taken l (tile_ready width height column row (length l) h k e)

pub tile_counted : (width height column row taken : ℕ) (l : List ℕ) (tile : PixelRange) (a : Option CellTally) (t : CellTally)
    → column < tiles_along width → row < tiles_along height → width * height ≤ length l → tile ≡ tile_in width height column row
    → a ≡ tally_answer width height tile taken l → a ≡ Some t → t ≡ tallied taken (held_cells width (tile_in width height column row) (meanings l))
tile_counted width height column row taken l tile a t h k e f g o = let u = tile_answer width height column row taken l tile a h k e f g in cc

pub never_outside : (width height column row taken : ℕ) (l : List ℕ) (tile : PixelRange) (a : Option CellTally)
    → column < tiles_along width → row < tiles_along height → width * height ≤ length l → tile ≡ tile_in width height column row
    → a ≡ tally_answer width height tile taken l → a ≡ None → ⊥
never_outside width height column row taken l tile a h k e f g o = let u = tile_answer width height column row taken l tile a h k e f g in cc

-- by its number
pub tile_numbered : (width height column row taken : ℕ) (l : List Cell) → column < tiles_along width
    → tallied taken (held_cells width (tile_in width height column row) l) ≡ tile_tally width height taken l (row * tiles_along width + column)
tile_numbered width height column row taken l h = ap (λ (t : PixelRange). tallied taken (held_cells width t l)) (tile_in_lem width height column row h)

-- DAMAGE

pub ready_in : (width height : ℕ) (r : PixelRange) (n : ℕ) → picture_ready width height r n ≡ true → in_picture width height r ≡ true
unfolding picture_ready
ready_in width height r n t = and_left (in_picture width height r) (leb (width * height) n) t

pub damage_outside : (width height : ℕ) (r : PixelRange) (l : List ℕ) → picture_ready width height r (length l) ≡ false
    → touched_damaged width height r l ≡ None
unfolding touched_damaged
damage_outside width height r l e = cond_no (picture_ready width height r (length l)) _ _ e

pub damage_seen : (width height : ℕ) (r : PixelRange) (l : List ℕ) → picture_ready width height r (length l) ≡ true
    → touched_damaged width height r l ≡ some_seen width height (touched_tiles width height r) K.Damaged l
unfolding touched_damaged
damage_seen width height r l e = cond_yes (picture_ready width height r (length l)) _ _ e
