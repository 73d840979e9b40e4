-- Laws of recounting: number by number, tests that agree, one recount after another, that a table stays a recount, one tile's four numbers, and the turns of
-- the loops.
-- Assumes nothing.
use mathlib.Core.Path.{◌≡◌, refl, sym, ap, ap₂, ◌∙◌}
use mathlib.Core.Logic.{⊎_elim}
use mathlib.Core.Bool.{Bool, true, false, cond, ◌||◌, or-false, true≢false}
use mathlib.Core.List.{List}
use Prim.Native.Nat.{ℕ, zero, suc, ◌+◌, ◌*◌, ◌/◌, ◌%◌, ◌≤◌, ◌<◌}
use native.Mathlib.Decide.{dec_lt}
use native.Mathlib.Nat.{zero-add, add-zero}
use native.Mathlib.Omega.{arith}
use lib.Arith.{lt_of_le-ne}
use lib.Dec.{leb, ltb, eqb}
use lib.ListN.{length, get_or, set, length-set, get_or-eq_default}
use lib.Seq.{get_or-set_same, get_or-set_other, ext_get_or}
use borrow.Author.Tests.{leb-true, ltb-true, eqb-true, eqb-false, eq-eqb}
use Rattle.base.proofs.Test.{cases, cond_yes, cond_no, and_left, and_right, both_ways, or_right, or_parts, or_neither}
use Rattle.image.specs.declared.CellTally.{CellTally}
use Rattle.image.specs.declared.PixelRange.{PixelRange}
use Rattle.image.specs.Cell.{Cell, meanings, tallied}
use Rattle.image.specs.Range.{in_stretch, holds_cell, in_picture, picture_ready, whole_picture}
use Rattle.image.specs.Painting.{map_at, held_cells}
use Rattle.image.proofs.AtLaws.{length_map_at, get_d_map_at, map_at_ext, map_at_none, map_at_map_at}
use Rattle.image.proofs.RangeLaws.{between_in, between_bounds, between_out, band, stretch_held, stretch_rest, band_none, within}
use Rattle.tiles.specs.Tiles.{tiles_along, tile_count, touches, tile_tally, tile_number, recounted_where, recounted_under, recounted}
use Rattle.tiles.specs.Tiles.{table_enough, recountable, table_recounted}
use Rattle.tiles.specs.TilesComputed.{TilesReady, tiles_of, tile_in, numbers_put}
use Rattle.tiles.proofs.TileLaws.{touches_tiles, empty_touches, whole_touches, tile_below, tile_numbered, ready_in}

-- the number at a place afterwards
abbrev renumbered : (ℕ → Bool) → ℕ → ℕ → ℕ → List Cell → ℕ → ℕ → ℕ
renumbered which width height taken l j n = cond (which (j / 4)) (tile_number (tile_tally width height taken l (j / 4)) (j % 4)) n

-- the table keeps its length
pub recount_length : (which : ℕ → Bool) (width height taken : ℕ) (l : List Cell) (table : List ℕ)
    → length (recounted_where which width height taken l table) ≡ length table
unfolding recounted_where
recount_length which width height taken l table = length_map_at (renumbered which width height taken l) 0 table

-- each number afterwards is its tile's, counted anew where the tile passes the test, and else as it was
pub recount_number : (which : ℕ → Bool) (width height taken : ℕ) (l : List Cell) (table : List ℕ) (j : ℕ) → j < length table
    → get_or (recounted_where which width height taken l table) j 0
    ≡ cond (which (j / 4)) (tile_number (tile_tally width height taken l (j / 4)) (j % 4)) (get_or table j 0)
unfolding recounted_where
recount_number which width height taken l table j h = get_d_map_at (renumbered which width height taken l) 0 table j 0 h ∙ rw zero-add

-- two tests that agree on the tiles whose numbers the table has
pub recount_agree : (p q : ℕ → Bool) (width height taken : ℕ) (l : List Cell) (table : List ℕ) → ((i : ℕ) → 4 * i < length table → p i ≡ q i)
    → recounted_where p width height taken l table ≡ recounted_where q width height taken l table
unfolding recounted_where
recount_agree p q width height taken l table h =
    map_at_ext (renumbered p width height taken l) (renumbered q width height taken l) 0 table
    (λ j n a b. ap (λ (t : Bool). cond t (tile_number (tile_tally width height taken l (j / 4)) (j % 4)) n) (h (j / 4) (omega arith)))

-- one recount after another is the recount of the tiles that pass either test
pub recount_both : (p q : ℕ → Bool) (width height taken : ℕ) (l : List Cell) (table : List ℕ)
    → recounted_where p width height taken l (recounted_where q width height taken l table) ≡ recounted_where (λ i. p i || q i) width height taken l table
unfolding recounted_where
recount_both p q width height taken l table =
    map_at_map_at (renumbered p width height taken l) (renumbered q width height taken l) 0 table
    ∙ map_at_ext (λ j n. renumbered p width height taken l j (renumbered q width height taken l j n)) (renumbered (λ i. p i || q i) width height taken l) 0 table
    (λ j n a b. go (p (j / 4)) (q (j / 4)) (tile_number (tile_tally width height taken l (j / 4)) (j % 4)) n)
  where
    go : (s t : Bool) (m n : ℕ) → cond s m (cond t m n) ≡ cond (s || t) m n
    go true t m n = refl
    go false t m n = refl

-- where no tile passes, nothing changes
pub recount_none : (which : ℕ → Bool) (width height taken : ℕ) (l : List Cell) (table : List ℕ) → ((i : ℕ) → 4 * i < length table → which i ≡ false)
    → recounted_where which width height taken l table ≡ table
unfolding recounted_where
recount_none which width height taken l table h =
    map_at_ext (renumbered which width height taken l) (λ j n. n) 0 table (λ j n a b. cond_no (which (j / 4)) _ n (h (j / 4) (omega arith)))
    ∙ map_at_none 0 table

-- NUMBER BY NUMBER

-- the k-th number of the i-th tile is the i-th tile's, and its k-th
pub number_tile : (i k : ℕ) → k < 4 → (4 * i + k) / 4 ≡ i
number_tile i k h = omega arith

pub number_place : (i k : ℕ) → k < 4 → (4 * i + k) % 4 ≡ k
number_place i k h = omega arith

module _ (which : ℕ → Bool) (width height taken : ℕ) (l : List Cell) (table : List ℕ) where
  -- of a tile that is not recounted it is as it was
  pub number_kept : (j : ℕ) → which (j / 4) ≡ false → get_or (recounted_where which width height taken l table) j 0 ≡ get_or table j 0
  number_kept j e = elim (dec_lt j (length table)) [
    | yes h ↦ recount_number which width height taken l table j h ∙ cond_no (which (j / 4)) _ _ e
    | no h ↦ (let n = recount_length which width height taken l table in
        get_or-eq_default (recounted_where which width height taken l table) 0 {n = j} (omega arith)
        ∙ sym (get_or-eq_default table 0 {n = j} (omega arith)))
  ]

  -- of one that is, it is counted
  pub number_counted : (i k : ℕ) → k < 4 → 4 * i + k < length table → which i ≡ true
      → get_or (recounted_where which width height taken l table) (4 * i + k) 0 ≡ tile_number (tile_tally width height taken l i) k
  number_counted i k h room e =
      recount_number which width height taken l table (4 * i + k) room
      ∙ cond_yes (which ((4 * i + k) / 4)) _ _ (ap which (number_tile i k h) ∙ e)
      ∙ ap₂ (λ (m n : ℕ). tile_number (tile_tally width height taken l m) n) (number_tile i k h) (number_place i k h)

-- RECOUNTED AGAIN

-- what was recounted is not changed by another recount
pub recounted_twice : (width height taken : ℕ) (l : List Cell) (table : List ℕ)
    → recounted width height taken l table ≡ recounted width height taken l (recounted width height taken l table)
recounted_twice width height taken l table =
    sym (recount_both all all width height taken l table ∙ recount_agree (λ i. all i || all i) all width height taken l table (λ i h. self (all i)))
  where
    all : ℕ → Bool
    all i = ltb i (tile_count width height)

    self : (t : Bool) → t || t ≡ t
    self true = refl
    self false = refl

-- a table that equals a recount, once the tiles are recounted that a rectangle touches: it equals the new recount, if all other tiles count as before
pub recounted_on : (width height : ℕ) (r : PixelRange) (taken taken' : ℕ) (l l' : List Cell) (table : List ℕ)
    → ((i : ℕ) → i < tile_count width height → touches width height r i ≡ false → tile_tally width height taken' l' i ≡ tile_tally width height taken l i)
    → table ≡ recounted width height taken l table
    → (let after = recounted_under width height r taken' l' table in after ≡ recounted width height taken' l' after)
unfolding recounted_where
recounted_on width height r taken taken' l l' table same e =
    ap (map_at under 0) e
    ∙ map_at_map_at under old 0 table
    ∙ map_at_ext (λ j n. under j (old j n)) (λ j n. new j (under j (old j n))) 0 table
    (λ j n p q. each j n (touches width height r (j / 4)) (ltb (j / 4) (tile_count width height)) refl refl)
    ∙ sym (map_at_map_at new (λ j n. under j (old j n)) 0 table)
    ∙ ap (map_at new 0) (sym (map_at_map_at under old 0 table))
    ∙ ap (λ (m : List ℕ). map_at new 0 (map_at under 0 m)) (sym e)
  where
    counted : ℕ → ℕ
    counted j = tile_number (tile_tally width height taken' l' (j / 4)) (j % 4)

    before : ℕ → ℕ
    before j = tile_number (tile_tally width height taken l (j / 4)) (j % 4)

    under : ℕ → ℕ → ℕ
    under j n = cond (touches width height r (j / 4)) (counted j) n

    old : ℕ → ℕ → ℕ
    old j n = cond (ltb (j / 4) (tile_count width height)) (before j) n

    new : ℕ → ℕ → ℕ
    new j n = cond (ltb (j / 4) (tile_count width height)) (counted j) n

    each : (j n : ℕ) (t u : Bool) → touches width height r (j / 4) ≡ t → ltb (j / 4) (tile_count width height) ≡ u
        → cond t (counted j) (cond u (before j) n) ≡ cond u (counted j) (cond t (counted j) (cond u (before j) n))
    each j n true true e f = refl
    each j n true false e f = refl
    each j n false false e f = refl
    each j n false true e f = sym (ap (λ (t : CellTally). tile_number t (j % 4)) (same (j / 4) (ltb-true (j / 4) (tile_count width height) f) e))

-- ONE TILE

four : (P : ℕ → Type 0) → P 0 → P 1 → P 2 → P 3 → (k : ℕ) → k < 4 → P k
four P a b c d zero h = a
four P a b c d (suc zero) h = b
four P a b c d (suc (suc zero)) h = c
four P a b c d (suc (suc (suc zero))) h = d
four P a b c d (suc (suc (suc (suc k)))) h = absurd (omega arith)

pub put_length : (t : CellTally) (i : ℕ) (l : List ℕ) → length (numbers_put t i l) ≡ length l
unfolding numbers_put
put_length t i l = simp length-set

module _ (t : CellTally) (i : ℕ) (l : List ℕ) where
  abbrev l₁ : List ℕ
  l₁ = set l i t.trues

  abbrev l₂ : List ℕ
  l₂ = set l₁ (i + 1) t.falses

  abbrev l₃ : List ℕ
  l₃ = set l₂ (i + 2) t.uncertain

  put_away : (j : ℕ) → (i ≤ j → j < i + 4 → ⊥) → get_or (numbers_put t i l) j 0 ≡ get_or l j 0
  unfolding numbers_put
  put_away j h =
      get_or-set_other l₃ (i + 3) j t.givenup 0 (λ e. h (omega arith) (omega arith))
      ∙ get_or-set_other l₂ (i + 2) j t.uncertain 0 (λ e. h (omega arith) (omega arith))
      ∙ get_or-set_other l₁ (i + 1) j t.falses 0 (λ e. h (omega arith) (omega arith))
      ∙ get_or-set_other l i j t.trues 0 (λ e. h (omega arith) (omega arith))

  put_there : i + 4 ≤ length l → (k : ℕ) → k < 4 → get_or (numbers_put t i l) (i + k) 0 ≡ tile_number t k
  unfolding numbers_put tile_number
  put_there h =
      let n₁ : length l₁ ≡ length l = length-set l i t.trues in
      let n₂ : length l₂ ≡ length l₁ = length-set l₁ (i + 1) t.falses in
      let n₃ : length l₃ ≡ length l₂ = length-set l₂ (i + 2) t.uncertain in
      four (λ k. get_or (set l₃ (i + 3) t.givenup) (i + k) 0 ≡ tile_number t k)
      (get_or-set_other l₃ (i + 3) (i + 0) t.givenup 0 (λ e. omega arith)
      ∙ get_or-set_other l₂ (i + 2) (i + 0) t.uncertain 0 (λ e. omega arith)
      ∙ get_or-set_other l₁ (i + 1) (i + 0) t.falses 0 (λ e. omega arith)
      ∙ ap (λ (n : ℕ). get_or l₁ n 0) (add-zero i)
      ∙ get_or-set_same l i t.trues 0 (omega arith))
      (get_or-set_other l₃ (i + 3) (i + 1) t.givenup 0 (λ e. omega arith)
      ∙ get_or-set_other l₂ (i + 2) (i + 1) t.uncertain 0 (λ e. omega arith)
      ∙ get_or-set_same l₁ (i + 1) t.falses 0 (omega arith))
      (get_or-set_other l₃ (i + 3) (i + 2) t.givenup 0 (λ e. omega arith)
      ∙ get_or-set_same l₂ (i + 2) t.uncertain 0 (omega arith))
      (get_or-set_same l₃ (i + 3) t.givenup 0 (omega arith))

-- four numbers written are one tile recounted
pub recount_one : (width height taken : ℕ) (l : List Cell) (table : List ℕ) (k : ℕ) → 4 * k + 4 ≤ length table
    → numbers_put (tile_tally width height taken l k) (4 * k) table ≡ recounted_where (λ i. eqb i k) width height taken l table
recount_one width height taken l table k h =
    ext_get_or 0 (numbers_put t (4 * k) table) (recounted_where (λ i. eqb i k) width height taken l table)
    (put_length t (4 * k) table ∙ sym (recount_length (λ i. eqb i k) width height taken l table))
    (λ j m. (let b : j < length table = omega (arith, put_length t (4 * k) table) in
    cases (eqb (j / 4) k) (here j b) (away j b) ∙ sym (recount_number (λ i. eqb i k) width height taken l table j b)))
  where
    t : CellTally
    t = tile_tally width height taken l k

    here : (j : ℕ) → j < length table → eqb (j / 4) k ≡ true
        → get_or (numbers_put t (4 * k) table) j 0 ≡ cond (eqb (j / 4) k) (tile_number (tile_tally width height taken l (j / 4)) (j % 4)) (get_or table j 0)
    here j b e =
        let q : j / 4 ≡ k = eqb-true (j / 4) k e in
        let d : j ≡ 4 * k + j % 4 = omega arith in
        ap (λ (n : ℕ). get_or (numbers_put t (4 * k) table) n 0) d
        ∙ put_there t (4 * k) table h (j % 4) (omega arith)
        ∙ ap (λ (n : ℕ). tile_number (tile_tally width height taken l n) (j % 4)) (sym q)
        ∙ sym (cond_yes (eqb (j / 4) k) _ _ e)

    away : (j : ℕ) → j < length table → eqb (j / 4) k ≡ false
        → get_or (numbers_put t (4 * k) table) j 0 ≡ cond (eqb (j / 4) k) (tile_number (tile_tally width height taken l (j / 4)) (j % 4)) (get_or table j 0)
    away j b e =
        put_away t (4 * k) table j (λ p q. eqb-false (j / 4) k e (omega arith)) ∙ sym (cond_no (eqb (j / 4) k) _ _ e)

-- the counts of a tile's rectangle, written to its place
pub tile_recounted : (width height column row taken across : ℕ) (l : List Cell) (t : CellTally) (table after : List ℕ)
    → column < tiles_along width → row < tiles_along height → 4 * tile_count width height ≤ length table → across ≡ tiles_along width
    → t ≡ tallied taken (held_cells width (tile_in width height column row) l) → after ≡ numbers_put t (4 * (row * across + column)) table
    → after ≡ recounted_where (λ i. eqb i (row * tiles_along width + column)) width height taken l table
tile_recounted width height column row taken across l t table after h k m e f g =
    g ∙ ap (λ (n : ℕ). numbers_put t (4 * (row * n + column)) table) e
    ∙ ap (λ (u : CellTally). numbers_put u (4 * (row * tiles_along width + column)) table) (f ∙ tile_numbered width height column row taken l h)
    ∙ recount_one width height taken l table (row * tiles_along width + column) (omega (arith, tile_below width height column row h k))

-- TURNS OF THE LOOPS

-- a place, and the places after it
next_place : (a b i : ℕ) → a < b → (in_stretch (a + 1) b i || eqb i a) ≡ in_stretch a b i
next_place a b i h =
    both_ways (in_stretch (a + 1) b i || eqb i a) (in_stretch a b i)
    (λ t. ⊎_elim
    (λ e. (let c = between_bounds (a + 1) b i e in between_in a b i (omega arith) (omega arith)))
    (λ e. (let q = eqb-true i a e in between_in a b i (omega arith) (omega arith)))
    (or_parts (in_stretch (a + 1) b i) (eqb i a) t))
    (λ t.
    let c = between_bounds a b i t in
    elim (dec_lt a i) [
      | yes k ↦ ap (λ (u : Bool). u || eqb i a) (between_in (a + 1) b i (omega arith) (omega arith))
      | no k ↦ or_right (in_stretch (a + 1) b i) (eqb i a) (eq-eqb i a (omega arith))
    ])

-- a row's stretch of places, and the rows after it
next_row : (width left right row bottom i : ℕ) → right ≤ width → row < bottom
    → (holds_cell width (band left right (row + 1) bottom) i || in_stretch (row * width + left) (row * width + right) i)
    ≡ holds_cell width (band left right row bottom) i
next_row width left right row bottom i fits more =
    cases (in_stretch (row * width + left) (row * width + right) i)
    (λ t.
    let c = between_bounds (row * width + left) (row * width + right) i t in
    or_right (holds_cell width (band left right (row + 1) bottom) i) _ t ∙ sym (stretch_held width left right row bottom fits more i c.0 c.1))
    (λ t.
    ap (λ (u : Bool). holds_cell width (band left right (row + 1) bottom) i || u) t ∙ or-false (holds_cell width (band left right (row + 1) bottom) i)
    ∙ sym (stretch_rest width left right row bottom fits more i (λ p q. true≢false (sym (between_in (row * width + left) (row * width + right) i p q) ∙ t))))

module _ (width height taken : ℕ) (l : List Cell) where
  -- a tile, and then those after it in its row; after the last none is left
  pub tile_turn : (a b next : ℕ) (table after : List ℕ) → a < b → next ≡ a + 1 → after ≡ recounted_where (λ i. eqb i a) width height taken l table
      → recounted_where (in_stretch next b) width height taken l after ≡ recounted_where (in_stretch a b) width height taken l table
  tile_turn a b next table after h n e =
      ap (λ (k : ℕ). recounted_where (in_stretch k b) width height taken l after) n
      ∙ ap (recounted_where (in_stretch (a + 1) b) width height taken l) e
      ∙ recount_both (in_stretch (a + 1) b) (λ i. eqb i a) width height taken l table
      ∙ recount_agree (λ i. in_stretch (a + 1) b i || eqb i a) (in_stretch a b) width height taken l table (λ i m. next_place a b i h)

  pub tile_end : (a b : ℕ) (table : List ℕ) → b ≤ a → recounted_where (in_stretch a b) width height taken l table ≡ table
  tile_end a b table h = recount_none (in_stretch a b) width height taken l table (λ i m. between_out a b i (λ p q. omega arith))

  -- a row of tiles, and then the rows after it; after the last none is left
  pub row_turn : (across left right row bottom : ℕ) (table after : List ℕ) → right ≤ across → row < bottom
      → after ≡ recounted_where (in_stretch (row * across + left) (row * across + right)) width height taken l table
      → recounted_where (holds_cell across (band left right (row + 1) bottom)) width height taken l after
      ≡ recounted_where (holds_cell across (band left right row bottom)) width height taken l table
  row_turn across left right row bottom table after fits more e =
      ap (recounted_where (holds_cell across (band left right (row + 1) bottom)) width height taken l) e
      ∙ recount_both (holds_cell across (band left right (row + 1) bottom)) (in_stretch (row * across + left) (row * across + right)) width height taken l table
      ∙ recount_agree (λ i. holds_cell across (band left right (row + 1) bottom) i || in_stretch (row * across + left) (row * across + right) i)
      (holds_cell across (band left right row bottom)) width height taken l table (λ i m. next_row across left right row bottom i fits more)

  pub row_end : (across left right row bottom : ℕ) (table : List ℕ) → row ≡ bottom
      → recounted_where (holds_cell across (band left right row bottom)) width height taken l table ≡ table
  row_end across left right row bottom table e =
      recount_none (holds_cell across (band left right row bottom)) width height taken l table
      (λ i m. ap (λ (k : ℕ). holds_cell across (band left right k bottom) i) e ∙ band_none across left right bottom i)

-- THE ANSWERS

pub recounted_not : (width height : ℕ) (r : PixelRange) (taken : ℕ) (l table : List ℕ) → recountable width height r (length l) (length table) ≡ false
    → table_recounted width height r taken l table ≡ table
unfolding table_recounted
recounted_not width height r taken l table e = cond_no (recountable width height r (length l) (length table)) _ _ e

pub recounted_done : (width height : ℕ) (r : PixelRange) (taken : ℕ) (l table : List ℕ) → recountable width height r (length l) (length table) ≡ true
    → table_recounted width height r taken l table ≡ recounted_under width height r taken (meanings l) table
unfolding table_recounted
recounted_done width height r taken l table e = cond_yes (recountable width height r (length l) (length table)) _ _ e

-- where it can be done, the rectangle lies in the picture, every pixel has a cell, and every tile its numbers
pub recountable_in : (width height : ℕ) (r : PixelRange) (count room : ℕ) → recountable width height r count room ≡ true → in_picture width height r ≡ true
unfolding recountable
recountable_in width height r count room e =
    ready_in width height r count (and_left (picture_ready width height r count) (table_enough width height room) e)

pub recountable_room : (width height : ℕ) (r : PixelRange) (count room : ℕ) → recountable width height r count room ≡ true → TilesReady width height count room
unfolding recountable picture_ready
recountable_room width height r count room e =
    let p = picture_ready width height r count in
    record {
      pixels = leb-true (width * height) count (and_right (in_picture width height r) (leb (width * height) count)
          (and_left p (table_enough width height room) e));
      numbers = leb-true (4 * tile_count width height) room (and_right p (table_enough width height room) e);
    }

-- a rectangle without a pixel: nothing changes
pub recount_empty : (width height : ℕ) (r : PixelRange) (taken : ℕ) (l table : List ℕ) → recountable width height r (length l) (length table) ≡ true
    → (eqb r.left r.right || eqb r.top r.bottom) ≡ true
    → table ≡ table_recounted width height r taken l table
recount_empty width height r taken l table e f =
    sym (recounted_done width height r taken l table e
    ∙ recount_none (touches width height r) width height taken (meanings l) table (λ i m. empty_touches width height r i f))

-- with one: the tiles of its columns and rows of tiles are counted anew
pub recount_tiles : (width height : ℕ) (r tiles : PixelRange) (taken : ℕ) (l table after : List ℕ)
    → recountable width height r (length l) (length table) ≡ true → (eqb r.left r.right || eqb r.top r.bottom) ≡ false → tiles ≡ tiles_of r
    → after ≡ recounted_where (holds_cell (tiles_along width) tiles) width height taken (meanings l) table → after ≡ table_recounted width height r taken l table
recount_tiles width height r tiles taken l table after e f g h =
    let t = recountable_in width height r (length l) (length table) e in
    let w = within width height r t in
    let n = or_neither (eqb r.left r.right) (eqb r.top r.bottom) f in
    let a : r.left < r.right = lt_of_le-ne w.across (eqb-false r.left r.right n.0) in
    let d : r.top < r.bottom = lt_of_le-ne w.down (eqb-false r.top r.bottom n.1) in
    h ∙ ap (λ (q : PixelRange). recounted_where (holds_cell (tiles_along width) q) width height taken (meanings l) table) g
    ∙ sym (recounted_done width height r taken l table e
    ∙ recount_agree (touches width height r) (holds_cell (tiles_along width) (tiles_of r)) width height taken (meanings l) table
    (λ i m. touches_tiles width height r i t a d))

-- a recount under the whole picture is one of every tile
pub recount_whole : (width height taken : ℕ) (l : List Cell) (table : List ℕ) → 1 ≤ width → 1 ≤ height
    → recounted_under width height (whole_picture width height) taken l table ≡ recounted width height taken l table
recount_whole width height taken l table w h =
    recount_agree (touches width height (whole_picture width height)) (λ i. ltb i (tile_count width height)) width height taken l table
    (λ i m. whole_touches width height i w h)
