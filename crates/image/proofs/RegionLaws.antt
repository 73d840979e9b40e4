-- Laws of a region's rows, one after another: what they hold, and the turns of the loops over them. Assumes nothing.
use mathlib.Core.Path.{◌≡◌, refl, sym, ap}
use mathlib.Core.Bool.{Bool, false, ◌||◌}
use mathlib.Core.List.{List, [], ◌++◌}
use Prim.Native.Nat.{ℕ, ◌+◌, ◌-◌, ◌*◌, ◌≤◌, ◌<◌, ◌^◌}
use native.Mathlib.Omega.{arith}
use lib.ListN.{length, drop, length-map, length-take, length-drop}
use Rattle.image.specs.declared.PixelRange.{PixelRange}
use Rattle.image.specs.declared.CellTally.{CellTally}
use Rattle.image.specs.Cell.{Cell, meaning_of, meanings, tallied}
use Rattle.image.specs.Painting.{held_cells, some_of}
use Rattle.image.specs.RowsComputed.{ReadyRows, SmallTally, row_cells, tally_sum}
use Rattle.image.proofs.RangeLaws.{row_fits}
use Rattle.image.proofs.CountLaws.{some_append, held_from, held_all, held_end, held_pass, held_length, tally_small, tally_none, tally_pass, part_small}

-- the cells of the rows from one on
abbrev pub rows_from : ℕ → PixelRange → List ℕ → ℕ → List Cell
rows_from width r l row = held_from width r.left r.right row r.bottom l

module _ (width : ℕ) (r : PixelRange) (l : List ℕ) where
  pub rows_all : rows_from width r l r.top ≡ held_cells width r (meanings l)
  rows_all = held_all width r l

  pub rows_over : (row : ℕ) → row ≡ r.bottom → rows_from width r l row ≡ []
  rows_over row = held_end width r.left r.right row r.bottom l

  pub rows_few : (row : ℕ) → length (rows_from width r l row) ≤ length l
  rows_few row = held_length width r.left r.right row r.bottom l

  pub row_few : (row : ℕ) → length (row_cells width r row l) ≤ length l
  row_few row =
      let start = row * width + r.left in
      omega (arith, length-take (row * width + r.right - start) (drop start l), length-drop start l)

  -- no row holds what is looked for
  pub none_left : (test : Cell → Bool) (row : ℕ) → row ≡ r.bottom → some_of test (rows_from width r l row) ≡ false
  unfolding some_of
  none_left test row e = ap (some_of test) (rows_over row e)

  pub all_tallied : (taken row : ℕ) (t : CellTally) → row ≡ r.bottom → tally_sum t (tallied taken (rows_from width r l row)) ≡ t
  all_tallied taken row t e = tally_none taken t (rows_from width r l row) (rows_over row e)

  module _ (h : ReadyRows width r (length l)) (row : ℕ) (k : row < r.bottom) where
    pub rows_next : rows_from width r l row ≡ meanings (row_cells width r row l) ++ rows_from width r l (row + 1)
    rows_next =
        held_pass width r.left r.right row r.bottom (row * width + r.left) (row * width + r.right) l h.across h.right k refl refl
        (row_fits width r (length l) row h k)

    -- a row is looked through, and then those after it
    pub some_next : (test : Cell → Bool) (m : List ℕ) (b : Bool) → m ≡ row_cells width r row l → b ≡ some_of test (meanings m)
        → (b || some_of test (rows_from width r l (row + 1))) ≡ some_of test (rows_from width r l row)
    some_next test m b e f =
        rw (f, e, rows_next) (sym (some_append test (meanings (row_cells width r row l)) (rows_from width r l (row + 1))))

    -- a row is counted, and then those after it
    pub tally_next : (taken : ℕ) (t u v total : CellTally) (m : List ℕ) → tally_sum t (tallied taken (rows_from width r l row)) ≡ total
        → m ≡ row_cells width r row l → u ≡ tallied taken (meanings m) → v ≡ tally_sum t u
        → tally_sum v (tallied taken (rows_from width r l (row + 1))) ≡ total
    tally_next taken t u v total m e f g i =
        tally_pass taken t u v total (meanings (row_cells width r row l)) (rows_from width r l (row + 1)) (rw rows_next at e) (rw f at g) i

    -- both can be added
    pub small_next : (taken : ℕ) (t u : CellTally) (m : List ℕ) → length l < 2 ^ 62
        → tally_sum t (tallied taken (rows_from width r l row)) ≡ tallied taken (held_cells width r (meanings l))
        → m ≡ row_cells width r row l → u ≡ tallied taken (meanings m) → SmallTally t × SmallTally u
    small_next taken t u m few e f g = (
      part_small t (tallied taken (rows_from width r l row)) (tallied taken (rows_from width r l r.top)) (rw rows_all e)
          (tally_small taken (rows_from width r l r.top) (omega (arith, rows_few r.top))),
      rw g (tally_small taken (meanings m) (omega (arith, length-map m meaning_of, ap length f, row_few row))),
    )
