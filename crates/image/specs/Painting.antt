-- What is done to the cells of a rectangle, looked for in them, counted and shown: document 01, "Picture and step", on the meanings of all lent cells.
-- Cells that the rectangle does not hold keep their value, those beyond the pixels too: no rectangle of a picture holds one of these.
use Rattle.std.specs.Prelude.{Bool, true, false, cond, ◌&&◌, ◌||◌, List, [], ◌∷◌, map, ℕ, suc, eqb, length, get_or, Option, Some, None}
use Rattle.image.specs.declared.Op.{Op}
use Rattle.image.specs.declared.CellKind.{CellKind}
use Rattle.image.specs.declared.CellTally.{CellTally}
use Rattle.image.specs.declared.PixelRange.{PixelRange}
use Rattle.image.specs.Cell.{Cell, Named, meanings, codes, done_to, nameable, is_marked, of_kind, tallied, shown_byte}
use Rattle.image.specs.Range.{cell_index, holds_cell, picture_ready}

-- each element by its place, counted from i
abbrev pub map_at : {A : Type 0} → (ℕ → A → A) → ℕ → List A → List A
map_at f i [] = []
map_at f i (c ∷ l) = f i c ∷ map_at f (suc i) l

-- the elements whose places pass a test, in their order
abbrev pub keep_at : {A : Type 0} → (ℕ → Bool) → ℕ → List A → List A
keep_at t i [] = []
keep_at t i (c ∷ l) = cond (t i) (c ∷ keep_at t (suc i) l) (keep_at t (suc i) l)

-- every cell afterwards: one that the rectangle holds is changed, any other is as it was
unfoldable pub painted : ℕ → PixelRange → Op → List Cell → List Cell
painted width r op l = map_at (λ i c. cond (holds_cell width r i) (done_to op c) c) 0 l

-- the cell of the pixel in column x that is the y-th from the bottom
abbrev pub pixel_cell : ℕ → ℕ → ℕ → ℕ → List Cell → Cell
pixel_cell width height x y l = get_or l (cell_index width height x y) (Named 0)

-- is it done?
unfoldable pub paintable : ℕ → ℕ → PixelRange → Op → ℕ → Bool
paintable width height r op n = picture_ready width height r n && nameable op

-- the lent cells afterwards
unfoldable pub painted_cells : ℕ → ℕ → PixelRange → Op → List ℕ → List ℕ
painted_cells width height r op l = cond (paintable width height r op (length l)) (codes (painted width r op (meanings l))) l

-- the cells that a rectangle holds, from the top row to the bottom one
unfoldable pub held_cells : ℕ → PixelRange → List Cell → List Cell
held_cells width r l = keep_at (holds_cell width r) 0 l

-- some cell of a list passes a test
unfoldable pub some_of : (Cell → Bool) → List Cell → Bool
some_of test [] = false
some_of test (c ∷ l) = test c || some_of test l

-- every one does
unfoldable pub every_of : (Cell → Bool) → List Cell → Bool
every_of test [] = true
every_of test (c ∷ l) = test c && every_of test l

-- does the rectangle hold a cell of a kind? Nothing is answered where it or the cells do not fit the picture
unfoldable pub some_seen : ℕ → ℕ → PixelRange → CellKind → List ℕ → Option Bool
some_seen width height r kind l =
    cond (picture_ready width height r (length l)) (Some (some_of (of_kind kind) (held_cells width r (meanings l)))) None

-- is every cell of the rectangle True?
unfoldable pub all_true_seen : ℕ → ℕ → PixelRange → List ℕ → Option Bool
all_true_seen width height r l =
    cond (picture_ready width height r (length l)) (Some (every_of is_marked (held_cells width r (meanings l)))) None

-- the counts of the rectangle
unfoldable pub tally_answer : ℕ → ℕ → PixelRange → ℕ → List ℕ → Option CellTally
tally_answer width height r taken l =
    cond (picture_ready width height r (length l)) (Some (tallied taken (held_cells width r (meanings l)))) None

-- a picture buffer with a byte for each cell, afterwards: what the cells show; any other is as it was
unfoldable pub drawn_bytes : ℕ → List ℕ → List ℕ → List ℕ
drawn_bytes taken l out = cond (eqb (length l) (length out)) (map (shown_byte taken) l) out
