-- What the private functions of rows ensure and ask for, row by row and code by code: the public contracts do not speak of it.
use Rattle.std.specs.Prelude.{Bool, cond, ◌&&◌, List, take, drop, ℕ, ◌+◌, ◌-◌, ◌*◌, ◌/◌, ◌%◌, ◌^◌, ◌≤◌, ◌<◌, leb, ltb, eqb}
use Rattle.image.specs.declared.Op.{Op}
use Rattle.image.specs.declared.PixelRange.{PixelRange}
use Rattle.image.specs.declared.CellTally.{CellTally}
use Rattle.image.specs.Cell.{cell_code, meaning_of, done_to}

-- what is done to a cell, on its code
abbrev pub touched : Op → ℕ → ℕ
touched op n = cell_code (done_to op (meaning_of n))

-- what a picture that is ready says of the rows of a rectangle
pub record ReadyRows (width : ℕ) (r : PixelRange) (n : ℕ) : Type 0 where
  pub across : r.left ≤ r.right
  pub right : r.right ≤ width
  pub down : r.top ≤ r.bottom
  pub enough : r.bottom * width ≤ n

-- the rectangle's part of a row of the cells
abbrev pub row_cells : ℕ → PixelRange → ℕ → List ℕ → List ℕ
row_cells width r row l = take (row * width + r.right - (row * width + r.left)) (drop (row * width + r.left) l)

-- two counts together
abbrev pub tally_sum : CellTally → CellTally → CellTally
tally_sum t u = record {
  trues = t.trues + u.trues;
  falses = t.falses + u.falses;
  uncertain = t.uncertain + u.uncertain;
  givenup = t.givenup + u.givenup;
}

-- counts that can be added
pub record SmallTally (t : CellTally) : Type 0 where
  pub trues : t.trues < 2 ^ 62
  pub falses : t.falses < 2 ^ 62
  pub uncertain : t.uncertain < 2 ^ 62
  pub givenup : t.givenup < 2 ^ 62

-- a rectangle with rows of sixteen cells and at most 256 cells, as a tile
abbrev pub tile_shaped : PixelRange → Bool
tile_shaped r = eqb (r.right - r.left) 16 && leb (r.bottom - r.top) 16

-- the counts of at most 256 cells in one number; what reads Uncertain is the rest of them
abbrev pub packed_tally : CellTally → ℕ
packed_tally t = t.givenup + 1024 * (t.trues + t.givenup) + 1048576 * t.falses

-- and the counts of so many cells from that number
abbrev pub unpacked_tally : ℕ → ℕ → CellTally
unpacked_tally cells n = record {
  trues = n / 1024 % 1024 - n % 1024;
  falses = n / 1048576;
  uncertain = cells - (n / 1024 % 1024 - n % 1024) - n / 1048576;
  givenup = n % 1024;
}

-- what a cell with these halves of its code adds, if it is True or given up
abbrev pub settled_weight : ℕ → ℕ → ℕ
settled_weight high low = cond (eqb high 1 && ltb low 2) (low + 1024) 0

-- and if it reads False
abbrev pub false_weight : ℕ → ℕ → ℕ → ℕ
false_weight high low taken = cond (eqb high 0 && ltb low taken) 1048576 0

-- the counts when no block has been taken, from those when one has
abbrev pub untaken_tally : CellTally → CellTally
untaken_tally t = record { trues = t.trues; falses = 0; uncertain = t.uncertain + t.falses; givenup = t.givenup }
