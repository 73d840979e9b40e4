-- Document 01, the table of refusals: which pictures are legal (rows 1 and 3), and when a block that was decoded is damaged (the list under row 8).
-- Whether bytes decode is `queue`'s to say; the cells that a block covers stand at the end of this page.
use Rattle.std.specs.Prelude.{Bool, true, false, ◌&&◌, List, ℕ, leb, eqb, length, Option, Some, None}
use Rattle.coordinate.specs.Axis.{ordinary_floor, above_floor}
pub use Rattle.coordinate.specs.Axis.{legal_side}
pub use Rattle.coordinate.specs.Lone.{place_right}
use Rattle.interval.specs.Bounds.{legal_interval}
use Rattle.image.specs.Cell.{Cell, is_damaged}
use Rattle.image.specs.Range.{rectangle_of}
use Rattle.image.specs.Painting.{held_cells, some_of, some_seen}
use Rattle.image.specs.declared.CellKind.TheVariants as K
use Rattle.queue.specs.declared.Block.{Block}
use Rattle.queue.specs.declared.directions.Direction.{Direction}
use Rattle.queue.specs.declared.directions.Direction.TheVariants as D
use Rattle.queue.specs.Directions.{directions, direction_at}
use Rattle.decide.specs.declared.Chosen.{Chosen}

-- a variable set that row 3 does not refuse
abbrev pub legal_set : ℕ → Bool
legal_set set = leb set 63

unfoldable pub legal_chosen : Chosen → Bool
legal_chosen p = legal_side p.width && legal_side p.height && legal_set p.set

-- the direction that a block's byte names
abbrev pub direction_of : Chosen → Block → Option Direction
direction_of p b = direction_at (directions p.set) b.dir

-- a direction that the block can be cut along: xy only above the floor
abbrev pub cuttable : Block → Direction → Bool
cuttable b D.XY = above_floor ordinary_floor b.x.rank
cuttable b D.M = true
cuttable b D.N = true
cuttable b D.Theta = true
cuttable b D.T = true

-- the byte names a direction in use; where none is in use it is 0
abbrev pub direction_right : Chosen → Block → Option Direction → Bool
direction_right p b (Some d) = cuttable b d
direction_right p b None = eqb (length (directions p.set)) 0 && eqb b.dir 0

-- all four parameters are intervals; m, n and n_theta with whole bounds
abbrev pub parameters_right : Block → Bool
parameters_right b = legal_interval b.m true && legal_interval b.n true && legal_interval b.theta true && legal_interval b.t false

-- not damaged: one level for x and y, and all of the above
unfoldable pub undamaged : Chosen → Block → Bool
undamaged p b =
    eqb b.x.rank b.y.rank && place_right p.width b.x && place_right p.height b.y
    && direction_right p b (direction_of p b) && parameters_right b

-- a legal picture and an undamaged block of it
abbrev pub sound : Chosen → Block → Bool
sound p b = legal_chosen p && undamaged p b

-- the cells that a block covers
abbrev pub covered_cells : Chosen → Block → List Cell → List Cell
covered_cells p b l = held_cells p.width (rectangle_of b.x b.y p.width p.height) l

-- one of them holds no number, nor True, nor given up
unfoldable pub cell_damaged : Chosen → Block → List Cell → Bool
cell_damaged p b l = some_of is_damaged (covered_cells p b l)

-- the same of lent cells; where they are fewer than the pixels nothing is seen
abbrev pub damage_seen : Chosen → Block → List ℕ → Option Bool
damage_seen p b cells = some_seen p.width p.height (rectangle_of b.x b.y p.width p.height) K.Damaged cells
