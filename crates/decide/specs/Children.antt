-- Document 01, the sentence of the step that lists the children of a block, by its direction.
use Rattle.std.specs.Prelude.{Bool, cond, ◌&&◌, List, [], ◌∷◌, ◌++◌, map, ◌-◌, ltb, length, replicate, Option, Some, None}
use Rattle.coordinate.specs.declared.Coordinate.{Coordinate}
use Rattle.coordinate.specs.Axis.{inside}
use Rattle.coordinate.specs.Lone.{low_half, high_half}
use Rattle.interval.specs.Bounds.{put_interval}
use Rattle.interval.specs.Cuts.{later_cut}
use Rattle.queue.specs.declared.Block.{Block}
use Rattle.queue.specs.declared.directions.Direction.{Direction}
use Rattle.queue.specs.declared.directions.Direction.TheVariants as D
use Rattle.queue.specs.Block.{is_integer, parameter_of, with_parameter}
use Rattle.decide.specs.declared.Chosen.{Chosen}
use Rattle.decide.specs.declared.children.Children.{Children}
use Rattle.decide.specs.Damage.{sound, direction_of}

-- the block at other coordinates
abbrev pub moved_to : Block → Coordinate → Coordinate → Block
moved_to b x y = record { x = x; y = y; m = b.m; n = b.n; theta = b.theta; t = b.t; dir = b.dir }

-- xy: the four pairs of halves, x moving first
unfoldable pub quarters_of : Block → List Block
quarters_of b =
    moved_to b (low_half b.x) (low_half b.y) ∷ moved_to b (high_half b.x) (low_half b.y)
    ∷ moved_to b (low_half b.x) (high_half b.y) ∷ moved_to b (high_half b.x) (high_half b.y) ∷ []

-- a block begins inside the picture
abbrev pub begins_inside : Chosen → Block → Bool
begins_inside p b = inside p.width b.x.rank b.x.index && inside p.height b.y.rank b.y.index

-- those that begin inside
unfoldable pub kept_inside : Chosen → List Block → List Block
kept_inside p [] = []
kept_inside p (b ∷ l) = cond (begins_inside p b) (b ∷ kept_inside p l) (kept_inside p l)

-- above level 0 only those inside are children, from level 0 down all four
unfoldable pub children_xy : Chosen → Block → List Block
children_xy p b = cond (ltb 48 b.x.rank) (kept_inside p (quarters_of b)) (quarters_of b)

-- a parameter: the pieces of its later cut, all else unchanged
unfoldable pub children_cut : Block → Direction → List Block
children_cut b d = map (with_parameter b d) (later_cut (put_interval (parameter_of b d)) (is_integer d))

-- by the direction; where there is none the block is its own child
abbrev pub children_along : Chosen → Block → Option Direction → List Block
children_along p b (Some D.XY) = children_xy p b
children_along p b (Some D.M) = children_cut b D.M
children_along p b (Some D.N) = children_cut b D.N
children_along p b (Some D.Theta) = children_cut b D.Theta
children_along p b (Some D.T) = children_cut b D.T
children_along p b None = b ∷ []

-- the children; a damaged block has none
unfoldable pub children_of : Chosen → Block → List Block
children_of p b = cond (sound p b) (children_along p b (direction_of p b)) []

-- a list of up to four as an array with a count: the places behind it hold the block itself
abbrev pub listed : Block → List Block → Children
listed b l = record { at = l ++ replicate (4 - length l) b; count = length l }
