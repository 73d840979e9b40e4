-- Child j of a block along its direction, and how many children there are: what the listing and the step both go by.
use Rattle.std.specs.Prelude.{Bool, true, false, cond, ◌&&◌, ◌||◌, ℕ, ◌%◌, ◌^◌, leb, ltb, eqb, length, get_or, Option, Some, None}
use Rattle.coordinate.specs.declared.Coordinate.{Coordinate}
use Rattle.coordinate.specs.Axis.{inside}
use Rattle.coordinate.specs.Lone.{low_half, high_half}
use Rattle.interval.specs.declared.Interval.{Interval}
use Rattle.interval.specs.Bounds.{legal_interval, put_interval}
use Rattle.interval.specs.Cuts.{later_cut}
use Rattle.queue.specs.declared.Block.{Block}
use Rattle.queue.specs.declared.directions.Direction.TheVariants as D
use Rattle.queue.specs.declared.directions.Direction.{Direction}
use Rattle.queue.specs.Block.{with_parameter}
use Rattle.decide.specs.declared.Chosen.{Chosen}
use Rattle.decide.specs.declared.children.Cut.{Cut}
use Rattle.decide.specs.declared.children.Place.{Place}
use Rattle.decide.specs.Damage.{sound, direction_of}
use Rattle.decide.specs.Children.{moved_to, children_of}

-- the low or the high half of a coordinate; one of rank 0, or with an index past the range, stays as it is
unfoldable pub half_of : Coordinate → Bool → Coordinate
half_of c high = cond (ltb 0 c.rank && ltb c.index (2 ^ 47)) (cond high (high_half c) (low_half c)) c

-- quarter j of those that are listed, x moving first; without the right half only y moves
abbrev pub quarter_of : Bool → Coordinate → Coordinate → ℕ → Place
quarter_of right x y j = cond right
    (record { x = half_of x (eqb (j % 2) 1); y = half_of y (leb 2 j) })
    (record { x = half_of x false; y = half_of y (leb 1 j) })

-- where child j lies: in a quarter, or in the block's own place
abbrev pub place_along : Option Direction → Bool → Coordinate → Coordinate → ℕ → Place
place_along (Some D.XY) right x y j = quarter_of right x y j
place_along (Some D.M) right x y j = record { x = x; y = y }
place_along (Some D.N) right x y j = record { x = x; y = y }
place_along (Some D.Theta) right x y j = record { x = x; y = y }
place_along (Some D.T) right x y j = record { x = x; y = y }
place_along None right x y j = record { x = x; y = y }

abbrev pub place_of : Cut → Coordinate → Coordinate → ℕ → Place
place_of k x y j = place_along k.along k.right x y j

-- piece j of a parameter's later cut; where there is none, the parameter itself
unfoldable pub piece_of : Interval → Bool → ℕ → Interval
piece_of x integer j = cond (legal_interval x integer) (get_or (later_cut (put_interval x) integer) j x) x

-- child j of a block along a direction
abbrev pub child_along : Option Direction → Bool → Block → ℕ → Block
child_along (Some D.XY) right b j = moved_to b (quarter_of right b.x b.y j).x (quarter_of right b.x b.y j).y
child_along (Some D.M) right b j = with_parameter b D.M (piece_of b.m true j)
child_along (Some D.N) right b j = with_parameter b D.N (piece_of b.n true j)
child_along (Some D.Theta) right b j = with_parameter b D.Theta (piece_of b.theta true j)
child_along (Some D.T) right b j = with_parameter b D.T (piece_of b.t false j)
child_along None right b j = b

unfoldable pub child_of : Cut → Block → ℕ → Block
child_of k b j = child_along k.along k.right b j

-- is a half listed, by the rank of its whole? From level 0 down any is, above only one that begins inside its side
abbrev pub is_kept : ℕ → Coordinate → ℕ → Bool
is_kept rank c side = leb rank 48 || inside side c.rank c.index

-- are the quarters of the right half listed?
abbrev pub right_listed : Chosen → Block → Option Direction → Bool
right_listed p b (Some D.XY) = is_kept b.x.rank (high_half b.x) p.width
right_listed p b (Some D.M) = false
right_listed p b (Some D.N) = false
right_listed p b (Some D.Theta) = false
right_listed p b (Some D.T) = false
right_listed p b None = false

-- how a block is cut: its direction, and how many children it has; a damaged one has none
unfoldable pub cut_of : Chosen → Block → Cut
cut_of p b = record { along = direction_of p b; right = sound p b && right_listed p b (direction_of p b); count = length (children_of p b) }
