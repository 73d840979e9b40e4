-- Document 01, the step's last part: where each incomplete child looks for the direction in which it is cut next.
use Rattle.std.specs.Prelude.{Bool, true, false, cond, ◌&&◌, List, ℕ, zero, suc, ◌+◌, ◌%◌, leb, length, Option, Some, None}
use Rattle.coordinate.specs.Axis.{ordinary_floor, above_floor}
use Rattle.interval.specs.declared.Interval.{Interval}
use Rattle.interval.specs.Bounds.{legal_interval, put_interval}
use Rattle.interval.specs.Cuts.{subdivisible}
use Rattle.queue.specs.declared.Block.{Block}
use Rattle.queue.specs.declared.directions.Direction.{Direction}
use Rattle.queue.specs.declared.directions.Direction.TheVariants as D
use Rattle.queue.specs.Directions.{directions, direction_at}
use Rattle.decide.specs.declared.Chosen.{Chosen}
use Rattle.decide.specs.Damage.{direction_of}

-- so many incomplete children are few, by the direction in which their parent was cut
abbrev pub incomplete_limit : Option Direction → ℕ
incomplete_limit (Some D.XY) = 1
incomplete_limit (Some D.M) = 2
incomplete_limit (Some D.N) = 2
incomplete_limit (Some D.Theta) = 2
incomplete_limit (Some D.T) = 2
incomplete_limit None = 0

-- while they are few the search begins at the parent's direction, else at the one after it
unfoldable pub start_of : Chosen → Block → ℕ → ℕ
start_of p b incomplete = cond (leb incomplete (incomplete_limit (direction_of p b))) b.dir (b.dir + 1)

-- is a parameter subdivisible? One that is not legal is not
unfoldable pub splits_at : Interval → Bool → Bool
splits_at x integer = legal_interval x integer && subdivisible (put_interval x) integer

-- can a block be cut in a direction? xy above the floor, a parameter by its midpoint
abbrev pub subdivisible_along : Block → Option Direction → Bool
subdivisible_along c (Some D.XY) = above_floor ordinary_floor c.x.rank
subdivisible_along c (Some D.M) = splits_at c.m true
subdivisible_along c (Some D.N) = splits_at c.n true
subdivisible_along c (Some D.Theta) = splits_at c.theta true
subdivisible_along c (Some D.T) = splits_at c.t false
subdivisible_along c None = false

-- the first subdivisible of so many directions from a place on, round the end of the list
unfoldable pub searched_from : List Direction → Block → ℕ → ℕ → Option ℕ
searched_from ds c zero at = None
searched_from ds c (suc n) at =
    cond (subdivisible_along c (direction_at ds (at % length ds))) (Some (at % length ds)) (searched_from ds c n (at + 1))

-- all of them
abbrev pub searched : Chosen → Block → ℕ → Option ℕ
searched p c at = searched_from (directions p.set) c (length (directions p.set)) at

-- the block with another direction byte
abbrev pub turned_to : Block → ℕ → Block
turned_to c d = record { x = c.x; y = c.y; m = c.m; n = c.n; theta = c.theta; t = c.t; dir = d }

-- an incomplete child with its next direction, or with none that it can be cut along
pub data Turned : Type 0 where
  To : Block → Turned
  Nowhere : Turned

abbrev pub turned_by : Block → Option ℕ → Turned
turned_by c (Some d) = To (turned_to c d)
turned_by c None = Nowhere

-- the child with the direction that a search from a place on finds
abbrev pub turned_found : Chosen → ℕ → Block → Turned
turned_found p start c = turned_by c (searched p c start)

-- an incomplete child of b with its next direction, if it finds one; `incomplete` is how many there are
unfoldable pub turned : Chosen → Block → ℕ → Block → Turned
turned p b incomplete c = turned_found p (start_of p b incomplete) c
