-- Document 01, the verdict bytes, and what a verdict makes of its child.
--
--    bit      7 6     5     4          3            2             1         0
--             result  area  simple     bottom left  bottom right  top left  top right
--                           fraction
use Rattle.std.specs.Prelude.{Bool, true, false, cond, ◌&&◌, ◌||◌, List, [], ◌∷◌, ℕ, ◌+◌, ◌/◌, ◌%◌, leb, ltb, eqb}
use Rattle.std.specs.Int.Count.{count_leading_zeros}
use Rattle.queue.specs.declared.Block.{Block}
use Rattle.decide.specs.declared.verdict.Outcome.{Outcome}
use Rattle.decide.specs.declared.verdict.Outcome.TheVariants as O

-- the parts of a byte: the result is 0 for false, 1 for undecided, 2 for true
abbrev pub result_of : ℕ → ℕ
result_of v = v / 64

abbrev pub area_of : ℕ → Bool
area_of v = eqb (v / 32 % 2) 1

abbrev pub points_of : ℕ → ℕ
points_of v = v % 32

-- legal bytes, by the level of the child: from level 0 up nothing but a result; below, points only in an undecided verdict with a sample area
unfoldable pub legal_verdict : ℕ → ℕ → Bool
legal_verdict rank v =
    ltb (result_of v) 3 && cond (leb 48 rank) (eqb (v % 64) 0) (eqb (points_of v) 0 || (eqb (result_of v) 1 && area_of v))

-- every child's byte is legal, whether or not the child is going to be skipped
unfoldable pub all_legal : List Block → List ℕ → Bool
all_legal [] vs = true
all_legal (c ∷ cs) [] = true
all_legal (c ∷ cs) (v ∷ vs) = legal_verdict c.x.rank v && all_legal cs vs

-- the place, from 1, of the first point at which the search succeeds: the bits in the order of the table
unfoldable pub first_point : ℕ → ℕ
first_point v = count_leading_zeros 5 (points_of v) + 1

-- undecided: a point that succeeds marks the child, after as many points as its place; none leaves it incomplete, after all five,
-- or after none where there is no sample area
unfoldable pub undecided_outcome : ℕ → Outcome
undecided_outcome v = cond (area_of v) (cond (eqb (points_of v) 0) (O.Incomplete 5) (O.Point (first_point v))) (O.Incomplete 0)

-- by the result; true marks the child at any level where there is a sample area, and without one only from level 0 up
unfoldable pub verdict_outcome : ℕ → ℕ → Outcome
verdict_outcome rank v =
    cond (eqb (result_of v) 0) O.False
    (cond (eqb (result_of v) 1) (undecided_outcome v)
    (cond (leb 48 rank || area_of v) O.Area (O.Incomplete 0)))

-- a child whose cells are all True is skipped, whatever its verdict
abbrev pub outcome_of : ℕ → ℕ → Bool → Outcome
outcome_of rank v all = cond all O.Skipped (verdict_outcome rank v)

-- a skipped child costs nothing, any other one evaluation and its points
abbrev pub cost_of : Outcome → ℕ
cost_of O.Skipped = 0
cost_of O.False = 1
cost_of O.Area = 1
cost_of (O.Point place) = place + 1
cost_of (O.Incomplete tried) = tried + 1

-- which outcomes mark the child's pixels, and which leave it incomplete
abbrev pub is_marking : Outcome → Bool
is_marking O.Skipped = false
is_marking O.False = false
is_marking O.Area = true
is_marking (O.Point place) = true
is_marking (O.Incomplete tried) = false

abbrev pub is_incomplete : Outcome → Bool
is_incomplete O.Skipped = false
is_incomplete O.False = false
is_incomplete O.Area = false
is_incomplete (O.Point place) = false
is_incomplete (O.Incomplete tried) = true
