-- What `judge_children` remembers of the children of a block that is cut so: all outcomes from the cells as given, before any is marked.
-- Of a sound block's children these are the outcomes of one child after the other (the law `judged_in_order`): children of one step cover
-- all the same pixels, or no two of them cover a pixel together. As a contract this would have to require that the cut is the block's
-- own, and that there is a cell for each pixel.
use Rattle.std.specs.Prelude.{Bool, true, false, ◌&&◌, ◌||◌, List, [], ◌∷◌, ◌++◌, ℕ, zero, suc, ◌-◌, min, leb, length, replicate, Option, Some, None}
use Rattle.std.specs.Option.{unwrap_or}
use Rattle.coordinate.specs.declared.Coordinate.{Coordinate}
use Rattle.image.specs.Range.{rectangle_of}
use Rattle.image.specs.Painting.{all_true_seen}
use Rattle.queue.specs.declared.Block.{Block}
use Rattle.queue.specs.declared.directions.Direction.TheVariants as D
use Rattle.queue.specs.declared.directions.Direction.{Direction}
use Rattle.decide.specs.declared.Chosen.{Chosen}
use Rattle.decide.specs.declared.children.Cut.{Cut}
use Rattle.decide.specs.declared.verdict.Outcome.{Outcome}
use Rattle.decide.specs.declared.verdict.Outcome.TheVariants as O
use Rattle.decide.specs.Damage.{direction_of}
use Rattle.decide.specs.ChildAt.{child_of}
use Rattle.decide.specs.Verdict.{all_legal, outcome_of, is_marking}
use Rattle.plan.specs.declared.Judged.{Judged}
use Rattle.plan.specs.Plan.{evaluations, incomplete_count}

-- do the children cover all the same pixels? Not the quarters above level 0
abbrev pub alike_along : ℕ → Option Direction → Bool
alike_along rank (Some D.XY) = leb rank 48
alike_along rank (Some D.M) = true
alike_along rank (Some D.N) = true
alike_along rank (Some D.Theta) = true
alike_along rank (Some D.T) = true
alike_along rank None = true

abbrev pub alike : Chosen → Block → Bool
alike p b = alike_along b.x.rank (direction_of p b)

-- is every cell True that a block at these coordinates covers? Where the cells are fewer than the pixels nothing is seen
unfoldable pub true_at : Chosen → Coordinate → Coordinate → List ℕ → Bool
true_at p x y cells = unwrap_or (all_true_seen p.width p.height (rectangle_of x y p.width p.height) cells) false

-- the outcome of a child, where `marked` says that a child before it marks
abbrev pub outcome_at : Chosen → Bool → List ℕ → Bool → Coordinate → Coordinate → ℕ → Outcome
outcome_at p same cells marked x y v = outcome_of x.rank v (true_at p x y cells || (same && marked))

abbrev pub outcome_at_once : Chosen → Bool → List ℕ → Bool → Block → ℕ → Outcome
outcome_at_once p same cells marked c v = outcome_at p same cells marked c.x c.y v

-- the outcomes of the children in order
unfoldable pub at_once : Chosen → Bool → List ℕ → Bool → List Block → List ℕ → List Outcome
at_once p same cells marked [] vs = []
at_once p same cells marked (c ∷ cs) [] = []
at_once p same cells marked (c ∷ cs) (v ∷ vs) =
    outcome_at_once p same cells marked c v ∷ at_once p same cells (marked || is_marking (outcome_at_once p same cells marked c v)) cs vs

-- so many children of a block that is cut so, from child j on
unfoldable pub children_from : Cut → Block → ℕ → ℕ → List Block
children_from k b j zero = []
children_from k b j (suc n) = child_of k b j ∷ children_from k b (suc j) n

-- all of them, four at most
abbrev pub children_by : Cut → Block → List Block
children_by k b = children_from k b 0 (min k.count 4)

-- does one of them mark its pixels?
unfoldable pub some_marking : List Outcome → Bool
some_marking [] = false
some_marking (o ∷ os) = is_marking o || some_marking os

-- what is remembered of outcomes: in order, Skipped in the places behind them, and what is counted of them
unfoldable pub judged_as : List Outcome → Bool → Judged
judged_as os legal = record {
  at = os ++ replicate (4 - length os) O.Skipped;
  incomplete = incomplete_count os;
  evaluations = evaluations os;
  marked = some_marking os;
  legal = legal;
}

-- of the children of a block that is cut so
unfoldable pub judged_of : Chosen → Block → Cut → List ℕ → List ℕ → Judged
judged_of p b k vs cells =
    judged_as (at_once p (alike_along b.x.rank k.along) cells false (children_by k b) vs) (all_legal (children_by k b) vs)
