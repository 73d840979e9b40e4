-- Document 01, what a step does to cells and queue: first the children one after the other, then the incomplete ones. All on the meanings of cells.
use Rattle.std.specs.Prelude.{Bool, cond, List, [], ◌∷◌, ◌++◌, ℕ, suc, ◌+◌}
use Rattle.base.specs.Event.{Event, marks, queues, gives_up}
use Rattle.image.specs.declared.Op.{Op}
use Rattle.image.specs.Cell.{Cell, is_marked}
use Rattle.image.specs.Range.{rectangle_of}
use Rattle.image.specs.Painting.{painted, every_of}
use Rattle.queue.specs.declared.Block.{Block}
use Rattle.decide.specs.declared.Chosen.{Chosen}
use Rattle.decide.specs.Turn.{Turned}
use Rattle.decide.specs.Turn as T
use Rattle.decide.specs.declared.verdict.Outcome.{Outcome}
use Rattle.decide.specs.Damage.{covered_cells}
use Rattle.decide.specs.Verdict.{outcome_of, cost_of, is_marking, is_incomplete}
use Rattle.decide.specs.Turn.{turned}

-- the cells after something is done to those that a block covers
abbrev pub painted_under : Chosen → Block → Op → List Cell → List Cell
painted_under p b op l = painted p.width (rectangle_of b.x b.y p.width p.height) op l

-- every cell that a block covers is True
unfoldable pub all_true : Chosen → Block → List Cell → Bool
all_true p c l = every_of is_marked (covered_cells p c l)

-- one child after the other: each meets the cells as the ones before it left them
unfoldable pub outcomes : Chosen → List Cell → List Block → List ℕ → List Outcome
outcomes p l [] vs = []
outcomes p l (c ∷ cs) [] = []
outcomes p l (c ∷ cs) (v ∷ vs) =
    let o = outcome_of c.x.rank v (all_true p c l) in
    o ∷ outcomes p (cond (is_marking o) (painted_under p c Op.Mark l) l) cs vs

-- the evaluations of all children
unfoldable pub evaluations : List Outcome → ℕ
evaluations [] = 0
evaluations (o ∷ os) = cost_of o + evaluations os

-- how many are incomplete
unfoldable pub incomplete_count : List Outcome → ℕ
incomplete_count [] = 0
incomplete_count (o ∷ os) = cond (is_incomplete o) 1 0 + incomplete_count os

-- first the children that mark their pixels, in order
unfoldable pub mark_events : List Block → List Outcome → List (Event Block)
mark_events [] os = []
mark_events (c ∷ cs) [] = []
mark_events (c ∷ cs) (o ∷ os) = cond (is_marking o) (marks c ∷ mark_events cs os) (mark_events cs os)

-- an incomplete child is queued with the direction that it finds; if it finds none, its parent's cells are given up
abbrev pub turn_event : Turned → Event Block
turn_event (T.To c) = queues c
turn_event T.Nowhere = gives_up

-- then the incomplete children, in order
unfoldable pub turn_events : (Block → Turned) → List Block → List Outcome → List (Event Block)
turn_events turn [] os = []
turn_events turn (c ∷ cs) [] = []
turn_events turn (c ∷ cs) (o ∷ os) = cond (is_incomplete o) (turn_event (turn c) ∷ turn_events turn cs os) (turn_events turn cs os)

-- what the step on block b does, by its children's outcomes
unfoldable pub events_for : Chosen → Block → List Block → List Outcome → List (Event Block)
events_for p b cs os = mark_events cs os ++ turn_events (turned p b (incomplete_count os)) cs os

-- the cells after events: `number` is that of the taken block b, `new` that of the next block to be queued
unfoldable pub cells_after : Chosen → Block → ℕ → ℕ → List (Event Block) → List Cell → List Cell
cells_after p b number new [] l = l
cells_after p b number new (marks c ∷ es) l = cells_after p b number new es (painted_under p c Op.Mark l)
cells_after p b number new (queues c ∷ es) l = cells_after p b number (suc new) es (painted_under p c (Op.Name number new) l)
cells_after p b number new (gives_up ∷ es) l = cells_after p b number new es (painted_under p b Op.GiveUp l)
