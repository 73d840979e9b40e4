-- A step's decision, its check of the room and its writing, child by child: what private functions compute. The laws say that this is the step. No child is
-- left out, also where a block could not be queued: then nothing changes, and the laws say that this does not happen.
use Rattle.queue.specs.declared.QueueError.{QueueError}
use Rattle.std.specs.Prelude.{Bool, cond, List, [], ◌∷◌, ℕ, ◌+◌, ◌-◌, ◌^◌, ◌≤◌, ◌≡◌, leb, length, take, Result, Ok, Err, Option, Some, None}
use Rattle.refusal.specs.declared.Refusal.{Refusal}
use Rattle.refusal.specs.declared.Refusal.TheVariants as R
use Rattle.coordinate.specs.declared.Coordinate.{Coordinate}
use Rattle.image.specs.declared.Op.{Op}
use Rattle.image.specs.declared.Op.TheVariants as O
use Rattle.image.specs.Range.{rectangle_of}
use Rattle.image.specs.Painting.{painted_cells}
use Rattle.queue.specs.declared.Block.{Block}
use Rattle.queue.specs.declared.Last.{Last}
use Rattle.queue.specs.declared.Taken.{Taken}
use Rattle.queue.specs.declared.Measured.{Measured}
use Rattle.queue.specs.declared.Appended.{Appended}
use Rattle.queue.specs.Block.{remembered}
use Rattle.queue.specs.Queue.{measured, appended, appended_ring}
use Rattle.decide.specs.declared.Chosen.{Chosen}
use Rattle.decide.specs.declared.children.Cut.{Cut}
use Rattle.decide.specs.Turn.{Turned}
use Rattle.decide.specs.Turn as Tu
use Rattle.decide.specs.declared.verdict.Outcome.{Outcome}
use Rattle.decide.specs.Children.{children_of}
use Rattle.decide.specs.ChildAt.{cut_of}
use Rattle.decide.specs.Turn.{start_of, turned_found}
use Rattle.decide.specs.Verdict.{is_marking, is_incomplete}
use Rattle.plan.specs.declared.Judged.{Judged}
use Rattle.plan.specs.AtOnce.{children_by, judged_of}
use Rattle.implicit.specs.declared.state.State.{State}
use Rattle.implicit.specs.declared.deciding.Decided.{Decided}
use Rattle.implicit.specs.declared.fitting.Size.{Size}
use Rattle.implicit.specs.declared.commit.Behind.{Behind}
use Rattle.implicit.specs.declared.commit.Carried.{Carried}
use Rattle.implicit.specs.declared.state.Finished.{Finished}
use Rattle.implicit.specs.Record.{refused_unless, pixel_count, put_last}
use Rattle.implicit.specs.Step.{block_sound, enough_verdicts}

-- THE DECISION

-- refusals 8 of the block and 4
unfoldable pub block_check : Chosen → Block → List ℕ → ℕ → ℕ → Bool → Result (Unit {0}) Refusal
block_check p b cells children verdicts tape =
    refused_unless (Err R.Damaged) (block_sound p cells b)
    (refused_unless (Err R.Verdicts) (enough_verdicts tape children verdicts) (Ok tt))

-- refusal 5, by what is remembered of the children
unfoldable pub decision_judged : Block → ℕ → ℕ → Cut → Judged → Result Decided Refusal
decision_judged b head used k j =
    refused_unless (Err R.Verdict) j.legal (Ok (record { block = b; head = head; used = used; cut = k; judged = j }))

-- a block that was read: refusals 8, 4 and 5
unfoldable pub decision_on : Chosen → List ℕ → Bool → List ℕ → Block → ℕ → ℕ → Result Decided Refusal
decision_on p cells tape vs b head used =
    let n = length (children_of p b) in
    refused_unless (Err R.Damaged) (block_sound p cells b)
    (refused_unless (Err R.Verdicts) (enough_verdicts tape n (length vs))
    (decision_judged b head used (cut_of p b) (judged_of p b (cut_of p b) (take n vs) cells)))

abbrev pub decision_from : Chosen → List ℕ → Bool → List ℕ → Result Taken QueueError → Result Decided Refusal
decision_from p cells tape vs (Ok t) = decision_on p cells tape vs t.block t.head t.used
decision_from p cells tape vs (Err why) = Err R.Damaged

-- refusals 8 of the record, 2 and 13, then the front block's
unfoldable pub decision_of : Chosen → Bool → Bool → Result Taken QueueError → List ℕ → Bool → List ℕ → Result Decided Refusal
decision_of p sound left front cells tape vs =
    refused_unless (Err R.Damaged) sound
    (refused_unless (Err R.Cells) (leb (pixel_count p) (length cells))
    (refused_unless (Err R.Empty) left (decision_from p cells tape vs front)))

-- what the loops over the children ask: they fit an array of four
abbrev pub Four : Decided → Type 0
Four g = (g.cut.count ≤ 4) × (length g.judged.at ≡ 4)

-- THE ROOM

-- the search for the direction of an incomplete child
abbrev pub turn_of : Chosen → Decided → Block → Turned
turn_of p g = turned_found p (start_of p g.block g.judged.incomplete)

-- one code more
abbrev pub with_code : Size → Result Measured QueueError → Size
with_code z (Ok m) = record { queued = z.queued + 1; total = z.total + m.count; last = m.last }
with_code z (Err why) = z

abbrev pub sized_turn : ℕ → Size → Turned → Size
sized_turn set z (Tu.To c) = with_code z (measured set z.last c)
sized_turn set z Tu.Nowhere = z

abbrev pub sized_child : Chosen → (Block → Turned) → Size → Block → Outcome → Size
sized_child p turn z c o = cond (is_incomplete o) (sized_turn p.set z (turn c)) z

unfoldable pub sized_all : Chosen → (Block → Turned) → Size → List Block → List Outcome → Size
sized_all p turn z [] es = z
sized_all p turn z (c ∷ cs) [] = z
sized_all p turn z (c ∷ cs) (e ∷ es) = sized_all p turn (sized_child p turn z c e) cs es

-- of all children, coded behind what is remembered
abbrev pub size_of : Chosen → Last → Decided → Size
size_of p back g = sized_all p (turn_of p g) (record { queued = 0; total = 0; last = back }) (children_by g.cut g.block) g.judged.at

-- refusals 7 and 6
unfoldable pub size_check : ℕ → ℕ → Size → Result (Unit {0}) Refusal
size_check queued room z =
    refused_unless (Err R.Numbers) (leb (queued + z.queued) (2 ^ 32))
    (refused_unless (Err R.Room) (leb z.total room) (Ok tt))

abbrev pub room_check : Chosen → ℕ → Last → ℕ → Decided → Result (Unit {0}) Refusal
room_check p queued back len g = size_check queued (len - g.used) (size_of p (put_last back) g)

-- THE WRITING

-- the cells that a block at these coordinates covers painted
abbrev pub painted_at : Chosen → Coordinate → Coordinate → Op → List ℕ → List ℕ
painted_at p x y op cells = painted_cells p.width p.height (rectangle_of x y p.width p.height) op cells

abbrev pub painted_block : Chosen → Block → Op → List ℕ → List ℕ
painted_block p b op cells = painted_at p b.x b.y op cells

-- first the marks
abbrev pub marked_child : Chosen → List ℕ → Block → Outcome → List ℕ
marked_child p cells c o = cond (is_marking o) (painted_block p c O.Mark cells) cells

unfoldable pub marked_all : Chosen → List ℕ → List Block → List Outcome → List ℕ
marked_all p cells [] es = cells
marked_all p cells (c ∷ cs) [] = cells
marked_all p cells (c ∷ cs) (e ∷ es) = marked_all p (marked_child p cells c e) cs es

abbrev pub marked_for : Chosen → List ℕ → Decided → List ℕ
marked_for p cells g = marked_all p cells (children_by g.cut g.block) g.judged.at

-- what carrying children out changes
pub record Carrying : Type 0 where
  pub queued : ℕ
  pub used : ℕ
  pub back : Last
  pub ring : List ℕ
  pub cells : List ℕ

abbrev pub carrying_of : Behind → List ℕ → List ℕ → Carrying
carrying_of l ring cells = record { queued = l.queued; used = l.used; back = l.back; ring = ring; cells = cells }

-- after a child, by what it leaves
abbrev pub with_carried : ℕ → ℕ → Last → Option Carried → List ℕ → List ℕ → Carrying
with_carried queued used back (Some c) ring cells = record { queued = queued + 1; used = c.used; back = c.last; ring = ring; cells = cells }
with_carried queued used back None ring cells = record { queued = queued; used = used; back = back; ring = ring; cells = cells }

-- a child queued, by what the queue answers: cells that name block `from` or a later one name it
abbrev pub queued_as : Chosen → ℕ → Block → Carrying → List ℕ → Result Appended QueueError → Carrying
queued_as p from c w ring (Ok a) = record {
  queued = w.queued + 1;
  used = a.used;
  back = a.last;
  ring = ring;
  cells = painted_block p c (O.Name from w.queued) w.cells;
}
queued_as p from c w ring (Err why) = record { queued = w.queued; used = w.used; back = w.back; ring = ring; cells = w.cells }

unfoldable pub with_queued : Chosen → ℕ → ℕ → Block → Carrying → Carrying
with_queued p from head c w =
    queued_as p from c w (appended_ring w.ring head w.used p.set w.back c) (appended (length w.ring) head w.used p.set w.back c)

-- an incomplete child of a parent, with the direction that it finds
abbrev pub carried_turn : Chosen → ℕ → ℕ → Block → Carrying → Turned → Carrying
carried_turn p from head parent w (Tu.To c) = with_queued p from head c w
carried_turn p from head parent w Tu.Nowhere = record {
  queued = w.queued;
  used = w.used;
  back = w.back;
  ring = w.ring;
  cells = painted_block p parent O.GiveUp w.cells;
}

abbrev pub carried_by : Chosen → ℕ → (Block → Turned) → ℕ → Block → Carrying → Block → Outcome → Carrying
carried_by p from turn head parent w c o = cond (is_incomplete o) (carried_turn p from head parent w (turn c)) w

abbrev pub carried_child : Chosen → ℕ → (Block → Turned) → ℕ → Block → ℕ → ℕ → Last → List ℕ → List ℕ → Block → Outcome → Carrying
carried_child p from turn head parent queued used back ring cells c o =
    carried_by p from turn head parent (record { queued = queued; used = used; back = back; ring = ring; cells = cells }) c o

-- then the incomplete children
unfoldable pub carried_all : Chosen → ℕ → (Block → Turned) → ℕ → Block → Carrying → List Block → List Outcome → Carrying
carried_all p from turn head parent w [] es = w
carried_all p from turn head parent w (c ∷ cs) [] = w
carried_all p from turn head parent w (c ∷ cs) (e ∷ es) =
    carried_all p from turn head parent (carried_by p from turn head parent w c e) cs es

abbrev pub carried_for : Chosen → ℕ → ℕ → Last → List ℕ → List ℕ → Decided → Carrying
carried_for p from queued back ring cells g =
    carried_all p from (turn_of p g) g.head g.block
    (record { queued = queued; used = g.used; back = put_last back; ring = ring; cells = cells })
    (children_by g.cut g.block) g.judged.at

-- both
unfoldable pub committed : Chosen → ℕ → ℕ → Last → List ℕ → List ℕ → Decided → Carrying
committed p from queued back ring cells g = carried_for p from queued back ring (marked_for p cells g) g

-- THE ANSWER

abbrev pub finished_by : State → Behind → Decided → Finished
finished_by s left g = record {
  state = record {
    chosen = s.chosen;
    taken = s.taken + 1;
    queued = left.queued;
    len = s.len;
    head = g.head;
    used = left.used;
    front = remembered g.block;
    back = left.back;
  };
  evaluations = g.judged.evaluations;
  verdicts = g.cut.count;
}
