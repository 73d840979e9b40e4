-- Where document 01 permits two readings they come to the same. One law a pair, over the definitions that the contracts cite, each proved
-- where it belongs and cited here. Pairs about numbers, intervals and codes stand in `coordinate`, `interval` and `small`; those about the whole
-- of a run (given up now or ever, a number that waits and a block that waits) in `theory`. Assumes nothing.
use Rattle.queue.specs.Queue.{front_taken}
use mathlib.Core.Path.{◌≡◌, ap, ◌∙◌}
use mathlib.Core.Bool.{Bool, true, false, not}
use mathlib.Core.List.{List}
use Prim.Native.Nat.{ℕ, ◌+◌, ◌^◌, ◌≤◌, ◌<◌}
use native.Mathlib.Omega.{arith}
use lib.Dec.{ltb, eqb}
use lib.ListN.{length}
use borrow.Author.Tests.{le-leb, eq-eqb}
use Rattle.std.specs.Prelude.{Ok}
use Rattle.base.proofs.Test.{and_left, and_right, and_both, both_ways}
use Rattle.coordinate.specs.declared.Coordinate.{Coordinate}
use Rattle.coordinate.specs.Axis.{ordinary_floor, pixel, inside}
use Rattle.coordinate.specs.Lone.{legal}
use Rattle.coordinate.proofs.PixelLaws.{inside_pixel, inside_in_range}
use Rattle.image.specs.Cell.{Cell, meanings, codes}
use Rattle.queue.specs.declared.Block.{Block}
use Rattle.queue.specs.declared.Last.{Last}
use Rattle.decide.specs.declared.Chosen.{Chosen}
use Rattle.decide.specs.declared.verdict.Outcome.{Outcome}
use Rattle.decide.specs.declared.verdict.Outcome.TheVariants as O
use Rattle.decide.specs.Damage.{place_right, undamaged, sound, cell_damaged}
use Rattle.decide.specs.Children.{children_of, listed}
use Rattle.decide.specs.Verdict.{undecided_outcome}
use Rattle.decide.specs.Turn.{turned}
use Rattle.plan.specs.Plan.{incomplete_count, mark_events, turn_events, cells_after}
use Rattle.plan.specs.AtOnce.{alike}
use Rattle.decide.proofs.VerdictLaws.{later_points}
use Rattle.plan.proofs.InOrder.{at_once, at_once_lem}
use Rattle.plan.proofs.GiveUpLaws.{cells_own, give_up_own, queued_first, give_ups_last}
use Rattle.implicit.specs.declared.state.State.{State}
use Rattle.implicit.specs.declared.state.Ending.TheVariants as E
use Rattle.implicit.specs.declared.state.Ranges.{Ranges}
use Rattle.implicit.specs.Answers.{needed_bytes}
use Rattle.implicit.specs.Setup.{least_ring}
use Rattle.implicit.specs.Room.{enough_ring}
use Rattle.implicit.specs.Record.{pixel_count, sound_record, queue_empty}
use Rattle.implicit.specs.Listing.{front_of, listed_block, children_listed}
use Rattle.implicit.specs.Step.{World, finished, outcomes_of, world_left, after_taking, step_with, step_of, tape_step_of}
use Rattle.implicit.specs.Run.{run_from}
use Rattle.implicit.proofs.RecordLaws.{empty_by_count, empty_by_bytes}
use Rattle.implicit.proofs.RoomLaws.{enough_none, enough_least}
use Rattle.implicit.proofs.StepLawsWent.{went}
use Rattle.implicit.proofs.RunLawsResumed.{joined, resumed, run_resumed}

-- the queue is empty: by the blocks that are left, or by the bytes used
pub empty_queue : (len : ℕ) (s : State) → sound_record len s ≡ true → (queue_empty s ≡ eqb s.taken s.queued) × (queue_empty s ≡ eqb s.used 0)
empty_queue len s h = (empty_by_count len s h, empty_by_bytes len s h)

-- the least ring, or one that is enough for no step; for more steps it is no shorter
pub no_steps : (p : Chosen) (r : Ranges) → enough_ring p r 0 ≡ least_ring p r
no_steps = enough_none

pub steps_need_more : (p : Chosen) (r : Ranges) (n : ℕ) → needed_bytes (least_ring p r) ≤ needed_bytes (enough_ring p r n)
steps_need_more = enough_least

-- a place is damaged: for an index out of range or a pixel outside, or for a pixel outside alone
pub place_outside : (side : ℕ) (c : Coordinate) → side ≤ 32768 → ordinary_floor ≤ c.rank → c.rank < 64
    → place_right side c ≡ ltb (pixel c.rank c.index) side
place_outside side c s l h =
    both_ways (place_right side c) (inside side c.rank c.index)
    (λ t. and_right (legal ordinary_floor c) (inside side c.rank c.index) t)
    (λ t. and_both (legal ordinary_floor c) (inside side c.rank c.index) (inside_in_range side ordinary_floor c.rank c.index s l h t) t)
    ∙ inside_pixel side c.rank c.index

-- a child's cells are all True: in the cells as the children before it left them, or in the cells as given and by what those before it mark
pub in_order : (w : World) (b : Block) (vs : List ℕ) → sound w.state.chosen b ≡ true → pixel_count w.state.chosen ≤ length w.cells
    → outcomes_of w b vs ≡ at_once w.state.chosen (alike w.state.chosen b) w.cells false (children_of w.state.chosen b) vs
in_order w b vs ok h = at_once_lem w.state.chosen b w.cells vs ok h

-- point bits behind the first one that is set: whatever they are
pub later_bits : (place left r : ℕ) → place + left ≡ 5 → 0 < place → r < 2 ^ left → undecided_outcome (96 + (2 ^ left + r)) ≡ O.Point place
later_bits = later_points

-- a child without a direction gives up the cells of its parent, or its own
pub own_cells : (w : World) (b : Block) (last : Last) (head used : ℕ) (vs : List ℕ) → sound w.state.chosen b ≡ true
    → (let p = w.state.chosen in
    let cs = children_of p b in
    let os = outcomes_of w b vs in
    (world_left w b last head used vs).cells
    ≡ codes (cells_own p w.state.taken w.state.queued (turned p b (incomplete_count os)) cs os
    (cells_after p b w.state.taken w.state.queued (mark_events cs os) (meanings w.cells))))
unfolding world_left
own_cells w b last head used vs ok =
    ap codes (give_up_own w.state.chosen b w.state.taken w.state.queued (outcomes_of w b vs) (meanings w.cells) ok)

-- and it does so among its siblings in their order, or after all of them that are queued
pub sibling_order : (p : Chosen) (b : Block) (number new : ℕ) (os : List Outcome) (l : List Cell) → sound p b ≡ true
    → (let es = turn_events (turned p b (incomplete_count os)) (children_of p b) os in cells_after p b number new es l ≡ cells_after p b number new (queued_first es) l)
sibling_order = give_ups_last

-- a single step, or a step on a tape that holds no more than its verdicts
pub single_or_tape : (w : World) (vs : List ℕ) (b : Block) (last : Last) (head used : ℕ) → front_of w.state w.ring ≡ front_taken b last head used
    → length vs ≡ length (children_of w.state.chosen b) → step_of w vs ≡ tape_step_of w vs
unfolding step_with after_taking
single_or_tape w vs b last head used f h =
    let n = length (children_of w.state.chosen b) in
    rw (f, eq-eqb (length vs) n h, le-leb n (length vs) (omega arith))

-- the children that an evaluator is asked about, or those that the step then judges
pub listed_as_judged : (tape : Bool) (w : World) (vs : List ℕ) (left : World) (e n : ℕ) (h : step_with tape w vs ≡ finished left e n)
    → (let b = (went tape w vs left e n h).block in
    let cs = children_of w.state.chosen b in
    (children_listed w.state w.ring ≡ Ok (listed b cs)) × (n ≡ length cs))
unfolding children_listed listed_block
listed_as_judged tape w vs left e n h =
    let g = went tape w vs left e n h in
    let u = and_left (undamaged w.state.chosen g.block) (not (cell_damaged w.state.chosen g.block (meanings w.cells))) g.undamaged_block in
    (rw (g.record_is_sound, g.not_empty, g.front_read, u), g.bytes_are)

-- the tape bytes that a run reports, or the position from which another run goes on
pub tape_position : (a b : ℕ) (w : World) (tape : List ℕ) → (run_from a w tape).ending ≡ E.More
    → run_from (a + b) w tape ≡ joined (run_from a w tape) (resumed b (run_from a w tape) tape)
tape_position = run_resumed
