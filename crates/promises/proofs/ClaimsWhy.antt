-- The reasons that the explainer's definition gives on the small charts of ExampleSteps, computed: both pixels wait; one is denied
-- and the other marked; and one pixel is given up. More of the definition's values are in `explain`, proofs/AReason. Then the words
-- of the promises, on these and on the sheet of Example. Assumes nothing.
use mathlib.Core.Path.{◌≡◌, refl}
use mathlib.Core.List.{List, [], ◌∷◌}
use Prim.Native.Nat.{ℕ}
use lib.Count.{count_trailing_zeros}
use lib.Dec.{lit<, lit≤}
use lib.Ieee.{le}
use lib.ListN.{length}
use Rattle.small.specs.Small.{tail_of, code_of, small_code, read_behind, read_small}
use Rattle.base.specs.Bytes.{little_endian, of_little_endian}
use Rattle.base.specs.Event.{queued_by}
use Rattle.base.specs.Places.{any_of, first_from, last_from, last_value, latest_number, latest_value}
use Rattle.interval.specs.Bounds.{whole_bound, legal_interval, zero_as, put_interval}
use Rattle.coordinate.specs.Axis.{in_range, pixel, places, inside}
use Rattle.image.specs.Cell.{cell_code, meaning_of, done_to, reading, is_marked, is_given_up, is_damaged}
use Rattle.image.specs.Range.{holds_cell, rectangle_of}
use Rattle.image.specs.Painting.{painted, held_cells, some_of, every_of}
use Rattle.queue.specs.declared.Block.{Block}
use Rattle.queue.specs.Directions.{used_of, directions, direction_at}
use Rattle.queue.specs.Block.{whole_line, remembered, starting_last}
use Rattle.queue.specs.Code.{coordinate_code, parameter_code, parameters_code, place_code, encode}
use Rattle.queue.specs.Decode.{level_read, coordinate_of, coordinate_read, parameter_read, with_x, place_read, add_parameter, add_parameters}
use Rattle.queue.specs.Decode.{add_direction, decode}
use Rattle.queue.specs.Ring.{older_stretch, newer_stretch, content, stored}
use Rattle.queue.specs.Queue.{taken, queue_of, queue_codes, memory}
use Rattle.decide.specs.declared.Chosen.{Chosen}
use Rattle.decide.specs.declared.verdict.Outcome.{Outcome}
use Rattle.decide.specs.declared.verdict.Outcome.TheVariants as O
use Rattle.decide.specs.Damage.{legal_chosen, undamaged, cell_damaged}
use Rattle.decide.specs.Children.{quarters_of, kept_inside, children_xy, children_of}
use Rattle.decide.specs.Verdict.{legal_verdict, all_legal, undecided_outcome, verdict_outcome}
use Rattle.decide.specs.Turn.{start_of, searched_from, turned}
use Rattle.plan.specs.Plan.{all_true, outcomes, evaluations, incomplete_count, mark_events, turn_events, events_for, cells_after}
use Rattle.implicit.specs.Record.{sound_last, sound_record, put_last}
use Rattle.implicit.specs.Step.{World, unless, world_left, judged, after_taking, step_with}
use Rattle.implicit.specs.Run.{run_from}
use Rattle.explain.specs.declared.reason.Reason.{Reason}
use Rattle.explain.specs.declared.reason.Reason.TheVariants as B
use Rattle.explain.specs.History.{Answered, answered_by, PastStep, history_from}
use Rattle.explain.specs.Reasons.{covers_at, finds_none, moment_at, marks_here, denies_here, marks_in, takes_here, gives_up_here}
use Rattle.explain.specs.Reasons.{last_mark, last_point, last_denial, last_giving_up, block_behind, waiting_for, reason_of, cell_at}
use Rattle.theory.specs.Shapes.{begins_in, covers_along, covers_pixel}
use Rattle.promises.specs.Chart.{queued_blocks}
use Rattle.promises.specs.Why.{past_with, past_in, WhyFalse, WhyWaiting}
use Rattle.promises.proofs.ExampleSteps.{two, after, ran, right, one, waits, gave_up}
use Rattle.promises.proofs.ExampleRoom.{gave_up_moved}
use Rattle.promises.proofs.Example.{sheet, stepped, at}

-- the reason for the pixel in this column of the top row, after so many steps on a tape
abbrev pub told : Chosen → World → ℕ → List ℕ → ℕ → Reason
told p w steps tape column =
    let e = run_from steps w tape in
    reason_of (covers_at p column 0) e.world (history_from steps w tape []) (cell_at p column 0 e.world.cells)

-- the block of a pixel, on the level of pixels
abbrev pub block_at : ℕ → Block
block_at x = record {
  x = record { index = x; rank = 48 };
  y = record { index = 0; rank = 48 };
  m = whole_line;
  n = whole_line;
  theta = whole_line;
  t = whole_line;
  dir = 0;
}

-- the tape of ExampleSteps' three steps
abbrev pub by_area : List ℕ
by_area = 64 ∷ 64 ∷ 0 ∷ 0 ∷ 0 ∷ 0 ∷ 160 ∷ 0 ∷ 0 ∷ 0 ∷ []

-- two pixels. After one step both wait, the right one with a block before it. After three the left one was denied in step 2, by all
-- four children; the right one was marked in step 3. And the one pixel that is given up in step 1, where child 1 found no direction
pub told_as : (told two.chosen (after 0) 1 by_area 0 ≡ B.Waiting 1 0 (block_at 0))
    × (told two.chosen (after 0) 1 by_area 1 ≡ B.Waiting 2 1 (block_at 1))
    × (told two.chosen (after 0) 3 by_area 0 ≡ B.False (moment_at 2 1))
    × (told two.chosen (after 0) 3 by_area 1 ≡ B.True (moment_at 3 1) 0)
    × (told one.chosen waits 1 (64 ∷ []) 0 ≡ B.GivenUp (moment_at 1 1))
unfolding run_from history_from answered_by reason_of last_mark last_point last_denial last_giving_up marks_in marks_here denies_here takes_here
    gives_up_here finds_none covers_at waiting_for block_behind any_of first_from last_from last_value latest_number latest_value reading is_given_up
    step_with unless after_taking judged world_left sound_record sound_last put_last legal_chosen legal_interval whole_bound zero_as put_interval
    starting_last remembered taken content older_stretch newer_stretch decode place_read with_x coordinate_read coordinate_of read_small
    read_behind level_read add_parameters add_parameter parameter_read add_direction undamaged cell_damaged in_range inside places pixel
    rectangle_of holds_cell held_cells some_of every_of is_damaged is_marked meaning_of cell_code directions used_of direction_at children_of
    children_xy kept_inside quarters_of all_legal legal_verdict outcomes all_true verdict_outcome undecided_outcome evaluations incomplete_count
    events_for mark_events turn_events turned start_of searched_from queued_by queue_codes memory encode place_code coordinate_code
    parameters_code parameter_code small_code code_of tail_of cells_after painted done_to stored of_little_endian little_endian le count_trailing_zeros
told_as = (refl, refl, refl, refl, refl)

-- ---- the words of the promises

-- a child that waits on the level of pixels, with its verdict and its outcome
abbrev answer : ℕ → ℕ → Outcome → Answered
answer x v o = record { child = block_at x; verdict = v; outcome = o }

-- the first block of both charts, and a step on it
abbrev whole : Block
whole = record {
  x = record { index = 0; rank = 49 };
  y = record { index = 0; rank = 49 };
  m = whole_line;
  n = whole_line;
  theta = whole_line;
  t = whole_line;
  dir = 0;
}

abbrev pub first_past : Answered → Answered → PastStep
first_past a b = record { block = whole; answers = a ∷ b ∷ [] }

abbrev pub sheet_past : PastStep
sheet_past = first_past (answer 0 128 O.Area) (answer 1 0 O.False)

abbrev pub two_past : PastStep
two_past = first_past (answer 0 64 (O.Incomplete 0)) (answer 1 64 (O.Incomplete 0))

-- the history of the sheet's step, and of the first step of the two pixels; and a move leaves the history as it is
pub past_is : (past_in stepped ≡ sheet_past ∷ []) × (past_in (ran 1 (lit≤ tt)) ≡ two_past ∷ []) × (length (past_in gave_up_moved) ≡ 1)
unfolding past_in past_with stepped ran gave_up_moved queued_blocks queue_of answered_by legal_interval whole_bound zero_as put_interval starting_last
    remembered taken content older_stretch newer_stretch decode place_read with_x coordinate_read coordinate_of read_small read_behind level_read
    add_parameters add_parameter parameter_read add_direction undamaged in_range inside places pixel rectangle_of holds_cell held_cells every_of is_marked
    meaning_of cell_code directions used_of direction_at children_of children_xy kept_inside quarters_of outcomes all_true verdict_outcome undecided_outcome
    painted done_to of_little_endian little_endian le count_trailing_zeros legal_chosen gave_up
past_is = (refl, refl, refl)

-- the sheet's right pixel: child 1 was marked, but does not cover it; child 2 is the first that denies it, and the only one that covers it
pub second_denies : WhyFalse sheet.chosen (at 1 (lit< tt)) (sheet_past ∷ []) (moment_at 1 2)
unfolding takes_here denies_here marks_in marks_here gives_up_here finds_none any_of covers_pixel covers_along begins_in
second_denies = record {
  last = record { since = []; this = sheet_past; before = []; in_order = refl; such = tt; none_since = tt };
  step_is = refl;
  child_is = record {
    before = answer 0 128 O.Area ∷ [];
    this = answer 1 0 O.False;
    behind = [];
    in_order = refl;
    number = refl;
    such = tt;
    none_before = ((λ t. t), tt);
  };
  all_false = ((λ t. absurd t), ((λ t. (refl, refl)), tt));
  never_marked = ((λ t. t), tt);
  never_given_up = ((λ t. t), tt);
}

-- the right one of the two pixels waits for the second queued block, behind the left one's
pub second_waits : WhyWaiting two.chosen right (two_past ∷ []) (after 1) 2 1 (block_at 1)
unfolding marks_in marks_here gives_up_here finds_none any_of incomplete_count turned start_of searched_from directions used_of direction_at covers_pixel
    covers_along begins_in queued_blocks queue_of legal_interval whole_bound zero_as put_interval starting_last remembered content older_stretch
    newer_stretch decode place_read with_x coordinate_read coordinate_of read_small read_behind level_read add_parameters add_parameter parameter_read
    add_direction in_range meaning_of of_little_endian little_endian le count_trailing_zeros
second_waits = record {
  cell_is = refl;
  not_taken = lit≤ tt;
  last = record { before = block_at 0 ∷ []; this = block_at 1; behind = []; in_order = refl; number = refl; such = tt; none_behind = tt };
  stand_before = refl;
  block_is = refl;
  never_marked = ((λ t. t), tt);
  never_given_up = ((λ t. t), tt);
}
