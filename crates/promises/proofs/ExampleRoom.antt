-- The chart of two pixels once more. On a ring of nine bytes its first step is refused by 6; moved to a ring of 32, which is enough for one step, it goes on.
-- And on its ring of 16, moved to the 32 bytes between its first step and its second: it goes on as the chart that was begun on the 32. Every line is computed.
-- Assumes nothing.
use mathlib.Core.Path.{◌≡◌, refl}
use mathlib.Core.List.{List, [], ◌∷◌}
use Prim.Native.Nat.{ℕ}
use lib.Count.{count_trailing_zeros}
use lib.ListN.{length}
use lib.Ieee.{fits, le}
use Rattle.small.specs.Small.{tail_of, code_of, small_code, read_behind, read_small}
use Rattle.base.specs.Bytes.{little_endian, of_little_endian}
use Rattle.base.specs.Event.{queued_by}
use Rattle.interval.specs.Bounds.{whole_bound, legal_interval, zero_as, put_interval}
use Rattle.coordinate.specs.Axis.{in_range, pixel, places, inside}
use Rattle.image.specs.Cell.{cell_code, meaning_of, done_to, nameable, is_marked, is_damaged}
use Rattle.image.specs.Range.{holds_cell, in_picture, picture_ready, rectangle_of}
use Rattle.image.specs.Painting.{painted, paintable, painted_cells, held_cells, some_of, every_of}
use Rattle.queue.specs.Directions.{used_of, directions, direction_at}
use Rattle.queue.specs.Block.{remembered, starting_last}
use Rattle.queue.specs.Code.{coordinate_code, parameter_code, parameters_code, place_code, encode}
use Rattle.queue.specs.Decode.{level_read, coordinate_of, coordinate_read, parameter_read, with_x, place_read, add_parameter, add_parameters, add_direction, decode}
use Rattle.queue.specs.Ring.{older_stretch, newer_stretch, content, stored}
use Rattle.queue.specs.Queue.{taken, queue_codes, memory}
use Rattle.decide.specs.Damage.{legal_chosen, undamaged, cell_damaged}
use Rattle.decide.specs.Children.{quarters_of, kept_inside, children_xy, children_of}
use Rattle.decide.specs.Verdict.{legal_verdict, all_legal, undecided_outcome, verdict_outcome}
use Rattle.decide.specs.Turn.{start_of, searched_from, turned}
use Rattle.plan.specs.Plan.{all_true, outcomes, evaluations, incomplete_count, mark_events, turn_events, events_for, cells_after}
use Rattle.implicit.specs.Record.{sound_last, sound_record, put_last}
use Rattle.implicit.specs.Setup.{least_from, start_level, root_block, cut_first_in, first_blocks, ranges_legal, first_bytes, setup_refusal, start_record}
use Rattle.implicit.specs.Setup.{start_ring, start_cells, setup_answer, ring_begun, cells_begun}
use Rattle.implicit.specs.Step.{unless, world_left, judged, after_taking, step_with}
use Rattle.implicit.specs.Step.{World, world_of, finished, step_of, step_answer}
use Rattle.implicit.specs.Answers.{step_number}
use Rattle.implicit.specs.Room.{parameter_count, step_growth, enough_bytes}
use Rattle.implicit.specs.Move.{moved_record, moved_world, moved, move_of}
use Rattle.promises.specs.Steps.{Asked, BegunAs, Steps, no_steps, then_step, then_move, to_ring}
use Rattle.promises.specs.Alike.{on_ring}
use Rattle.promises.proofs.ExampleSteps.{two, after, right_last, three_steps, one, waits, given_up, gave_up}

-- a ring that is enough for one step: five bytes for the setup, and 27
abbrev pub nines : List ℕ
nines = 9 ∷ 9 ∷ 9 ∷ 9 ∷ 9 ∷ 9 ∷ 9 ∷ 9 ∷ 9 ∷ 9 ∷ 9 ∷ 9 ∷ 9 ∷ 9 ∷ 9 ∷ 9 ∷ 9 ∷ 9 ∷ 9 ∷ 9 ∷ 9 ∷ 9 ∷ 9 ∷ 9 ∷ 9 ∷ 9 ∷ 9 ∷ 9 ∷ 9 ∷ 9 ∷ 9 ∷ 9 ∷ []

-- ---- a ring that is too short

abbrev pub narrow : Asked
narrow = on_ring two (9 ∷ 9 ∷ 9 ∷ 9 ∷ 9 ∷ 9 ∷ 9 ∷ 9 ∷ 9 ∷ [])

abbrev pub narrow_left : World
narrow_left = world_of
    (record { chosen = two.chosen; taken = 0; queued = 1; len = 9; head = 0; used = 5; front = starting_last; back = starting_last })
    (1 ∷ 1 ∷ 1 ∷ 1 ∷ 0 ∷ 9 ∷ 9 ∷ 9 ∷ 9 ∷ []) (0 ∷ 0 ∷ [])

pub narrow_begun : BegunAs narrow narrow_left
unfolding setup_answer setup_refusal ranges_legal first_bytes first_blocks cut_first_in root_block start_level least_from start_record start_ring
    start_cells ring_begun cells_begun queue_codes memory encode place_code coordinate_code parameters_code parameter_code starting_last remembered
    small_code code_of tail_of little_endian stored painted_cells paintable painted picture_ready in_picture holds_cell nameable done_to meaning_of
    cell_code fits
narrow_begun = record { accepted = refl; state = refl; ring = refl; cells = refl; held = ((tt, tt), (tt, tt), (tt, tt), (tt, tt)) }

-- two codes of five bytes do not fit
pub narrow_full : step_number (step_answer narrow_left.state (step_of narrow_left (64 ∷ 64 ∷ []))) ≡ 6
unfolding step_with unless after_taking judged world_left sound_record sound_last put_last legal_chosen legal_interval whole_bound zero_as put_interval
    starting_last remembered taken content older_stretch newer_stretch decode place_read with_x coordinate_read coordinate_of read_small read_behind
    level_read add_parameters add_parameter parameter_read add_direction undamaged cell_damaged in_range inside places pixel rectangle_of holds_cell
    held_cells some_of every_of is_damaged is_marked meaning_of cell_code directions used_of direction_at children_of children_xy kept_inside quarters_of
    all_legal legal_verdict outcomes all_true verdict_outcome undecided_outcome evaluations incomplete_count events_for mark_events turn_events turned start_of
    searched_from queued_by queue_codes memory encode place_code coordinate_code parameters_code parameter_code small_code code_of tail_of cells_after
    painted done_to stored of_little_endian little_endian le count_trailing_zeros
narrow_full = refl

-- the chart on the long ring, from its start on
abbrev pub wide : World
wide = world_of
    (record { chosen = two.chosen; taken = 0; queued = 1; len = 32; head = 0; used = 5; front = starting_last; back = starting_last })
    (1 ∷ 1 ∷ 1 ∷ 1 ∷ 0 ∷ 9 ∷ 9 ∷ 9 ∷ 9 ∷ 9 ∷ 9 ∷ 9 ∷ 9 ∷ 9 ∷ 9 ∷ 9 ∷ 9 ∷ 9 ∷ 9 ∷ 9 ∷ 9 ∷ 9 ∷ 9 ∷ 9 ∷ 9 ∷ 9 ∷ 9 ∷ 9 ∷ 9 ∷ 9 ∷ 9 ∷ 9 ∷ []) (0 ∷ 0 ∷ [])

abbrev pub wide_one : World
wide_one = world_of
    (record { chosen = two.chosen; taken = 1; queued = 3; len = 32; head = 5; used = 10; front = starting_last; back = right_last })
    (1 ∷ 1 ∷ 1 ∷ 1 ∷ 0 ∷ 1 ∷ 0 ∷ 1 ∷ 0 ∷ 0 ∷ 3 ∷ 0 ∷ 1 ∷ 0 ∷ 0 ∷ 9 ∷ 9 ∷ 9 ∷ 9 ∷ 9 ∷ 9 ∷ 9 ∷ 9 ∷ 9 ∷ 9 ∷ 9 ∷ 9 ∷ 9 ∷ 9 ∷ 9 ∷ 9 ∷ 9 ∷ []) (1 ∷ 2 ∷ [])

abbrev pub wide_two : World
wide_two = world_of
    (record { chosen = two.chosen; taken = 2; queued = 3; len = 32; head = 10; used = 5; front = starting_last; back = right_last })
    (1 ∷ 1 ∷ 1 ∷ 1 ∷ 0 ∷ 1 ∷ 0 ∷ 1 ∷ 0 ∷ 0 ∷ 3 ∷ 0 ∷ 1 ∷ 0 ∷ 0 ∷ 9 ∷ 9 ∷ 9 ∷ 9 ∷ 9 ∷ 9 ∷ 9 ∷ 9 ∷ 9 ∷ 9 ∷ 9 ∷ 9 ∷ 9 ∷ 9 ∷ 9 ∷ 9 ∷ 9 ∷ []) (4294967296 ∷ 2 ∷ [])

-- moved there, the narrow chart is the one that was begun there, and its step is finished
pub narrow_moves : move_of narrow_left nines ≡ moved wide
unfolding move_of moved_world moved_record sound_record sound_last legal_chosen legal_interval whole_bound starting_last content older_stretch newer_stretch stored le
narrow_moves = refl

pub wide_begun : BegunAs (on_ring two nines) wide
unfolding setup_answer setup_refusal ranges_legal first_bytes first_blocks cut_first_in root_block start_level least_from start_record start_ring
    start_cells ring_begun cells_begun queue_codes memory encode place_code coordinate_code parameters_code parameter_code starting_last remembered
    small_code code_of tail_of little_endian stored painted_cells paintable painted picture_ready in_picture holds_cell nameable done_to meaning_of
    cell_code fits
wide_begun = record { accepted = refl; state = refl; ring = refl; cells = refl; held = ((tt, tt), (tt, tt), (tt, tt), (tt, tt)) }

pub wide_steps : (step_of wide (64 ∷ 64 ∷ []) ≡ finished wide_one 2 2) × (step_of wide_one (160 ∷ 0 ∷ 0 ∷ 0 ∷ []) ≡ finished wide_two 1 4)
unfolding step_with unless after_taking judged world_left sound_record sound_last put_last legal_chosen legal_interval whole_bound zero_as put_interval
    starting_last remembered taken content older_stretch newer_stretch decode place_read with_x coordinate_read coordinate_of read_small read_behind
    level_read add_parameters add_parameter parameter_read add_direction undamaged cell_damaged in_range inside places pixel rectangle_of holds_cell
    held_cells some_of every_of is_damaged is_marked meaning_of cell_code directions used_of direction_at children_of children_xy kept_inside quarters_of
    all_legal legal_verdict outcomes all_true verdict_outcome undecided_outcome evaluations incomplete_count events_for mark_events turn_events turned start_of
    searched_from queued_by queue_codes memory encode place_code coordinate_code parameters_code parameter_code small_code code_of tail_of cells_after
    painted done_to stored of_little_endian little_endian le count_trailing_zeros
wide_steps = (refl, refl)

-- the long ring is enough for one step
pub enough_for_one : enough_bytes two.chosen two.ranges 1 ≡ length nines
unfolding enough_bytes step_growth parameter_count used_of first_bytes first_blocks cut_first_in root_block start_level least_from queue_codes encode
    place_code coordinate_code parameters_code parameter_code starting_last small_code code_of tail_of little_endian
enough_for_one = refl

-- ---- a move between two steps

abbrev pub grown : World
grown = world_of
    (record { chosen = two.chosen; taken = 1; queued = 3; len = 32; head = 0; used = 10; front = starting_last; back = right_last })
    (1 ∷ 0 ∷ 1 ∷ 0 ∷ 0 ∷ 3 ∷ 0 ∷ 1 ∷ 0 ∷ 0 ∷ 9 ∷ 9 ∷ 9 ∷ 9 ∷ 9 ∷ 9 ∷ 9 ∷ 9 ∷ 9 ∷ 9 ∷ 9 ∷ 9 ∷ 9 ∷ 9 ∷ 9 ∷ 9 ∷ 9 ∷ 9 ∷ 9 ∷ 9 ∷ 9 ∷ 9 ∷ []) (1 ∷ 2 ∷ [])

abbrev pub grown_two : World
grown_two = world_of
    (record { chosen = two.chosen; taken = 2; queued = 3; len = 32; head = 5; used = 5; front = starting_last; back = right_last })
    (1 ∷ 0 ∷ 1 ∷ 0 ∷ 0 ∷ 3 ∷ 0 ∷ 1 ∷ 0 ∷ 0 ∷ 9 ∷ 9 ∷ 9 ∷ 9 ∷ 9 ∷ 9 ∷ 9 ∷ 9 ∷ 9 ∷ 9 ∷ 9 ∷ 9 ∷ 9 ∷ 9 ∷ 9 ∷ 9 ∷ 9 ∷ 9 ∷ 9 ∷ 9 ∷ 9 ∷ 9 ∷ []) (4294967296 ∷ 2 ∷ [])

pub grows : move_of (after 1) nines ≡ moved grown
unfolding move_of moved_world moved_record sound_record sound_last legal_chosen legal_interval whole_bound starting_last content older_stretch newer_stretch stored le
grows = refl

pub grown_step : step_of grown (160 ∷ 0 ∷ 0 ∷ 0 ∷ []) ≡ finished grown_two 1 4
unfolding step_with unless after_taking judged world_left sound_record sound_last put_last legal_chosen legal_interval whole_bound zero_as put_interval
    starting_last remembered taken content older_stretch newer_stretch decode place_read with_x coordinate_read coordinate_of read_small read_behind
    level_read add_parameters add_parameter parameter_read add_direction undamaged cell_damaged in_range inside places pixel rectangle_of holds_cell
    held_cells some_of every_of is_damaged is_marked meaning_of cell_code directions used_of direction_at children_of children_xy kept_inside quarters_of
    all_legal legal_verdict outcomes all_true verdict_outcome undecided_outcome evaluations incomplete_count events_for mark_events turn_events turned start_of
    searched_from queued_by queue_codes memory encode place_code coordinate_code parameters_code parameter_code small_code code_of tail_of cells_after
    painted done_to stored of_little_endian little_endian le count_trailing_zeros
grown_step = refl

-- two steps from the setup, with a move between them, and the same two on the long ring
unfoldable pub step_move_step : Steps 2 (after 0) grown_two
step_move_step = then_step (then_move (then_step no_steps (64 ∷ 64 ∷ []) 2 2 three_steps.0) (to_ring nines grows)) (160 ∷ 0 ∷ 0 ∷ 0 ∷ []) 1 4 grown_step

unfoldable pub step_step : Steps 2 wide wide_two
step_step = then_step (then_step no_steps (64 ∷ 64 ∷ []) 2 2 wide_steps.0) (160 ∷ 0 ∷ 0 ∷ 0 ∷ []) 1 4 wide_steps.1

-- ---- a shorter ring: the given-up pixel's chart, whose queue is empty, on one byte

abbrev pub shrunk : World
shrunk = world_of
    (record { chosen = one.chosen; taken = 1; queued = 1; len = 1; head = 0; used = 0; front = starting_last; back = starting_last })
    (9 ∷ []) (4294967297 ∷ [])

pub shrinks : move_of given_up (9 ∷ []) ≡ moved shrunk
unfolding move_of moved_world moved_record sound_record sound_last legal_chosen legal_interval whole_bound starting_last content older_stretch newer_stretch stored le
shrinks = refl

unfoldable pub gave_up_moved : Steps 1 waits shrunk
gave_up_moved = then_move gave_up (to_ring (9 ∷ []) shrinks)
