-- Two small charts, step by step. Document 01's first sheet with a ring of 16 bytes, under 40 40, then 00 00 00 00, then A0 00 00 00: both pixels wait, the left
-- one is denied, the right one is marked. And one pixel with no variable, whose block can't be cut: under 40 it is given up. Every line is computed.
-- Assumes nothing.
use mathlib.Core.Path.{◌≡◌, refl}
use mathlib.Core.List.{[], ◌∷◌}
use Prim.Native.Nat.{ℕ, zero, suc, ◌≤◌}
use lib.Count.{count_trailing_zeros}
use native.Mathlib.Omega.{arith}
use lib.Dec.{lit<, lit≤}
use lib.Ieee.{fits, le}
use Rattle.small.specs.Small.{tail_of, code_of, small_code, read_behind, read_small}
use Rattle.base.specs.Bytes.{little_endian, of_little_endian}
use Rattle.base.specs.Event.{queued_by}
use Rattle.interval.specs.Bounds.{whole_bound, legal_interval, zero_as, put_interval}
use Rattle.coordinate.specs.Axis.{in_range, pixel, places, inside}
use Rattle.image.specs.Cell.{cell_code, meaning_of, done_to, nameable, is_marked, is_damaged}
use Rattle.image.specs.Range.{holds_cell, in_picture, picture_ready, rectangle_of}
use Rattle.image.specs.Painting.{painted, paintable, painted_cells, held_cells, some_of, every_of}
use Rattle.queue.specs.declared.Last.{Last}
use Rattle.queue.specs.Directions.{used_of, directions, direction_at}
use Rattle.queue.specs.Block.{whole_line, remembered, starting_last}
use Rattle.queue.specs.Code.{coordinate_code, parameter_code, parameters_code, place_code, encode}
use Rattle.queue.specs.Decode.{level_read, coordinate_of, coordinate_read, parameter_read, with_x, place_read, add_parameter, add_parameters, add_direction, decode}
use Rattle.queue.specs.Ring.{older_stretch, newer_stretch, content, stored}
use Rattle.queue.specs.Queue.{taken, queue_codes, memory}
use Rattle.decide.specs.Damage.{legal_chosen, undamaged, cell_damaged}
use Rattle.decide.specs.Children.{quarters_of, kept_inside, children_xy, children_of}
use Rattle.decide.specs.Verdict.{legal_verdict, all_legal, undecided_outcome, verdict_outcome}
use Rattle.decide.specs.Turn.{start_of, searched_from, turned}
use Rattle.plan.specs.Plan.{all_true, outcomes, evaluations, incomplete_count, mark_events, turn_events, events_for, cells_after}
use Rattle.implicit.specs.Record.{sound_last, sound_record, put_last}
use Rattle.implicit.specs.Setup.{least_from, start_level, root_block, cut_first_in, first_blocks, ranges_legal, first_bytes, setup_refusal, start_record}
use Rattle.implicit.specs.Setup.{start_ring, start_cells, setup_answer, ring_begun, cells_begun}
use Rattle.implicit.specs.Step.{unless, world_left, judged, after_taking, step_with}
use Rattle.implicit.specs.Step.{World, world_of, finished, step_of, step_answer}
use Rattle.implicit.specs.Answers.{step_number}
use Rattle.promises.specs.Chart.{Pixel}
use Rattle.promises.specs.Steps.{Asked, BegunAs, Steps, no_steps, then_step, verdicts_of, evaluations_of}

-- ---- two pixels

abbrev pub two : Asked
two = record {
  chosen = record { width = 2; height = 1; set = 48; reserved1 = 0; reserved2 = 0; reserved3 = 0 };
  ranges = record { m = whole_line; n = whole_line; theta = whole_line; t = whole_line };
  ring = 9 ∷ 9 ∷ 9 ∷ 9 ∷ 9 ∷ 9 ∷ 9 ∷ 9 ∷ 9 ∷ 9 ∷ 9 ∷ 9 ∷ 9 ∷ 9 ∷ 9 ∷ 9 ∷ [];
  cells = 7 ∷ 7 ∷ [];
}

-- what is remembered of the right pixel's block
abbrev pub right_last : Last
right_last = record { x = 1; y = 0; m = whole_line; n = whole_line; theta = whole_line; t = whole_line }

-- after so many steps; after three, nothing is queued
abbrev pub after : ℕ → World
after zero = world_of
    (record { chosen = two.chosen; taken = 0; queued = 1; len = 16; head = 0; used = 5; front = starting_last; back = starting_last })
    (1 ∷ 1 ∷ 1 ∷ 1 ∷ 0 ∷ 9 ∷ 9 ∷ 9 ∷ 9 ∷ 9 ∷ 9 ∷ 9 ∷ 9 ∷ 9 ∷ 9 ∷ 9 ∷ []) (0 ∷ 0 ∷ [])
after (suc zero) = world_of
    (record { chosen = two.chosen; taken = 1; queued = 3; len = 16; head = 5; used = 10; front = starting_last; back = right_last })
    (1 ∷ 1 ∷ 1 ∷ 1 ∷ 0 ∷ 1 ∷ 0 ∷ 1 ∷ 0 ∷ 0 ∷ 3 ∷ 0 ∷ 1 ∷ 0 ∷ 0 ∷ 9 ∷ []) (1 ∷ 2 ∷ [])
after (suc (suc zero)) = world_of
    (record { chosen = two.chosen; taken = 2; queued = 3; len = 16; head = 10; used = 5; front = starting_last; back = right_last })
    (1 ∷ 1 ∷ 1 ∷ 1 ∷ 0 ∷ 1 ∷ 0 ∷ 1 ∷ 0 ∷ 0 ∷ 3 ∷ 0 ∷ 1 ∷ 0 ∷ 0 ∷ 9 ∷ []) (1 ∷ 2 ∷ [])
after (suc (suc (suc n))) = world_of
    (record { chosen = two.chosen; taken = 3; queued = 3; len = 16; head = 15; used = 0; front = right_last; back = right_last })
    (1 ∷ 1 ∷ 1 ∷ 1 ∷ 0 ∷ 1 ∷ 0 ∷ 1 ∷ 0 ∷ 0 ∷ 3 ∷ 0 ∷ 1 ∷ 0 ∷ 0 ∷ 9 ∷ []) (1 ∷ 4294967296 ∷ [])

pub two_begun : BegunAs two (after 0)
unfolding setup_answer setup_refusal ranges_legal first_bytes first_blocks cut_first_in root_block start_level least_from start_record start_ring
    start_cells ring_begun cells_begun queue_codes memory encode place_code coordinate_code parameters_code parameter_code starting_last remembered
    small_code code_of tail_of little_endian stored painted_cells paintable painted picture_ready in_picture holds_cell nameable done_to meaning_of
    cell_code fits
two_begun = record { accepted = refl; state = refl; ring = refl; cells = refl; held = ((tt, tt), (tt, tt), (tt, tt), (tt, tt)) }

pub three_steps : (step_of (after 0) (64 ∷ 64 ∷ []) ≡ finished (after 1) 2 2)
    × (step_of (after 1) (0 ∷ 0 ∷ 0 ∷ 0 ∷ []) ≡ finished (after 2) 4 4)
    × (step_of (after 2) (160 ∷ 0 ∷ 0 ∷ 0 ∷ []) ≡ finished (after 3) 1 4)
unfolding step_with unless after_taking judged world_left sound_record sound_last put_last legal_chosen legal_interval whole_bound zero_as put_interval
    starting_last remembered taken content older_stretch newer_stretch decode place_read with_x coordinate_read coordinate_of read_small read_behind
    level_read add_parameters add_parameter parameter_read add_direction undamaged cell_damaged in_range inside places pixel rectangle_of holds_cell
    held_cells some_of every_of is_damaged is_marked meaning_of cell_code directions used_of direction_at children_of children_xy kept_inside quarters_of
    all_legal legal_verdict outcomes all_true verdict_outcome undecided_outcome evaluations incomplete_count events_for mark_events turn_events turned start_of
    searched_from queued_by queue_codes memory encode place_code coordinate_code parameters_code parameter_code small_code code_of tail_of cells_after
    painted done_to stored of_little_endian little_endian le count_trailing_zeros
three_steps = (refl, refl, refl)

-- on what the setup left: three verdicts where there are two children are refused by 4, and a byte C0, which is no verdict, by 5
pub two_refused : (step_number (step_answer (after 0).state (step_of (after 0) (64 ∷ 64 ∷ 64 ∷ []))) ≡ 4)
    × (step_number (step_answer (after 0).state (step_of (after 0) (64 ∷ 192 ∷ []))) ≡ 5)
unfolding step_with unless after_taking judged sound_record sound_last put_last legal_chosen legal_interval whole_bound zero_as put_interval starting_last
    remembered taken content older_stretch newer_stretch decode place_read with_x coordinate_read coordinate_of read_small read_behind level_read
    add_parameters add_parameter parameter_read add_direction undamaged cell_damaged in_range inside places pixel rectangle_of holds_cell held_cells
    some_of is_damaged meaning_of cell_code directions used_of direction_at children_of children_xy kept_inside quarters_of all_legal legal_verdict
    of_little_endian little_endian le count_trailing_zeros
two_refused = (refl, refl)

-- from the setup on, so many steps
abbrev first_step : Steps 1 (after 0) (after 1)
first_step = then_step no_steps (64 ∷ 64 ∷ []) 2 2 three_steps.0

abbrev two_steps : Steps 2 (after 0) (after 2)
two_steps = then_step first_step (0 ∷ 0 ∷ 0 ∷ 0 ∷ []) 4 4 three_steps.1

unfoldable pub ran : (n : ℕ) → n ≤ 3 → Steps n (after 0) (after n)
ran zero h = no_steps
ran (suc zero) h = first_step
ran (suc (suc zero)) h = two_steps
ran (suc (suc (suc zero))) h = then_step two_steps (160 ∷ 0 ∷ 0 ∷ 0 ∷ []) 1 4 three_steps.2
ran (suc (suc (suc (suc n)))) h = absurd (omega arith)

-- and so many more after the first
abbrev next_step : Steps 1 (after 1) (after 2)
next_step = then_step no_steps (0 ∷ 0 ∷ 0 ∷ 0 ∷ []) 4 4 three_steps.1

unfoldable pub ran_on : (n : ℕ) → n ≤ 2 → Steps n (after 1) (after (suc n))
ran_on zero h = no_steps
ran_on (suc zero) h = next_step
ran_on (suc (suc zero)) h = then_step next_step (160 ∷ 0 ∷ 0 ∷ 0 ∷ []) 1 4 three_steps.2
ran_on (suc (suc (suc n))) h = absurd (omega arith)

-- and the last alone
abbrev pub last_step : Steps 1 (after 2) (after 3)
last_step = then_step no_steps (160 ∷ 0 ∷ 0 ∷ 0 ∷ []) 1 4 three_steps.2

-- the first two took these bytes, at so many evaluations
pub took_in_order : (verdicts_of (ran 2 (lit≤ tt)) ≡ 64 ∷ 64 ∷ 0 ∷ 0 ∷ 0 ∷ 0 ∷ []) × (evaluations_of (ran 2 (lit≤ tt)) ≡ 6)
unfolding verdicts_of evaluations_of ran
took_in_order = (refl, refl)

-- its pixels
abbrev pub left : Pixel two.chosen
left = record { x = 0; y = 0; x_in = lit< tt; y_in = lit< tt }

abbrev pub right : Pixel two.chosen
right = record { x = 1; y = 0; x_in = lit< tt; y_in = lit< tt }

-- ---- one pixel, no variable

abbrev pub one : Asked
one = record {
  chosen = record { width = 1; height = 1; set = 0; reserved1 = 0; reserved2 = 0; reserved3 = 0 };
  ranges = record { m = whole_line; n = whole_line; theta = whole_line; t = whole_line };
  ring = 9 ∷ 9 ∷ 9 ∷ 9 ∷ 9 ∷ 9 ∷ [];
  cells = 7 ∷ [];
}

abbrev pub waits : World
waits = world_of
    (record { chosen = one.chosen; taken = 0; queued = 1; len = 6; head = 0; used = 5; front = starting_last; back = starting_last })
    (1 ∷ 0 ∷ 1 ∷ 0 ∷ 0 ∷ 9 ∷ []) (0 ∷ [])

pub one_begun : BegunAs one waits
unfolding setup_answer setup_refusal ranges_legal first_bytes first_blocks cut_first_in root_block start_level least_from start_record start_ring
    start_cells ring_begun cells_begun queue_codes memory encode place_code coordinate_code parameters_code parameter_code starting_last remembered
    small_code code_of tail_of little_endian stored painted_cells paintable painted picture_ready in_picture holds_cell nameable done_to meaning_of
    cell_code fits
one_begun = record { accepted = refl; state = refl; ring = refl; cells = refl; held = ((tt, tt), (tt, tt), (tt, tt), (tt, tt)) }

abbrev pub given_up : World
given_up = world_of
    (record { chosen = one.chosen; taken = 1; queued = 1; len = 6; head = 5; used = 0; front = starting_last; back = starting_last })
    (1 ∷ 0 ∷ 1 ∷ 0 ∷ 0 ∷ 9 ∷ []) (4294967297 ∷ [])

pub gives_up : step_of waits (64 ∷ []) ≡ finished given_up 1 1
unfolding step_with unless after_taking judged world_left sound_record sound_last put_last legal_chosen legal_interval whole_bound zero_as put_interval
    starting_last remembered taken content older_stretch newer_stretch decode place_read with_x coordinate_read coordinate_of read_small read_behind
    level_read add_parameters add_parameter parameter_read add_direction undamaged cell_damaged in_range inside places pixel rectangle_of holds_cell
    held_cells some_of every_of is_damaged is_marked meaning_of cell_code directions used_of direction_at children_of children_xy kept_inside quarters_of
    all_legal legal_verdict outcomes all_true verdict_outcome undecided_outcome evaluations incomplete_count events_for mark_events turn_events turned start_of
    searched_from queued_by queue_codes memory encode place_code coordinate_code parameters_code parameter_code small_code code_of tail_of cells_after
    painted done_to stored of_little_endian little_endian le count_trailing_zeros
gives_up = refl

unfoldable pub gave_up : Steps 1 waits given_up
gave_up = then_step no_steps (64 ∷ []) 1 1 gives_up

abbrev pub only : Pixel one.chosen
only = record { x = 0; y = 0; x_in = lit< tt; y_in = lit< tt }
