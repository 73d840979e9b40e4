-- The conditions can be met, and the words say what they should: document 01's first sheet, 2 by 1 with x and y, one step under the verdicts 80 00.
-- Its left pixel then reads True, its right one False, and nothing is queued. Every line is computed. Assumes nothing.
use mathlib.Core.Path.{◌≡◌, refl}
use mathlib.Core.List.{[], ◌∷◌}
use Prim.Native.Nat.{ℕ, ◌<◌}
use lib.Count.{count_trailing_zeros}
use lib.Dec.{lit<}
use lib.Ieee.{fits, le}
use Rattle.theory.specs.Colours.{said_false, said_true, said_undecided}
use Rattle.image.specs.declared.Reading.TheVariants as R
use Rattle.queue.specs.Block.{whole_line}
use Rattle.small.specs.Small.{tail_of, code_of, small_code, read_behind, read_small}
use Rattle.base.specs.Bytes.{little_endian, of_little_endian}
use Rattle.base.specs.Event.{queued_by}
use Rattle.interval.specs.Bounds.{whole_bound, legal_interval, zero_as, put_interval}
use Rattle.coordinate.specs.Axis.{in_range, pixel, places, inside}
use Rattle.image.specs.Cell.{cell_code, meaning_of, done_to, nameable, reading, is_marked, is_damaged}
use Rattle.image.specs.Range.{holds_cell, in_picture, picture_ready, rectangle_of}
use Rattle.image.specs.Painting.{painted, paintable, painted_cells, held_cells, some_of, every_of}
use Rattle.queue.specs.Directions.{used_of, directions, direction_at}
use Rattle.queue.specs.Block.{remembered, starting_last}
use Rattle.queue.specs.Code.{coordinate_code, parameter_code, parameters_code, place_code, encode}
use Rattle.queue.specs.Decode.{level_read, coordinate_of, coordinate_read, parameter_read, with_x, place_read, add_parameter, add_parameters, add_direction, decode}
use Rattle.queue.specs.Ring.{older_stretch, newer_stretch, content, stored}
use Rattle.queue.specs.Queue.{taken, queue_of, queue_codes, memory}
use Rattle.decide.specs.Damage.{legal_chosen, undamaged, cell_damaged}
use Rattle.decide.specs.Children.{quarters_of, kept_inside, children_xy, children_of}
use Rattle.decide.specs.Verdict.{legal_verdict, all_legal, verdict_outcome}
use Rattle.plan.specs.Plan.{all_true, outcomes, evaluations, incomplete_count, mark_events, turn_events, events_for, cells_after}
use Rattle.implicit.specs.Record.{sound_last, sound_record, put_last}
use Rattle.implicit.specs.Setup.{least_from, start_level, root_block, cut_first_in, first_blocks, ranges_legal, first_bytes, setup_refusal, start_record}
use Rattle.implicit.specs.Setup.{start_ring, start_cells, setup_answer, ring_begun, cells_begun}
use Rattle.implicit.specs.Step.{unless, world_left, judged, after_taking, step_with}
use Rattle.implicit.specs.Step.{World, world_of, finished, step_of}
use Rattle.promises.specs.Chart.{Pixel, queued_blocks}
use Rattle.promises.specs.Steps.{Asked, BegunAs, Steps, no_steps, then_step, verdicts_of, evaluations_of, reads_in}
use Rattle.promises.specs.Judgements.{said_by}

-- the sheet's picture, with a ring of one byte and cells of one number more than are needed
abbrev pub sheet : Asked
sheet = record {
  chosen = record { width = 2; height = 1; set = 48; reserved1 = 0; reserved2 = 0; reserved3 = 0 };
  ranges = record { m = whole_line; n = whole_line; theta = whole_line; t = whole_line };
  ring = 9 ∷ 9 ∷ 9 ∷ 9 ∷ 9 ∷ 9 ∷ [];
  cells = 7 ∷ 7 ∷ 7 ∷ [];
}

-- what setup leaves: one block, coded 01 01 01 01 00, and both cells name it; what is beyond is as it was
abbrev pub first : World
first = world_of
    (record { chosen = sheet.chosen; taken = 0; queued = 1; len = 6; head = 0; used = 5; front = starting_last; back = starting_last })
    (1 ∷ 1 ∷ 1 ∷ 1 ∷ 0 ∷ 9 ∷ []) (0 ∷ 0 ∷ 7 ∷ [])

pub begun : BegunAs sheet first
unfolding setup_answer setup_refusal ranges_legal first_bytes first_blocks cut_first_in root_block start_level least_from start_record start_ring
    start_cells ring_begun cells_begun queue_codes memory encode place_code coordinate_code parameters_code parameter_code starting_last remembered
    small_code code_of tail_of little_endian stored painted_cells paintable painted picture_ready in_picture holds_cell nameable done_to meaning_of
    cell_code fits
begun = record { accepted = refl; state = refl; ring = refl; cells = refl; held = ((tt, tt), (tt, tt), (tt, tt), (tt, tt)) }

-- what the step leaves: the block is taken, its left child marked, its right one false
abbrev pub second : World
second = world_of
    (record { chosen = sheet.chosen; taken = 1; queued = 1; len = 6; head = 5; used = 0; front = starting_last; back = starting_last })
    (1 ∷ 1 ∷ 1 ∷ 1 ∷ 0 ∷ 9 ∷ []) (4294967296 ∷ 0 ∷ 7 ∷ [])

pub one_step : step_of first (128 ∷ 0 ∷ []) ≡ finished second 2 2
unfolding step_with unless after_taking judged world_left sound_record sound_last put_last legal_chosen legal_interval whole_bound zero_as put_interval
    starting_last remembered taken content older_stretch newer_stretch decode place_read with_x coordinate_read coordinate_of read_small read_behind
    level_read add_parameters add_parameter parameter_read add_direction undamaged cell_damaged in_range inside places pixel rectangle_of holds_cell
    held_cells some_of every_of is_damaged is_marked meaning_of cell_code directions used_of direction_at children_of children_xy kept_inside quarters_of
    all_legal legal_verdict outcomes all_true verdict_outcome evaluations incomplete_count events_for mark_events turn_events queued_by queue_codes memory
    cells_after painted done_to stored of_little_endian little_endian le count_trailing_zeros
one_step = refl

unfoldable pub stepped : Steps 1 first second
stepped = then_step no_steps (128 ∷ 0 ∷ []) 2 2 one_step

-- its two pixels
abbrev pub at : (x : ℕ) → x < 2 → Pixel sheet.chosen
at x h = record { x = x; y = 0; x_in = h; y_in = lit< tt }

pub left_true : reads_in sheet.chosen second (at 0 (lit< tt)) ≡ R.True
unfolding reads_in reading meaning_of
left_true = refl

pub right_false : reads_in sheet.chosen second (at 1 (lit< tt)) ≡ R.False
unfolding reads_in reading meaning_of
right_false = refl

-- and nothing is queued
pub none_queued : queued_blocks second ≡ []
unfolding queued_blocks queue_of
none_queued = refl

-- the step took both bytes, at one evaluation each
pub took_both : (verdicts_of stepped ≡ 128 ∷ 0 ∷ []) × (evaluations_of stepped ≡ 2)
unfolding verdicts_of evaluations_of stepped
took_both = (refl, refl)

-- what bytes say: false; undecided and true from a pixel's level up; below it true alone, true with an area, an area without and with a point
pub bytes_say : (said_by 48 0 ≡ said_false) × (said_by 48 64 ≡ said_undecided) × (said_by 48 128 ≡ said_true)
    × (said_by 47 128 ≡ said_undecided) × (said_by 47 160 ≡ said_true) × (said_by 47 96 ≡ said_undecided) × (said_by 47 97 ≡ said_true)
unfolding said_by
bytes_say = (refl, refl, refl, refl, refl, refl, refl)
