-- The explainer on document 01's first sheet: it is asked for nine steps, and the queue empties after one; its tape ends within the first; and it is
-- asked about a column outside. What the contract's promises then say. Assumes nothing.
use mathlib.Core.Path.{◌≡◌, refl}
use mathlib.Core.Logic.{◌⊎◌}
use mathlib.Core.Bool.{true}
use mathlib.Core.List.{List, [], ◌∷◌}
use Prim.Native.Nat.{ℕ, ◌<◌}
use Rattle.std.specs.Prelude.{Result, Ok, Err}
use Rattle.refusal.specs.declared.Refusal.{Refusal}
use Rattle.refusal.specs.declared.Refusal.TheVariants as R
use Rattle.implicit.specs.declared.state.Ending.TheVariants as E
use Rattle.explain.specs.declared.reason.Reason.TheVariants as B
use Rattle.explain.specs.declared.reason.Explanation.{Explanation}
use Rattle.explain.specs.Explained.{explained, ring_explained, cells_explained, beginning, pixel_inside, world_begun, reason_after}
use lib.Count.{count_trailing_zeros, count_leading_zeros}
use lib.Ieee.{fits, le}
use Rattle.queue.specs.Block.{remembered, starting_last}
use Rattle.small.specs.Small.{tail_of, code_of, small_code, read_behind, read_small}
use Rattle.base.specs.Bytes.{little_endian, of_little_endian}
use Rattle.base.specs.Event.{queued_by}
use Rattle.interval.specs.Bounds.{whole_bound, legal_interval, zero_as, put_interval}
use Rattle.coordinate.specs.Axis.{in_range, pixel, places, inside}
use Rattle.image.specs.Cell.{cell_code, meaning_of, done_to, nameable, reading, is_marked, is_damaged, is_given_up}
use Rattle.image.specs.Range.{holds_cell, in_picture, picture_ready, rectangle_of}
use Rattle.image.specs.Painting.{painted, paintable, painted_cells, held_cells, some_of, every_of}
use Rattle.queue.specs.Directions.{used_of, directions, direction_at}
use Rattle.queue.specs.Code.{coordinate_code, parameter_code, parameters_code, place_code, encode}
use Rattle.queue.specs.Decode.{level_read, coordinate_of, coordinate_read, parameter_read, with_x, place_read, add_parameter, add_parameters, add_direction}
use Rattle.queue.specs.Decode.{decode}
use Rattle.queue.specs.Ring.{older_stretch, newer_stretch, content, stored}
use Rattle.queue.specs.Queue.{taken, queue_codes, memory}
use Rattle.decide.specs.Damage.{legal_chosen, undamaged, cell_damaged}
use Rattle.decide.specs.Children.{quarters_of, kept_inside, children_xy, children_of}
use Rattle.decide.specs.Verdict.{legal_verdict, all_legal, verdict_outcome, first_point, undecided_outcome}
use Rattle.plan.specs.Plan.{all_true, outcomes, evaluations, incomplete_count, mark_events, turn_events, events_for, cells_after}
use Rattle.implicit.specs.Record.{sound_last, sound_record, put_last, queue_empty}
use Rattle.implicit.specs.Setup.{cleared, least_from, start_level, root_block, cut_first_in, first_blocks, ranges_legal, first_bytes, setup_refusal}
use Rattle.implicit.specs.Setup.{start_record, start_ring, start_cells, setup_answer}
use Rattle.implicit.specs.Step.{world_of, refused, tape_step_of, unless, world_left, judged, after_taking, step_with}
use Rattle.base.specs.Places.{any_of, first_from, last_from, last_value, latest_number, latest_value}
use Rattle.decide.specs.Turn.{start_of, searched_from, turned}
use Rattle.implicit.specs.Run.{run_from}
use Rattle.explain.specs.History.{PastStep, answered_by, history_from}
use Rattle.explain.specs.Reasons.{moment_at, covers_at, finds_none, marks_here, denies_here, marks_in, takes_here, gives_up_here, last_mark, last_point}
use Rattle.explain.specs.Reasons.{last_denial, last_giving_up, block_behind, waiting_for, reason_of}
use Rattle.promises.specs.Chart.{Pixel}
use Rattle.promises.specs.Why.{past_in, WhyFalse, Explains}
use Rattle.promises.proofs.Example.{sheet, first, begun, second}
use Rattle.promises.proofs.WhyPromises.{explain_answered, explains_the_end, explain_stopped, explain_refused}

-- what it answers, and what it leaves of the ring and of the cells, on this tape, about this column
abbrev answers : List ℕ → ℕ → Result Explanation Refusal
answers tape column = explained (cleared sheet.chosen) sheet.ranges sheet.ring sheet.cells tape 9 column 0

abbrev ring_left : List ℕ → ℕ → List ℕ
ring_left tape column = ring_explained (cleared sheet.chosen) sheet.ranges sheet.ring sheet.cells tape 9 column 0

abbrev cells_left : List ℕ → ℕ → List ℕ
cells_left tape column = cells_explained (cleared sheet.chosen) sheet.ranges sheet.ring sheet.cells tape 9 column 0

-- computed
pub answers_are : (answers (128 ∷ 0 ∷ []) 1 ≡ Ok (Explanation.Of (B.False (moment_at 1 2)) second.state 1 2 2 E.Done))
    × (answers (128 ∷ []) 1 ≡ Ok (Explanation.Stopped R.Verdicts first.state 0 0 0)) × (answers (128 ∷ 0 ∷ []) 2 ≡ Err R.Pixel)
unfolding explained ring_explained cells_explained beginning pixel_inside world_begun reason_after setup_answer setup_refusal ranges_legal first_bytes
    first_blocks cut_first_in root_block start_level least_from start_record start_ring start_cells queue_codes memory encode place_code coordinate_code
    parameters_code parameter_code starting_last remembered small_code code_of tail_of little_endian stored painted_cells paintable painted
    picture_ready in_picture holds_cell nameable done_to meaning_of cell_code fits run_from history_from answered_by reason_of last_mark last_point
    last_denial last_giving_up marks_in marks_here denies_here takes_here gives_up_here finds_none covers_at waiting_for block_behind any_of first_from
    last_from last_value latest_number latest_value reading is_given_up step_with unless after_taking judged world_left sound_record sound_last put_last
    legal_chosen legal_interval whole_bound zero_as put_interval taken content older_stretch newer_stretch decode place_read with_x coordinate_read
    coordinate_of read_small read_behind level_read add_parameters add_parameter parameter_read add_direction undamaged cell_damaged in_range inside
    places pixel rectangle_of held_cells some_of every_of is_damaged is_marked directions used_of direction_at children_of children_xy kept_inside
    quarters_of all_legal legal_verdict outcomes all_true verdict_outcome undecided_outcome first_point count_leading_zeros evaluations incomplete_count
    events_for mark_events turn_events turned start_of searched_from queued_by cells_after of_little_endian le count_trailing_zeros
answers_are = (refl, refl, refl)

-- the reason names what happened
pub white_there : (q : Pixel sheet.chosen) × (1 ≡ q.x) × (h : List PastStep) × WhyFalse sheet.chosen q h (moment_at 1 2)
unfolding Explains
white_there =
    let (w, z, ran, q, i, j, c, alone, h, why) = explain_answered sheet.chosen sheet.ranges sheet.ring sheet.cells (128 ∷ 0 ∷ []) 9 1 0
    (answers (128 ∷ 0 ∷ []) 1) (ring_left (128 ∷ 0 ∷ []) 1) (cells_left (128 ∷ 0 ∷ []) 1) refl refl refl begun.held (B.False (moment_at 1 2))
    second.state 1 2 2 E.Done answers_are.0 in
    (q, i, past_in c, why.1)

-- the queue emptied sooner
pub emptied_sooner : (◌≡◌ {A = ℕ} 1 9) ⊎ ((1 < 9) × (queue_empty second.state ≡ true))
emptied_sooner =
    explains_the_end sheet.chosen sheet.ranges sheet.ring sheet.cells (128 ∷ 0 ∷ []) 9 1 0 (answers (128 ∷ 0 ∷ []) 1)
    (ring_left (128 ∷ 0 ∷ []) 1) (cells_left (128 ∷ 0 ∷ []) 1) refl refl refl (B.False (moment_at 1 2)) second.state 1 2 2 E.Done
    answers_are.0

-- the step on what it left, with all of the tape, is the one that refused
pub stopped_there : tape_step_of (world_of first.state (ring_left (128 ∷ []) 1) (cells_left (128 ∷ []) 1)) (128 ∷ []) ≡ refused R.Verdicts
stopped_there =
    let (w, z, ran, c, alone, by) = explain_stopped sheet.chosen sheet.ranges sheet.ring sheet.cells (128 ∷ []) 9 1 0
    (answers (128 ∷ []) 1) (ring_left (128 ∷ []) 1) (cells_left (128 ∷ []) 1) refl refl refl begun.held R.Verdicts first.state 0 0 0
    answers_are.1 in
    by

-- and outside nothing was written
pub outside_kept : (ring_left (128 ∷ 0 ∷ []) 2 ≡ sheet.ring) × (cells_left (128 ∷ 0 ∷ []) 2 ≡ sheet.cells)
outside_kept =
    explain_refused sheet.chosen sheet.ranges sheet.ring sheet.cells (128 ∷ 0 ∷ []) 9 2 0 (answers (128 ∷ 0 ∷ []) 2)
    (ring_left (128 ∷ 0 ∷ []) 2) (cells_left (128 ∷ 0 ∷ []) 2) refl refl refl R.Pixel answers_are.2
