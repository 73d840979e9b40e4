-- Reasons, computed by the explainer's definition, as one table: 5 by 3 pixels, whose first block has two children; one pixel, by
-- its quarters; and one pixel by m, from 0 to 8, whose first blocks are 0, 0 to 8, and 8. Closed facts, checked before the laws.
-- Assumes nothing.
use mathlib.Core.Path.{◌≡◌, refl}
use mathlib.Core.List.{List, [], ◌∷◌}
use mathlib.Core.Logic.{◌⊎◌, inl, inr}
use Prim.Native.Nat.{ℕ}
use lib.Count.{count_leading_zeros}
use lib.Ieee.{binary64, of_bits, to_bits, le, ne, round}
use lib.ListN.{replicate}
use Rattle.small.specs.Small.{tail_of, code_of, small_code, read_behind, read_small}
use Rattle.base.specs.Bytes.{little_endian, of_little_endian, big_endian, of_big_endian_from}
use Rattle.base.specs.Event.{queued_by}
use Rattle.base.specs.Lists.{Every}
use Rattle.base.specs.Places.{any_of, first_from, last_from, last_value, latest_number, latest_value}
use Rattle.std.specs.Prelude.{Result, Ok, Err}
use Rattle.refusal.specs.Number.{number}
use Rattle.refusal.specs.declared.Refusal.{Refusal}
use Rattle.interval.specs.declared.Interval.{Interval}
use Rattle.interval.specs.Bounds.{in_units, whole_bound, legal_interval, zero_as, put_interval, same_interval}
use Rattle.interval.specs.Answers.{answer_from_bits}
use Rattle.interval.specs.Middle.{rounded, half_sum, half_away, whole_near}
use Rattle.interval.specs.Kinds.{kind_of, middle_at, cut_point_at}
use Rattle.interval.specs.Cuts.{subdivisible, width_is, keep_if, unlike_next, legal_three, first_cut, narrowed, thinned, later_cut}
use Rattle.coordinate.specs.Axis.{in_range, pixel, places, inside}
use Rattle.image.specs.Cell.{cell_code, meaning_of, done_to, nameable, reading, is_marked, is_given_up, is_damaged}
use Rattle.image.specs.Range.{holds_cell, in_picture, picture_ready, rectangle_of}
use Rattle.image.specs.Painting.{painted, paintable, painted_cells, held_cells, some_of, every_of}
use Rattle.queue.specs.declared.Block.{Block}
use Rattle.queue.specs.Directions.{used_of, directions, direction_at}
use Rattle.queue.specs.Block.{whole_line, remembered, starting_last}
use Rattle.queue.specs.Code.{coordinate_code, bounds_code, parameter_code, parameters_code, place_code, encode}
use Rattle.queue.specs.Decode.{level_read, coordinate_of, coordinate_read, parameter_read, with_x, place_read, add_parameter, add_parameters}
use Rattle.queue.specs.Decode.{bounds_read, used_read, add_direction, decode}
use Rattle.queue.specs.Ring.{older_stretch, newer_stretch, content, stored}
use Rattle.queue.specs.Queue.{taken, queue_codes, memory}
use Rattle.decide.specs.declared.Chosen.{Chosen}
use Rattle.decide.specs.Damage.{legal_chosen, undamaged, cell_damaged}
use Rattle.decide.specs.Children.{quarters_of, kept_inside, children_xy, children_cut, children_of}
use Rattle.decide.specs.Verdict.{legal_verdict, all_legal, first_point, undecided_outcome, verdict_outcome}
use Rattle.decide.specs.Turn.{start_of, splits_at, searched_from, turned}
use Rattle.plan.specs.Plan.{all_true, outcomes, evaluations, incomplete_count, mark_events, turn_events, events_for, cells_after}
use Rattle.implicit.specs.declared.state.Ranges.{Ranges}
use Rattle.implicit.specs.Record.{sound_last, sound_record, put_last}
use Rattle.implicit.specs.Setup.{least_from, start_level, root_block, each_cut_first, cut_first_in, first_blocks, ranges_legal}
use Rattle.implicit.specs.Setup.{first_bytes, setup_refusal, start_record, start_ring, start_cells, setup_answer}
use Rattle.implicit.specs.Step.{unless, world_left, judged, after_taking, step_with}
use Rattle.implicit.specs.Run.{run_from}
use Rattle.explain.specs.declared.reason.Reason.{Reason}
use Rattle.explain.specs.declared.reason.Reason.TheVariants as B
use Rattle.explain.specs.declared.reason.Explanation.{Explanation}
use Rattle.explain.specs.declared.reason.Explanation.TheVariants as X
use Rattle.explain.specs.History.{answered_by, history_from}
use Rattle.explain.specs.Reasons.{covers_at, finds_none, moment_at, marks_here, denies_here, marks_in, takes_here, gives_up_here}
use Rattle.explain.specs.Reasons.{last_mark, last_point, last_denial, last_giving_up, block_behind, waiting_for, reason_of}
use Rattle.explain.specs.Explained.{pixel_inside, beginning, world_begun, reason_after, explained}

-- what is said: the reason, or the number of the refusal
abbrev said : Result Explanation Refusal → Reason ⊎ ℕ
said (Ok (X.Of reason state steps evaluations tape ending)) = inl reason
said (Ok (X.Stopped why state steps evaluations tape)) = inr (number why)
said (Err why) = inr (number why)

-- a picture of so many pixels, with the variables of this set
abbrev picture : ℕ → ℕ → ℕ → Chosen
picture width height set = record { width = width; height = height; set = set; reserved1 = 0; reserved2 = 0; reserved3 = 0 }

abbrev only_m : Interval → Ranges
only_m m = record { m = m; n = whole_line; theta = whole_line; t = whole_line }

-- a block of the bottom row, at this index, with this rank and this range of m
abbrev block_at : ℕ → ℕ → Interval → Block
block_at x rank m = record {
  x = record { index = x; rank = rank };
  y = record { index = 0; rank = rank };
  m = m;
  n = whole_line;
  theta = whole_line;
  t = whole_line;
  dir = 0;
}

-- 0 to 8, and 8, by the bounds' bits
abbrev bounds : ℕ → ℕ → Interval
bounds a b = record { lower = of_bits binary64 a; upper = of_bits binary64 b }

abbrev to_eight : Interval
to_eight = bounds 0x0000000000000000 0x4020000000000000

abbrev at_eight : Interval
at_eight = bounds 0x4020000000000000 0x4020000000000000

-- the three pictures: for a tape, so many steps and a pixel; for the tape of one step; and for so many steps
abbrev in_five : List ℕ → ℕ → ℕ → ℕ → Reason ⊎ ℕ
in_five tape steps column row =
    said (explained (picture 5 3 48) (only_m whole_line) (replicate 16 0) (replicate 15 0) tape steps column row)

abbrev in_one : List ℕ → Reason ⊎ ℕ
in_one tape = said (explained (picture 1 1 48) (only_m whole_line) (replicate 5 0) (0 ∷ []) tape 1 0 0)

abbrev in_m : ℕ → Reason ⊎ ℕ
in_m steps =
    said (explained (picture 1 1 8) (only_m to_eight) (replicate 96 0) (0 ∷ [])
    (0 ∷ 0 ∷ 0 ∷ 64 ∷ 64 ∷ 64 ∷ 128 ∷ 0 ∷ 0 ∷ []) steps 0 0)

abbrev reasons_table : List ((Reason ⊎ ℕ) × (Reason ⊎ ℕ))
reasons_table =
    -- 5 by 3, before any step, and after one that was undecided for both children: the last column waits for the second block
    (in_five [] 0 0 0, inl (B.Waiting 0 0 (block_at 0 51 whole_line)))
    ∷ (in_five (64 ∷ 64 ∷ []) 1 0 0, inl (B.Waiting 1 0 (block_at 0 50 whole_line)))
    ∷ (in_five (64 ∷ 64 ∷ []) 1 4 0, inl (B.Waiting 2 1 (block_at 1 50 whole_line)))
    -- there are no verdicts for a second step
    ∷ (in_five (64 ∷ 64 ∷ []) 2 0 0, inr 4)
    -- the last column is denied by the second child, also where the first one was answered false too
    ∷ (in_five (64 ∷ 0 ∷ []) 1 4 2, inl (B.False (moment_at 1 2)))
    ∷ (in_five (0 ∷ 0 ∷ []) 1 4 2, inl (B.False (moment_at 1 2)))
    -- the queue empties sooner
    ∷ (in_five (0 ∷ 0 ∷ []) 9 4 2, inl (B.False (moment_at 1 2)))
    -- a pixel outside; the setup's own refusals come first
    ∷ (in_five [] 0 5 0, inr 18)
    ∷ (in_five [] 0 0 3, inr 18)
    ∷ (said (explained (picture 5 3 48) (only_m whole_line) (replicate 4 0) (replicate 14 0) [] 0 5 0), inr 2)
    ∷ (said (explained (picture 5 3 48) (only_m whole_line) (replicate 4 0) (replicate 15 0) [] 0 5 0), inr 6)
    -- one pixel: its second quarter marks it by the area, its first one by the last sample point
    ∷ (in_one (0 ∷ 160 ∷ 0 ∷ 0 ∷ []), inl (B.True (moment_at 1 2) 0))
    ∷ (in_one (97 ∷ 0 ∷ 0 ∷ 0 ∷ []), inl (B.True (moment_at 1 1) 5))
    -- one pixel by m: it waits for 8; 4, the second child of 0 to 8, finds no direction; 8 marks it; then the tape ends
    ∷ (in_m 1, inl (B.Waiting 2 1 (block_at 0 48 at_eight)))
    ∷ (in_m 2, inl (B.GivenUp (moment_at 2 2)))
    ∷ (in_m 3, inl (B.True (moment_at 3 1) 0))
    ∷ (in_m 4, inr 4)
    ∷ []

pub reasons_computed : Every (λ (r : (Reason ⊎ ℕ) × (Reason ⊎ ℕ)). r.0 ≡ r.1) reasons_table
unfolding explained beginning pixel_inside world_begun reason_after setup_answer setup_refusal ranges_legal first_bytes first_blocks cut_first_in
    root_block start_level least_from start_record start_ring start_cells painted_cells paintable picture_ready in_picture nameable run_from
    history_from answered_by reason_of last_mark last_point last_denial last_giving_up marks_in marks_here denies_here takes_here gives_up_here
    finds_none covers_at waiting_for block_behind any_of first_from last_from last_value latest_number latest_value reading is_given_up step_with
    unless after_taking judged world_left sound_record sound_last put_last legal_chosen legal_interval whole_bound zero_as put_interval
    starting_last remembered taken content older_stretch newer_stretch decode place_read with_x coordinate_read coordinate_of read_small
    read_behind level_read add_parameters add_parameter parameter_read add_direction undamaged cell_damaged in_range inside places pixel
    rectangle_of holds_cell held_cells some_of every_of is_damaged is_marked meaning_of cell_code directions used_of direction_at children_of
    children_xy kept_inside quarters_of all_legal legal_verdict outcomes all_true verdict_outcome undecided_outcome first_point count_leading_zeros
    incomplete_count events_for mark_events turn_events turned start_of searched_from queued_by queue_codes memory encode place_code
    coordinate_code parameters_code parameter_code small_code code_of tail_of cells_after painted done_to stored of_little_endian little_endian le
    of_bits to_bits round in_units same_interval rounded half_sum half_away whole_near kind_of middle_at cut_point_at subdivisible width_is keep_if
    unlike_next legal_three first_cut narrowed thinned later_cut bounds_code bounds_read used_read children_cut splits_at each_cut_first big_endian
    answer_from_bits of_big_endian_from ne
reasons_computed =
    (refl, (refl, (refl, (refl, (refl, (refl, (refl, (refl, (refl, (refl, (refl, (refl, (refl, (refl, (refl, (refl, (refl, tt)))))))))))))))))
