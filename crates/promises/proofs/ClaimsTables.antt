-- A table of tile counts beside the chart of two pixels of ExampleSteps, step by step; and beside a chart of 17 by 1, whose tiles are one of 16 pixels and
-- one of one, and whose second step touches the first tile alone; and one of 1 by 17, whose second tile is the bottom pixel. With a damaged cell beside the
-- block, a run that a byte stops, and a table that is filled. Every number is computed. Assumes nothing.
use mathlib.Core.Path.{◌≡◌, refl, ap}
use mathlib.Core.List.{List, [], ◌∷◌}
use Prim.Native.Nat.{ℕ, zero, suc, ◌-◌, ◌*◌}
use native.Mathlib.Omega.{arith}
use lib.Count.{count_trailing_zeros}
use lib.ListN.{get_or}
use lib.Ieee.{fits, le}
use Rattle.std.specs.Prelude.{Ok, Err}
use Rattle.refusal.specs.declared.Refusal.TheVariants as R
use Rattle.small.specs.Small.{tail_of, code_of, small_code, read_behind, read_small}
use Rattle.base.specs.Bytes.{little_endian, of_little_endian}
use Rattle.base.specs.Event.{queued_by}
use Rattle.interval.specs.Bounds.{whole_bound, legal_interval, zero_as, put_interval}
use Rattle.coordinate.specs.Axis.{in_range, pixel, places, inside}
use Rattle.image.specs.Cell.{cell_code, meaning_of, done_to, nameable, reading, is_marked, is_given_up, is_damaged, of_kind}
use Rattle.image.specs.Cell.{count_of, is_true, is_false, is_uncertain, tallied}
use Rattle.image.specs.Range.{holds_cell, in_picture, picture_ready, rectangle_of}
use Rattle.image.specs.Painting.{painted, paintable, painted_cells, held_cells, some_of, every_of, some_seen}
use Rattle.tiles.specs.Tiles.{tile_at, meets, touches, touched_tiles, touched_damaged, tile_number, recounted_where}
use Rattle.queue.specs.declared.Last.{Last}
use Rattle.queue.specs.Directions.{used_of, directions, direction_at}
use Rattle.queue.specs.Block.{whole_line, remembered, starting_last}
use Rattle.queue.specs.Code.{coordinate_code, parameter_code, parameters_code, place_code, encode}
use Rattle.queue.specs.Decode.{level_read, coordinate_of, coordinate_read, parameter_read, with_x, place_read, add_parameter, add_parameters, add_direction, decode}
use Rattle.queue.specs.Ring.{older_stretch, newer_stretch, content, stored}
use Rattle.queue.specs.Queue.{taken, queue_codes, memory}
use Rattle.decide.specs.declared.Chosen.{Chosen}
use Rattle.decide.specs.Damage.{legal_chosen, undamaged, cell_damaged}
use Rattle.decide.specs.Children.{quarters_of, kept_inside, children_xy, children_of}
use Rattle.decide.specs.Verdict.{legal_verdict, all_legal, undecided_outcome, verdict_outcome}
use Rattle.decide.specs.Turn.{start_of, searched_from, turned}
use Rattle.plan.specs.Plan.{all_true, outcomes, evaluations, incomplete_count, mark_events, turn_events, events_for, cells_after}
use Rattle.implicit.specs.declared.state.Ending.TheVariants as E
use Rattle.implicit.specs.Record.{sound_last, sound_record, put_last}
use Rattle.implicit.specs.Setup.{least_from, start_level, root_block, cut_first_in, first_blocks, ranges_legal, first_bytes, start_record, start_ring, start_cells}
use Rattle.implicit.specs.Step.{World, world_of, refused, finished, unless, world_left, judged, after_taking, step_with, step_of}
use Rattle.implicit.specs.Run.{has_run}
use Rattle.implicit.specs.Tiled.{tiled_setup_refusal, tiled_setup_answer, tiled_ring_begun, tiled_cells_begun, table_begun}
use Rattle.implicit.specs.Tiled.{tiled_after_taking, tiled_step_with, tiled_step_of, table_after}
use Rattle.implicit.specs.Tiled.{tiled_run_from, tiled_run_of, table_run_from, fill_answer, table_filled}
use Rattle.promises.specs.Steps.{Asked}
use Rattle.promises.specs.Tables.{TiledBegunAs, TiledSteps, no_tiled_steps, then_tiled_step, EqualsRecount}
use Rattle.promises.proofs.ExampleSteps.{two, after, right_last}

-- ---- two pixels, in one tile

-- the table lent to the setup, with two numbers behind the tile's
abbrev pub lent : List ℕ
lent = 9 ∷ 9 ∷ 9 ∷ 9 ∷ 8 ∷ 7 ∷ []

-- True, False, Uncertain and given up, after so many steps: both wait, both wait, the left one is denied, the right one is marked
abbrev pub counted : ℕ → List ℕ
counted zero = 0 ∷ 0 ∷ 2 ∷ 0 ∷ 8 ∷ 7 ∷ []
counted (suc zero) = 0 ∷ 0 ∷ 2 ∷ 0 ∷ 8 ∷ 7 ∷ []
counted (suc (suc zero)) = 0 ∷ 1 ∷ 1 ∷ 0 ∷ 8 ∷ 7 ∷ []
counted (suc (suc (suc n))) = 1 ∷ 1 ∷ 0 ∷ 0 ∷ 8 ∷ 7 ∷ []

-- "Setup fills it."
pub two_tabled : TiledBegunAs two lent (after 0) (counted 0)
unfolding tiled_setup_answer tiled_setup_refusal tiled_ring_begun tiled_cells_begun table_begun ranges_legal first_bytes first_blocks cut_first_in root_block start_level
    least_from start_record start_ring start_cells queue_codes memory encode place_code coordinate_code parameters_code parameter_code starting_last remembered
    small_code code_of tail_of little_endian stored painted_cells paintable painted picture_ready in_picture holds_cell nameable done_to meaning_of
    cell_code fits recounted_where tile_number tallied count_of held_cells tile_at reading is_true is_false is_uncertain is_given_up
two_tabled = record { accepted = refl; state = refl; ring = refl; cells = refl; table_left = refl; held = ((tt, tt), (tt, tt), (tt, tt), (tt, tt)) }

-- ".. that each step brings up to date": three steps with it,
pub three_tabled : (tiled_step_of 6 (after 0) (64 ∷ 64 ∷ []) ≡ finished (after 1) 2 2)
    × (tiled_step_of 6 (after 1) (0 ∷ 0 ∷ 0 ∷ 0 ∷ []) ≡ finished (after 2) 4 4)
    × (tiled_step_of 6 (after 2) (160 ∷ 0 ∷ 0 ∷ 0 ∷ []) ≡ finished (after 3) 1 4)
unfolding tiled_step_with tiled_after_taking touched_damaged touched_tiles some_seen of_kind picture_ready in_picture
    unless after_taking judged world_left sound_record sound_last put_last legal_chosen legal_interval whole_bound zero_as put_interval
    starting_last remembered taken content older_stretch newer_stretch decode place_read with_x coordinate_read coordinate_of read_small read_behind
    level_read add_parameters add_parameter parameter_read add_direction undamaged cell_damaged in_range inside places pixel rectangle_of holds_cell
    held_cells some_of every_of is_damaged is_marked meaning_of cell_code directions used_of direction_at children_of children_xy kept_inside quarters_of
    all_legal legal_verdict outcomes all_true verdict_outcome undecided_outcome evaluations incomplete_count events_for mark_events turn_events turned start_of
    searched_from queued_by queue_codes memory encode place_code coordinate_code parameters_code parameter_code small_code code_of tail_of cells_after
    painted done_to stored of_little_endian little_endian le count_trailing_zeros
three_tabled = (refl, refl, refl)

-- each on the record, ring, cells and table that the call before it left; and the table that it leaves, by computing
one_tabled : TiledSteps 1 (after 0) (counted 0) (after 1) (counted 1)
unfolding table_after recounted_where touches meets tile_at tile_number tallied count_of held_cells holds_cell rectangle_of pixel reading meaning_of is_true is_false
    is_uncertain is_given_up taken content older_stretch newer_stretch decode place_read with_x coordinate_read coordinate_of read_small read_behind level_read
    add_parameters add_parameter parameter_read add_direction directions used_of direction_at starting_last of_little_endian little_endian count_trailing_zeros
one_tabled = then_tiled_step {n = 0} {w = after 0} {w' = after 0} {w'' = after 1} {t = counted 0} {t' = counted 0} {t'' = counted 1}
    no_tiled_steps (64 ∷ 64 ∷ []) 2 2 three_tabled.0 refl

two_steps_tabled : TiledSteps 2 (after 0) (counted 0) (after 2) (counted 2)
unfolding table_after recounted_where touches meets tile_at tile_number tallied count_of held_cells holds_cell rectangle_of pixel reading meaning_of is_true is_false
    is_uncertain is_given_up taken content older_stretch newer_stretch decode place_read with_x coordinate_read coordinate_of read_small read_behind level_read
    add_parameters add_parameter parameter_read add_direction directions used_of direction_at starting_last of_little_endian little_endian count_trailing_zeros
two_steps_tabled = then_tiled_step {n = 1} {w = after 0} {w' = after 1} {w'' = after 2} {t = counted 0} {t' = counted 1} {t'' = counted 2}
    one_tabled (0 ∷ 0 ∷ 0 ∷ 0 ∷ []) 4 4 three_tabled.1 refl

pub ran_tabled : TiledSteps 3 (after 0) (counted 0) (after 3) (counted 3)
unfolding table_after recounted_where touches meets tile_at tile_number tallied count_of held_cells holds_cell rectangle_of pixel reading meaning_of is_true is_false
    is_uncertain is_given_up taken content older_stretch newer_stretch decode place_read with_x coordinate_read coordinate_of read_small read_behind level_read
    add_parameters add_parameter parameter_read add_direction directions used_of direction_at starting_last of_little_endian little_endian count_trailing_zeros
ran_tabled = then_tiled_step {n = 2} {w = after 0} {w' = after 2} {w'' = after 3} {t = counted 0} {t' = counted 2} {t'' = counted 3}
    two_steps_tabled (160 ∷ 0 ∷ 0 ∷ 0 ∷ []) 1 4 three_tabled.2 refl

-- "the table equals a recount", by computing both;
pub each_recounted : EqualsRecount two.chosen (after 0) (counted 0) × EqualsRecount two.chosen (after 2) (counted 2)
    × EqualsRecount two.chosen (after 3) (counted 3)
unfolding EqualsRecount recounted_where tile_at tile_number tallied count_of held_cells holds_cell reading meaning_of is_true is_false is_uncertain is_given_up
each_recounted = (refl, refl, refl)

-- and the one before the last step is no recount after it
pub stale_not : ¬ EqualsRecount two.chosen (after 3) (counted 2)
unfolding EqualsRecount recounted_where tile_at tile_number tallied count_of held_cells holds_cell reading meaning_of is_true is_false is_uncertain is_given_up
stale_not e = let z : ◌≡◌ {A = ℕ} 0 1 = ap (λ (l : List ℕ). get_or l 0 0) e in omega arith

-- ---- a run, on two good steps' verdicts and then a byte C0, which is no verdict: it stops by 5, and the table is that of the two steps
pub run_stopped :
    tiled_run_of 9 6 (after 0) (64 ∷ 64 ∷ 0 ∷ 0 ∷ 0 ∷ 0 ∷ 192 ∷ 0 ∷ 0 ∷ 0 ∷ [])
    ≡ has_run (record { world = after 2; steps = 2; evaluations = 6; tape = 6; ending = E.Stop R.Verdict })
unfolding tiled_step_with tiled_run_of tiled_run_from tiled_after_taking touched_damaged touched_tiles some_seen of_kind picture_ready in_picture
    unless after_taking judged world_left sound_record sound_last put_last legal_chosen legal_interval whole_bound zero_as put_interval
    starting_last remembered taken content older_stretch newer_stretch decode place_read with_x coordinate_read coordinate_of read_small read_behind
    level_read add_parameters add_parameter parameter_read add_direction undamaged cell_damaged in_range inside places pixel rectangle_of holds_cell
    held_cells some_of every_of is_damaged is_marked meaning_of cell_code directions used_of direction_at children_of children_xy kept_inside quarters_of
    all_legal legal_verdict outcomes all_true verdict_outcome undecided_outcome evaluations incomplete_count events_for mark_events turn_events turned start_of
    searched_from queued_by queue_codes memory encode place_code coordinate_code parameters_code parameter_code small_code code_of tail_of cells_after
    painted done_to stored of_little_endian little_endian le count_trailing_zeros
run_stopped = refl

pub run_counted : table_run_from 9 (after 0) (64 ∷ 64 ∷ 0 ∷ 0 ∷ 0 ∷ 0 ∷ 192 ∷ 0 ∷ 0 ∷ 0 ∷ []) (counted 0) ≡ counted 2
unfolding tiled_step_with table_run_from tiled_after_taking touched_damaged touched_tiles some_seen of_kind picture_ready in_picture
    unless after_taking judged world_left sound_record sound_last put_last legal_chosen legal_interval whole_bound zero_as put_interval
    starting_last remembered taken content older_stretch newer_stretch decode place_read with_x coordinate_read coordinate_of read_small read_behind
    level_read add_parameters add_parameter parameter_read add_direction undamaged cell_damaged in_range inside places pixel rectangle_of holds_cell
    held_cells some_of every_of is_damaged is_marked meaning_of cell_code directions used_of direction_at children_of children_xy kept_inside quarters_of
    all_legal legal_verdict outcomes all_true verdict_outcome undecided_outcome evaluations incomplete_count events_for mark_events turn_events turned start_of
    searched_from queued_by queue_codes memory encode place_code coordinate_code parameters_code parameter_code small_code code_of tail_of cells_after
    painted done_to stored of_little_endian little_endian le count_trailing_zeros
    table_after recounted_where touches meets tile_at tile_number tallied count_of reading is_true is_false is_uncertain is_given_up
run_counted = refl

-- ---- a table filled from the chart after two steps; one of three numbers is refused by 17
pub two_filled : (fill_answer (after 2).state (after 2).cells 6 ≡ Ok tt) × (table_filled (after 2).state (after 2).cells lent ≡ counted 2)
    × (fill_answer (after 2).state (after 2).cells 3 ≡ Err R.Table)
unfolding fill_answer sound_record sound_last put_last legal_chosen legal_interval whole_bound zero_as put_interval starting_last some_of is_damaged held_cells holds_cell
    meaning_of recounted_where tile_at tile_number tallied count_of reading is_true is_false is_uncertain is_given_up le fits
two_filled = (refl, refl, refl)

-- ---- "there 8 for the block also speaks of every cell in a touched tile": the right pixel's cell is damaged, and the block covers the left one. Without a
-- table the step is finished; with one it is refused by 8; and with one of three numbers by 17, which is told before it
abbrev harmed : ℕ → World
harmed n = world_of
    (record { chosen = two.chosen; taken = n; queued = 3; len = 16; head = 5 * n; used = 15 - 5 * n; front = starting_last; back = right_last })
    (1 ∷ 1 ∷ 1 ∷ 1 ∷ 0 ∷ 1 ∷ 0 ∷ 1 ∷ 0 ∷ 0 ∷ 3 ∷ 0 ∷ 1 ∷ 0 ∷ 0 ∷ 9 ∷ []) (1 ∷ 4294967298 ∷ [])

pub harmed_beside : (step_of (harmed 1) (0 ∷ 0 ∷ 0 ∷ 0 ∷ []) ≡ finished (harmed 2) 4 4)
    × (tiled_step_of 4 (harmed 1) (0 ∷ 0 ∷ 0 ∷ 0 ∷ []) ≡ refused R.Damaged)
    × (tiled_step_of 3 (harmed 1) (0 ∷ 0 ∷ 0 ∷ 0 ∷ []) ≡ refused R.Table)
unfolding tiled_step_with step_with tiled_after_taking touched_damaged touched_tiles some_seen of_kind picture_ready in_picture
    unless after_taking judged world_left sound_record sound_last put_last legal_chosen legal_interval whole_bound zero_as put_interval
    starting_last remembered taken content older_stretch newer_stretch decode place_read with_x coordinate_read coordinate_of read_small read_behind
    level_read add_parameters add_parameter parameter_read add_direction undamaged cell_damaged in_range inside places pixel rectangle_of holds_cell
    held_cells some_of every_of is_damaged is_marked meaning_of cell_code directions used_of direction_at children_of children_xy kept_inside quarters_of
    all_legal legal_verdict outcomes all_true verdict_outcome undecided_outcome evaluations incomplete_count events_for mark_events turn_events turned start_of
    searched_from queued_by queue_codes memory encode place_code coordinate_code parameters_code parameter_code small_code code_of tail_of cells_after
    painted done_to stored of_little_endian little_endian le count_trailing_zeros
harmed_beside = (refl, refl, refl)

-- ---- 17 by 1: the second tile is one pixel wide

abbrev pub wide : Asked
wide = record {
  chosen = record { width = 17; height = 1; set = 48; reserved1 = 0; reserved2 = 0; reserved3 = 0 };
  ranges = record { m = whole_line; n = whole_line; theta = whole_line; t = whole_line };
  ring = 9 ∷ 9 ∷ 9 ∷ 9 ∷ 9 ∷ 9 ∷ 9 ∷ 9 ∷ 9 ∷ 9 ∷ 9 ∷ 9 ∷ 9 ∷ 9 ∷ 9 ∷ 9 ∷ [];
  cells = 7 ∷ 7 ∷ 7 ∷ 7 ∷ 7 ∷ 7 ∷ 7 ∷ 7 ∷ 7 ∷ 7 ∷ 7 ∷ 7 ∷ 7 ∷ 7 ∷ 7 ∷ 7 ∷ 7 ∷ [];
}

-- what the setup leaves: the first step cuts its block into one of the first tile's pixels and one of the second's; the second denies the first one's children
abbrev wide_begun : World
wide_begun = world_of
    (record { chosen = wide.chosen; taken = 0; queued = 1; len = 16; head = 0; used = 5; front = starting_last; back = starting_last })
    (1 ∷ 5 ∷ 1 ∷ 5 ∷ 0 ∷ 9 ∷ 9 ∷ 9 ∷ 9 ∷ 9 ∷ 9 ∷ 9 ∷ 9 ∷ 9 ∷ 9 ∷ 9 ∷ [])
    (0 ∷ 0 ∷ 0 ∷ 0 ∷ 0 ∷ 0 ∷ 0 ∷ 0 ∷ 0 ∷ 0 ∷ 0 ∷ 0 ∷ 0 ∷ 0 ∷ 0 ∷ 0 ∷ 0 ∷ [])

abbrev wide_cut : World
wide_cut = world_of
    (record { chosen = wide.chosen; taken = 1; queued = 3; len = 16; head = 5; used = 10; front = starting_last; back = right_last })
    (1 ∷ 5 ∷ 1 ∷ 5 ∷ 0 ∷ 1 ∷ 4 ∷ 1 ∷ 4 ∷ 0 ∷ 3 ∷ 4 ∷ 1 ∷ 4 ∷ 0 ∷ 9 ∷ [])
    (1 ∷ 1 ∷ 1 ∷ 1 ∷ 1 ∷ 1 ∷ 1 ∷ 1 ∷ 1 ∷ 1 ∷ 1 ∷ 1 ∷ 1 ∷ 1 ∷ 1 ∷ 1 ∷ 2 ∷ [])

abbrev wide_denied : World
wide_denied = world_of
    (record { chosen = wide.chosen; taken = 2; queued = 3; len = 16; head = 10; used = 5; front = starting_last; back = right_last })
    (1 ∷ 5 ∷ 1 ∷ 5 ∷ 0 ∷ 1 ∷ 4 ∷ 1 ∷ 4 ∷ 0 ∷ 3 ∷ 4 ∷ 1 ∷ 4 ∷ 0 ∷ 9 ∷ [])
    (1 ∷ 1 ∷ 1 ∷ 1 ∷ 1 ∷ 1 ∷ 1 ∷ 1 ∷ 1 ∷ 1 ∷ 1 ∷ 1 ∷ 1 ∷ 1 ∷ 1 ∷ 1 ∷ 2 ∷ [])

pub wide_tabled : TiledBegunAs wide (9 ∷ 9 ∷ 9 ∷ 9 ∷ 9 ∷ 9 ∷ 9 ∷ 9 ∷ 9 ∷ []) wide_begun (0 ∷ 0 ∷ 16 ∷ 0 ∷ 0 ∷ 0 ∷ 1 ∷ 0 ∷ 9 ∷ [])
unfolding tiled_setup_answer tiled_setup_refusal tiled_ring_begun tiled_cells_begun table_begun ranges_legal first_bytes first_blocks cut_first_in root_block start_level
    least_from start_record start_ring start_cells queue_codes memory encode place_code coordinate_code parameters_code parameter_code starting_last remembered
    small_code code_of tail_of little_endian stored painted_cells paintable painted picture_ready in_picture holds_cell nameable done_to meaning_of
    cell_code fits recounted_where tile_number tallied count_of held_cells tile_at reading is_true is_false is_uncertain is_given_up
wide_tabled = record { accepted = refl; state = refl; ring = refl; cells = refl; table_left = refl; held = ((tt, tt), (tt, tt), (tt, tt), (tt, tt)) }

pub wide_steps : (tiled_step_of 9 wide_begun (64 ∷ 64 ∷ []) ≡ finished wide_cut 2 2) × (tiled_step_of 9 wide_cut (0 ∷ 0 ∷ []) ≡ finished wide_denied 2 2)
unfolding tiled_step_with tiled_after_taking touched_damaged touched_tiles some_seen of_kind picture_ready in_picture
    unless after_taking judged world_left sound_record sound_last put_last legal_chosen legal_interval whole_bound zero_as put_interval
    starting_last remembered taken content older_stretch newer_stretch decode place_read with_x coordinate_read coordinate_of read_small read_behind
    level_read add_parameters add_parameter parameter_read add_direction undamaged cell_damaged in_range inside places pixel rectangle_of holds_cell
    held_cells some_of every_of is_damaged is_marked meaning_of cell_code directions used_of direction_at children_of children_xy kept_inside quarters_of
    all_legal legal_verdict outcomes all_true verdict_outcome undecided_outcome evaluations incomplete_count events_for mark_events turn_events turned start_of
    searched_from queued_by queue_codes memory encode place_code coordinate_code parameters_code parameter_code small_code code_of tail_of cells_after
    painted done_to stored of_little_endian little_endian le count_trailing_zeros
wide_steps = (refl, refl)

-- the tables: 16 pixels and one wait; then the 16 are False. "A touched tile's new counts don't depend on what the table held before", and "a step changes
-- no tile that the taken block doesn't touch": of a table of other numbers the first four are the same afterwards, and the others stay
pub wide_counted :
    (table_after wide_begun (0 ∷ 0 ∷ 16 ∷ 0 ∷ 0 ∷ 0 ∷ 1 ∷ 0 ∷ 9 ∷ []) (finished wide_cut 2 2) ≡ 0 ∷ 0 ∷ 16 ∷ 0 ∷ 0 ∷ 0 ∷ 1 ∷ 0 ∷ 9 ∷ [])
    × (table_after wide_cut (0 ∷ 0 ∷ 16 ∷ 0 ∷ 0 ∷ 0 ∷ 1 ∷ 0 ∷ 9 ∷ []) (finished wide_denied 2 2) ≡ 0 ∷ 16 ∷ 0 ∷ 0 ∷ 0 ∷ 0 ∷ 1 ∷ 0 ∷ 9 ∷ [])
    × (table_after wide_cut (5 ∷ 5 ∷ 5 ∷ 5 ∷ 6 ∷ 6 ∷ 6 ∷ 6 ∷ 7 ∷ []) (finished wide_denied 2 2) ≡ 0 ∷ 16 ∷ 0 ∷ 0 ∷ 6 ∷ 6 ∷ 6 ∷ 6 ∷ 7 ∷ [])
unfolding table_after recounted_where touches meets tile_at tile_number tallied count_of held_cells holds_cell rectangle_of pixel reading meaning_of is_true is_false
    is_uncertain is_given_up taken content older_stretch newer_stretch decode place_read with_x coordinate_read coordinate_of read_small read_behind level_read
    add_parameters add_parameter parameter_read add_direction directions used_of direction_at starting_last of_little_endian little_endian count_trailing_zeros
wide_counted = (refl, refl, refl)

-- ---- 1 by 17: y goes up from the bottom, rows and tiles are from the top, so the second tile is the bottom pixel

abbrev tall : Chosen
tall = record { width = 1; height = 17; set = 48; reserved1 = 0; reserved2 = 0; reserved3 = 0 }

abbrev top_last : Last
top_last = record { x = 0; y = 1; m = whole_line; n = whole_line; theta = whole_line; t = whole_line }

-- the first block is cut into the 16 pixels at the bottom and the top one; the first of these is denied, then the other
abbrev tall_cut : World
tall_cut = world_of
    (record { chosen = tall; taken = 1; queued = 3; len = 16; head = 5; used = 10; front = starting_last; back = top_last })
    (1 ∷ 5 ∷ 1 ∷ 5 ∷ 0 ∷ 1 ∷ 4 ∷ 1 ∷ 4 ∷ 0 ∷ 1 ∷ 4 ∷ 3 ∷ 4 ∷ 0 ∷ 9 ∷ [])
    (2 ∷ 1 ∷ 1 ∷ 1 ∷ 1 ∷ 1 ∷ 1 ∷ 1 ∷ 1 ∷ 1 ∷ 1 ∷ 1 ∷ 1 ∷ 1 ∷ 1 ∷ 1 ∷ 1 ∷ [])

abbrev tall_denied : World
tall_denied = world_of
    (record { chosen = tall; taken = 2; queued = 3; len = 16; head = 10; used = 5; front = starting_last; back = top_last }) tall_cut.ring tall_cut.cells

abbrev tall_done : World
tall_done = world_of
    (record { chosen = tall; taken = 3; queued = 3; len = 16; head = 15; used = 0; front = top_last; back = top_last }) tall_cut.ring tall_cut.cells

pub tall_steps : (tiled_step_of 9 tall_cut (0 ∷ 0 ∷ []) ≡ finished tall_denied 2 2) × (tiled_step_of 9 tall_denied (0 ∷ []) ≡ finished tall_done 1 1)
unfolding tiled_step_with tiled_after_taking touched_damaged touched_tiles some_seen of_kind picture_ready in_picture
    unless after_taking judged world_left sound_record sound_last put_last legal_chosen legal_interval whole_bound zero_as put_interval
    starting_last remembered taken content older_stretch newer_stretch decode place_read with_x coordinate_read coordinate_of read_small read_behind
    level_read add_parameters add_parameter parameter_read add_direction undamaged cell_damaged in_range inside places pixel rectangle_of holds_cell
    held_cells some_of every_of is_damaged is_marked meaning_of cell_code directions used_of direction_at children_of children_xy kept_inside quarters_of
    all_legal legal_verdict outcomes all_true verdict_outcome undecided_outcome evaluations incomplete_count events_for mark_events turn_events turned start_of
    searched_from queued_by queue_codes memory encode place_code coordinate_code parameters_code parameter_code small_code code_of tail_of cells_after
    painted done_to stored of_little_endian little_endian le count_trailing_zeros
tall_steps = (refl, refl)

-- the lower block touches both tiles, the top pixel's the first alone
pub tall_counted :
    (table_after tall_cut (5 ∷ 5 ∷ 5 ∷ 5 ∷ 6 ∷ 6 ∷ 6 ∷ 6 ∷ 7 ∷ []) (finished tall_denied 2 2) ≡ 0 ∷ 15 ∷ 1 ∷ 0 ∷ 0 ∷ 1 ∷ 0 ∷ 0 ∷ 7 ∷ [])
    × (table_after tall_denied (5 ∷ 5 ∷ 5 ∷ 5 ∷ 6 ∷ 6 ∷ 6 ∷ 6 ∷ 7 ∷ []) (finished tall_done 1 1) ≡ 0 ∷ 16 ∷ 0 ∷ 0 ∷ 6 ∷ 6 ∷ 6 ∷ 6 ∷ 7 ∷ [])
unfolding table_after recounted_where touches meets tile_at tile_number tallied count_of held_cells holds_cell rectangle_of pixel reading meaning_of is_true is_false
    is_uncertain is_given_up taken content older_stretch newer_stretch decode place_read with_x coordinate_read coordinate_of read_small read_behind level_read
    add_parameters add_parameter parameter_read add_direction directions used_of direction_at starting_last of_little_endian little_endian count_trailing_zeros
tall_counted = (refl, refl)
