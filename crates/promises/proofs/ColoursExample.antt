-- What the colours say of document 01's first sheet: asked where x is at most half a pixel, with exact positions, its answers 80 00 are right; so its
-- white pixel holds no such point, and its black one does; and both being decided, none is grey. Assumes nothing.
use mathlib.Core.Path.{◌≡◌, refl}
use mathlib.Core.Logic.{inl}
use mathlib.Core.Bool.{◌&&◌}
use mathlib.Core.List.{[], ◌∷◌}
use Prim.Native.Nat.{ℕ, ◌*◌, ◌≤◌}
use native.Mathlib.Nat.{le_refl}
use native.Mathlib.Omega.{arith}
use lib.Dec.{T, leb, ltb, lit<}
use borrow.Author.Tests.{ltb-true}
use Rattle.base.proofs.Test.{T→≡, and_left, and_right}
use Rattle.theory.specs.Colours.{Question, HasSolution, Holds, NoneIn, said_false, said_true, denied, marked, OneInEach, judgement, FalseRight}
use Rattle.theory.specs.Colours.{MarkRight, DecidedBelow}
use Rattle.theory.specs.Levels.{sum_to, places_along}
use Rattle.theory.specs.Shapes.{begins_in, covers_along, covers_pixel}
use Rattle.theory.specs.Positions.{AtMost, exact_edge, LiesBetween}
use lib.Count.{count_trailing_zeros}
use lib.Ieee.{le}
use Rattle.small.specs.Small.{read_behind, read_small}
use Rattle.base.specs.Bytes.{little_endian, of_little_endian}
use Rattle.interval.specs.Bounds.{whole_bound, legal_interval, zero_as, put_interval}
use Rattle.coordinate.specs.Axis.{in_range, pixel, places, inside}
use Rattle.image.specs.declared.Reading.TheVariants as R
use Rattle.image.specs.Cell.{cell_code, meaning_of, is_marked}
use Rattle.image.specs.Range.{holds_cell, rectangle_of}
use Rattle.image.specs.Painting.{painted, held_cells, every_of}
use Rattle.queue.specs.Directions.{used_of, directions, direction_at}
use Rattle.queue.specs.Block.{remembered, starting_last}
use Rattle.queue.specs.Decode.{level_read, coordinate_of, coordinate_read, parameter_read, with_x, place_read, add_parameter, add_parameters, add_direction, decode}
use Rattle.queue.specs.Ring.{older_stretch, newer_stretch, content}
use Rattle.queue.specs.Queue.{taken, queue_of}
use Rattle.decide.specs.Damage.{legal_chosen, undamaged}
use Rattle.decide.specs.Children.{quarters_of, kept_inside, children_xy, children_of}
use Rattle.decide.specs.Verdict.{verdict_outcome}
use Rattle.plan.specs.Plan.{all_true, outcomes, incomplete_count}
use Rattle.queue.specs.declared.Block.{Block}
use Rattle.queue.specs.Block.{whole_line}
use Rattle.promises.specs.Chart.{Pixel, covers_in, queued_blocks}
use Rattle.implicit.specs.Setup.{least_from, start_level}
use Rattle.promises.specs.Steps.{reads_in}
use Rattle.promises.specs.Judgements.{said_by, becomes, judgements_with, judgements_of, judgements_taking, EveryAnswer}
use Rattle.promises.specs.Mixes.{Mix, question_of}
use Rattle.promises.proofs.Example.{sheet, first, begun, second, stepped, at, left_true, right_false}
use Rattle.promises.proofs.MixesExact.{exactly}
use Rattle.promises.proofs.Claims.{plane, corner, corner_given}
use Rattle.promises.proofs.Promises.{white_means_no, true_means_yes, decided_in_time}

-- at most half a pixel from the left edge
abbrev pub Near : Mix exactly → Type 0
Near a = 2 * a.x.num ≤ a.x.den

abbrev pub asked : Question Block (Pixel sheet.chosen)
asked = question_of exactly sheet.chosen sheet.ranges Near

-- the two children, at the pixels' own level
abbrev child : ℕ → Block
child i = record {
  x = record { index = i; rank = 48 };
  y = record { index = 0; rank = 48 };
  m = whole_line;
  n = whole_line;
  theta = whole_line;
  t = whole_line;
  dir = 0;
}

-- 80 marks the left one, 00 denies the right one
judgements_are : judgements_taking sheet.chosen first (128 ∷ 0 ∷ []) (queued_blocks first)
    ≡ judgement (child 0) said_true marked ∷ judgement (child 1) said_false denied ∷ []
unfolding judgements_taking judgements_of judgements_with becomes said_by queued_blocks queue_of legal_chosen legal_interval whole_bound zero_as
    put_interval starting_last remembered taken content older_stretch newer_stretch decode place_read with_x coordinate_read coordinate_of read_small
    read_behind level_read add_parameters add_parameter parameter_read add_direction undamaged in_range inside places pixel rectangle_of holds_cell
    held_cells every_of is_marked meaning_of cell_code directions used_of direction_at children_of children_xy kept_inside quarters_of outcomes all_true
    verdict_outcome incomplete_count painted of_little_endian little_endian le count_trailing_zeros
judgements_are = refl

-- the right one begins one pixel from the edge, so it holds no point that near
pub right_none : NoneIn (covers_in sheet.chosen) asked (child 1)
unfolding NoneIn Holds LiesBetween AtMost exact_edge
right_none a q given lies holds near = let l = holds.0.0.0.0 in omega (arith, l, near, a.x.den_pos)

answers_right : EveryAnswer sheet.chosen (FalseRight (covers_in sheet.chosen) asked) stepped
unfolding EveryAnswer stepped FalseRight
answers_right = (tt, rw judgements_are ((λ looked e. (let z : ◌≡◌ {A = ℕ} 0 1 = cc in absurd (omega arith))), ((λ looked e. right_none), tt)))

-- SO THE WHITE PIXEL HOLDS NONE
pub white : ¬ HasSolution asked (at 1 (lit< tt))
white = white_means_no exactly Near sheet begun 1 second stepped answers_right (at 1 (lit< tt)) right_false

-- the left one covers one pixel, and the picture's lower left corner lies in it
left_first : (q : Pixel sheet.chosen) → T (covers_in sheet.chosen (child 0) q) → q.x ≡ 0
unfolding covers_pixel covers_along begins_in
left_first q c =
    let e = T→≡ (covers_in sheet.chosen (child 0) q) c in
    let f = and_left (leb 0 q.x && ltb q.x 1) (leb 0 q.y && ltb q.y 1) e in
    omega (arith, ltb-true q.x 1 (and_right (leb 0 q.x) (ltb q.x 1) f))

left_one : OneInEach (covers_in sheet.chosen) asked (child 0)
unfolding OneInEach HasSolution corner LiesBetween AtMost exact_edge
left_one q c =
    let x = left_first q c in
    let y = q.y_in in
    (corner, corner_given, ((omega arith, omega arith), (omega arith, omega arith)), omega arith)

marks_right : EveryAnswer sheet.chosen (MarkRight (covers_in sheet.chosen) asked) stepped
unfolding EveryAnswer stepped MarkRight
marks_right = (tt, rw judgements_are ((λ looked e. left_one), ((λ looked e. (let z : ◌≡◌ {A = ℕ} 0 1 = cc in absurd (omega arith))), tt)))

-- AND THE BLACK ONE HOLDS ONE
pub black : HasSolution asked (at 0 (lit< tt))
black = true_means_yes exactly Near sheet begun stepped marks_right (at 0 (lit< tt)) left_true

-- ---- both children lie on a pixel's level and were decided, and one step is the customer's sum of 2 by 1
answers_decided : EveryAnswer sheet.chosen (DecidedBelow (λ b. b.x.rank) 48) stepped
unfolding EveryAnswer stepped DecidedBelow
answers_decided = (tt, rw judgements_are ((λ looked low e. (let z : ◌≡◌ {A = ℕ} 0 1 = cc in omega arith)), ((λ looked low e. (let z : ◌≡◌ {A = ℕ} 0 1 = cc in omega arith)), tt)))

-- SO NO PIXEL IS GREY
pub none_grey : (q : Pixel sheet.chosen) → ¬ (reads_in sheet.chosen second q ≡ R.Uncertain)
unfolding start_level least_from sum_to places_along
none_grey = (decided_in_time sheet begun plane (le_refl 1) stepped answers_decided (inl (le_refl 1))).1
