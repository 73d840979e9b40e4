-- The whole promise by boxes, of closed numbers: the chart of two pixels with its edges at 0 and 2, and the relation that says: not under 3/2. The first step leaves
-- both pixels open, the second denies the four parts of the left one, each after a look at its box; so the left pixel, which reads False, holds none. Assumes nothing.
use mathlib.Core.Path.{◌≡◌, refl, ap}
use mathlib.Core.Bool.{Bool, true, false, false≢true}
use Prim.Native.Nat.{ℕ}
use native.Mathlib.Nat.{zero-lt-suc}
use lib.Dec.{lit≤}
use lib.IntN.{pos}
use lib.Count.{count_trailing_zeros}
use lib.Ieee.{of_bits, to_bits, of_fields, add, mul, div, neg, lt, le, eq, round, sum, units, odd, size, span, climb}
use Rattle.base.specs.Bytes.{little_endian, of_little_endian}
use Rattle.interval.specs.declared.Interval.{Interval}
use Rattle.interval.specs.Bounds.{in_units, zero_as, put_interval, legal_interval, whole_bound}
use Rattle.interval.specs.Middle.{rounded, half_sum}
use Rattle.interval.specs.Kinds.{kind_of, middle_at}
use Rattle.interval.specs.Next.{next_below, next_above}
use Rattle.coordinate.specs.declared.Coordinate.{Coordinate}
use Rattle.coordinate.specs.Axis.{in_range, places, inside, pixel}
use Rattle.small.specs.Small.{read_behind, read_small}
use Rattle.image.specs.Cell.{cell_code, meaning_of, reading, is_marked}
use Rattle.image.specs.Range.{holds_cell, rectangle_of}
use Rattle.image.specs.Painting.{held_cells, every_of, painted}
use Rattle.boxes.specs.declared.Edges.{Edges}
use Rattle.std.specs.Prelude.{Result, Ok}
use Rattle.refusal.specs.declared.Refusal.{Refusal}
use Rattle.boxes.specs.declared.BlockBox.{BlockBox}
use Rattle.boxes.specs.declared.transformation.MapKind.TheVariants as K
use Rattle.boxes.specs.Arithmetic.{least_of, greatest_of, around, plus, negative, minus, times, over}
use Rattle.boxes.specs.Maps.{slope_of, map_of, image_of}
use Rattle.boxes.specs.Pixels.{in_pixels, point_at, axis_map, low_edge, high_edge}
use Rattle.boxes.specs.Boxes.{middle_of, low_end, high_end, box_along, box_of}
use Rattle.boxes.specs.Ratios.{Ratio, ◌⊑◌, of_units, NotUnder}
use Rattle.boxes.proofs.RatioLaws.{⊑_trans}
use Rattle.queue.specs.Directions.{used_of, directions, direction_at}
use Rattle.queue.specs.Block.{remembered, starting_last}
use Rattle.queue.specs.Decode.{level_read, coordinate_of, coordinate_read, parameter_read, with_x, place_read, add_parameter, add_parameters, add_direction, decode}
use Rattle.queue.specs.Ring.{older_stretch, newer_stretch, content}
use Rattle.queue.specs.Queue.{taken, queue_of}
use Rattle.decide.specs.Children.{quarters_of, kept_inside, children_xy, children_of}
use Rattle.decide.specs.Verdict.{undecided_outcome, verdict_outcome}
use Rattle.decide.specs.Turn.{start_of, searched_from, turned}
use Rattle.decide.specs.Damage.{legal_chosen, undamaged}
use Rattle.plan.specs.Plan.{all_true, outcomes, incomplete_count}
use Rattle.theory.specs.Colours.{Said, said_false, said_true, said_undecided, HasSolution}
use Rattle.promises.specs.Chart.{queued_blocks}
use Rattle.promises.specs.Steps.{reads_in}
use Rattle.promises.specs.Judgements.{said_by, after_turning, becomes, judgements_with, judgements_of, judgements_taking, EveryAnswer}
use Rattle.promises.specs.Mixes.{Mix, question_of}
use Rattle.promises.specs.ByBoxes.{NoneInBox, SolvesWhereItStands, JudgedByBox}
use Rattle.promises.proofs.MixesExact.{exactly}
use Rattle.promises.proofs.ExampleSteps.{two, two_begun, after, ran, left}
use Rattle.promises.proofs.Promises.{white_by_boxes, fractions_placed}
use Rattle.promises.proofs.ClaimsBoxes.{bounds, two_pixels, two_stand, of_two}

abbrev three_halves : Ratio
three_halves = record { num = pos 3; den = 2; den_pos = zero-lt-suc 1 }

-- the relation: not under 3/2
abbrev High : (u v : Ratio) → Mix exactly → Type 0
High u v a = three_halves ⊑ u

-- the edges of the four parts stand at 0, 1/2 and 1
abbrev zero_at : Interval
zero_at = bounds 0x8000000000000004 0x0000000000000004

abbrev half_at : Interval
half_at = bounds 0x3fdffffffffffffa 0x3fe0000000000005

abbrev one_at : Interval
one_at = bounds 0x3feffffffffffffa 0x3ff0000000000005

abbrev edges_of : Interval → Interval → Interval → Interval → Edges
edges_of l r b t = record { left = l; right = r; bottom = b; top = t }

-- their narrowed ends
abbrev first_half : Interval
first_half = bounds 0x8000000000000004 0x3fe0000000000001

abbrev second_half : Interval
second_half = bounds 0x3fe0000000000001 0x3ff0000000000005

-- an index half a pixel long
abbrev part_at : ℕ → Coordinate
part_at i = record { index = i; rank = 47 }

abbrev boxed : Edges → Interval → Interval → BlockBox
boxed e x y = record { edges = e; x = x; y = y }

abbrev part_box : ℕ → ℕ → Result BlockBox Refusal
part_box i j = box_of two_pixels K.Quick (part_at i) (part_at j)

part_boxes : (part_box 0 0 ≡ Ok (boxed (edges_of zero_at half_at zero_at half_at) first_half first_half))
    × (part_box 1 0 ≡ Ok (boxed (edges_of half_at one_at zero_at half_at) second_half first_half))
    × (part_box 0 1 ≡ Ok (boxed (edges_of zero_at half_at half_at one_at) first_half second_half))
    × (part_box 1 1 ≡ Ok (boxed (edges_of half_at one_at half_at one_at) second_half second_half))
unfolding box_of box_along low_end high_end middle_of low_edge high_edge axis_map point_at in_pixels image_of map_of slope_of over times minus negative plus around
    greatest_of least_of next_below next_above put_interval zero_as legal_interval whole_bound in_units rounded half_sum kind_of middle_at in_range places inside of_bits to_bits
    of_fields add mul div neg lt le eq round sum units odd size span climb
part_boxes = (refl, refl, refl, refl)

-- their right bounds are under 3/2
half_under : (u : Ratio) → NotUnder half_at.upper u → ¬ (three_halves ⊑ u)
unfolding of_bits in_units of_fields odd
half_under u h k = ⊑_trans three_halves u (of_units (in_units half_at.upper)) k h

one_under : (u : Ratio) → NotUnder one_at.upper u → ¬ (three_halves ⊑ u)
unfolding of_bits in_units of_fields odd
one_under u h k = ⊑_trans three_halves u (of_units (in_units one_at.upper)) k h

says_no : Said → Bool
says_no said_false = true
says_no said_true = false
says_no said_undecided = false

-- to leave open is to say no no
left_open : said_undecided ≡ said_false → ⊥
unfolding says_no
left_open e = false≢true (ap says_no e)

-- every no of the two steps was in order
parts_judged : EveryAnswer two.chosen (JudgedByBox exactly two_pixels High) (ran 2 (lit≤ tt))
unfolding EveryAnswer ran JudgedByBox NoneInBox judgements_taking judgements_of judgements_with said_by becomes after_turning queued_blocks queue_of
    legal_interval whole_bound zero_as put_interval starting_last remembered taken content older_stretch newer_stretch decode place_read with_x coordinate_read
    coordinate_of read_small read_behind level_read add_parameters add_parameter parameter_read add_direction in_range inside places pixel directions used_of
    direction_at children_of children_xy kept_inside quarters_of outcomes all_true verdict_outcome undecided_outcome incomplete_count turned start_of searched_from
    rectangle_of holds_cell held_cells every_of is_marked meaning_of cell_code of_little_endian little_endian le count_trailing_zeros legal_chosen undamaged painted
parts_judged = (
  (tt, ((λ l e. absurd (left_open e)), ((λ l e. absurd (left_open e)), tt))),
  (
    (λ l e. (K.Quick, boxed (edges_of zero_at half_at zero_at half_at) first_half first_half, part_boxes.0, λ u v a h k held. half_under u h.1)),
    (
      (λ l e. (K.Quick, boxed (edges_of half_at one_at zero_at half_at) second_half first_half, part_boxes.1, λ u v a h k held. one_under u h.1)),
      (
        (λ l e. (K.Quick, boxed (edges_of zero_at half_at half_at one_at) first_half second_half, part_boxes.2, λ u v a h k held. half_under u h.1)),
        ((λ l e. (K.Quick, boxed (edges_of half_at one_at half_at one_at) second_half second_half, part_boxes.3, λ u v a h k held. one_under u h.1)), tt),
      ),
    ),
  ),
)

-- the left pixel reads False, and holds no solution
pub left_white : ¬ HasSolution (question_of exactly two.chosen two.ranges (SolvesWhereItStands exactly two_pixels High fractions_placed two_stand)) left
unfolding reads_in reading meaning_of
left_white = white_by_boxes exactly fractions_placed two_pixels two_stand High two two_begun of_two 2 (after 2) (ran 2 (lit≤ tt)) parts_judged left refl
