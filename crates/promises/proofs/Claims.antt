-- What the sentences claim of the charts of ExampleSteps: `Claim (s ..)` is the statement that the sentence s makes of these steps, and it is proved by
-- computing, without s. So a sentence that is wrong fails here, on closed numbers. At the end, what three of the words say of blocks
-- and of intervals that are made up for it. Assumes nothing.
use mathlib.Core.Path.{◌≡◌, refl, sym, ap, subst}
use mathlib.Core.Logic.{◌⊎◌, inl, inr}
use mathlib.Core.Bool.{Bool, true, false, not, ◌&&◌, false≢true}
use mathlib.Core.List.{[], ◌∷◌}
use Prim.Native.Nat.{ℕ, zero, suc, ◌<◌}
use native.Mathlib.Nat.{le_refl}
use native.Mathlib.Omega.{arith}
use lib.Count.{count_trailing_zeros}
use lib.Dec.{T, eqb, lit<, lit≤}
use lib.Ieee.{fin, le}
use lib.IntN.{ℤ, pos}
use lib.ListN.{length}
use Rattle.small.specs.Small.{read_behind, read_small}
use Rattle.base.specs.Bytes.{little_endian, of_little_endian}
use Rattle.base.specs.Event.{queued_by}
use Rattle.interval.specs.declared.Interval.{Interval}
use Rattle.interval.specs.Bounds.{whole_bound, legal_interval, zero_as, put_interval, in_units}
use Rattle.coordinate.specs.Axis.{in_range, pixel, places, inside}
use Rattle.image.specs.declared.Reading.{Reading}
use Rattle.image.specs.declared.Reading.TheVariants as R
use Rattle.image.specs.Cell.{byte_of, cell_code, meaning_of, done_to, reading, is_marked}
use Rattle.image.specs.Range.{holds_cell, rectangle_of}
use Rattle.image.specs.Painting.{painted, held_cells, every_of}
use Rattle.boxes.specs.Ratios.{of_units}
use Rattle.queue.specs.declared.Block.{Block}
use Rattle.queue.specs.declared.directions.Direction.{Direction}
use Rattle.queue.specs.declared.directions.Direction.TheVariants as D
use Rattle.queue.specs.Directions.{used_of, directions, direction_at}
use Rattle.queue.specs.Block.{whole_line, remembered, starting_last, with_parameter}
use Rattle.queue.specs.Decode.{level_read, coordinate_of, coordinate_read, parameter_read, with_x, place_read, add_parameter, add_parameters, add_direction, decode}
use Rattle.queue.specs.Ring.{older_stretch, newer_stretch, content}
use Rattle.queue.specs.Queue.{taken, queue_of}
use Rattle.decide.specs.Damage.{legal_chosen, undamaged}
use Rattle.decide.specs.Children.{quarters_of, kept_inside, children_xy, children_of}
use Rattle.decide.specs.Verdict.{undecided_outcome, verdict_outcome}
use Rattle.decide.specs.Turn.{start_of, searched_from, turned}
use Rattle.plan.specs.Plan.{all_true, outcomes, incomplete_count, mark_events, turn_events, events_for}
use Rattle.implicit.specs.Setup.{least_from, start_level}
use Rattle.theory.specs.Demand3.{any_gives_up, CoversAtMostOne}
use Rattle.theory.specs.Levels.{sum_to, places_along}
use Rattle.theory.specs.Shapes.{begins_in, covers_along, covers_pixel}
use Rattle.theory.specs.Colours.{HasSolution}
use Rattle.theory.specs.Positions.{AtMost, exact_edge, LiesBetween}
use Rattle.theory.specs.Cuts.{Span, FromEnd, UpToEnd, InSpan, OverEnd, UnderEnd, Owes}
use Rattle.theory.proofs.Bounds.{same_pixel}
use Rattle.promises.specs.Chart.{Pixel, covers_in, queued_blocks}
use Rattle.promises.specs.Steps.{no_steps, reads_in, NoneQueuedCovers, GivenUpIn, gave_up_taking, queued_since, new_taking, PlaneOnly}
use Rattle.promises.specs.Judgements.{EveryAnswer}
use Rattle.promises.specs.Mixes.{Mix, whole_of, end_by, integers, LiesIn, HeldIn, question_of}
use Rattle.promises.specs.Sentences.{FalseRule, FalseStays, LeavesAfter, PixelBound, WhiteMeansNo}
use Rattle.promises.proofs.MixesExact.{exactly}
use Rattle.promises.proofs.ExampleSteps.{two, after, ran, ran_on, last_step, left, right, one, waits, given_up, gave_up, only}

-- the statement that s proves
abbrev pub Claim : {P : Type 0} → P → Type 0
Claim {P} s = P

-- ---- "A pixel reads False exactly if .."

-- are two readings the same?
unfoldable pub same : Reading → Reading → Bool
same a b = eqb (byte_of a) (byte_of b)

-- from two that are not, taken to be equal, all follows
pub not_this : {P : Type 0} (a b : Reading) → T (not (same a b)) → a ≡ b → P
unfolding same
not_this a b h e = absurd (apart (same a b) h (subst (λ (r : Reading). T (same a r)) e (self a)))
  where
    self : (r : Reading) → T (same r r)
    self R.False = tt
    self R.Uncertain = tt
    self R.True = tt

    apart : (t : Bool) → T (not t) → T t → ⊥
    apart true h k = h
    apart false h k = k

-- the one pixel was given up, and reads Uncertain; it isn't True, and nothing is queued
pub was_given_up : GivenUpIn one.chosen gave_up only
unfolding GivenUpIn gave_up gave_up_taking any_gives_up queued_blocks queue_of legal_interval whole_bound zero_as put_interval starting_last remembered
    taken content older_stretch newer_stretch decode place_read with_x coordinate_read coordinate_of read_small read_behind level_read add_parameters
    add_parameter parameter_read add_direction in_range directions used_of direction_at of_little_endian little_endian le count_trailing_zeros undamaged
    legal_chosen inside places pixel rectangle_of holds_cell held_cells every_of is_marked meaning_of cell_code children_of children_xy kept_inside
    quarters_of outcomes all_true verdict_outcome undecided_outcome incomplete_count events_for mark_events turn_events turned start_of searched_from painted
    done_to queued_by covers_pixel covers_along begins_in
was_given_up = inr tt

pub given_up_waits : (s : FalseRule one waits) → Claim (s 1 given_up gave_up only)
unfolding reads_in reading meaning_of same
given_up_waits s = (not_this _ _ tt, (λ (not_true, not_up, none). absurd (not_up was_given_up)))

-- of the two pixels, after the second step: the left one reads False, and none of the three holds of it; a queued block covers the right one
pub left_is_false : (s : FalseRule two (after 0)) → Claim (s 2 (after 2) (ran 2 (lit≤ tt)) left)
unfolding reads_in reading same ran GivenUpIn gave_up_taking any_gives_up NoneQueuedCovers covers_pixel covers_along begins_in queued_blocks queue_of
    legal_interval whole_bound zero_as put_interval starting_last remembered taken content older_stretch newer_stretch decode place_read with_x
    coordinate_read coordinate_of read_small read_behind level_read add_parameters add_parameter parameter_read add_direction in_range directions
    used_of direction_at of_little_endian little_endian le count_trailing_zeros undamaged legal_chosen inside places pixel rectangle_of holds_cell
    held_cells every_of is_marked meaning_of cell_code children_of children_xy kept_inside quarters_of outcomes all_true verdict_outcome undecided_outcome
    incomplete_count events_for mark_events turn_events turned start_of searched_from painted done_to queued_by
left_is_false s = ((λ e. (not_this _ _ tt, never, ((λ t. t), tt))), (λ h. refl))
  where
    never : (⊥ ⊎ ⊥) ⊎ ⊥ → ⊥
    never (inl (inl z)) = z
    never (inl (inr z)) = z
    never (inr z) = z

pub right_waits : (s : FalseRule two (after 0)) → Claim (s 2 (after 2) (ran 2 (lit≤ tt)) right)
unfolding reads_in reading meaning_of same NoneQueuedCovers covers_pixel covers_along begins_in queued_blocks queue_of legal_interval whole_bound
    zero_as put_interval starting_last remembered taken content older_stretch newer_stretch decode place_read with_x coordinate_read coordinate_of read_small
    read_behind level_read add_parameters add_parameter parameter_read add_direction in_range directions used_of direction_at of_little_endian
    little_endian le count_trailing_zeros
right_waits s = (not_this _ _ tt, (λ (not_true, not_up, none). absurd (none.0 tt)))

-- and after the third the right one is True
pub right_is_true : (s : FalseRule two (after 0)) → Claim (s 3 (after 3) (ran 3 (lit≤ tt)) right)
unfolding reads_in reading meaning_of same
right_is_true s = (not_this _ _ tt, (λ (not_true, not_up, none). absurd (not_true refl)))

-- ---- "A pixel that reads False stays False."

-- the left pixel reads False after the second step, and after the third too
pub left_stays_false : (s : FalseStays two (after 0)) → Claim (s 2 1 (after 2) (after 3) (ran 2 (lit≤ tt)) last_step left)
unfolding reads_in reading meaning_of
left_stays_false s e = refl

-- the right pixel reads Uncertain after the second and True after the third, so of it the sentence says nothing
pub right_becomes_true : (s : FalseStays two (after 0)) → Claim (s 2 1 (after 2) (after 3) (ran 2 (lit≤ tt)) last_step right)
unfolding reads_in reading meaning_of same
right_becomes_true s = not_this _ _ tt

-- ---- "A block with d blocks before it has left the queue after d + 1 further finished steps"

-- two blocks wait after the first step; after so many more the second has left, and nothing is queued
pub two_wait : 1 < length (queued_blocks (after 1))
unfolding queued_blocks queue_of legal_interval whole_bound zero_as put_interval starting_last remembered taken content older_stretch newer_stretch decode
    place_read with_x coordinate_read coordinate_of read_small read_behind level_read add_parameters add_parameter parameter_read add_direction in_range
    directions used_of direction_at of_little_endian little_endian le count_trailing_zeros
two_wait = lit< tt

pub second_leaves : (s : LeavesAfter two (after 0)) → Claim (s 1 1 (after 1) _ (ran 1 (lit≤ tt)) (ran_on _ (lit≤ tt)) two_wait)
unfolding ran_on queued_since new_taking queued_blocks queue_of legal_interval whole_bound zero_as put_interval starting_last remembered taken
    content older_stretch newer_stretch decode place_read with_x coordinate_read coordinate_of read_small read_behind level_read add_parameters add_parameter
    parameter_read add_direction in_range directions used_of direction_at of_little_endian little_endian le count_trailing_zeros undamaged legal_chosen
    inside places pixel rectangle_of holds_cell held_cells every_of is_marked meaning_of cell_code children_of children_xy kept_inside quarters_of
    outcomes all_true verdict_outcome undecided_outcome incomplete_count events_for mark_events turn_events turned start_of searched_from painted done_to
    queued_by
second_leaves s = refl

-- one block waits after the setup; after one step it has left, and its two children, queued since, stand in its place
pub one_waits : 0 < length (queued_blocks (after 0))
unfolding queued_blocks queue_of legal_interval whole_bound zero_as put_interval starting_last remembered taken content older_stretch newer_stretch decode
    place_read with_x coordinate_read coordinate_of read_small read_behind level_read add_parameters add_parameter parameter_read add_direction in_range
    directions used_of direction_at of_little_endian little_endian le count_trailing_zeros
one_waits = lit< tt

pub first_leaves : (s : LeavesAfter two (after 0)) → Claim (s 0 0 (after 0) _ no_steps (ran _ (lit≤ tt)) one_waits)
unfolding ran queued_since new_taking queued_blocks queue_of legal_interval whole_bound zero_as put_interval starting_last remembered taken content
    older_stretch newer_stretch decode place_read with_x coordinate_read coordinate_of read_small read_behind level_read add_parameters add_parameter
    parameter_read add_direction in_range directions used_of direction_at of_little_endian little_endian le count_trailing_zeros undamaged legal_chosen
    inside places pixel rectangle_of holds_cell held_cells every_of is_marked meaning_of cell_code children_of children_xy kept_inside quarters_of
    outcomes all_true verdict_outcome undecided_outcome incomplete_count events_for mark_events turn_events turned start_of searched_from painted done_to
    queued_by
first_leaves s = refl

-- ---- ".. once the finished steps reach the sum .. no queued block covers more than one pixel."

-- there are no pixels but these two
pub either : (P : Pixel two.chosen → Type 0) → P left → P right → (q : Pixel two.chosen) → P q
either P a b q = go q.x refl
  where
    y0 : q.y ≡ 0
    y0 = omega (arith, q.y_in)

    go : (x : ℕ) → q.x ≡ x → P q
    go zero e = subst P (same_pixel left q (sym e) (sym y0)) a
    go (suc zero) e = subst P (same_pixel right q (sym e) (sym y0)) b
    go (suc (suc x)) e = absurd (omega (arith, q.x_in))

-- so a block covers at most one pixel if it does not cover both
unfoldable pub covers_both : Block → Bool
covers_both b = covers_in two.chosen b left && covers_in two.chosen b right

at_most_one : (b : Block) → T (not (covers_both b)) → CoversAtMostOne (covers_in two.chosen) b
unfolding covers_both CoversAtMostOne
at_most_one b h =
    either (λ p. (q : Pixel two.chosen) → T (covers p) → T (covers q) → p ≡ q)
    (either (λ q. T (covers left) → T (covers q) → left ≡ q) (λ c d. refl) (λ c d. absurd (apart (covers left) (covers right) h c d)))
    (either (λ q. T (covers right) → T (covers q) → right ≡ q) (λ c d. absurd (apart (covers left) (covers right) h d c)) (λ c d. refl))
  where
    covers : Pixel two.chosen → Bool
    covers = covers_in two.chosen b

    apart : (c d : Bool) → T (not (c && d)) → T c → T d → ⊥
    apart true true h c d = h
    apart true false h c d = d
    apart false d h c e = c

pub plane : PlaneOnly two.chosen
unfolding used_of
plane = record { plane = refl; no_parameter = (refl, (refl, (refl, (refl, tt)))) }

-- as soon as the steps reach the sum, which is one, the two blocks that wait cover a pixel each
pub sum_reached : (s : PixelBound two (after 0)) → unfold start_level least_from sum_to places_along in Claim (s plane _ _ (ran _ (lit≤ tt)) (le_refl _))
unfolding start_level least_from sum_to places_along covers_both covers_pixel covers_along begins_in queued_blocks queue_of
    legal_interval whole_bound zero_as put_interval starting_last remembered taken content older_stretch newer_stretch decode place_read with_x
    coordinate_read coordinate_of read_small read_behind level_read add_parameters add_parameter parameter_read add_direction in_range directions
    used_of direction_at of_little_endian little_endian le count_trailing_zeros
sum_reached s = (at_most_one _ tt, (at_most_one _ tt, tt))

-- ---- if every `false` verdict was right, a pixel that reads False holds no solution

-- the picture's lower left corner, with 0 for each parameter
unfoldable pub corner : Mix exactly
corner = record {
  x = record { num = 0; den = 1; den_pos = lit< tt };
  y = record { num = 0; den = 1; den_pos = lit< tt };
  m = pos 0;
  n = pos 0;
  theta = pos 0;
  t = of_units (pos 0);
}

-- where every mix solves, the corner does, and it lies in the left pixel, which reads Uncertain at first
abbrev pub Anything : Mix exactly → Type 0
Anything a = Unit {0}

pub corner_given : (question_of exactly two.chosen two.ranges Anything).Given corner
unfolding LiesIn
corner_given D.XY e = tt
corner_given D.M e = absurd (false≢true e)
corner_given D.N e = absurd (false≢true e)
corner_given D.Theta e = absurd (false≢true e)
corner_given D.T e = absurd (false≢true e)

pub left_holds : HasSolution (question_of exactly two.chosen two.ranges Anything) left
unfolding HasSolution corner LiesBetween AtMost exact_edge
left_holds = (corner, corner_given, ((omega arith, omega arith), (omega arith, omega arith)), tt)

pub left_undecided : (s : WhiteMeansNo exactly Anything two (after 0)) → unfold EveryAnswer in Claim (s 0 (after 0) no_steps tt left)
unfolding EveryAnswer reads_in reading meaning_of same
left_undecided s = not_this _ _ tt

-- ---- three words

-- GIVEN UP: a block of the left pixel just above the floor gives that pixel up, and not the right one. No step of the charts queues such a block: it is
-- made up here, and the word is asked of a queue that holds it alone
abbrev low : Block
low = record {
  x = record { index = 0; rank = 17 };
  y = record { index = 0; rank = 17 };
  m = whole_line;
  n = whole_line;
  theta = whole_line;
  t = whole_line;
  dir = 0;
}

pub left_alone : (gave_up_taking two.chosen (after 1) (64 ∷ 64 ∷ 64 ∷ 64 ∷ []) (low ∷ []) left ≡ true)
    × (gave_up_taking two.chosen (after 1) (64 ∷ 64 ∷ 64 ∷ 64 ∷ []) (low ∷ []) right ≡ false)
unfolding gave_up_taking any_gives_up queued_blocks queue_of legal_interval whole_bound zero_as put_interval starting_last remembered taken content
    older_stretch newer_stretch decode place_read with_x coordinate_read coordinate_of read_small read_behind level_read add_parameters add_parameter
    parameter_read add_direction in_range directions used_of direction_at of_little_endian little_endian le count_trailing_zeros undamaged legal_chosen
    inside places pixel rectangle_of holds_cell held_cells every_of is_marked meaning_of cell_code children_of children_xy kept_inside quarters_of
    outcomes all_true verdict_outcome undecided_outcome incomplete_count events_for mark_events turn_events turned start_of searched_from painted done_to
    queued_by covers_pixel covers_along begins_in
left_alone = (refl, refl)

-- which block holds an integer: [0,3] does not hold its end 0, for which there is [0,0]
abbrev zero_to : ℕ → Interval
zero_to n = record { lower = fin false 0 (pos 0); upper = fin false n (pos 0) }

-- neither of two
neither : {A B C : Type 0} → (A → ⊥) → (B → ⊥) → A ⊎ (B × C) → ⊥
neither f g (inl a) = f a
neither f g (inr k) = g k.0

pub end_apart : (¬ HeldIn exactly D.M (zero_to 3) corner) × HeldIn exactly D.M (zero_to 0) corner
unfolding HeldIn Owes OverEnd UnderEnd whole_of end_by corner
end_apart = (neither (λ e. (let f = ap (λ (v : Span ℤ). v.upper) e in let z : ◌≡◌ {A = ℕ} 0 1 = cc in absurd (omega arith))) (λ l. l.lt), inl refl)

-- A BLOCK HOLDS A MIX by each of its parameters: the corner, whose parameters are 0, is held by a block of its pixel that has [0,0] for one of them and
-- the whole line for the others; it is not held by one that has [3,3]. So a false verdict about the second says nothing of the corner
abbrev here : Block
here = record {
  x = record { index = 0; rank = 48 };
  y = record { index = 0; rank = 48 };
  m = whole_line;
  n = whole_line;
  theta = whole_line;
  t = whole_line;
  dir = 0;
}

abbrev three : Interval
three = record { lower = fin false 3 (pos 0); upper = fin false 3 (pos 0) }

abbrev Holds : Direction → Interval → Type 0
Holds d v = (question_of exactly two.chosen two.ranges Anything).In (with_parameter here d v) corner

not_zero : Owes (integers three) (pos 0) → ⊥
unfolding Owes OverEnd UnderEnd whole_of end_by
not_zero = neither (λ e. (let f = ap (λ (v : Span ℤ). v.upper) e in let z : ◌≡◌ {A = ℕ} 0 1 = cc in absurd (omega arith))) (λ l. l.lt)

pub apart_by_each : (¬ Holds D.M three) × (¬ Holds D.N three) × (¬ Holds D.Theta three) × (¬ Holds D.T three)
unfolding HeldIn corner InSpan FromEnd UpToEnd end_by in_units
apart_by_each = ((λ h. not_zero h.1.0), (λ h. not_zero h.1.1), (λ h. not_zero h.1.2), (λ h. h.1.3.0))

pub held_by_each : Holds D.M (zero_to 0) × Holds D.N (zero_to 0) × Holds D.Theta (zero_to 0) × Holds D.T (zero_to 0)
unfolding HeldIn Owes OverEnd UnderEnd whole_of corner InSpan FromEnd UpToEnd end_by in_units LiesBetween AtMost exact_edge
held_by_each = (
  (((omega arith, omega arith), (omega arith, omega arith)), (inl refl, inr (tt, tt), inr (tt, tt), (tt, tt))),
  (((omega arith, omega arith), (omega arith, omega arith)), (inr (tt, tt), inl refl, inr (tt, tt), (tt, tt))),
  (((omega arith, omega arith), (omega arith, omega arith)), (inr (tt, tt), inr (tt, tt), inl refl, (tt, tt))),
  (((omega arith, omega arith), (omega arith, omega arith)), (inr (tt, tt), inr (tt, tt), inr (tt, tt), (tt, tt))),
)
