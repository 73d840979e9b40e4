-- The promises applied to the run of ExamplePicture: each hypothesis is supplied, and what is promised is what the run shows.
use mathlib.Core.Path.{◌≡◌, refl}
use mathlib.Core.Logic.{◌⊎◌, inl, inr}
use mathlib.Core.Bool.{false}
use mathlib.Core.List.{[], ◌++◌, map, map-id}
use Prim.Native.Nat.{ℕ, ◌*◌, ◌≤◌, ◌<◌}
use native.Mathlib.Nat.{mul-le-mul_right}
use native.Mathlib.Omega.{arith}
use lib.Dec.{T, lit<, lit≤}
use lib.ListN.{drop}
use Rattle.base.specs.Lists.{Every, Some}
use Rattle.theory.specs.Cells.{given_up, reads_true, reads_false, reads_uncertain, standing_reads}
use Rattle.theory.specs.Runs.{queued_by, FinishedStep, FinishedSteps, no_step, one_more, EveryStep, queued_in}
use Rattle.theory.specs.Demand3.{pixel_reads, any_gives_up, NoneCovers, CoversAtMostOne, WasGivenUp, LooksBeforeGivingUp, GivesUpOnePixel, KeepsTrue}
use Rattle.theory.specs.Levels.{BlockPlace, place_at, OneBlock, QueuesChildren, QueuesAbove, NeverRise, OnTwoLevels, sum_to, places_along}
use Rattle.theory.specs.Levels.{places_above, pixel_figure}
use Rattle.theory.specs.Shapes.{begins_in, covers_along, covers_pixel, quarters}
use Rattle.theory.specs.Colours.{Question, HasSolution, Holds, NoneIn, OneInEach, HoldsAll, Said, said_false, said_true, said_undecided, ChildEnd}
use Rattle.theory.specs.Colours.{skipped, denied, marked, waits_as, stuck, judgement, marks_in_order, afterwards, LosesNothing, StepByVerdicts}
use Rattle.theory.specs.Colours.{EveryJudgement, FalseRight, MarkRight}
use Rattle.theory.specs.Positions.{PlaceHolds, LiesBetween, Fraction, AtMost, exact_edge, LiesExactly, InPixelAlong}
use Rattle.theory.proofs.ExamplePicture.{Pixel, pixel₀, pixel₁, pixel₂, each_pixel, covers, State, cutting, inside, same_place, step, judge}
use Rattle.theory.proofs.ExamplePicture.{waits, s₀, s₃, s₆, played₁, played₂, played₃, played₄, played₅, played₆, run₃, run, judged, accepted}
use Rattle.theory.proofs.ExampleSteps.{undecided_not_false, true_not_false, not_looked_at, undecided_unmarked, false_unmarked}
use Rattle.theory.proofs.Theorems as Promise

-- ---- demand 3

reads : (pixel_reads s₆ pixel₀ ≡ reads_true) × (pixel_reads s₆ pixel₂ ≡ reads_false)
unfolding pixel_reads standing_reads pixel₀ pixel₂
reads = (refl, refl)

white_by_rule : (¬ (pixel_reads s₆ pixel₂ ≡ reads_true)) × (¬ WasGivenUp covers false run pixel₂) × NoneCovers covers s₆.queue pixel₂
white_by_rule = (Promise.false_rule covers false accepted run pixel₂).0 reads.1

was_given_up : WasGivenUp covers false run pixel₁
unfolding pixel₁
was_given_up = (Promise.given_up_ever_now covers false accepted run pixel₁ (λ e. (let z : ◌≡◌ {A = ℕ} 0 1 = cc in omega arith))).1 refl

unfoldable rest : FinishedSteps covers false 3 s₃ s₆
rest = one_more (one_more (one_more no_step (step played₄)) (step played₅)) (step played₆)

last_leaves : s₆.queue ≡ drop 3 s₃.queue ++ queued_in covers false rest
last_leaves = Promise.leaves_queue covers false 2 rest (lit< tt)

-- True stays True over the step that gives up, in the old mode
on_one_pixel : EveryStep covers false (GivesUpOnePixel covers false) rest
unfolding rest EveryStep GivesUpOnePixel played₄ played₅ played₆ marks_in_order afterwards any_gives_up
on_one_pixel = (((tt, (λ g. absurd g)), (λ g. Promise.low_covers_at_most_one 3 1 1 (λ b. b) (place_at 1 0 1) (lit≤ tt))), (λ g. absurd g))

judged_rest : EveryStep covers false (StepByVerdicts covers cutting false) rest
unfolding rest EveryStep
judged_rest = (((tt, judge played₄), judge played₅), judge played₆)

looked : EveryStep covers false (LooksBeforeGivingUp covers false) rest
looked =
    Promise.each_step covers false (StepByVerdicts covers cutting false) (LooksBeforeGivingUp covers false)
    (λ s s' st j. Promise.looks_by_skip_rule covers cutting false s s' st (inside st.front) j) rest judged_rest

keeps_true : KeepsTrue covers false rest
unfolding KeepsTrue
keeps_true = inr (looked, Promise.alike_with_xy covers false rest on_one_pixel)

only_from_uncertain : (p : Pixel) → (pixel_reads s₆ p ≡ pixel_reads s₃ p) ⊎ (pixel_reads s₃ p ≡ reads_uncertain)
only_from_uncertain = Promise.reading_order covers false accepted run₃ rest keeps_true

-- ---- the bound

begun : OneBlock (λ b. b) 1 3 1 2 s₀
begun = record { some_width = lit< tt; some_height = lit< tt; wide = lit≤ tt; high = lit≤ tt; root = place_at 0 0 3; at_root = refl; one_block = refl }

queues_quarters : (s s' : State) (st : FinishedStep covers false s s') → StepByVerdicts covers cutting false s s' st
    → QueuesChildren covers false (λ b. b) (quarters 1 3 1) s s' st
queues_quarters s s' st j =
    Promise.queues_by_judgements covers cutting false (λ b. b) (quarters 1 3 1) (λ c d e. e) s s' st (map-id (quarters 1 3 1 st.front)) j

queues_children : EveryStep covers false (QueuesChildren covers false (λ b. b) (quarters 1 3 1)) run
queues_children = Promise.each_step covers false (StepByVerdicts covers cutting false)
    (QueuesChildren covers false (λ b. b) (quarters 1 3 1)) queues_quarters run judged

queues_children₃ : EveryStep covers false (QueuesChildren covers false (λ b. b) (quarters 1 3 1)) run₃
queues_children₃ = unfold run EveryStep in queues_children.0.0.0

-- while they wait, levels do not rise from front to back
levels : NeverRise (map (λ b. b) s₃.queue) × ((j : ℕ) × OnTwoLevels j (map (λ b. b) s₃.queue))
levels = Promise.levels_never_rise covers false (λ b. b) (quarters 1 3 1) (Promise.quarters_are_lower 1 3 1) (place_at 0 0 3) refl run₃ queues_children₃

-- three steps reach the sum over j from 1 to 2, and three blocks wait, a pixel each
one_pixel_each : Every (CoversAtMostOne covers) s₃.queue
one_pixel_each = Promise.pixel_bound 3 1 1 2 false (λ b. b) begun run₃ queues_children₃ (unfold pixel_figure sum_to places_along in lit≤ tt)

queues_above : EveryStep covers false (QueuesAbove covers false (λ b. b) 0) run
unfolding run run₃ EveryStep QueuesAbove played₁ played₂ played₃ played₄ played₅ played₆ marks_in_order afterwards queued_by
queues_above = ((((((tt, (lit< tt, (lit< tt, tt))), (lit< tt, (lit< tt, tt))), (lit< tt, tt)), tt), tt), tt)

-- six reach the sum over all levels above the floor
nothing_left : s₆.queue ≡ []
nothing_left = Promise.empty_at_floor covers false (λ b. b) begun run 0 (lit< tt) queues_above
    (Promise.level_bound covers false (λ b. b) 1 3 1 2 begun run queues_children 0 3 refl (unfold places_above sum_to places_along in lit≤ tt))

-- ---- the colours: where is x at most 1?

record Point : Type 0 where
  horizontal : Fraction
  vertical : Fraction

abbrev question : Question BlockPlace Pixel
question =
    record {
      Mix = Point;
      Given = λ m. Unit {0};
      At = λ m p. LiesExactly 1 p.x 1 m.horizontal × LiesExactly 1 p.y 1 m.vertical;
      In = λ b m. LiesExactly 1 b.x b.level m.horizontal × LiesExactly 1 b.y b.level m.vertical;
      Solves = λ m. m.horizontal.num ≤ m.horizontal.den;
    }

loses_nothing : LosesNothing covers cutting question
unfolding Holds
loses_nothing =
    record {
      same_covers = same_place;
      same_holds = λ c d m e h. rw e h;
      split = λ b m p l g a h. (unfold Holds PlaceHolds in
          Promise.quarters_lose_nothing 3 1 1 (LiesExactly 1) (Promise.fractions_rule 1) (LiesExactly 1) (Promise.fractions_rule 1) p m.horizontal
          m.vertical b l a.0 a.1 h);
    }

holds_all : HoldsAll covers question s₀
unfolding HoldsAll Some Holds PlaceHolds
holds_all m p g a =
    inl (Promise.first_block_holds 3 1 1 (LiesExactly 1) (Promise.fractions_rule 1) (LiesExactly 1) (Promise.fractions_rule 1) 2 (lit≤ tt) (lit≤ tt) p
    m.horizontal m.vertical a.0 a.1)

-- a quarter of a pixel that begins right of 1 holds no solution
right_of_1 : (i k : ℕ) → 2 < i → NoneIn covers question (place_at i k 0)
unfolding NoneIn Holds LiesBetween AtMost exact_edge
right_of_1 i k l m p g a h s =
    let e = h.0.0.0 in
    let d = m.horizontal.den_pos in
    let r : 3 * m.horizontal.den ≤ i * m.horizontal.den = mul-le-mul_right m.horizontal.den l in
    omega arith

right_false : (i k : ℕ) (f : ChildEnd BlockPlace) → 2 < i → FalseRight covers question (judgement (place_at i k 0) said_false f)
unfolding FalseRight
right_false i k f h l e = right_of_1 i k h

waits_right : (c : BlockPlace) → FalseRight covers question (waits c)
waits_right c = undecided_not_false covers question c (waits_as c)

stuck_right : (c : BlockPlace) → FalseRight covers question (judgement c said_undecided stuck)
stuck_right c = undecided_not_false covers question c stuck

all_false_right : EveryJudgement covers cutting false (FalseRight covers question) run judged
unfolding EveryJudgement run run₃ judged played₁ played₂ played₃ played₄ played₅ played₆
all_false_right = (
  (
    (
      (
        (
          (tt, (waits_right (place_at 0 0 2), (waits_right (place_at 1 0 2), tt))),
          (waits_right (place_at 0 0 1), (waits_right (place_at 1 0 1), tt)),
        ),
        (waits_right (place_at 2 0 1), tt),
      ),
      (
        true_not_false covers question (place_at 0 0 0) marked,
        (unseen (place_at 1 0 0) said_false, (unseen (place_at 0 1 0) said_false, (unseen (place_at 1 1 0) said_undecided, tt))),
      ),
    ),
    (stuck_right (place_at 2 0 0), (right_false 3 0 denied (lit< tt), (stuck_right (place_at 2 1 0), (right_false 3 1 denied (lit< tt), tt)))),
  ),
  (right_false 4 0 denied (lit< tt), (right_false 5 0 denied (lit< tt), (right_false 4 1 denied (lit< tt), (right_false 5 1 denied (lit< tt), tt)))),
)
  where
    unseen : (c : BlockPlace) (v : Said) → FalseRight covers question (judgement c v skipped)
    unseen = not_looked_at covers question

-- so the white pixel holds no solution
white : ¬ HasSolution question pixel₂
white = Promise.white_means_no covers cutting question false loses_nothing accepted holds_all run judged all_false_right pixel₂ reads.1

-- that is: no point of it has an x of at most 1
white_in_numbers : (x y : Fraction) → InPixelAlong 2 x → InPixelAlong 0 y → ¬ (x.num ≤ x.den)
unfolding HasSolution pixel₂
white_in_numbers x y hx hy s = white (record { horizontal = x; vertical = y }, tt, ((Promise.pixel_is_unit 1 2 x).0 hx, (Promise.pixel_is_unit 1 0 y).0 hy), s)

-- marks: the pixel of the marked quarter holds the origin
origin : Fraction
origin = record { num = 0; den = 1; den_pos = lit< tt }

solved : HasSolution question pixel₀
unfolding HasSolution LiesBetween AtMost exact_edge origin pixel₀
solved = (record { horizontal = origin; vertical = origin }, tt, ((lit≤ tt, lit≤ tt), (lit≤ tt, lit≤ tt)), lit≤ tt)

mark_right : OneInEach covers question (place_at 0 0 0)
unfolding OneInEach covers_pixel covers_along begins_in pixel₀ pixel₁ pixel₂
mark_right = each_pixel (λ p. T (covers (place_at 0 0 0) p) → HasSolution question p) (λ k. solved) (λ k. absurd k) (λ k. absurd k)

marked_right : MarkRight covers question (judgement (place_at 0 0 0) said_true marked)
unfolding MarkRight
marked_right l e = mark_right

all_marks_right : EveryJudgement covers cutting false (MarkRight covers question) run judged
unfolding EveryJudgement run run₃ judged played₁ played₂ played₃ played₄ played₅ played₆
all_marks_right = (
  (
    (
      (
        (
          (tt, (undecided_right _ _, (undecided_right _ _, tt))),
          (undecided_right _ _, (undecided_right _ _, tt)),
        ),
        (undecided_right _ _, tt),
      ),
      (marked_right, (denied_right _ _, (denied_right _ _, (undecided_right _ _, tt)))),
    ),
    (undecided_right _ _, (denied_right _ _, (undecided_right _ _, (denied_right _ _, tt)))),
  ),
  (denied_right _ _, (denied_right _ _, (denied_right _ _, (denied_right _ _, tt)))),
)
  where
    undecided_right : (c : BlockPlace) (f : ChildEnd BlockPlace) → MarkRight covers question (judgement c said_undecided f)
    undecided_right = undecided_unmarked covers question

    denied_right : (c : BlockPlace) (f : ChildEnd BlockPlace) → MarkRight covers question (judgement c said_false f)
    denied_right = false_unmarked covers question

black : HasSolution question pixel₀
black = Promise.true_means_yes covers cutting question false accepted run judged all_marks_right pixel₀ reads.0

-- and what is not given up is decided
decided : (p : Pixel) → ¬ (s₆.cells p ≡ given_up)
    → ((pixel_reads s₆ p ≡ reads_true) × HasSolution question p) ⊎ ((pixel_reads s₆ p ≡ reads_false) × (¬ HasSolution question p))
decided = Promise.done_decides covers cutting question false loses_nothing accepted holds_all run judged all_false_right all_marks_right nothing_left
