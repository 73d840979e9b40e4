-- A run of a strip in which every hypothesis is supplied: two pixels, a floor one level under the pixel's, the old mode, and the question where x is at
-- most a half (in pixels, exact). Three steps end with `#.`: both halves wait, then one has its first half marked and the other skipped, and both of the
-- other's are denied. Both bounds are reached to the step.
use mathlib.Core.Path.{◌≡◌, refl, sym, ap, subst}
use mathlib.Core.Logic.{◌⊎◌, inl}
use mathlib.Core.Bool.{Bool, false, cond}
use mathlib.Core.List.{List, [], ◌∷◌, ◌++◌, map-id}
use Prim.Native.Nat.{ℕ, zero, suc, ◌*◌, ◌≤◌, ◌<◌}
use native.Mathlib.Nat.{mul-le-mul_right}
use native.Mathlib.Omega.{arith}
use lib.Dec.{T, ltb, lit<, lit≤}
use Rattle.base.specs.Lists.{Every, Some}
use Rattle.theory.specs.Cells.{Standing, marked_true, given_up, named, reads_true, reads_false, standing_reads, renamed}
use Rattle.theory.specs.Runs.{Snapshot, queued_by, AcceptedSetup, Narrower, cell_after, FinishedStep, FinishedSteps, no_step, one_more, EveryStep}
use Rattle.theory.specs.Demand3.{pixel_reads, CoversAtMostOne}
use Rattle.theory.specs.Levels.{BlockPlace, place_at, OneBlock, QueuesChildren, QueuesAbove, sum_to, places_along, strip_places_above, strip_pixel_figure}
use Rattle.theory.specs.Shapes.{PixelIn, begins_in, covers_along, covers_pixel, covers_by_place, is_listed, place_if, halves_at, halves_in_x}
use Rattle.theory.specs.Colours.{Question, HasSolution, Holds, NoneIn, OneInEach, HoldsAll, said_false, said_true, said_undecided, ChildEnd, skipped}
use Rattle.theory.specs.Colours.{denied, marked, waits_as, Judgement, judgement, judged_child, marks_in_order, afterwards, Cutting, Follows}
use Rattle.theory.specs.Colours.{AllTrue, NotAllTrue, SkipRule, LosesNothing, StepByVerdicts, EveryJudgement, FalseRight, MarkRight}
use Rattle.theory.specs.Positions.{StripHolds, LiesBetween, Fraction, AtMost, exact_edge, LiesExactly, InPixelAlong}
use Rattle.theory.proofs.Bounds.{same_pixel}
use Rattle.theory.proofs.ExampleSteps.{Played, as_step, as_judged, not_true, undecided_not_false, true_not_false, not_looked_at}
use Rattle.theory.proofs.ExampleSteps.{undecided_unmarked, false_unmarked}
use Rattle.theory.proofs.Theorems as Promise

-- ---- the strip

abbrev Pixel : Type 0
Pixel = PixelIn 2 1

unfoldable left : Pixel
left = record { x = 0; y = 0; x_in = lit< tt; y_in = lit< tt }

unfoldable right : Pixel
right = record { x = 1; y = 0; x_in = lit< tt; y_in = lit< tt }

-- there are no others
either : (P : Pixel → Type 0) → P left → P right → (p : Pixel) → P p
unfolding left right
either P a b p = go p.x refl
  where
    y0 : p.y ≡ 0
    y0 = omega (arith, p.y_in)

    go : (x : ℕ) → p.x ≡ x → P p
    go zero e = subst P (same_pixel left p (sym e) (sym y0)) a
    go (suc zero) e = subst P (same_pixel right p (sym e) (sym y0)) b
    go (suc (suc x)) e = absurd (omega (arith, p.x_in))

abbrev covers : BlockPlace → Pixel → Bool
covers = covers_by_place 2 1 1 (λ b. b)

abbrev State : Type 0
State = Snapshot BlockPlace Pixel

abbrev snapshot : ℕ → List BlockPlace → Standing → Standing → State
snapshot n q a b = record { taken = n; queue = q; cells = λ p. cond (ltb p.x 1) a b }

-- a step halves in x, and checks that its block is above the floor; a child keeps its place
abbrev cutting : Cutting BlockPlace
cutting = record { children = halves_in_x 1 2; Checked = λ b. zero < b.level; Same = λ c d. d ≡ c }

inside : (x j : ℕ) → Every (Narrower covers (place_at x 0 j)) (halves_in_x 1 2 (place_at x 0 j))
unfolding Narrower
inside x j = Promise.halves_stay_inside 2 1 (place_at x 0 j) refl

same_place : (c d : BlockPlace) (p : Pixel) → d ≡ c → covers d p ≡ covers c p
same_place c d p e = ap (λ (b : BlockPlace). covers b p) e

-- ---- the run

abbrev waits : BlockPlace → Judgement BlockPlace
waits c = judgement c said_undecided (waits_as c)

abbrev no : ℕ → Judgement BlockPlace
no i = judgement (place_at i 0 0) said_false denied

abbrev judgements₁ : List (Judgement BlockPlace)
judgements₁ = waits (place_at 0 0 1) ∷ waits (place_at 1 0 1) ∷ []

-- once the first is marked, nobody looks at what is said of the other
abbrev judgements₂ : List (Judgement BlockPlace)
judgements₂ = judgement (place_at 0 0 0) said_true marked ∷ judgement (place_at 1 0 0) said_false skipped ∷ []

abbrev judgements₃ : List (Judgement BlockPlace)
judgements₃ = no 2 ∷ no 3 ∷ []

abbrev s₀ : State
s₀ = snapshot 0 (place_at 0 0 2 ∷ []) (named 0) (named 0)

abbrev s₁ : State
s₁ = snapshot 1 (place_at 0 0 1 ∷ place_at 1 0 1 ∷ []) (named 1) (named 2)

abbrev s₂ : State
s₂ = snapshot 2 (place_at 1 0 1 ∷ []) marked_true (named 2)

abbrev s₃ : State
s₃ = snapshot 3 [] marked_true (named 2)

abbrev Step : State → State → Type 0
Step = Played covers cutting false

abbrev step : {s s' : State} → Step s s' → FinishedStep covers false s s'
step y = as_step covers cutting false same_place y

abbrev judge : {s s' : State} (y : Step s s') → StepByVerdicts covers cutting false s s' (step y)
judge y = as_judged covers cutting false same_place y

unfoldable played₁ : Step s₀ s₁
unfolding left right judged_child halves_in_x halves_at place_if is_listed begins_in Follows marks_in_order afterwards queued_by
    cell_after covers_pixel covers_along renamed SkipRule NotAllTrue
played₁ =
    record {
      taken_block = place_at 0 0 2;
      others = [];
      judgements = judgements₁;
      in_front = refl;
      checked = lit< tt;
      narrower = inside 0 2;
      each_child = refl;
      by_verdict = ((refl, refl), ((refl, refl), tt));
      skip_rule = ((left, tt, not_true 0), ((right, tt, not_true 0), tt));
      counted = refl;
      queued = refl;
      changed = either
          (λ p. s₁.cells p ≡ cell_after covers false 0 (place_at 0 0 2) 1 (marks_in_order judgements₁ ++ afterwards judgements₁) p (s₀.cells p))
          refl refl;
    }

unfoldable played₂ : Step s₁ s₂
unfolding left right judged_child halves_in_x halves_at place_if is_listed begins_in Follows marks_in_order afterwards queued_by
    cell_after covers_pixel covers_along renamed SkipRule AllTrue NotAllTrue
played₂ =
    record {
      taken_block = place_at 0 0 1;
      others = place_at 1 0 1 ∷ [];
      judgements = judgements₂;
      in_front = refl;
      checked = lit< tt;
      narrower = inside 0 1;
      each_child = refl;
      by_verdict = (refl, (tt, tt));
      skip_rule = (
        (left, tt, not_true 1),
        (
          either
              (λ p. T (covers (place_at 1 0 0) p) → cond (covers (place_at 0 0 0) p) marked_true (s₁.cells p) ≡ marked_true) (λ k. refl) (λ k. absurd k),
          tt,
        ),
      );
      counted = refl;
      queued = refl;
      changed = either
          (λ p. s₂.cells p ≡ cell_after covers false 1 (place_at 0 0 1) 3 (marks_in_order judgements₂ ++ afterwards judgements₂) p (s₁.cells p))
          refl refl;
    }

unfoldable played₃ : Step s₂ s₃
unfolding left right judged_child halves_in_x halves_at place_if is_listed begins_in Follows marks_in_order afterwards queued_by
    cell_after covers_pixel covers_along SkipRule NotAllTrue
played₃ =
    record {
      taken_block = place_at 1 0 1;
      others = [];
      judgements = judgements₃;
      in_front = refl;
      checked = lit< tt;
      narrower = inside 1 1;
      each_child = refl;
      by_verdict = (refl, (refl, tt));
      skip_rule = ((right, tt, not_true 2), ((right, tt, not_true 2), tt));
      counted = refl;
      queued = refl;
      changed = either
          (λ p. s₃.cells p ≡ cell_after covers false 2 (place_at 1 0 1) 3 (marks_in_order judgements₃ ++ afterwards judgements₃) p (s₂.cells p))
          refl refl;
    }

unfoldable run₁ : FinishedSteps covers false 1 s₀ s₁
run₁ = one_more no_step (step played₁)

unfoldable run : FinishedSteps covers false 3 s₀ s₃
run = one_more (one_more run₁ (step played₂)) (step played₃)

unfoldable judged : EveryStep covers false (StepByVerdicts covers cutting false) run
unfolding run run₁ EveryStep
judged = (((tt, judge played₁), judge played₂), judge played₃)

accepted : AcceptedSetup covers s₀
unfolding covers_pixel covers_along begins_in left right
accepted = record {
  none_taken = refl;
  some_block = lit< tt;
  cover_all = (either (λ p. T (covers (place_at 0 0 2) p)) tt tt, tt);
  name_last = either (λ p. s₀.cells p ≡ named 0) refl refl;
}

-- ---- the bound

begun : OneBlock (λ b. b) 1 2 1 1 s₀
begun = record { some_width = lit< tt; some_height = lit< tt; wide = lit≤ tt; high = lit≤ tt; root = place_at 0 0 2; at_root = refl; one_block = refl }

queues_halves : (s s' : State) (st : FinishedStep covers false s s') → StepByVerdicts covers cutting false s s' st
    → QueuesChildren covers false (λ b. b) (halves_in_x 1 2) s s' st
queues_halves s s' st j = Promise.queues_by_judgements covers cutting false (λ b. b) (halves_in_x 1 2) (λ c d e. e) s s' st (map-id (halves_in_x 1 2 st.front)) j

queues_children : EveryStep covers false (QueuesChildren covers false (λ b. b) (halves_in_x 1 2)) run
queues_children =
    Promise.each_step covers false (StepByVerdicts covers cutting false) (QueuesChildren covers false (λ b. b) (halves_in_x 1 2)) queues_halves run judged

-- one step reaches the sum over j from 1 to 1, and two blocks wait, a pixel each
one_pixel_each : Every (CoversAtMostOne covers) s₁.queue
one_pixel_each = Promise.strip_pixel_bound 2 1 1 false (λ b. b) begun run₁ (unfold run EveryStep in queues_children.0.0)
    (unfold strip_pixel_figure sum_to places_along in lit≤ tt)

queues_above : EveryStep covers false (QueuesAbove covers false (λ b. b) 0) run
unfolding run run₁ EveryStep QueuesAbove played₁ played₂ played₃ marks_in_order afterwards queued_by
queues_above = (((tt, (lit< tt, (lit< tt, tt))), tt), tt)

-- three reach the sum over all levels above the floor
nothing_left : s₃.queue ≡ []
nothing_left = Promise.empty_at_floor covers false (λ b. b) begun run 0 (lit< tt) queues_above
    (Promise.strip_level_bound covers false (λ b. b) 1 2 1 begun run queues_children 0 2 refl (unfold strip_places_above sum_to places_along in lit≤ tt))

-- ---- the colours: where is x at most a half?

abbrev question : Question BlockPlace Pixel
question =
    record {
      Mix = Fraction;
      Given = λ m. Unit {0};
      At = λ m p. LiesExactly 1 p.x 1 m;
      In = λ b m. LiesExactly 1 b.x b.level m;
      Solves = λ m. 2 * m.num ≤ m.den;
    }

-- the strip's covering law
loses_nothing : LosesNothing covers cutting question
unfolding Holds
loses_nothing =
    record {
      same_covers = same_place;
      same_holds = λ c d m e h. rw e h;
      split = λ b m p l g a h. (unfold Holds StripHolds in Promise.halves_lose_nothing 2 1 (LiesExactly 1) (Promise.fractions_rule 1) p m b l a h);
    }

holds_all : HoldsAll covers question s₀
unfolding HoldsAll Some Holds StripHolds
holds_all m p g a = inl (Promise.strip_first_block_holds 2 1 (LiesExactly 1) (Promise.fractions_rule 1) 1 (lit≤ tt) p m a)

-- half a pixel that begins at 1 or right of it holds no solution
right_of_1 : (i : ℕ) → 1 < i → FalseRight covers question (no i)
unfolding FalseRight NoneIn Holds LiesBetween AtMost exact_edge
right_of_1 i l n e m p g a h s =
    let k = h.0.0 in
    let d = m.den_pos in
    let r : 2 * m.den ≤ i * m.den = mul-le-mul_right m.den l in
    omega arith

all_false_right : EveryJudgement covers cutting false (FalseRight covers question) run judged
unfolding EveryJudgement run run₁ judged played₁ played₂ played₃
all_false_right = (
  (
    (tt, (left_undecided (place_at 0 0 1), (left_undecided (place_at 1 0 1), tt))),
    (true_not_false covers question (place_at 0 0 0) marked, (not_looked_at covers question (place_at 1 0 0) said_false, tt)),
  ),
  (right_of_1 2 (lit< tt), (right_of_1 3 (lit< tt), tt)),
)
  where
    left_undecided : (c : BlockPlace) → FalseRight covers question (waits c)
    left_undecided c = undecided_not_false covers question c (waits_as c)

reads : (pixel_reads s₃ left ≡ reads_true) × (pixel_reads s₃ right ≡ reads_false)
unfolding pixel_reads standing_reads left right
reads = (refl, refl)

-- so the white pixel holds no solution
white : ¬ HasSolution question right
white = Promise.white_means_no covers cutting question false loses_nothing accepted holds_all run judged all_false_right right reads.1

-- that is: no position of it is at most a half
white_in_numbers : (x : Fraction) → InPixelAlong 1 x → ¬ (2 * x.num ≤ x.den)
unfolding HasSolution right
white_in_numbers x h s = white (x, tt, (Promise.pixel_is_unit 1 1 x).0 h, s)

-- marks: the left pixel holds the position 0
origin : Fraction
origin = record { num = 0; den = 1; den_pos = lit< tt }

solved : HasSolution question left
unfolding HasSolution LiesBetween AtMost exact_edge origin left
solved = (origin, tt, (lit≤ tt, lit≤ tt), lit≤ tt)

marked_right : MarkRight covers question (judgement (place_at 0 0 0) said_true marked)
unfolding MarkRight OneInEach covers_pixel covers_along begins_in left right
marked_right l e = either (λ p. T (covers (place_at 0 0 0) p) → HasSolution question p) (λ k. solved) (λ k. absurd k)

all_marks_right : EveryJudgement covers cutting false (MarkRight covers question) run judged
unfolding EveryJudgement run run₁ judged played₁ played₂ played₃
all_marks_right = (
  ((tt, (left_undecided (place_at 0 0 1), (left_undecided (place_at 1 0 1), tt))), (marked_right, (said_false_lem 1 skipped, tt))),
  (said_false_lem 2 denied, (said_false_lem 3 denied, tt)),
)
  where
    left_undecided : (c : BlockPlace) → MarkRight covers question (waits c)
    left_undecided c = undecided_unmarked covers question c (waits_as c)

    said_false_lem : (i : ℕ) (f : ChildEnd BlockPlace) → MarkRight covers question (judgement (place_at i 0 0) said_false f)
    said_false_lem i = false_unmarked covers question (place_at i 0 0)

-- and both pixels are decided
decided : (p : Pixel) → ¬ (s₃.cells p ≡ given_up)
    → ((pixel_reads s₃ p ≡ reads_true) × HasSolution question p) ⊎ ((pixel_reads s₃ p ≡ reads_false) × (¬ HasSolution question p))
decided = Promise.done_decides covers cutting question false loses_nothing accepted holds_all run judged all_false_right all_marks_right nothing_left
