-- The promises of the reasons on small charts: each of the four reasons is given once, and what it names is what happened; and what white by a
-- step means. Assumes nothing.
use mathlib.Core.Path.{◌≡◌, refl, subst}
use mathlib.Core.Logic.{inl, inr}
use mathlib.Core.Bool.{false≢true}
use mathlib.Core.List.{List, [], ◌∷◌}
use Prim.Native.Nat.{ℕ, ◌-◌}
use native.Mathlib.Omega.{arith}
use lib.Dec.{T, lit<}
use lib.IntN.{pos}
use Rattle.base.specs.Lists.{Some}
use Rattle.base.specs.Places.{Latest}
use Rattle.theory.specs.Colours.{Question, HasSolution, Holds, NoneIn}
use Rattle.theory.specs.Positions.{AtMost, exact_edge, LiesBetween}
use Rattle.theory.specs.Shapes.{begins_in, covers_along, covers_pixel}
use Rattle.boxes.specs.Ratios.{of_units}
use Rattle.image.specs.declared.Reading.TheVariants as Reads
use Rattle.queue.specs.declared.Block.{Block}
use Rattle.queue.specs.declared.directions.Direction.TheVariants as D
use Rattle.decide.specs.declared.Chosen.{Chosen}
use Rattle.decide.specs.declared.verdict.Outcome.TheVariants as O
use Rattle.implicit.specs.Run.{run_from}
use Rattle.implicit.specs.Step.{World}
use Rattle.explain.specs.declared.reason.Reason.{Reason}
use Rattle.explain.specs.declared.reason.Reason.TheVariants as B
use Rattle.explain.specs.History.{PastStep, history_from}
use Rattle.explain.specs.Reasons.{moment_at, takes_here, gives_up_here}
use Rattle.promises.specs.Chart.{Pixel, covers_in}
use Rattle.promises.specs.Steps.{Asked, BegunAs, reads_in, StandsGivenUp}
use Rattle.promises.specs.Mixes.{Mix, LiesIn, question_of}
use Rattle.promises.specs.Why.{past_in, over_pixel, WhyTrue, WhyFalse, WhyGivenUp, WhyWaiting, Explains, RightAnswer}
use Rattle.promises.proofs.Example.{sheet, begun, stepped, at, right_false}
use Rattle.promises.proofs.ExampleSteps.{two, two_begun, after, left, right, one, one_begun, waits, only, gave_up}
use Rattle.promises.proofs.MixesExact.{exactly}
use Rattle.promises.proofs.Claims.{Anything, was_given_up}
use Rattle.promises.proofs.ClaimsWhy.{told, block_at, by_area, told_as, sheet_past, past_is}
use Rattle.promises.proofs.ColoursExample.{Near, asked, right_none}
use Rattle.promises.proofs.WhyPromises.{tool_explains, gave_up_either_way, white_left_there, white_by_that_step}

-- what a tape leaves, and its history
abbrev leaves : World → ℕ → List ℕ → World
leaves w steps tape = (run_from steps w tape).world

abbrev past : World → ℕ → List ℕ → List PastStep
past w steps tape = history_from steps w tape []

-- the reason that was computed is the one that is promised
explains_told : (a : Asked) {w : World} → BegunAs a w → (steps : ℕ) (tape : List ℕ) (q : Pixel a.chosen) → 0 ≡ a.chosen.height - 1 - q.y
    → (reason : Reason) → told a.chosen w steps tape q.x ≡ reason → Explains a.chosen q (past w steps tape) (leaves w steps tape) reason
explains_told a {w} z steps tape q top reason e =
    subst (Explains a.chosen q (past w steps tape) (leaves w steps tape)) e (tool_explains a z steps tape q q.x 0 refl top).3

-- the right pixel is True: child 1 of step 3 marked it last, by its area verdict
pub right_true : (reads_in two.chosen (leaves (after 0) 3 by_area) right ≡ Reads.True)
    × WhyTrue two.chosen right (past (after 0) 3 by_area) (moment_at 3 1) 0
right_true = unfold Explains in explains_told two two_begun 3 by_area right refl (B.True (moment_at 3 1) 0) told_as.3

-- the left one reads False: step 2 took the last block that covers it, and child 1 was the first answered false; all four were
pub left_false : (reads_in two.chosen (leaves (after 0) 3 by_area) left ≡ Reads.False)
    × WhyFalse two.chosen left (past (after 0) 3 by_area) (moment_at 2 1)
left_false = unfold Explains in explains_told two two_begun 3 by_area left refl (B.False (moment_at 2 1)) told_as.2

-- after one step it waits for block 1, and the right one for block 2, behind it
pub left_waits : (reads_in two.chosen (leaves (after 0) 1 by_area) left ≡ Reads.Uncertain)
    × WhyWaiting two.chosen left (past (after 0) 1 by_area) (leaves (after 0) 1 by_area) 1 0 (block_at 0)
left_waits = unfold Explains in explains_told two two_begun 1 by_area left refl (B.Waiting 1 0 (block_at 0)) told_as.0

pub right_waits : (reads_in two.chosen (leaves (after 0) 1 by_area) right ≡ Reads.Uncertain)
    × WhyWaiting two.chosen right (past (after 0) 1 by_area) (leaves (after 0) 1 by_area) 2 1 (block_at 1)
right_waits = unfold Explains in explains_told two two_begun 1 by_area right refl (B.Waiting 2 1 (block_at 1)) told_as.1

-- the one pixel of the other chart is given up: child 1 of step 1 found no direction
pub only_given_up : StandsGivenUp one.chosen (leaves waits 1 (64 ∷ [])) only
    × WhyGivenUp one.chosen only (past waits 1 (64 ∷ [])) (moment_at 1 1)
only_given_up = unfold Explains in explains_told one one_begun 1 (64 ∷ []) only refl (B.GivenUp (moment_at 1 1)) told_as.4

-- it was given up by its step's events, so a past step gives it up by its answers
pub only_in_past : Some (λ e. T (gives_up_here one.chosen (over_pixel one.chosen only) e)) (past_in gave_up)
only_in_past = (gave_up_either_way one one_begun gave_up only).0 was_given_up

-- ---- white because of that step: the sheet of Example, whose one step denied its right pixel by child 2

abbrev pic : Chosen
pic = sheet.chosen

abbrev second : Pixel sheet.chosen
second = at 1 (lit< tt)

sheet_covers : T (takes_here pic (over_pixel pic second) sheet_past)
unfolding takes_here covers_pixel covers_along begins_in
sheet_covers = tt

abbrev that_step : Latest (takes_here sheet.chosen (over_pixel sheet.chosen second)) (past_in stepped)
that_step = record { since = []; this = sheet_past; before = []; in_order = past_is.0; such = sheet_covers; none_since = tt }

-- the middle of the pixel's lower edge, with 0 for each parameter; where every mix solves, it does
abbrev middle : Mix exactly
middle = record {
  x = record { num = 3; den = 2; den_pos = lit< tt };
  y = record { num = 0; den = 1; den_pos = lit< tt };
  m = pos 0;
  n = pos 0;
  theta = pos 0;
  t = of_units (pos 0);
}

abbrev all_solve : Question Block (Pixel sheet.chosen)
all_solve = question_of exactly sheet.chosen sheet.ranges Anything

middle_given : all_solve.Given middle
unfolding LiesIn
middle_given D.XY e = tt
middle_given D.M e = absurd (false≢true e)
middle_given D.N e = absurd (false≢true e)
middle_given D.Theta e = absurd (false≢true e)
middle_given D.T e = absurd (false≢true e)

middle_there : all_solve.At middle second
unfolding LiesBetween AtMost exact_edge
middle_there = ((omega arith, omega arith), (omega arith, omega arith))

-- so it lies in a child of that step that was answered false, which can but be child 2: that answer was wrong of this relation
pub held_by_denied : Holds (covers_in sheet.chosen) all_solve middle second (block_at 1)
unfolding Some
held_by_denied =
    only_second (white_left_there exactly Anything sheet begun stepped second right_false that_step tt middle middle_given middle_there tt)
  where
    only_second : Some (λ b. (b.outcome ≡ O.False) × Holds (covers_in sheet.chosen) all_solve middle second b.child) sheet_past.answers
        → Holds (covers_in sheet.chosen) all_solve middle second (block_at 1)
    only_second (inl k) = let e = k.0 in let z : ◌≡◌ {A = ℕ} 0 1 = cc in absurd (omega arith)
    only_second (inr (inl k)) = k.1
    only_second (inr (inr k)) = absurd k

-- asked where x is at most half a pixel it was right: white means no, by that step alone
pub white_by_second : ¬ HasSolution asked second
unfolding RightAnswer NoneIn
white_by_second = white_by_that_step exactly Near sheet begun stepped second right_false that_step ((marked_first, (right_second, tt)), tt)
  where
    marked_first : RightAnswer pic second asked (record { child = block_at 0; verdict = 128; outcome = O.Area })
    marked_first e = let z : ◌≡◌ {A = ℕ} 0 1 = cc in absurd (omega arith)

    right_second : RightAnswer pic second asked (record { child = block_at 1; verdict = 0; outcome = O.False })
    right_second e x given lies holds = right_none x second given lies holds
