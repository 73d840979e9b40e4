-- A run in which every hypothesis of the promises is supplied: a picture of 3 by 1, a floor one level under the pixel's, the old mode, and the question
-- where x is at most 1 (in pixels, exact). Six steps end with `#?.`: a child is left out at the picture's edge, some are queued, one is marked and its
-- siblings skipped, two find no direction, the rest are denied. Both bounds are reached to the step.
use mathlib.Core.Path.{◌≡◌, refl, sym, ap, subst}
use mathlib.Core.Bool.{Bool, false, cond}
use mathlib.Core.List.{List, [], ◌∷◌, ◌++◌}
use Prim.Native.Nat.{ℕ, zero, suc, ◌<◌}
use native.Mathlib.Omega.{arith}
use lib.Dec.{T, ltb, lit<}
use Rattle.base.specs.Lists.{Every}
use Rattle.theory.specs.Cells.{Standing, marked_true, given_up, named, renamed, after_giving_up}
use Rattle.theory.specs.Runs.{Snapshot, queued_by, AcceptedSetup, Narrower, cell_after, FinishedStep, FinishedSteps, no_step, one_more, EveryStep}
use Rattle.theory.specs.Levels.{BlockPlace, place_at}
use Rattle.theory.specs.Shapes.{PixelIn, begins_in, covers_along, covers_pixel, covers_by_place, is_listed, place_if, quarters_at, quarters}
use Rattle.theory.specs.Colours.{said_false, said_true, said_undecided, skipped, denied, marked, waits_as, stuck, Judgement, judgement, judged_child}
use Rattle.theory.specs.Colours.{marks_in_order, afterwards, Cutting, Follows, AllTrue, NotAllTrue, SkipRule, StepByVerdicts}
use Rattle.theory.proofs.Bounds.{same_pixel}
use Rattle.theory.proofs.ExampleSteps.{Played, as_step, as_judged, not_true}
use Rattle.theory.proofs.Theorems as Promise

-- ---- the picture

abbrev pub Pixel : Type 0
Pixel = PixelIn 3 1

unfoldable pub pixel₀ : Pixel
pixel₀ = record { x = 0; y = 0; x_in = lit< tt; y_in = lit< tt }

unfoldable pub pixel₁ : Pixel
pixel₁ = record { x = 1; y = 0; x_in = lit< tt; y_in = lit< tt }

unfoldable pub pixel₂ : Pixel
pixel₂ = record { x = 2; y = 0; x_in = lit< tt; y_in = lit< tt }

-- there are no others
pub each_pixel : (P : Pixel → Type 0) → P pixel₀ → P pixel₁ → P pixel₂ → (p : Pixel) → P p
unfolding pixel₀ pixel₁ pixel₂
each_pixel P a b c p = go p.x refl
  where
    y0 : p.y ≡ 0
    y0 = omega (arith, p.y_in)

    go : (x : ℕ) → p.x ≡ x → P p
    go zero e = subst P (same_pixel pixel₀ p (sym e) (sym y0)) a
    go (suc zero) e = subst P (same_pixel pixel₁ p (sym e) (sym y0)) b
    go (suc (suc zero)) e = subst P (same_pixel pixel₂ p (sym e) (sym y0)) c
    go (suc (suc (suc x))) e = absurd (omega (arith, p.x_in))

abbrev pub covers : BlockPlace → Pixel → Bool
covers = covers_by_place 3 1 1 (λ b. b)

abbrev pub State : Type 0
State = Snapshot BlockPlace Pixel

-- what stands in the three cells
abbrev pub row : Standing → Standing → Standing → Pixel → Standing
row a b c p = cond (ltb p.x 1) a (cond (ltb p.x 2) b c)

abbrev pub snapshot : ℕ → List BlockPlace → Standing → Standing → Standing → State
snapshot n q a b c = record { taken = n; queue = q; cells = row a b c }

-- a step cuts into quarters, and checks that its block is above the floor; a child keeps its place
abbrev pub cutting : Cutting BlockPlace
cutting = record { children = quarters 1 3 1; Checked = λ b. zero < b.level; Same = λ c d. d ≡ c }

pub inside : (b : BlockPlace) → Every (Narrower covers b) (quarters 1 3 1 b)
unfolding Narrower
inside b = Promise.quarters_stay_inside 3 1 1 b

pub same_place : (c d : BlockPlace) (p : Pixel) → d ≡ c → covers d p ≡ covers c p
same_place c d p e = ap (λ (b : BlockPlace). covers b p) e

-- ---- the run

abbrev pub waits : BlockPlace → Judgement BlockPlace
waits c = judgement c said_undecided (waits_as c)

abbrev pub judgements₁ : List (Judgement BlockPlace)
judgements₁ = waits (place_at 0 0 2) ∷ waits (place_at 1 0 2) ∷ []

abbrev pub judgements₂ : List (Judgement BlockPlace)
judgements₂ = waits (place_at 0 0 1) ∷ waits (place_at 1 0 1) ∷ []

-- the other half begins outside
abbrev pub judgements₃ : List (Judgement BlockPlace)
judgements₃ = waits (place_at 2 0 1) ∷ []

-- once the first is marked, nobody looks at what is said of the others
abbrev pub judgements₄ : List (Judgement BlockPlace)
judgements₄ =
    judgement (place_at 0 0 0) said_true marked ∷ judgement (place_at 1 0 0) said_false skipped ∷ judgement (place_at 0 1 0) said_false skipped
    ∷ judgement (place_at 1 1 0) said_undecided skipped ∷ []

abbrev pub judgements₅ : List (Judgement BlockPlace)
judgements₅ =
    judgement (place_at 2 0 0) said_undecided stuck ∷ judgement (place_at 3 0 0) said_false denied ∷ judgement (place_at 2 1 0) said_undecided stuck
    ∷ judgement (place_at 3 1 0) said_false denied ∷ []

abbrev pub judgements₆ : List (Judgement BlockPlace)
judgements₆ =
    judgement (place_at 4 0 0) said_false denied ∷ judgement (place_at 5 0 0) said_false denied ∷ judgement (place_at 4 1 0) said_false denied
    ∷ judgement (place_at 5 1 0) said_false denied ∷ []

abbrev pub s₀ : State
s₀ = snapshot 0 (place_at 0 0 3 ∷ []) (named 0) (named 0) (named 0)

abbrev pub s₁ : State
s₁ = snapshot 1 (place_at 0 0 2 ∷ place_at 1 0 2 ∷ []) (named 1) (named 1) (named 2)

abbrev pub s₂ : State
s₂ = snapshot 2 (place_at 1 0 2 ∷ place_at 0 0 1 ∷ place_at 1 0 1 ∷ []) (named 3) (named 4) (named 2)

abbrev pub s₃ : State
s₃ = snapshot 3 (place_at 0 0 1 ∷ place_at 1 0 1 ∷ place_at 2 0 1 ∷ []) (named 3) (named 4) (named 5)

abbrev pub s₄ : State
s₄ = snapshot 4 (place_at 1 0 1 ∷ place_at 2 0 1 ∷ []) marked_true (named 4) (named 5)

abbrev pub s₅ : State
s₅ = snapshot 5 (place_at 2 0 1 ∷ []) marked_true given_up (named 5)

abbrev pub s₆ : State
s₆ = snapshot 6 [] marked_true given_up (named 5)

abbrev pub Step : State → State → Type 0
Step = Played covers cutting false

abbrev pub step : {s s' : State} → Step s s' → FinishedStep covers false s s'
step y = as_step covers cutting false same_place y

abbrev pub judge : {s s' : State} (y : Step s s') → StepByVerdicts covers cutting false s s' (step y)
judge y = as_judged covers cutting false same_place y

unfoldable pub played₁ : Step s₀ s₁
unfolding pixel₀ pixel₁ pixel₂ judged_child quarters quarters_at place_if is_listed begins_in Follows marks_in_order afterwards queued_by
    cell_after covers_pixel covers_along renamed after_giving_up SkipRule AllTrue NotAllTrue
played₁ =
    record {
      taken_block = place_at 0 0 3;
      others = [];
      judgements = judgements₁;
      in_front = refl;
      checked = lit< tt;
      narrower = inside (place_at 0 0 3);
      each_child = refl;
      by_verdict = ((refl, refl), ((refl, refl), tt));
      skip_rule = ((pixel₀, tt, not_true 0), ((pixel₂, tt, not_true 0), tt));
      counted = refl;
      queued = refl;
      changed = each_pixel
          (λ p. s₁.cells p ≡ cell_after covers false 0 (place_at 0 0 3) 1 (marks_in_order judgements₁ ++ afterwards judgements₁) p (s₀.cells p))
          refl refl refl;
    }

unfoldable pub played₂ : Step s₁ s₂
unfolding pixel₀ pixel₁ pixel₂ judged_child quarters quarters_at place_if is_listed begins_in Follows marks_in_order afterwards queued_by
    cell_after covers_pixel covers_along renamed after_giving_up SkipRule AllTrue NotAllTrue
played₂ =
    record {
      taken_block = place_at 0 0 2;
      others = place_at 1 0 2 ∷ [];
      judgements = judgements₂;
      in_front = refl;
      checked = lit< tt;
      narrower = inside (place_at 0 0 2);
      each_child = refl;
      by_verdict = ((refl, refl), ((refl, refl), tt));
      skip_rule = ((pixel₀, tt, not_true 1), ((pixel₁, tt, not_true 1), tt));
      counted = refl;
      queued = refl;
      changed = each_pixel
          (λ p. s₂.cells p ≡ cell_after covers false 1 (place_at 0 0 2) 3 (marks_in_order judgements₂ ++ afterwards judgements₂) p (s₁.cells p))
          refl refl refl;
    }

unfoldable pub played₃ : Step s₂ s₃
unfolding pixel₀ pixel₁ pixel₂ judged_child quarters quarters_at place_if is_listed begins_in Follows marks_in_order afterwards queued_by
    cell_after covers_pixel covers_along renamed after_giving_up SkipRule AllTrue NotAllTrue
played₃ =
    record {
      taken_block = place_at 1 0 2;
      others = place_at 0 0 1 ∷ place_at 1 0 1 ∷ [];
      judgements = judgements₃;
      in_front = refl;
      checked = lit< tt;
      narrower = inside (place_at 1 0 2);
      each_child = refl;
      by_verdict = ((refl, refl), tt);
      skip_rule = ((pixel₂, tt, not_true 2), tt);
      counted = refl;
      queued = refl;
      changed = each_pixel
          (λ p. s₃.cells p ≡ cell_after covers false 2 (place_at 1 0 2) 5 (marks_in_order judgements₃ ++ afterwards judgements₃) p (s₂.cells p))
          refl refl refl;
    }

-- once the first quarter is marked, all that the others cover is True
pub all_true : (c : BlockPlace) → ¬ T (covers c pixel₁) → ¬ T (covers c pixel₂)
    → AllTrue covers (λ p. cond (covers (place_at 0 0 0) p) marked_true (s₃.cells p)) c
unfolding AllTrue pixel₀ pixel₁ pixel₂ covers_pixel covers_along begins_in
all_true c a b = each_pixel (λ p. T (covers c p) → cond (covers (place_at 0 0 0) p) marked_true (s₃.cells p) ≡ marked_true) (λ k. refl) (λ k. absurd (a k))
    (λ k. absurd (b k))

unfoldable pub played₄ : Step s₃ s₄
unfolding pixel₀ pixel₁ pixel₂ judged_child quarters quarters_at place_if is_listed begins_in Follows marks_in_order afterwards queued_by
    cell_after covers_pixel covers_along renamed after_giving_up SkipRule AllTrue NotAllTrue
played₄ =
    record {
      taken_block = place_at 0 0 1;
      others = place_at 1 0 1 ∷ place_at 2 0 1 ∷ [];
      judgements = judgements₄;
      in_front = refl;
      checked = lit< tt;
      narrower = inside (place_at 0 0 1);
      each_child = refl;
      by_verdict = (refl, (tt, (tt, (tt, tt))));
      skip_rule = (
        (pixel₀, tt, not_true 3),
        (
          all_true (place_at 1 0 0) (λ k. k) (λ k. k),
          (all_true (place_at 0 1 0) (λ k. k) (λ k. k), (all_true (place_at 1 1 0) (λ k. k) (λ k. k), tt)),
        ),
      );
      counted = refl;
      queued = refl;
      changed = each_pixel
          (λ p. s₄.cells p ≡ cell_after covers false 3 (place_at 0 0 1) 6 (marks_in_order judgements₄ ++ afterwards judgements₄) p (s₃.cells p))
          refl refl refl;
    }

unfoldable pub played₅ : Step s₄ s₅
unfolding pixel₀ pixel₁ pixel₂ judged_child quarters quarters_at place_if is_listed begins_in Follows marks_in_order afterwards queued_by
    cell_after covers_pixel covers_along renamed after_giving_up SkipRule AllTrue NotAllTrue
played₅ =
    record {
      taken_block = place_at 1 0 1;
      others = place_at 2 0 1 ∷ [];
      judgements = judgements₅;
      in_front = refl;
      checked = lit< tt;
      narrower = inside (place_at 1 0 1);
      each_child = refl;
      by_verdict = (refl, (refl, (refl, (refl, tt))));
      skip_rule = ((pixel₁, tt, not_true 4), ((pixel₁, tt, not_true 4), ((pixel₁, tt, not_true 4), ((pixel₁, tt, not_true 4), tt))));
      counted = refl;
      queued = refl;
      changed = each_pixel
          (λ p. s₅.cells p ≡ cell_after covers false 4 (place_at 1 0 1) 6 (marks_in_order judgements₅ ++ afterwards judgements₅) p (s₄.cells p))
          refl refl refl;
    }

unfoldable pub played₆ : Step s₅ s₆
unfolding pixel₀ pixel₁ pixel₂ judged_child quarters quarters_at place_if is_listed begins_in Follows marks_in_order afterwards queued_by
    cell_after covers_pixel covers_along renamed after_giving_up SkipRule AllTrue NotAllTrue
played₆ =
    record {
      taken_block = place_at 2 0 1;
      others = [];
      judgements = judgements₆;
      in_front = refl;
      checked = lit< tt;
      narrower = inside (place_at 2 0 1);
      each_child = refl;
      by_verdict = (refl, (refl, (refl, (refl, tt))));
      skip_rule = ((pixel₂, tt, not_true 5), ((pixel₂, tt, not_true 5), ((pixel₂, tt, not_true 5), ((pixel₂, tt, not_true 5), tt))));
      counted = refl;
      queued = refl;
      changed = each_pixel
          (λ p. s₆.cells p ≡ cell_after covers false 5 (place_at 2 0 1) 6 (marks_in_order judgements₆ ++ afterwards judgements₆) p (s₅.cells p))
          refl refl refl;
    }

unfoldable pub run₃ : FinishedSteps covers false 3 s₀ s₃
run₃ = one_more (one_more (one_more no_step (step played₁)) (step played₂)) (step played₃)

unfoldable pub run : FinishedSteps covers false 6 s₀ s₆
run = one_more (one_more (one_more run₃ (step played₄)) (step played₅)) (step played₆)

unfoldable pub judged : EveryStep covers false (StepByVerdicts covers cutting false) run
unfolding run run₃ EveryStep
judged = (((((((tt, judge played₁), judge played₂), judge played₃)), judge played₄), judge played₅), judge played₆)

pub accepted : AcceptedSetup covers s₀
unfolding covers_pixel covers_along begins_in pixel₀ pixel₁ pixel₂
accepted = record {
  none_taken = refl;
  some_block = lit< tt;
  cover_all = (each_pixel (λ p. T (covers (place_at 0 0 3) p)) tt tt tt, tt);
  name_last = each_pixel
      (λ p. s₀.cells p ≡ named 0) refl refl refl;
}
