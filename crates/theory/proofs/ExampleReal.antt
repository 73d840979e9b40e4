-- A run with a real parameter and neither x nor y, in which every hypothesis is supplied: one pixel, t from 0 to 2 (fractions), is t at least 3? Setup cuts
-- [0,2] into [0,0], [0,2], [2,2]; of the second, cut at its middle, [0,1] is left undecided and cut again. In four steps every other piece is said to be false,
-- and the pixel reads False.
use mathlib.Core.Path.{◌≡◌, refl}
use mathlib.Core.Bool.{Bool, true, false}
use mathlib.Core.List.{List, [], ◌∷◌}
use Prim.Native.Nat.{ℕ, ◌+◌, ◌*◌, ◌≤◌, ◌<◌}
use native.Mathlib.Nat.{mul-pos, mul-le-mul_right, mul-lt-mul_of_pos_right}
use native.Mathlib.Omega.{arith}
use lib.Dec.{T, lit<}
use Rattle.theory.specs.Cells.{named, standing_reads, renamed}
use Rattle.theory.specs.Runs.{Snapshot, queued_by, AcceptedSetup, Narrower, cell_after, FinishedStep, FinishedSteps, no_step, one_more, EveryStep}
use Rattle.theory.specs.Demand3.{pixel_reads}
use Rattle.theory.specs.Colours.{Question, HasSolution, Holds, NoneIn, HoldsAll, said_false, said_undecided, denied, waits_as, Judgement, judgement}
use Rattle.theory.specs.Colours.{judged_child, marks_in_order, afterwards, Cutting, Follows, NotAllTrue, SkipRule, LosesNothing, StepByVerdicts}
use Rattle.theory.specs.Colours.{EveryJudgement, FalseRight}
use Rattle.theory.specs.Positions.{Fraction, AtMost}
use Rattle.theory.specs.Cuts.{End, minus_inf, finite, plus_inf, Span, span, point_span, first_pieces, later_pieces, UpToEnd, InSpan}
use Rattle.base.specs.Lists.{Every}
use Rattle.base.proofs.ListLaws.{some_mono}
use Rattle.theory.proofs.Edges.{at_most_total}
use Rattle.theory.proofs.ExampleSteps.{Played, as_step, as_judged, not_true, undecided_not_false}
use Rattle.theory.proofs.Theorems as Promise

abbrev Pixel : Type 0
Pixel = Unit {0}

abbrev covers : Span Fraction → Pixel → Bool
covers b p = true

-- ---- the cut: at the middle

abbrev whole : ℕ → Fraction
whole n = record { num = n; den = 1; den_pos = lit< tt }

unfoldable half_way : Fraction → Fraction → Fraction
half_way a b = record { num = a.num * b.den + b.num * a.den; den = 2 * (a.den * b.den); den_pos = mul-pos (lit< tt) (mul-pos a.den_pos b.den_pos) }

-- where an end is infinite, 0
abbrev middle : End Fraction → End Fraction → Fraction
middle minus_inf b = whole 0
middle (finite a) minus_inf = whole 0
middle (finite a) (finite b) = half_way a b
middle (finite a) plus_inf = whole 0
middle plus_inf b = whole 0

abbrev from_to : Fraction → Fraction → Span Fraction
from_to a b = span (finite a) (finite b)

abbrev cutting : Cutting (Span Fraction)
cutting = record { children = λ v. later_pieces (middle v.lower v.upper) v; Checked = λ v. Unit {0}; Same = λ c d. d ≡ c }

abbrev question : Question (Span Fraction) Pixel
question =
    record {
      Mix = Fraction;
      Given = λ t. InSpan AtMost (from_to (whole 0) (whole 2)) t;
      At = λ t p. Unit {0};
      In = λ b t. InSpan AtMost b t;
      Solves = λ t. 3 * t.den ≤ t.num;
    }

loses_nothing : LosesNothing covers cutting question
unfolding Holds
loses_nothing =
    record {
      same_covers = λ c d p e. refl;
      same_holds = λ c d t e h. rw e h;
      split = λ b t p c g a h. some_mono (λ u. InSpan AtMost u t) (λ u. InSpan AtMost u t × T true) (later_pieces (middle b.lower b.upper) b)
          (λ u o. (o, tt)) (Promise.later_real_loses_nothing AtMost at_most_total (middle b.lower b.upper) b t h.0);
    }

-- ---- the run

abbrev State : Type 0
State = Snapshot (Span Fraction) Pixel

abbrev snapshot : ℕ → List (Span Fraction) → ℕ → State
snapshot n q m = record { taken = n; queue = q; cells = λ p. named m }

abbrev at_0 : Span Fraction
at_0 = from_to (whole 0) (whole 0)

abbrev range : Span Fraction
range = from_to (whole 0) (whole 2)

abbrev at_2 : Span Fraction
at_2 = from_to (whole 2) (whole 2)

-- the middles: of [0,0], of [0,2], of [2,2], and of [0,1]
abbrev c₁ : Fraction
c₁ = half_way (whole 0) (whole 0)

abbrev c₂ : Fraction
c₂ = half_way (whole 0) (whole 2)

abbrev c₃ : Fraction
c₃ = half_way (whole 2) (whole 2)

abbrev c₄ : Fraction
c₄ = half_way (whole 0) c₂

abbrev low_half : Span Fraction
low_half = from_to (whole 0) c₂

abbrev s₀ : State
s₀ = snapshot 0 (at_0 ∷ range ∷ at_2 ∷ []) 2

abbrev s₁ : State
s₁ = snapshot 1 (range ∷ at_2 ∷ []) 2

abbrev s₂ : State
s₂ = snapshot 2 (at_2 ∷ low_half ∷ []) 3

abbrev s₃ : State
s₃ = snapshot 3 (low_half ∷ []) 3

abbrev s₄ : State
s₄ = snapshot 4 [] 3

accepted : AcceptedSetup covers s₀
accepted = record { none_taken = refl; some_block = lit< tt; cover_all = (λ p. tt, (λ p. tt, (λ p. tt, tt))); name_last = λ p. refl }

-- setup's blocks are the pieces of the first cut
holds_all : HoldsAll covers question s₀
unfolding HoldsAll Holds first_pieces point_span
holds_all t p g a = some_mono (λ u. InSpan AtMost u t) (λ u. InSpan AtMost u t × T true) s₀.queue (λ u o. (o, tt))
    (Promise.first_real_loses_nothing AtMost range t g)

abbrev no : Fraction → Fraction → Judgement (Span Fraction)
no a b = judgement (from_to a b) said_false denied

abbrev waits : Span Fraction → Judgement (Span Fraction)
waits c = judgement c said_undecided (waits_as c)

abbrev Step : State → State → Type 0
Step = Played covers cutting false

abbrev step : {s s' : State} → Step s s' → FinishedStep covers false s s'
step y = as_step covers cutting false (λ c d p e. refl) y

abbrev judge : {s s' : State} (y : Step s s') → StepByVerdicts covers cutting false s s' (step y)
judge y = as_judged covers cutting false (λ c d p e. refl) y

-- every piece covers the one pixel
narrow : (v : Span Fraction) → Every (Narrower covers v) (cutting.children v)
unfolding Narrower later_pieces
narrow v = (λ p k. tt, (λ p k. tt, (λ p k. tt, tt)))

unfoldable played₁ : Step s₀ s₁
unfolding judged_child later_pieces Follows marks_in_order afterwards queued_by cell_after SkipRule NotAllTrue
played₁ =
    record {
      taken_block = at_0;
      others = range ∷ at_2 ∷ [];
      judgements = no (whole 0) c₁ ∷ no c₁ c₁ ∷ no c₁ (whole 0) ∷ [];
      in_front = refl;
      checked = tt;
      narrower = narrow at_0;
      each_child = refl;
      by_verdict = (refl, (refl, (refl, tt)));
      skip_rule = ((tt, tt, not_true 2), ((tt, tt, not_true 2), ((tt, tt, not_true 2), tt)));
      counted = refl;
      queued = refl;
      changed = λ p. refl;
    }

unfoldable played₂ : Step s₁ s₂
unfolding judged_child later_pieces Follows marks_in_order afterwards queued_by cell_after renamed SkipRule NotAllTrue
played₂ =
    record {
      taken_block = range;
      others = at_2 ∷ [];
      judgements = waits low_half ∷ no c₂ c₂ ∷ no c₂ (whole 2) ∷ [];
      in_front = refl;
      checked = tt;
      narrower = narrow range;
      each_child = refl;
      by_verdict = ((refl, refl), (refl, (refl, tt)));
      skip_rule = ((tt, tt, not_true 2), ((tt, tt, not_true 2), ((tt, tt, not_true 2), tt)));
      counted = refl;
      queued = refl;
      changed = λ p. refl;
    }

unfoldable played₃ : Step s₂ s₃
unfolding judged_child later_pieces Follows marks_in_order afterwards queued_by cell_after SkipRule NotAllTrue
played₃ =
    record {
      taken_block = at_2;
      others = low_half ∷ [];
      judgements = no (whole 2) c₃ ∷ no c₃ c₃ ∷ no c₃ (whole 2) ∷ [];
      in_front = refl;
      checked = tt;
      narrower = narrow at_2;
      each_child = refl;
      by_verdict = (refl, (refl, (refl, tt)));
      skip_rule = ((tt, tt, not_true 3), ((tt, tt, not_true 3), ((tt, tt, not_true 3), tt)));
      counted = refl;
      queued = refl;
      changed = λ p. refl;
    }

unfoldable played₄ : Step s₃ s₄
unfolding judged_child later_pieces Follows marks_in_order afterwards queued_by cell_after SkipRule NotAllTrue
played₄ =
    record {
      taken_block = low_half;
      others = [];
      judgements = no (whole 0) c₄ ∷ no c₄ c₄ ∷ no c₄ c₂ ∷ [];
      in_front = refl;
      checked = tt;
      narrower = narrow low_half;
      each_child = refl;
      by_verdict = (refl, (refl, (refl, tt)));
      skip_rule = ((tt, tt, not_true 3), ((tt, tt, not_true 3), ((tt, tt, not_true 3), tt)));
      counted = refl;
      queued = refl;
      changed = λ p. refl;
    }

unfoldable run : FinishedSteps covers false 4 s₀ s₄
run = one_more (one_more (one_more (one_more no_step (step played₁)) (step played₂)) (step played₃)) (step played₄)

unfoldable judged : EveryStep covers false (StepByVerdicts covers cutting false) run
unfolding run EveryStep
judged = ((((tt, judge played₁), judge played₂), judge played₃), judge played₄)

-- ---- the colours

-- a piece whose upper end is under 3 holds no solution
under_3 : (a b : Fraction) → b.num < 3 * b.den → FalseRight covers question (no a b)
unfolding FalseRight NoneIn Holds InSpan UpToEnd AtMost
under_3 a b l n e t p g o h s =
    let u = h.0.1 in
    let r : 3 * t.den * b.den ≤ t.num * b.den = mul-le-mul_right b.den s in
    let k : b.num * t.den < 3 * b.den * t.den = mul-lt-mul_of_pos_right l t.den_pos in
    omega arith

all_right : EveryJudgement covers cutting false (FalseRight covers question) run judged
unfolding EveryJudgement run judged played₁ played₂ played₃ played₄ half_way
all_right = (
  (
    (
      (tt, (under_3 (whole 0) c₁ (lit< tt), (under_3 c₁ c₁ (lit< tt), (under_3 c₁ (whole 0) (lit< tt), tt)))),
      (undecided_not_false covers question low_half (waits_as low_half), (under_3 c₂ c₂ (lit< tt), (under_3 c₂ (whole 2) (lit< tt), tt))),
    ),
    (under_3 (whole 2) c₃ (lit< tt), (under_3 c₃ c₃ (lit< tt), (under_3 c₃ (whole 2) (lit< tt), tt))),
  ),
  (under_3 (whole 0) c₄ (lit< tt), (under_3 c₄ c₄ (lit< tt), (under_3 c₄ c₂ (lit< tt), tt))),
)

-- so no t from 0 to 2 is at least 3
white : ¬ HasSolution question tt
white = Promise.white_means_no covers cutting question false loses_nothing accepted holds_all run judged all_right tt (unfold pixel_reads standing_reads in refl)
