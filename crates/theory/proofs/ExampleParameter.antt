-- A run with an integer parameter and neither x nor y, in which every hypothesis is supplied: one pixel, m from 0 to 3, is m times m equal to 2? Setup cuts
-- [0,3] into [0,0], [0,3], [3,3]; three steps cut these on, every child is said to be false, and the pixel reads False. And document 01's worked cuts.
use mathlib.Core.Path.{◌≡◌, refl, sym, ap}
use mathlib.Core.Logic.{◌⊎◌, inl, inr}
use mathlib.Core.Bool.{Bool, true, false}
use mathlib.Core.List.{List, [], ◌∷◌, append-nil}
use Prim.Native.Nat.{ℕ, suc, ◌+◌, ◌*◌, ◌/◌}
use native.Mathlib.Omega.{arith}
use lib.Dec.{T, lit<}
use lib.IntN.{ℤ, pos, negsuc, ◌*ℤ◌}
use lib.Signed.{◌≤ℤ◌, le_z_yes, <ℤ_irrefl}
use Rattle.theory.specs.Cells.{named, standing_reads}
use Rattle.theory.specs.Runs.{Snapshot, queued_by, AcceptedSetup, AllNarrower, cell_after, FinishedStep, FinishedSteps, no_step, one_more, EveryStep}
use Rattle.theory.specs.Demand3.{pixel_reads, AllWhole, GivesUpAlike, WholePicture}
use Rattle.theory.specs.Colours.{Question, HasSolution, Holds, NoneIn, HoldsAll, said_false, denied, Judgement, judgement, judged_child}
use Rattle.theory.specs.Colours.{marks_in_order, afterwards, Cutting, Follows, NotAllTrue, SkipRule, LosesNothing, StepByVerdicts, EveryJudgement}
use Rattle.theory.specs.Colours.{FalseRight}
use Rattle.theory.specs.Cuts.{End, minus_inf, finite, plus_inf, Span, span, point_span, first_pieces, later_pieces, FromEnd, UpToEnd, InSpan}
use Rattle.theory.specs.Cuts.{OverEnd, UnderEnd, Owes, is_step, has_width1, has_width2, without_width1, next_end, middle_if_width2, same_end}
use Rattle.theory.specs.Cuts.{unlike_before, no_repeats, first_integers, later_integers}
use Rattle.base.specs.Lists.{Some}
use Rattle.base.proofs.ListLaws.{some_mono}
use Rattle.theory.proofs.IntegerLaws.{less_trans}
use Rattle.theory.proofs.ExampleSteps.{not_true}
use Rattle.theory.proofs.Theorems as Promise

abbrev from_to : ℕ → ℕ → Span ℤ
from_to a b = span (finite (pos a)) (finite (pos b))

abbrev always : Span ℤ → Bool
always v = true

-- ---- document 01's cuts: [0,3] at 2, [0,+inf] at 1; first cuts of [5,5], an integer and a real; and a parameter that cannot be divided, cut all the same
worked : (later_integers always (pos 2) (from_to 0 3) ≡ from_to 1 1 ∷ from_to 2 2 ∷ [])
    × (later_integers always (pos 1) (span (finite (pos 0)) plus_inf) ≡ from_to 1 1 ∷ span (finite (pos 1)) plus_inf ∷ [])
    × (first_integers (from_to 5 5) ≡ from_to 5 5 ∷ [])
    × (first_pieces (from_to 5 5) ≡ from_to 5 5 ∷ from_to 5 5 ∷ from_to 5 5 ∷ [])
    × (later_integers always (pos 5) (from_to 5 5) ≡ from_to 5 5 ∷ from_to 5 5 ∷ from_to 5 5 ∷ [])
unfolding first_integers later_integers first_pieces later_pieces point_span is_step next_end has_width1 has_width2 without_width1 middle_if_width2
    same_end unlike_before no_repeats
worked = (refl, refl, refl, refl, refl)

-- why [a,b] does not owe its ends: [0,1] cut at 1 gives [1,1] twice, and nothing would hold 0
ends_would_be_lost : InSpan (λ a b. a ≤ℤ b) (from_to 0 1) (pos 0) × (¬ Some (λ u. InSpan (λ a b. a ≤ℤ b) u (pos 0))
    (later_integers always (pos 1) (from_to 0 1)))
unfolding InSpan FromEnd UpToEnd Some later_integers later_pieces is_step next_end has_width1 has_width2 without_width1 middle_if_width2
ends_would_be_lost = ((le_z_yes tt, le_z_yes tt), λ h. lost h)
  where
    lost : (((pos 1 ≤ℤ pos 0) × (pos 0 ≤ℤ pos 1)) ⊎ (((pos 1 ≤ℤ pos 0) × (pos 0 ≤ℤ pos 1)) ⊎ ⊥)) → ⊥
    lost (inl h) = h.0.le
    lost (inr (inl h)) = h.0.le
    lost (inr (inr h)) = h

-- ---- the picture

abbrev Pixel : Type 0
Pixel = Unit {0}

abbrev covers : Span ℤ → Pixel → Bool
covers b p = true

-- the middle, half upwards
abbrev middle : End ℤ → End ℤ → ℤ
middle minus_inf b = pos 0
middle (finite (pos a)) minus_inf = pos 0
middle (finite (pos a)) (finite (pos b)) = pos ((a + b + 1) / 2)
middle (finite (pos a)) (finite (negsuc b)) = pos 0
middle (finite (pos a)) plus_inf = pos 0
middle (finite (negsuc a)) b = pos 0
middle plus_inf b = pos 0

abbrev cutting : Cutting (Span ℤ)
cutting =
    record {
      children = λ v. later_integers always (middle v.lower v.upper) v;
      Checked = λ v. InSpan (λ a b. a ≤ℤ b) v (middle v.lower v.upper);
      Same = λ c d. d ≡ c;
    }

abbrev question : Question (Span ℤ) Pixel
question =
    record {
      Mix = ℤ;
      Given = λ m. InSpan (λ a b. a ≤ℤ b) (from_to 0 3) m;
      At = λ m p. Unit {0};
      In = Owes;
      Solves = λ m. m *ℤ m ≡ pos 2;
    }

loses_nothing : LosesNothing covers cutting question
unfolding Holds
loses_nothing =
    record {
      same_covers = λ c d p e. refl;
      same_holds = λ c d m e h. rw e h;
      split = λ b m p c g a h. some_mono (λ u. Owes u m) (λ u. Owes u m × T true) (later_integers always (middle b.lower b.upper) b) (λ u o. (o, tt))
          (Promise.later_integer_loses_nothing always (middle b.lower b.upper) b m c h.0);
    }

-- ---- the run

abbrev snapshot : ℕ → List (Span ℤ) → Snapshot (Span ℤ) Pixel
snapshot n q = record { taken = n; queue = q; cells = λ p. named 2 }

abbrev s₀ : Snapshot (Span ℤ) Pixel
s₀ = snapshot 0 (from_to 0 0 ∷ from_to 0 3 ∷ from_to 3 3 ∷ [])

abbrev s₁ : Snapshot (Span ℤ) Pixel
s₁ = snapshot 1 (from_to 0 3 ∷ from_to 3 3 ∷ [])

abbrev s₂ : Snapshot (Span ℤ) Pixel
s₂ = snapshot 2 (from_to 3 3 ∷ [])

abbrev s₃ : Snapshot (Span ℤ) Pixel
s₃ = snapshot 3 []

accepted : AcceptedSetup covers s₀
accepted = record { none_taken = refl; some_block = lit< tt; cover_all = (λ p. tt, (λ p. tt, (λ p. tt, tt))); name_last = λ p. refl }

-- setup's blocks are the pieces of the first cut
holds_all : HoldsAll covers question s₀
unfolding HoldsAll Holds first_integers first_pieces point_span is_step has_width1 without_width1 same_end unlike_before no_repeats
holds_all m p g a = some_mono (λ u. Owes u m) (λ u. Owes u m × T true) s₀.queue (λ u o. (o, tt)) (Promise.first_integer_loses_nothing (from_to 0 3) m g)

abbrev no : ℕ → Judgement (Span ℤ)
no a = judgement (from_to a a) said_false denied

-- a step in which every child is said to be false changes nothing but the count
unfoldable step : (n : ℕ) (b : Span ℤ) (q : List (Span ℤ)) → FinishedStep covers false (snapshot n (b ∷ q)) (snapshot (suc n) q)
unfolding queued_by cell_after AllNarrower
step n b q = record { front = b; rest = q; events = []; at_front = refl; narrower = tt; taken' = refl; queue' = sym (append-nil q); cells' = λ p. refl }

unfoldable run : FinishedSteps covers false 3 s₀ s₃
run = one_more (one_more (one_more no_step (step 0 (from_to 0 0) (from_to 0 3 ∷ from_to 3 3 ∷ []))) (step 1 (from_to 0 3) (from_to 3 3 ∷ [])))
    (step 2 (from_to 3 3) [])

unfoldable judged : EveryStep covers false (StepByVerdicts covers cutting false) run
unfolding EveryStep run step Follows SkipRule NotAllTrue judged_child marks_in_order afterwards InSpan FromEnd UpToEnd later_integers
    later_pieces is_step next_end has_width1 has_width2 without_width1 middle_if_width2
judged = (
  (
    (
      tt,
      record {
        checked = (le_z_yes tt, le_z_yes tt);
        judgements = no 0 ∷ no 0 ∷ no 0 ∷ [];
        each_child = refl;
        by_verdict = (refl, (refl, (refl, tt)));
        skip_rule = ((tt, tt, not_true 2), ((tt, tt, not_true 2), ((tt, tt, not_true 2), tt)));
        these_events = refl;
      },
    ),
    record {
      checked = (le_z_yes tt, le_z_yes tt);
      judgements = no 1 ∷ no 2 ∷ [];
      each_child = refl;
      by_verdict = (refl, (refl, tt));
      skip_rule = ((tt, tt, not_true 2), ((tt, tt, not_true 2), tt));
      these_events = refl;
    },
  ),
  record {
    checked = (le_z_yes tt, le_z_yes tt);
    judgements = no 3 ∷ no 3 ∷ no 3 ∷ [];
    each_child = refl;
    by_verdict = (refl, (refl, (refl, tt)));
    skip_rule = ((tt, tt, not_true 2), ((tt, tt, not_true 2), ((tt, tt, not_true 2), tt)));
    these_events = refl;
  },
)

-- [a,a] owes a alone
owes_point : (a : ℕ) (m : ℤ) → Owes (from_to a a) m → m ≡ pos a
unfolding Owes OverEnd UnderEnd
owes_point a m (inl e) = let g : finite (pos a) ≡ finite m = ap (λ (v : Span ℤ). v.lower) e in let f : pos a ≡ m = cc in sym f
owes_point a m (inr h) = absurd (<ℤ_irrefl (less_trans h.0 h.1))

no_right : (a : ℕ) → ¬ (a * a ≡ 2) → FalseRight covers question (no a)
unfolding FalseRight NoneIn Holds
no_right a n l e m p g t h s =
    let f : pos (a * a) ≡ pos 2 = rw (owes_point a m h.0) at s in
    let k : a * a ≡ 2 = cc in
    n k

all_right : EveryJudgement covers cutting false (FalseRight covers question) run judged
unfolding EveryJudgement run judged
all_right = (((tt, (n0, (n0, (n0, tt)))), (no_right 1 (λ e. omega arith), (no_right 2 (λ e. omega arith), tt))), (n3, (n3, (n3, tt))))
  where
    n0 : FalseRight covers question (no 0)
    n0 = no_right 0 (λ e. omega arith)

    n3 : FalseRight covers question (no 3)
    n3 = no_right 3 (λ e. omega arith)

-- so no m from 0 to 3 squares to 2
white : ¬ HasSolution question tt
white = Promise.white_means_no covers cutting question false loses_nothing accepted holds_all run judged all_right tt (unfold pixel_reads standing_reads in refl)

-- every block covers the whole picture, so its cells are alike
alike : EveryStep covers false (GivesUpAlike covers false) run
alike = Promise.alike_without_xy covers false accepted run (unfold EveryStep run step WholePicture AllWhole in
    (((tt, (λ p. tt, tt)), (λ p. tt, tt)), (λ p. tt, tt)))
