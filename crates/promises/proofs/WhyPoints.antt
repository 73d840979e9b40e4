-- A sample point's place counts from 1, so 0 is left for the area verdict. Assumes nothing.
use mathlib.Core.Path.{◌≡◌, refl}
use mathlib.Core.Bool.{cond, ◌||◌}
use mathlib.Core.List.{List, [], ◌∷◌}
use Prim.Native.Nat.{ℕ, zero, suc, ◌+◌, ◌<◌}
use native.Mathlib.Omega.{arith}
use lib.Count.{count_leading_zeros}
use lib.Dec.{T, leb, eqb}
use Rattle.base.specs.Lists.{Every}
use Rattle.base.proofs.Test.{by_test}
use Rattle.image.specs.declared.Op.TheVariants as Op
use Rattle.image.specs.Cell.{Cell, meanings}
use Rattle.queue.specs.declared.Block.{Block}
use Rattle.decide.specs.declared.Chosen.{Chosen}
use Rattle.decide.specs.declared.verdict.Outcome.{Outcome}
use Rattle.decide.specs.declared.verdict.Outcome.TheVariants as O
use Rattle.decide.specs.Children.{children_of}
use Rattle.decide.specs.Verdict.{result_of, area_of, points_of, first_point, undecided_outcome, verdict_outcome, outcome_of, is_marking}
use Rattle.plan.specs.Plan.{painted_under, all_true, outcomes}
use Rattle.implicit.specs.Step.{World}
use Rattle.explain.specs.History.{Answered, answered_by, PastStep}
use Rattle.explain.specs.Reasons.{point_of}
use Rattle.promises.specs.Chart.{queued_blocks}
use Rattle.promises.specs.Steps.{Steps, no_steps, then_step, then_move}
use Rattle.promises.specs.Why.{past_with, past_in, marking_by}

-- an outcome at a point has its place from 1 on
unfoldable pub PointsFromOne : Outcome → Type 0
PointsFromOne O.Skipped = Unit {0}
PointsFromOne O.False = Unit {0}
PointsFromOne O.Area = Unit {0}
PointsFromOne (O.Point place) = 0 < place
PointsFromOne (O.Incomplete tried) = Unit {0}

abbrev pub Pointed : Answered → Type 0
Pointed a = PointsFromOne a.outcome

verdict_pointed : (rank v : ℕ) → PointsFromOne (verdict_outcome rank v)
unfolding verdict_outcome undecided_outcome first_point PointsFromOne
verdict_pointed rank v =
    by_test PointsFromOne (eqb (result_of v) 0) O.False _ (λ e. tt)
    (λ e. by_test PointsFromOne (eqb (result_of v) 1) _ _
    (λ f. by_test PointsFromOne (area_of v) _ (O.Incomplete 0)
    (λ g. by_test PointsFromOne (eqb (points_of v) 0) (O.Incomplete 5) (O.Point (count_leading_zeros 5 (points_of v) + 1)) (λ h. tt) (λ h. omega arith))
    (λ g. tt))
    (λ f. by_test PointsFromOne (leb 48 rank || area_of v) O.Area (O.Incomplete 0) (λ g. tt) (λ g. tt)))

outcomes_pointed : (p : Chosen) (l : List Cell) (cs : List Block) (vs : List ℕ) → Every PointsFromOne (outcomes p l cs vs)
unfolding outcomes PointsFromOne
outcomes_pointed p l [] vs = tt
outcomes_pointed p l (c ∷ cs) [] = tt
outcomes_pointed p l (c ∷ cs) (v ∷ vs) = (
  by_test PointsFromOne (all_true p c l) O.Skipped (verdict_outcome c.x.rank v) (λ e. tt) (λ e. verdict_pointed c.x.rank v),
  outcomes_pointed p (cond (is_marking (outcome_of c.x.rank v (all_true p c l))) (painted_under p c Op.Mark l) l) cs vs,
)

answers_pointed : (cs : List Block) (vs : List ℕ) (os : List Outcome) → Every PointsFromOne os → Every Pointed (answered_by cs vs os)
unfolding answered_by
answers_pointed [] vs os h = tt
answers_pointed (c ∷ cs) [] os h = tt
answers_pointed (c ∷ cs) (v ∷ vs) [] h = tt
answers_pointed (c ∷ cs) (v ∷ vs) (o ∷ os) h = (h.0, answers_pointed cs vs os h.1)

-- the answers of all steps
abbrev pub AllPointed : List PastStep → Type 0
AllPointed h = Every (λ e. Every Pointed e.answers) h

pub past_pointed : {n : ℕ} {w w' : World} (r : Steps n w w') → AllPointed (past_in r)
unfolding past_in past_with
past_pointed no_steps = tt
past_pointed (then_step {w' = w'} r vs evals bytes e) = one (queued_blocks w') (past_in r) (past_pointed r)
  where
    one : (q : List Block) (h : List PastStep) → AllPointed h → AllPointed (past_with w' vs q h)
    one [] h k = k
    one (b ∷ q) h k =
        let p = w'.state.chosen in
        (answers_pointed (children_of p b) vs _ (outcomes_pointed p (meanings w'.cells) (children_of p b) vs), k)
past_pointed (then_move r m) = past_pointed r

-- so a mark is told by its number
pub marked_point : (o : Outcome) → T (is_marking o) → PointsFromOne o → o ≡ marking_by (point_of o)
unfolding PointsFromOne marking_by
marked_point O.Skipped t h = absurd t
marked_point O.False t h = absurd t
marked_point O.Area t h = refl
marked_point (O.Point zero) t h = absurd (omega arith)
marked_point (O.Point (suc k)) t h = refl
marked_point (O.Incomplete tried) t h = absurd t
