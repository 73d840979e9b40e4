-- What the colours of a real picture mean, cited from `theory`: the engine's steps are judged by their verdict bytes, and its first blocks hold every
-- mix that is given. Assumes nothing.
use mathlib.Core.Path.{◌≡◌, refl, sym, ◌∙◌, subst}
use mathlib.Core.Logic.{◌⊎◌, inl, inr, ⊎_elim}
use mathlib.Core.Bool.{false}
use mathlib.Core.List.{List, [], ◌∷◌}
use Prim.Native.Nat.{ℕ}
use Rattle.base.specs.Lists.{Every}
use Rattle.theory.specs.Cells.{reads_true, reads_false}
use Rattle.theory.specs.Runs.{EveryStep}
use Rattle.theory.specs.Colours.{Question, HasSolution, HoldsAll, Judgement, StepByVerdicts, EveryJudgement, FalseRight, MarkRight}
use Rattle.theory.proofs.Theorems as Theory
use Rattle.image.specs.declared.Reading.TheVariants as R
use Rattle.image.specs.Cell.{meanings}
use Rattle.queue.specs.declared.Block.{Block}
use Rattle.decide.specs.declared.Chosen.{Chosen}
use Rattle.plan.proofs.ChildLaws.{Fine}
use Rattle.implicit.specs.Step.{World}
use Rattle.promises.specs.Chart.{Pixel, covers_in, queued_blocks}
use Rattle.promises.specs.Steps.{Asked, BegunAs, Steps, no_steps, then_step, then_move, reads_in, StandsGivenUp}
use Rattle.promises.specs.Judgements.{judgements_of, judgements_taking, EveryAnswer}
use Rattle.promises.specs.Mixes.{Measures, Mix, question_of}
use Rattle.promises.specs.Sentences.{WhiteMeansNo}
use Rattle.promises.proofs.Snapshots.{snapshot_of}
use Rattle.promises.proofs.Along.{along_both}
use Rattle.promises.proofs.Invariant.{Keeps, keeps_queue}
use Rattle.promises.proofs.Linked.{Reached, Linked, linked_events, begun_passed, begun_reached, begun_accepted, begun_queue, steps_reached}
use Rattle.promises.proofs.Linked.{step_linked, move_same, StepsFrom, in_theory, over_move}
use Rattle.promises.proofs.Demand3.{reads_both, stands}
use Rattle.promises.proofs.Judgements.{cutting_of, step_by_judgements}
use Rattle.promises.proofs.MixesSplit.{real_cutting}
use Rattle.promises.proofs.MixesFirst.{first_hold}

-- ---- the steps are judged by their verdicts

module _ (p : Chosen) where
  -- the parameters of the block that a step takes are as the queue keeps them
  pub front_fine : (v v' : World) (vs : List ℕ) → Reached p v → (l : Linked p v vs v') → Fine p.set l.step.front
  front_fine v v' vs h l =
      let e : h.blocks ≡ l.step.front ∷ l.step.rest = sym (keeps_queue v h.blocks h.keeps) ∙ l.step.at_front in
      let k : Keeps v (l.step.front ∷ l.step.rest) = subst (Keeps v) e h.keeps in
      rw (← h.chosen) k.holds.all.0.fine

  unfoldable pub judged_linked : (v v' : World) (vs : List ℕ) → Reached p v → (l : Linked p v vs v')
      → StepByVerdicts (covers_in p) (cutting_of p) false (snapshot_of p v) (snapshot_of p v') l.step
  judged_linked v v' vs h l =
      step_by_judgements p l.step.front (meanings v.cells) vs l.front_sound l.enough (front_fine v v' vs h l) l.verdicts (snapshot_of p v) (snapshot_of p v') l.step refl
      (λ q. refl) (linked_events p v vs v' l)

  module _ {w : World} (h : Reached p w) where
    unfoldable pub every_judged : {n : ℕ} {w' : World} (r : Steps n w w')
        → EveryStep (covers_in p) false (StepByVerdicts (covers_in p) (cutting_of p) false) (in_theory p h r)
    unfolding EveryStep in_theory
    every_judged no_steps = tt
    every_judged (then_step {w' = w'} {w'' = w''} r vs evals bytes e) =
        (every_judged r, judged_linked w' w'' vs (steps_reached p h r) (step_linked p w' (steps_reached p h r) vs w'' evals bytes e))
    every_judged (then_move r m) = over_move p h r m (λ s x. EveryStep (covers_in p) false (StepByVerdicts (covers_in p) (cutting_of p) false) x) (every_judged r)

    -- what is said of each answer is said of each judgement
    pub answers_judgements : (P : Judgement Block → Type 0) {n : ℕ} {w' : World} (r : Steps n w w') → EveryAnswer p P r
        → EveryJudgement (covers_in p) (cutting_of p) false P (in_theory p h r) (every_judged r)
    unfolding EveryAnswer EveryJudgement in_theory over_move every_judged judged_linked step_by_judgements judgements_taking
    answers_judgements P no_steps a = tt
    answers_judgements P (then_step {w' = w'} {w'' = w''} r vs evals bytes e) a =
        (answers_judgements P r a.0, one (step_linked p w' (steps_reached p h r) vs w'' evals bytes e) a.1)
      where
        one : (l : Linked p w' vs w'') → Every P (judgements_taking p w' vs (queued_blocks w'))
            → Every P (judgements_of p l.step.front (meanings w'.cells) vs)
        one l k = subst (λ (q : List Block). Every P (judgements_taking p w' vs q)) l.step.at_front k
    answers_judgements P (then_move {n = n} {w' = w'} {w'' = w''} r m) a =
        along_both (StepsFrom p n (snapshot_of p w)) (λ s x. EveryStep (covers_in p) false (StepByVerdicts (covers_in p) (cutting_of p) false) x)
        (move_same p w' (steps_reached p h r) w'' m) (in_theory p h r) (every_judged r)
        (λ s x j. EveryJudgement (covers_in p) (cutting_of p) false P x j) (answers_judgements P r a)

-- ---- the first blocks hold every mix that is given

module _ (M : Measures) (Solves : Mix M → Type 0) (a : Asked) {w₀ : World} (z : BegunAs a w₀) where
  abbrev p : Chosen
  p = a.chosen

  abbrev Q : Question Block (Pixel p)
  Q = question_of M p a.ranges Solves

  pub holds_all : HoldsAll (covers_in p) Q (snapshot_of p w₀)
  unfolding HoldsAll
  holds_all x q given at =
      let b = begun_passed a w₀ z in
      rw (begun_queue a w₀ z) (first_hold M x p a.ranges Solves b.width_most b.height_most b.ranges z.held q given at)

  -- ---- the colours

  -- a pixel that reads False holds no solution
  pub white_none : WhiteMeansNo M Solves a w₀
  white_none n w r right q e =
      let h = begun_reached a w₀ z in
      Theory.white_means_no (covers_in p) (cutting_of p) Q false (real_cutting M p a.ranges Solves) (begun_accepted a w₀ z) holds_all (in_theory p h r) (every_judged p h r)
      (answers_judgements p h (FalseRight (covers_in p) Q) r right) q ((reads_both p w q reads_false).0 e)

  -- a pixel that reads True holds one
  pub true_one : {n : ℕ} {w : World} (r : Steps n w₀ w) → EveryAnswer p (MarkRight (covers_in p) Q) r
      → (q : Pixel p) → reads_in p w q ≡ R.True → HasSolution Q q
  true_one {w = w} r right q e =
      let h = begun_reached a w₀ z in
      Theory.true_means_yes (covers_in p) (cutting_of p) Q false (begun_accepted a w₀ z) (in_theory p h r) (every_judged p h r)
      (answers_judgements p h (MarkRight (covers_in p) Q) r right) q ((reads_both p w q reads_true).0 e)

  -- and with an empty queue each reads one or the other, or is given up
  pub all_decided : {n : ℕ} {w : World} (r : Steps n w₀ w) → EveryAnswer p (FalseRight (covers_in p) Q) r → EveryAnswer p (MarkRight (covers_in p) Q) r
      → queued_blocks w ≡ [] → (q : Pixel p) → ¬ StandsGivenUp p w q
      → ((reads_in p w q ≡ R.True) × HasSolution Q q) ⊎ ((reads_in p w q ≡ R.False) × (¬ HasSolution Q q))
  all_decided {w = w} r right marks none q kept =
      let h = begun_reached a w₀ z in
      ⊎_elim (λ k. inl ((reads_both p w q reads_true).1 k.0, k.1)) (λ k. inr ((reads_both p w q reads_false).1 k.0, k.1))
      (Theory.done_decides (covers_in p) (cutting_of p) Q false (real_cutting M p a.ranges Solves) (begun_accepted a w₀ z) holds_all (in_theory p h r) (every_judged p h r)
      (answers_judgements p h (FalseRight (covers_in p) Q) r right) (answers_judgements p h (MarkRight (covers_in p) Q) r marks) none q (λ s. kept ((stands a z r q).1 s)))
