-- White means no: where every false verdict was right, a pixel that reads False holds no solution. The invariant: where a cell names a block, every
-- solution of its pixel lies in a queued block that covers the pixel. And with the queue empty every pixel that is not given up is decided.
-- Assumes nothing.
use mathlib.Core.Path.{◌≡◌, refl}
use mathlib.Core.Logic.{◌⊎◌, inl, inr, ⊎_elim}
use mathlib.Core.Bool.{Bool, cond}
use mathlib.Core.List.{List, [], ◌∷◌, ◌++◌, map}
use Prim.Native.Nat.{ℕ, ◌+◌}
use native.Mathlib.Omega.{arith}
use lib.Dec.{T}
use lib.ListN.{length}
use Rattle.base.proofs.Test.{T→≡}
use Rattle.theory.specs.Cells.{Standing, marked_true, given_up, named, reads_true, reads_false}
use Rattle.theory.specs.Runs.{Snapshot, Event, queued_by, AcceptedSetup, cell_after, FinishedStep, FinishedSteps, no_step, one_more, EveryStep}
use Rattle.theory.specs.Demand3.{pixel_reads, any_gives_up, NoneCovers}
use Rattle.theory.specs.Colours.{Question, HasSolution, Holds, NoneIn, HoldsAll, skipped, denied, marked, waits_as, stuck, Judgement, judgement}
use Rattle.theory.specs.Colours.{judged_child, marks_in_order, afterwards, Cutting, Follows, AllTrue, SkipRule, LosesNothing, StepByVerdicts}
use Rattle.theory.specs.Colours.{EveryJudgement, FalseRight, MarkRight}
use Rattle.theory.specs.Why.{history_of, ends_denied, RightHere, AllRightHere}
use Rattle.base.specs.Lists.{Every, Some}
use Rattle.base.proofs.ListLaws.{some_left, some_right}
use Rattle.theory.proofs.Nameless.{Nameless}
use Rattle.theory.proofs.StandingLaws.{reads_true_lem, reads_false_lem, nameless_stays, step_nameless, step_unnames}
use Rattle.theory.proofs.Invariant.{setup_sound, steps_sound}
use Rattle.theory.proofs.FalseRule.{false_by_cell}
use Rattle.theory.proofs.JudgementLaws.{denied_looked, denied_ends, queued_afterwards, given_up_afterwards}
use Rattle.theory.proofs.TrueMeansYes.{reads_true_solves}

module _ {Block Pixel : Type 0} (covers : Block → Pixel → Bool) (C : Cutting Block) (Q : Question Block Pixel) (laws : LosesNothing covers C Q)
    (spare : Bool) where
  -- a solution in one of the children: the marks make its pixel True, or a child gives up, or it lies in what is queued
  found : (ts : List (Judgement Block)) (x : Q.Mix) (p : Pixel) → Q.Given x → Q.At x p → Q.Solves x → Every (RightHere covers p Q) ts
      → Every (Follows C) ts
      → (t : ℕ) (b : Block) (m : ℕ) (rest : List (Event Block)) (cells : Pixel → Standing) → SkipRule covers cells ts
      → Some (Holds covers Q x p) (map judged_child ts)
      → (Nameless (cell_after covers spare t b m (marks_in_order ts ++ rest) p (cells p)) ⊎ T (any_gives_up (afterwards ts))) ⊎ Some (Holds covers Q x p)
      (queued_by (afterwards ts))
  unfolding Some Holds judged_child RightHere Follows SkipRule AllTrue marks_in_order afterwards queued_by any_gives_up cell_after
  found [] x p g at so a w t b m rest cells k h = absurd h
  found (judgement c v skipped ∷ ts) x p g at so a w t b m rest cells k (inl h) =
      inl (inl (nameless_stays covers spare t b m (marks_in_order ts ++ rest) p (cells p) (rw (k.0 p h.1) tt)))
  found (judgement c v skipped ∷ ts) x p g at so a w t b m rest cells k (inr h) = found ts x p g at so a.1 w.1 t b m rest cells k.1 h
  found (judgement c v denied ∷ ts) x p g at so a w t b m rest cells k (inl h) = absurd (a.0 refl x g at h so)
  found (judgement c v denied ∷ ts) x p g at so a w t b m rest cells k (inr h) = found ts x p g at so a.1 w.1 t b m rest cells k.1 h
  found (judgement c v marked ∷ ts) x p g at so a w t b m rest cells k (inl h) =
      inl (inl (nameless_stays covers spare t b m (marks_in_order ts ++ rest) p (cond (covers c p) marked_true (cells p)) (rw (T→≡ (covers c p) h.1) tt)))
  found (judgement c v marked ∷ ts) x p g at so a w t b m rest cells k (inr h) =
      found ts x p g at so a.1 w.1 t b m rest (λ q. cond (covers c q) marked_true (cells q)) k.1 h
  found (judgement c v (waits_as d) ∷ ts) x p g at so a w t b m rest cells k (inl h) =
      inr (inl (laws.same_holds c d x w.0.1 h.0, rw (laws.same_covers c d p w.0.1) h.1))
  found (judgement c v (waits_as d) ∷ ts) x p g at so a w t b m rest cells k (inr h) =
      ⊎_elim (λ o. inl o) (λ o. inr (inr o)) (found ts x p g at so a.1 w.1 t b m rest cells k.1 h)
  found (judgement c v stuck ∷ ts) x p g at so a w t b m rest cells k h = inl (inr tt)

  -- the invariant, of a pixel
  unfoldable pub Kept : Pixel → Snapshot Block Pixel → Type 0
  Kept p s = (n : ℕ) → s.cells p ≡ named n → (x : Q.Mix) → Q.Given x → Q.At x p → Q.Solves x → Some (Holds covers Q x p) s.queue

  not_nameless : (v : Standing) (n : ℕ) → v ≡ named n → ¬ Nameless v
  not_nameless v n e h = let z : Nameless (named n) = rw e at h in z

  kept_step : {s s' : Snapshot Block Pixel} (st : FinishedStep covers spare s s') (j : StepByVerdicts covers C spare s s' st)
      (p : Pixel) → Every (RightHere covers p Q) j.judgements → Kept p s → Kept p s'
  unfolding Kept Holds Some
  kept_step {s} {s'} st j p a h n e x g at so = go (s.cells p) refl
    where
      ts : List (Judgement Block)
      ts = j.judgements

      named_still : ¬ Nameless (s'.cells p)
      named_still = not_nameless (s'.cells p) n e

      moved : Some (Holds covers Q x p) (st.rest ++ queued_by (afterwards ts)) → Some (Holds covers Q x p) s'.queue
      moved k = rw (st.queue', j.these_events, queued_afterwards ts (afterwards ts)) k

      ended : (Nameless (cell_after covers spare s.taken st.front (s.taken + length s.queue) (marks_in_order ts ++ afterwards ts) p (s.cells p)) ⊎ T
          (any_gives_up (afterwards ts)))
          ⊎ Some (Holds covers Q x p) (queued_by (afterwards ts))
          → T (covers st.front p) → Some (Holds covers Q x p) s'.queue
      ended (inl (inl k)) c = absurd (named_still (rw (st.cells' p, j.these_events) k))
      ended (inl (inr k)) c = absurd (named_still (step_unnames covers spare st p (rw (j.these_events, given_up_afterwards ts (afterwards ts)) k) c))
      ended (inr k) c = moved (some_right (Holds covers Q x p) st.rest (queued_by (afterwards ts)) k)

      held : Some (Holds covers Q x p) (st.front ∷ st.rest) → Some (Holds covers Q x p) s'.queue
      held (inl o) =
          ended (found ts x p g at so a j.by_verdict s.taken st.front (s.taken + length s.queue) (afterwards ts) s.cells j.skip_rule
          (rw j.each_child (laws.split st.front x p j.checked g at o))) o.1
      held (inr o) = moved (some_left (Holds covers Q x p) st.rest (queued_by (afterwards ts)) o)

      go : (v : Standing) → s.cells p ≡ v → Some (Holds covers Q x p) s'.queue
      go marked_true f = absurd (named_still (step_nameless covers spare st p (rw f tt)))
      go given_up f = absurd (named_still (step_nameless covers spare st p (rw f tt)))
      go (named i) f = held (rw st.at_front at (h i f x g at so))

  -- after any number of steps whose false answers were right for this pixel
  pub kept_steps : {n : ℕ} {s s' : Snapshot Block Pixel} (r : FinishedSteps covers spare n s s')
      (j : EveryStep covers spare (StepByVerdicts covers C spare) r) (p : Pixel) → AllRightHere covers p Q (history_of covers C spare r j)
      → Kept p s → Kept p s'
  unfolding EveryStep history_of AllRightHere
  kept_steps no_step j p a h = h
  kept_steps (one_more r st) j p a h = kept_step st j.1 p a.0 (kept_steps r j.0 p a.1 h)

  pub kept_setup : (s : Snapshot Block Pixel) → HoldsAll covers Q s → (p : Pixel) → Kept p s
  unfolding Kept HoldsAll
  kept_setup s begin p n e x g at so = begin x p g at

  -- right for every pixel is right for this one
  right_here : (ts : List (Judgement Block)) (p : Pixel) → Every (Follows C) ts → Every (FalseRight covers Q) ts → Every (RightHere covers p Q) ts
  unfolding FalseRight RightHere NoneIn Follows ends_denied
  right_here [] p w a = tt
  right_here (judgement c v skipped ∷ ts) p w a = ((λ e. absurd (denied_ends c v skipped e)), right_here ts p w.1 a.1)
  right_here (judgement c v denied ∷ ts) p w a = ((λ e x. a.0 (denied_looked Block) w.0 x p), right_here ts p w.1 a.1)
  right_here (judgement c v marked ∷ ts) p w a = ((λ e. absurd (denied_ends c v marked e)), right_here ts p w.1 a.1)
  right_here (judgement c v (waits_as d) ∷ ts) p w a = ((λ e. absurd (denied_ends c v (waits_as d) e)), right_here ts p w.1 a.1)
  right_here (judgement c v stuck ∷ ts) p w a = ((λ e. absurd (denied_ends c v stuck e)), right_here ts p w.1 a.1)

  pub all_right_here : {n : ℕ} {s s' : Snapshot Block Pixel} (r : FinishedSteps covers spare n s s')
      (j : EveryStep covers spare (StepByVerdicts covers C spare) r) → EveryJudgement covers C spare (FalseRight covers Q) r j → (p : Pixel)
      → AllRightHere covers p Q (history_of covers C spare r j)
  unfolding EveryStep EveryJudgement history_of AllRightHere
  all_right_here no_step j a p = tt
  all_right_here (one_more r st) j a p = (right_here j.1.judgements p j.1.by_verdict a.1, all_right_here r j.0 a.0 p)

  none_holds : (x : Q.Mix) (p : Pixel) (q : List Block) → NoneCovers covers q p → ¬ Some (Holds covers Q x p) q
  unfolding Some Holds NoneCovers
  none_holds x p [] h k = k
  none_holds x p (b ∷ q) h (inl k) = h.0 k.1
  none_holds x p (b ∷ q) h (inr k) = none_holds x p q h.1 k

  pub reads_false_none : {n : ℕ} {s₀ s : Snapshot Block Pixel} → AcceptedSetup covers s₀ → HoldsAll covers Q s₀
      → (r : FinishedSteps covers spare n s₀ s) (j : EveryStep covers spare (StepByVerdicts covers C spare) r)
      → EveryJudgement covers C spare (FalseRight covers Q) r j → (p : Pixel) → pixel_reads s p ≡ reads_false → ¬ HasSolution Q p
  unfolding Kept HasSolution HoldsAll
  reads_false_none {s₀ = s₀} {s = s} z begin r j a p e (x, g, at, so) =
      let (n, f, l) = (reads_false_lem s.taken (s.cells p)).0 (unfold pixel_reads in e) in
      none_holds x p s.queue ((false_by_cell covers s (steps_sound covers spare r (setup_sound covers z)) p).0 e).2
      (kept_steps r j p (all_right_here r j a p) (kept_setup s₀ begin p) n f x g at so)

  pub empty_decides : {n : ℕ} {s₀ s : Snapshot Block Pixel} → AcceptedSetup covers s₀ → HoldsAll covers Q s₀
      → (r : FinishedSteps covers spare n s₀ s) (j : EveryStep covers spare (StepByVerdicts covers C spare) r)
      → EveryJudgement covers C spare (FalseRight covers Q) r j → EveryJudgement covers C spare (MarkRight covers Q) r j → s.queue ≡ [] → (p : Pixel)
      → ¬ (s.cells p ≡ given_up)
      → ((pixel_reads s p ≡ reads_true) × HasSolution Q p) ⊎ ((pixel_reads s p ≡ reads_false) × (¬ HasSolution Q p))
  empty_decides {s = s} z begin r j a m e p k = go (s.cells p) refl
    where
      white : pixel_reads s p ≡ reads_false → (pixel_reads s p ≡ reads_false) × (¬ HasSolution Q p)
      white f = (f, reads_false_none z begin r j a p f)

      black : pixel_reads s p ≡ reads_true → (pixel_reads s p ≡ reads_true) × HasSolution Q p
      black f = (f, reads_true_solves covers C Q spare z r j m p f)

      none : NoneCovers covers s.queue p
      none = rw e (unfold NoneCovers in tt)

      go : (v : Standing) → s.cells p ≡ v → ((pixel_reads s p ≡ reads_true) × HasSolution Q p) ⊎ ((pixel_reads s p ≡ reads_false) × (¬ HasSolution Q p))
      go marked_true f = inl (black (unfold pixel_reads in (reads_true_lem s.taken (s.cells p)).1 f))
      go given_up f = absurd (k f)
      go (named i) f = inr (white ((false_by_cell covers s (steps_sound covers spare r (setup_sound covers z)) p).1
          ((λ g. (let o : ◌≡◌ {A = ℕ} 0 1 = cc in omega arith)), k, none)))
