-- True means yes: where every mark was right, a pixel that reads True holds a solution. A cell becomes True only under a marked child. Assumes nothing.
use mathlib.Core.Path.{◌≡◌, refl, sym, ◌∙◌}
use mathlib.Core.Bool.{Bool, true, false, cond}
use mathlib.Core.List.{List, [], ◌∷◌, ◌++◌}
use Prim.Native.Nat.{ℕ, suc, ◌+◌}
use native.Mathlib.Omega.{arith}
use lib.Dec.{leb}
use lib.ListN.{length}
use Rattle.base.proofs.Test.{≡→T, cases}
use Rattle.base.specs.Lists.{Every}
use Rattle.theory.specs.Cells.{Standing, marked_true, given_up, named, reads_true, renamed, after_giving_up}
use Rattle.theory.specs.Runs.{Snapshot, Event, AcceptedSetup, cell_after, FinishedStep, FinishedSteps, no_step, one_more, EveryStep}
use Rattle.theory.specs.Demand3.{pixel_reads}
use Rattle.theory.specs.Colours.{Question, HasSolution, OneInEach, skipped, denied, marked, waits_as, stuck, Judgement, judgement, marks_in_order}
use Rattle.theory.specs.Colours.{afterwards, Cutting, Follows, StepByVerdicts, EveryJudgement, MarkRight}
use Rattle.theory.proofs.StandingLaws.{reads_true_lem}
use Rattle.theory.proofs.JudgementLaws.{marked_looked}

true_before_queue : (t m : ℕ) (v : Standing) (k : Bool) → cond k (renamed t m v) v ≡ marked_true → v ≡ marked_true
unfolding renamed
true_before_queue t m v false e = e
true_before_queue t m marked_true true e = refl
true_before_queue t m given_up true e = e
true_before_queue t m (named n) true e = cases (leb t n) (λ f. absurd (no (leb t n) e)) (λ f. absurd (no (leb t n) e))
  where
    no : (j : Bool) → ¬ (cond j (named m) (named n) ≡ marked_true)
    no true f = let z : ◌≡◌ {A = ℕ} 0 1 = cc in omega arith
    no false f = let z : ◌≡◌ {A = ℕ} 0 1 = cc in omega arith

true_before_give : (spare : Bool) (v : Standing) (k : Bool) → cond k (after_giving_up spare v) v ≡ marked_true → v ≡ marked_true
unfolding after_giving_up
true_before_give spare v false e = e
true_before_give spare marked_true true e = refl
true_before_give spare given_up true e = e
true_before_give spare (named n) true e = cc

module _ {Block Pixel : Type 0} (covers : Block → Pixel → Bool) (C : Cutting Block) (Q : Question Block Pixel) (spare : Bool) where
  -- a cell that is True after the marks, or after what follows them, was True before, or its pixel holds a solution
  after_afterwards : (ts : List (Judgement Block)) (t : ℕ) (b : Block) (m : ℕ) (p : Pixel) (v : Standing)
      → cell_after covers spare t b m (afterwards ts) p v ≡ marked_true → v ≡ marked_true
  unfolding afterwards cell_after
  after_afterwards [] t b m p v e = e
  after_afterwards (judgement c u skipped ∷ ts) t b m p v e = after_afterwards ts t b m p v e
  after_afterwards (judgement c u denied ∷ ts) t b m p v e = after_afterwards ts t b m p v e
  after_afterwards (judgement c u marked ∷ ts) t b m p v e = after_afterwards ts t b m p v e
  after_afterwards (judgement c u (waits_as d) ∷ ts) t b m p v e =
      true_before_queue t m v (covers d p) (after_afterwards ts t b (suc m) p (cond (covers d p) (renamed t m v) v) e)
  after_afterwards (judgement c u stuck ∷ ts) t b m p v e =
      true_before_give spare v (covers b p) (after_afterwards ts t b m p (cond (covers b p) (after_giving_up spare v) v) e)

  after_marks : (ts : List (Judgement Block)) → Every (Follows C) ts → Every (MarkRight covers Q) ts
      → (t : ℕ) (b : Block) (m : ℕ) (rest : List (Event Block)) (p : Pixel)
      → ((v : Standing) → cell_after covers spare t b m rest p v ≡ marked_true → v ≡ marked_true)
      → (v : Standing) → (v ≡ marked_true → HasSolution Q p) → cell_after covers spare t b m (marks_in_order ts ++ rest) p v ≡ marked_true → HasSolution Q p
  unfolding marks_in_order Follows MarkRight OneInEach cell_after
  after_marks [] f a t b m rest p k v h e = h (k v e)
  after_marks (judgement c u skipped ∷ ts) f a t b m rest p k v h e = after_marks ts f.1 a.1 t b m rest p k v h e
  after_marks (judgement c u denied ∷ ts) f a t b m rest p k v h e = after_marks ts f.1 a.1 t b m rest p k v h e
  after_marks (judgement c u marked ∷ ts) f a t b m rest p k v h e = after_marks ts f.1 a.1 t b m rest p k (cond (covers c p) marked_true v)
      (go (covers c p) refl) e
    where
      go : (j : Bool) → covers c p ≡ j → cond j marked_true v ≡ marked_true → HasSolution Q p
      go true g i = a.0 (marked_looked Block) f.0 p (≡→T g)
      go false g i = h i
  after_marks (judgement c u (waits_as d) ∷ ts) f a t b m rest p k v h e = after_marks ts f.1 a.1 t b m rest p k v h e
  after_marks (judgement c u stuck ∷ ts) f a t b m rest p k v h e = after_marks ts f.1 a.1 t b m rest p k v h e

  -- every pixel whose cell is True holds a solution
  Shown : Snapshot Block Pixel → Type 0
  Shown s = (p : Pixel) → s.cells p ≡ marked_true → HasSolution Q p

  shown_step : {s s' : Snapshot Block Pixel} (st : FinishedStep covers spare s s') (j : StepByVerdicts covers C spare s s' st)
      → Every (MarkRight covers Q) j.judgements → Shown s → Shown s'
  unfolding Shown
  shown_step {s} st j a h p e =
      after_marks j.judgements j.by_verdict a s.taken st.front (s.taken + length s.queue) (afterwards j.judgements) p
      (λ v g. after_afterwards j.judgements s.taken st.front (s.taken + length s.queue) p v g) (s.cells p) (h p)
      (rw (← j.these_events) (sym (st.cells' p) ∙ e))

  shown_steps : {n : ℕ} {s s' : Snapshot Block Pixel} (r : FinishedSteps covers spare n s s') (j : EveryStep covers spare (StepByVerdicts covers C spare) r)
      → EveryJudgement covers C spare (MarkRight covers Q) r j
      → Shown s → Shown s'
  unfolding EveryStep EveryJudgement
  shown_steps no_step j a h = h
  shown_steps (one_more r st) j a h = shown_step st j.1 a.1 (shown_steps r j.0 a.0 h)

  pub reads_true_solves : {n : ℕ} {s₀ s : Snapshot Block Pixel} → AcceptedSetup covers s₀
      → (r : FinishedSteps covers spare n s₀ s) (j : EveryStep covers spare (StepByVerdicts covers C spare) r)
      → EveryJudgement covers C spare (MarkRight covers Q) r j → (p : Pixel) → pixel_reads s p ≡ reads_true → HasSolution Q p
  unfolding pixel_reads Shown
  reads_true_solves {s = s} z r j a p e =
      shown_steps r j a (λ q f. absurd (let g = z.name_last q in let o : ◌≡◌ {A = ℕ} 0 1 = cc in omega arith)) p ((reads_true_lem s.taken (s.cells p)).0 e)
