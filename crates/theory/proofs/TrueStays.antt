-- True stays True: in the sparing mode by itself; in the other because a step that gives up took a block under which nothing was True.
-- With False stays False: a reading only ever changes away from Uncertain. Assumes nothing.
use mathlib.Core.Path.{◌≡◌, refl, sym, ap, ◌∙◌}
use mathlib.Core.Logic.{◌⊎◌, inl, inr}
use mathlib.Core.Bool.{Bool}
use Prim.Native.Nat.{ℕ}
use lib.Dec.{T}
use Rattle.base.proofs.Test.{≡→T, cases}
use Rattle.theory.specs.Cells.{marked_true, PixelReading, reads_true, reads_false, reads_uncertain}
use Rattle.theory.specs.Runs.{Snapshot, AcceptedSetup, FinishedStep, FinishedSteps, no_step, one_more, EveryStep}
use Rattle.theory.specs.Demand3.{pixel_reads, any_gives_up, LooksBeforeGivingUp, CoversAtMostOne, GivesUpAlike, KeepsTrue, GivesUpOnePixel, WholePicture}
use Rattle.theory.proofs.StandingLaws.{reads_true_lem, step_untouched, step_spared, step_unharmed, step_alike}
use Rattle.theory.proofs.Invariant.{AllSound}
use Rattle.theory.proofs.FalseRule.{false_steps}

module _ {Block Pixel : Type 0} (covers : Block → Pixel → Bool) (spare : Bool) where
  -- a cell that was True lies outside the block of a step that gives up
  outside : (s s' : Snapshot Block Pixel) (st : FinishedStep covers spare s s') → LooksBeforeGivingUp covers spare s s' st
      → GivesUpAlike covers spare s s' st
      → T (any_gives_up st.events) → (p : Pixel) → s.cells p ≡ marked_true → ¬ T (covers st.front p)
  unfolding LooksBeforeGivingUp GivesUpAlike
  outside s s' st l a g p e k = let (q, c, n) = l g in n (a g q p c k ∙ e)

  old_step : (s s' : Snapshot Block Pixel) (st : FinishedStep covers spare s s') → LooksBeforeGivingUp covers spare s s' st
      → GivesUpAlike covers spare s s' st
      → (p : Pixel) → s.cells p ≡ marked_true → s'.cells p ≡ marked_true
  old_step s s' st l a p e =
      cases (any_gives_up st.events)
      (λ g. step_untouched covers spare st p (outside s s' st l a (≡→T g) p e) ∙ e)
      (λ g. step_unharmed covers spare st g p e)

  true_cells : {n : ℕ} {s s' : Snapshot Block Pixel} (r : FinishedSteps covers spare n s s') → KeepsTrue covers spare r → (p : Pixel)
      → s.cells p ≡ marked_true → s'.cells p ≡ marked_true
  unfolding EveryStep KeepsTrue
  true_cells no_step h p e = e
  true_cells (one_more r st) (inl h) p e = step_spared covers spare st h p (true_cells r (inl h) p e)
  true_cells (one_more {s' = s'} {s'' = s''} r st) (inr f) p e = old_step s' s'' st f.0.1 f.1.1 p (true_cells r (inr (f.0.0, f.1.0)) p e)

  pub true_steps : {n : ℕ} {s s' : Snapshot Block Pixel} (r : FinishedSteps covers spare n s s') → KeepsTrue covers spare r → (p : Pixel)
      → pixel_reads s p ≡ reads_true → pixel_reads s' p ≡ reads_true
  unfolding pixel_reads
  true_steps {s = s} {s' = s'} r f p e = (reads_true_lem s'.taken (s'.cells p)).1 (true_cells r f p ((reads_true_lem s.taken (s.cells p)).0 e))

  pub away_from_uncertain : {n : ℕ} {s s' : Snapshot Block Pixel} → AllSound covers s → (r : FinishedSteps covers spare n s s')
      → KeepsTrue covers spare r
      → (p : Pixel) → (pixel_reads s' p ≡ pixel_reads s p) ⊎ (pixel_reads s p ≡ reads_uncertain)
  away_from_uncertain {s = s} {s' = s'} sound r f p = go (pixel_reads s p) refl
    where
      go : (v : PixelReading) → pixel_reads s p ≡ v → (pixel_reads s' p ≡ pixel_reads s p) ⊎ (pixel_reads s p ≡ reads_uncertain)
      go reads_true e = inl (true_steps r f p e ∙ sym e)
      go reads_false e = inl (false_steps covers spare sound r p e ∙ sym e)
      go reads_uncertain e = inr e

  -- in a picture that uses neither x nor y all cells are alike
  even_steps : {n : ℕ} {s₀ s : Snapshot Block Pixel} → AcceptedSetup covers s₀ → (r : FinishedSteps covers spare n s₀ s)
      → EveryStep covers spare (WholePicture covers spare) r
      → (p q : Pixel) → s.cells p ≡ s.cells q
  unfolding EveryStep
  even_steps z no_step w p q = z.name_last p ∙ sym (z.name_last q)
  even_steps z (one_more r st) w p q = step_alike covers spare st w.1 p q (even_steps z r w.0 p q)

  pub whole_picture_alike : {n : ℕ} {s₀ s : Snapshot Block Pixel} → AcceptedSetup covers s₀ → (r : FinishedSteps covers spare n s₀ s)
      → EveryStep covers spare (WholePicture covers spare) r
      → EveryStep covers spare (GivesUpAlike covers spare) r
  unfolding EveryStep GivesUpAlike
  whole_picture_alike z no_step w = tt
  whole_picture_alike z (one_more r st) w = (whole_picture_alike z r w.0, (λ g p q a b. even_steps z r w.0 p q))

  pub one_pixel_alike : {n : ℕ} {s s' : Snapshot Block Pixel} (r : FinishedSteps covers spare n s s')
      → EveryStep covers spare (GivesUpOnePixel covers spare) r
      → EveryStep covers spare (GivesUpAlike covers spare) r
  unfolding EveryStep GivesUpOnePixel GivesUpAlike CoversAtMostOne
  one_pixel_alike no_step w = tt
  one_pixel_alike (one_more {s' = s'} r st) w = (one_pixel_alike r w.0, (λ g p q a b. ap s'.cells (w.1 g p q a b)))
