-- What follows of a step follows of each step of a run. Assumes nothing.
use mathlib.Core.Bool.{Bool}
use Prim.Native.Nat.{ℕ}
use Rattle.theory.specs.Runs.{Snapshot, FinishedStep, FinishedSteps, no_step, one_more, EveryStep}

module _ {Block Pixel : Type 0} (covers : Block → Pixel → Bool) (spare : Bool)
    (P Q : (s s' : Snapshot Block Pixel) → FinishedStep covers spare s s' → Type 0) where
  pub every_step : ((s s' : Snapshot Block Pixel) (st : FinishedStep covers spare s s') → P s s' st → Q s s' st)
      → {n : ℕ} {s s' : Snapshot Block Pixel} (r : FinishedSteps covers spare n s s') → EveryStep covers spare P r → EveryStep covers spare Q r
  unfolding EveryStep
  every_step f no_step h = tt
  every_step f (one_more {s' = s'} {s'' = s''} r st) h = (every_step f r h.0, f s' s'' st h.1)
