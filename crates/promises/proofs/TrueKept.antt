-- True stays True, and a reading only changes away from Uncertain, for the engine, cited from `theory`. Assumes nothing.
use mathlib.Core.Path.{◌≡◌, sym, ap, ◌∙◌}
use mathlib.Core.Logic.{◌⊎◌, inl, inr}
use mathlib.Core.Bool.{false}
use Prim.Native.Nat.{ℕ}
use Rattle.base.proofs.Test.{cases}
use Rattle.theory.specs.Runs.{EveryStep}
use Rattle.theory.specs.Cells.{reads_true, reads_uncertain}
use Rattle.theory.specs.Demand3.{pixel_reads, LooksBeforeGivingUp, GivesUpAlike, GivesUpOnePixel, KeepsTrue}
use Rattle.theory.proofs.Theorems as Theory
use Rattle.image.specs.declared.Reading.TheVariants as R
use Rattle.queue.specs.declared.directions.Direction.TheVariants as D
use Rattle.queue.specs.Directions.{in_use}
use Rattle.implicit.specs.Step.{World}
use Rattle.promises.specs.Chart.{Pixel, covers_in}
use Rattle.promises.specs.Steps.{Asked, BegunAs, Steps, reads_in}
use Rattle.promises.proofs.Snapshots.{snapshot_of}
use Rattle.promises.proofs.Standings.{shown}
use Rattle.promises.proofs.Linked.{Reached, begun_reached, begun_passed, begun_accepted, steps_reached, in_theory, each_linked}
use Rattle.promises.proofs.Demand3.{reads_linked, reads_both}
use Rattle.promises.proofs.NoneWithdrawn.{looks, one_pixel}
use Rattle.promises.proofs.Even.{begun_even, even_steps, even_alike}

module _ (a : Asked) {w₀ : World} (z : BegunAs a w₀) {n : ℕ} {w : World} (r₀ : Steps n w₀ w) where
  abbrev start : Reached a.chosen w
  start = steps_reached a.chosen (begun_reached a w₀ z) r₀

  -- a step that gives up sees cells alike
  alike : {m : ℕ} {w' : World} (r : Steps m w w')
      → EveryStep (covers_in a.chosen) false (GivesUpAlike (covers_in a.chosen) false) (in_theory a.chosen start r)
  alike r =
      cases (in_use a.chosen.set D.XY)
      (λ u. Theory.alike_with_xy (covers_in a.chosen) false (in_theory a.chosen start r)
      (each_linked a.chosen start (GivesUpOnePixel (covers_in a.chosen) false) (λ v v' vs l. one_pixel a.chosen u v v' vs l) r))
      (λ u. (let g = begun_passed a w₀ z in
      even_alike a.chosen u g.width_most g.height_most start (even_steps a.chosen u g.width_most g.height_most (begun_reached a w₀ z) (begun_even a w₀ z u) r₀) r))

  keeps_true : {m : ℕ} {w' : World} (r : Steps m w w') → KeepsTrue (covers_in a.chosen) false (in_theory a.chosen start r)
  unfolding KeepsTrue
  keeps_true r = inr (each_linked a.chosen start (LooksBeforeGivingUp (covers_in a.chosen) false) (λ v v' vs l. looks a.chosen v v' vs l) r, alike r)

  pub true_kept : {m : ℕ} {w' : World} → Steps m w w' → (q : Pixel a.chosen) → reads_in a.chosen w q ≡ R.True → reads_in a.chosen w' q ≡ R.True
  true_kept {w' = w'} r q e =
      (reads_both a.chosen w' q reads_true).1
      (Theory.true_stays (covers_in a.chosen) false (in_theory a.chosen start r) (keeps_true r) q ((reads_both a.chosen w q reads_true).0 e))

  pub from_uncertain : {m : ℕ} {w' : World} → Steps m w w' → (q : Pixel a.chosen)
      → (reads_in a.chosen w' q ≡ reads_in a.chosen w q) ⊎ (reads_in a.chosen w q ≡ R.Uncertain)
  from_uncertain {w' = w'} r q =
      go (Theory.reading_order (covers_in a.chosen) false (begun_accepted a w₀ z) (in_theory a.chosen (begun_reached a w₀ z) r₀) (in_theory a.chosen start r) (keeps_true r) q)
    where
      go : (pixel_reads (snapshot_of a.chosen w') q ≡ pixel_reads (snapshot_of a.chosen w) q) ⊎ (pixel_reads (snapshot_of a.chosen w) q ≡ reads_uncertain)
          → (reads_in a.chosen w' q ≡ reads_in a.chosen w q) ⊎ (reads_in a.chosen w q ≡ R.Uncertain)
      go (inl e) = inl (reads_linked a.chosen w' q ∙ ap shown e ∙ sym (reads_linked a.chosen w q))
      go (inr e) = inr ((reads_both a.chosen w q reads_uncertain).1 e)
