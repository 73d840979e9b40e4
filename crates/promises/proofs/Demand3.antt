-- Demand 3 for the engine, each sentence cited from `theory`; and what the record counts. Assumes nothing.
use mathlib.Core.Path.{◌≡◌, sym, ap, ◌∙◌}
use mathlib.Core.Logic.{◌↔◌}
use mathlib.Core.Bool.{false}
use mathlib.Core.List.{List, ◌++◌}
use Prim.Native.Nat.{ℕ, suc, ◌+◌}
use native.Mathlib.Nat.{zero-add}
use lib.ListN.{length, drop}
use Rattle.theory.specs.Cells.{marked_true, given_up, PixelReading, reads_true, reads_false, standing_reads}
use Rattle.theory.specs.Demand3.{pixel_reads, NoneCovers}
use Rattle.theory.proofs.Theorems as Theory
use Rattle.image.specs.declared.Reading.TheVariants as R
use Rattle.image.specs.Cell.{meanings}
use Rattle.image.specs.Painting.{pixel_cell}
use Rattle.queue.specs.declared.Block.{Block}
use Rattle.decide.specs.declared.Chosen.{Chosen}
use Rattle.implicit.specs.Step.{World}
use Rattle.promises.specs.Chart.{Pixel, covers_in, queued_blocks}
use Rattle.promises.specs.Steps.{Asked, BegunAs, Steps, reads_in, NoneQueuedCovers, GivenUpIn, StandsGivenUp}
use Rattle.promises.specs.Sentences.{FalseRule, FalseStays, LeavesAfter}
use Rattle.promises.proofs.Snapshots.{standing_at, snapshot_of}
use Rattle.promises.proofs.Standings.{shown, reads_as, shown_one, given_up_exactly}
use Rattle.promises.proofs.CellsKept.{PixelsWhole}
use Rattle.promises.proofs.Invariant.{keeps_queue}
use Rattle.promises.proofs.Linked.{begun_reached, begun_accepted, steps_reached, in_theory, queued_as, given_up_as}

-- READINGS

-- the engine shows what `theory` reads
pub reads_linked : (p : Chosen) (w : World) (q : Pixel p) → reads_in p w q ≡ shown (pixel_reads (snapshot_of p w) q)
unfolding reads_in pixel_reads standing_at
reads_linked p w q = reads_as w.state.taken (pixel_cell p.width p.height q.x q.y (meanings w.cells))

-- so it reads r there exactly if it reads r here
pub reads_both : (p : Chosen) (w : World) (q : Pixel p) (r : PixelReading) → (reads_in p w q ≡ shown r) ↔ (pixel_reads (snapshot_of p w) q ≡ r)
reads_both p w q r = ((λ e. shown_one (pixel_reads (snapshot_of p w) q) r (sym (reads_linked p w q) ∙ e)), (λ e. reads_linked p w q ∙ ap shown e))

-- a cell that is True reads True
true_reads : (p : Chosen) (w : World) (q : Pixel p) → standing_at p (meanings w.cells) q ≡ marked_true → reads_in p w q ≡ R.True
unfolding pixel_reads standing_reads
true_reads p w q e = (reads_both p w q reads_true).1 (ap (standing_reads w.state.taken) e)

module _ (a : Asked) {w₀ : World} (z : BegunAs a w₀) where
  pub false_exactly : FalseRule a w₀
  unfolding NoneQueuedCovers NoneCovers
  false_exactly n w r q =
      let h = begun_reached a w₀ z in
      let is = Theory.false_rule (covers_in a.chosen) false (begun_accepted a w₀ z) (in_theory a.chosen h r) q in
      let falses = reads_both a.chosen w q reads_false in
      let trues = reads_both a.chosen w q reads_true in
      let ups = given_up_as a.chosen h r q in (
        (λ e. (let (not_true, not_up, none) = is.0 (falses.0 e) in ((λ t. not_true (trues.0 t)), (λ u. not_up (ups.1 u)), none))),
        (λ (not_true, not_up, none). falses.1 (is.1 ((λ t. not_true (trues.1 t)), (λ u. not_up (ups.0 u)), none))),
      )

  pub false_kept : FalseStays a w₀
  false_kept n m w w' r r' q e =
      let h = begun_reached a w₀ z in
      (reads_both a.chosen w' q reads_false).1
      (Theory.false_stays (covers_in a.chosen) false (begun_accepted a w₀ z) (in_theory a.chosen h r) (in_theory a.chosen (steps_reached a.chosen h r) r') q
      ((reads_both a.chosen w q reads_false).0 e))

  -- the queue afterwards
  pub left_behind : LeavesAfter a w₀
  left_behind d n w w' r r' k =
      let h = steps_reached a.chosen (begun_reached a w₀ z) r in
      Theory.leaves_queue (covers_in a.chosen) false d (in_theory a.chosen h r') k
      ∙ ap (λ (l : List Block). drop (suc d) (queued_blocks w) ++ l) (queued_as a.chosen h r')

  -- the steps are the blocks taken
  pub steps_taken : {n : ℕ} {w : World} → Steps n w₀ w → w.state.taken ≡ n
  steps_taken {n} r =
      let h = begun_reached a w₀ z in
      Theory.steps_counted (covers_in a.chosen) false (in_theory a.chosen h r) ∙ ap (λ (t : ℕ). t + n) (begun_accepted a w₀ z).none_taken ∙ zero-add n

  -- what the record counts
  pub waiting : {n : ℕ} {w : World} → Steps n w₀ w → w.state.taken + length (queued_blocks w) ≡ w.state.queued
  waiting {w = w} r = let h = steps_reached a.chosen (begun_reached a w₀ z) r in rw (keeps_queue w h.blocks h.keeps) h.keeps.count

  -- no pixel's cell is damaged, so what stands in it is given up only where the cell says so
  pub stands : {n : ℕ} {w : World} → Steps n w₀ w → (q : Pixel a.chosen)
      → StandsGivenUp a.chosen w q ↔ (standing_at a.chosen (meanings w.cells) q ≡ given_up)
  unfolding standing_at
  stands {w = w} r q =
      let h = steps_reached a.chosen (begun_reached a w₀ z) r in
      let k : PixelsWhole a.chosen (meanings w.cells) = rw (← h.chosen) h.keeps.whole in
      given_up_exactly (pixel_cell a.chosen.width a.chosen.height q.x q.y (meanings w.cells)) (k q.x q.y q.x_in q.y_in)

  -- given up by the steps and given up now
  pub up_now : {n : ℕ} {w : World} (r : Steps n w₀ w) (q : Pixel a.chosen) → ¬ (reads_in a.chosen w q ≡ R.True)
      → GivenUpIn a.chosen r q ↔ StandsGivenUp a.chosen w q
  up_now {w = w} r q not_true =
      let h = begun_reached a w₀ z in
      let ups = given_up_as a.chosen h r q in
      let now = Theory.given_up_ever_now (covers_in a.chosen) false (begun_accepted a w₀ z) (in_theory a.chosen h r) q (λ e. not_true (true_reads a.chosen w q e)) in
      let cell = stands r q in
      ((λ u. cell.1 (now.0 (ups.1 u))), (λ s. ups.0 (now.1 (cell.0 s))))
