-- What a grey pixel is, what a step leaves as it was, and when no pixel is grey any more: for the engine, cited from `theory`. Assumes nothing.
use mathlib.Core.Path.{◌≡◌, sym, ap, ◌∙◌}
use mathlib.Core.Logic.{◌⊎◌, ⊎_elim, inl, inr, ◌↔◌}
use mathlib.Core.Bool.{false}
use mathlib.Core.List.{List, [], ◌∷◌}
use Prim.Native.Nat.{ℕ, suc, ◌*◌, ◌≤◌}
use lib.Dec.{T}
use Rattle.base.specs.Lists.{Some}
use Rattle.theory.specs.Cells.{reads_true, reads_uncertain}
use Rattle.theory.specs.Demand3.{GivesUpBelow}
use Rattle.theory.specs.Levels.{sum_to, places_along, pixel_figure}
use Rattle.theory.specs.Colours.{DecidedBelow}
use Rattle.theory.proofs.Theorems as Theory
use Rattle.image.specs.declared.Reading.TheVariants as R
use Rattle.queue.specs.declared.Block.{Block}
use Rattle.decide.specs.Turn.{turned_to}
use Rattle.implicit.specs.Setup.{start_level}
use Rattle.implicit.specs.Step.{World, finished, step_of}
use Rattle.promises.specs.Chart.{Pixel, place_of_block, covers_in, queued_blocks}
use Rattle.promises.specs.Steps.{Asked, BegunAs, Steps, reads_in, GivenUpIn, PlaneOnly}
use Rattle.promises.specs.Judgements.{EveryAnswer}
use Rattle.promises.proofs.Standings.{shown}
use Rattle.promises.proofs.Linked.{begun_reached, begun_accepted, steps_reached, in_theory, each_linked, given_up_as, step_linked}
use Rattle.promises.proofs.Demand3.{reads_linked, reads_both}
use Rattle.promises.proofs.NoneWithdrawn.{gives_up_low}
use Rattle.promises.proofs.PlaneBounds.{one_block, queues_children}
use Rattle.promises.proofs.Judgements.{cutting_of}
use Rattle.promises.proofs.ColoursHold.{every_judged, answers_judgements}

-- what is the same but for its direction has the same level
same_level : (c d : Block) → d ≡ turned_to c d.dir → d.x.rank ≡ c.x.rank
same_level c d e = ap (λ (b : Block). b.x.rank) e

-- lists that begin alike
first_of : Block → List Block → Block
first_of d [] = d
first_of d (b ∷ l) = b

module _ (a : Asked) {w₀ : World} (z : BegunAs a w₀) where
  pub grey_exactly : {n : ℕ} {w : World} (r : Steps n w₀ w) (q : Pixel a.chosen)
      → (reads_in a.chosen w q ≡ R.Uncertain)
      ↔ ((¬ (reads_in a.chosen w q ≡ R.True)) × (GivenUpIn a.chosen r q ⊎ Some (λ b. T (covers_in a.chosen b q)) (queued_blocks w)))
  grey_exactly {w = w} r q =
      let h = begun_reached a w₀ z in
      let is = Theory.grey_says (covers_in a.chosen) false (begun_accepted a w₀ z) (in_theory a.chosen h r) q in
      let greys = reads_both a.chosen w q reads_uncertain in
      let trues = reads_both a.chosen w q reads_true in
      let ups = given_up_as a.chosen h r q in (
        (λ e. (let k = is.0 (greys.0 e) in ((λ t. k.0 (trues.0 t)), ⊎_elim (λ u. inl (ups.0 u)) (λ s. inr s) k.1))),
        (λ (not_true, o). greys.1 (is.1 ((λ t. not_true (trues.1 t)), ⊎_elim (λ u. inl (ups.1 u)) (λ s. inr s) o))),
      )

  pub elsewhere_kept : {n : ℕ} {w : World} → Steps n w₀ w → (vs : List ℕ) (left : World) (evals bytes : ℕ) → step_of w vs ≡ finished left evals bytes
      → (b : Block) (rest : List Block) → queued_blocks w ≡ b ∷ rest → (q : Pixel a.chosen) → ¬ T (covers_in a.chosen b q)
      → reads_in a.chosen left q ≡ reads_in a.chosen w q
  unfolding first_of
  elsewhere_kept {w = w} r vs left evals bytes e b rest at q away =
      let h = begun_reached a w₀ z in
      let l = step_linked a.chosen w (steps_reached a.chosen h r) vs left evals bytes e in
      let front : b ≡ l.step.front = ap (first_of b) (sym at ∙ l.step.at_front) in
      reads_linked a.chosen left q
      ∙ ap shown (Theory.elsewhere_stays (covers_in a.chosen) false (begun_accepted a w₀ z) (in_theory a.chosen h r) l.step q (rw (← front) away))
      ∙ sym (reads_linked a.chosen w q)

  -- the customer's sum reached, of a picture of more than one pixel
  pub decided_then : PlaneOnly a.chosen → 1 ≤ start_level a.chosen → {n : ℕ} {w : World} (r : Steps n w₀ w)
      → EveryAnswer a.chosen (DecidedBelow (λ b. b.x.rank) 48) r
      → (sum_to (start_level a.chosen) (λ i. places_along a.chosen.width (suc i) * places_along a.chosen.height (suc i)) ≤ n) ⊎ (queued_blocks w ≡ [])
      → (queued_blocks w ≡ []) × ((q : Pixel a.chosen) → ¬ (reads_in a.chosen w q ≡ R.Uncertain))
  unfolding pixel_figure
  decided_then o some {w = w} r right l =
      let p = a.chosen in
      let h = begun_reached a w₀ z in
      let k = Theory.decided_in_time (covers_in p) (cutting_of p) false place_of_block same_level 48 p.width p.height (start_level p)
      (begun_accepted a w₀ z) (one_block a z o) some (in_theory p h r) (queues_children a z o r)
      (each_linked p h (GivesUpBelow (covers_in p) false (λ b. b.x.rank) 48) (λ v v' vs l. gives_up_low p o.plane v v' vs l) r)
      (every_judged p h r) (answers_judgements p h (DecidedBelow (λ b. b.x.rank) 48) r right) l in
      (k.0, (λ q e. k.1 q ((reads_both p w q reads_uncertain).0 e)))
