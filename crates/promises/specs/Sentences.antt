-- DEMAND 3, a statement for each of its sentences, one about the share, and one about the colours: of a setup that was called with `a` and left the world
-- w₀, and of the finished steps after it, with moves among them. proofs/Promises proves them of every accepted setup; proofs/Claims and ClaimsShare compute
-- what they say of small charts.
use Rattle.std.specs.Prelude.{◌≡◌, ◌↔◌, ◌++◌, ℕ, suc, ◌*◌, ◌≤◌, ◌<◌, length, drop, Ok}
use Rattle.base.specs.Lists.{Every}
use Rattle.image.specs.declared.Reading.TheVariants as Reads
use Rattle.theory.specs.Demand3.{CoversAtMostOne}
use Rattle.theory.specs.Levels.{sum_to, places_along}
use Rattle.theory.specs.Colours.{HasSolution, FalseRight}
use Rattle.implicit.specs.declared.state.Tally.{Tally}
use Rattle.implicit.specs.Setup.{start_level}
use Rattle.implicit.specs.Step.{World}
use Rattle.implicit.specs.View.{counts_answer}
use Rattle.promises.specs.Chart.{Pixel, covers_in, queued_blocks}
use Rattle.promises.specs.Steps.{Asked, Steps, reads_in, NoneQueuedCovers, GivenUpIn, queued_since, PlaneOnly}
use Rattle.promises.specs.Judgements.{EveryAnswer}
use Rattle.promises.specs.Mixes.{Measures, Mix, question_of}

module _ (a : Asked) (w₀ : World) where
  -- "A pixel reads False exactly if it isn't True, wasn't given up, and no queued block covers it."
  abbrev pub FalseRule : Type 0
  FalseRule =
      (n : ℕ) (w : World) (r : Steps n w₀ w) (q : Pixel a.chosen)
      → (reads_in a.chosen w q ≡ Reads.False)
      ↔ ((¬ (reads_in a.chosen w q ≡ Reads.True)) × (¬ GivenUpIn a.chosen r q) × NoneQueuedCovers a.chosen w q)

  -- "A pixel that reads False stays False."
  abbrev pub FalseStays : Type 0
  FalseStays =
      (n m : ℕ) (w w' : World) → Steps n w₀ w → Steps m w w' → (q : Pixel a.chosen)
      → reads_in a.chosen w q ≡ Reads.False → reads_in a.chosen w' q ≡ Reads.False

  -- "A block with d blocks before it has left the queue after d + 1 further finished steps": it and those before it are gone, those behind it come first,
  -- and behind them stands what was queued since. (By its place: equal blocks may be queued twice.)
  abbrev pub LeavesAfter : Type 0
  LeavesAfter =
      (d n : ℕ) (w w' : World) → Steps n w₀ w → (r : Steps (suc d) w w') → d < length (queued_blocks w)
      → queued_blocks w' ≡ drop (suc d) (queued_blocks w) ++ queued_since r

  -- "If x or y is used and there is no parameter, then once the finished steps reach the sum, over j from 1 to the start level, of ceil(width / 2^j) times
  -- ceil(height / 2^j), no queued block covers more than one pixel."
  abbrev pub PixelBound : Type 0
  PixelBound =
      PlaneOnly a.chosen → (n : ℕ) (w : World) → Steps n w₀ w
      → sum_to (start_level a.chosen) (λ i. places_along a.chosen.width (suc i) * places_along a.chosen.height (suc i)) ≤ n
      → Every (CoversAtMostOne (covers_in a.chosen)) (queued_blocks w)

  -- Document 02, (i): ".. so 1000 appears exactly when every pixel is settled." The counts are answered, and their share is 1000 exactly if no pixel reads
  -- Uncertain
  abbrev pub ShareWhole : Type 0
  ShareWhole =
      (n : ℕ) (w : World) → Steps n w₀ w
      → (t : Tally) × (counts_answer w.state w.cells ≡ Ok t)
      × ((t.share ≡ 1000) ↔ ((q : Pixel a.chosen) → ¬ (reads_in a.chosen w q ≡ Reads.Uncertain)))

module _ (M : Measures) (Solves : Mix M → Type 0) (a : Asked) (w₀ : World) where
  -- if every `false` verdict was right, a pixel that reads False holds no solution
  abbrev pub WhiteMeansNo : Type 0
  WhiteMeansNo =
      (n : ℕ) (w : World) (r : Steps n w₀ w) → EveryAnswer a.chosen (FalseRight (covers_in a.chosen) (question_of M a.chosen a.ranges Solves)) r
      → (q : Pixel a.chosen) → reads_in a.chosen w q ≡ Reads.False → ¬ HasSolution (question_of M a.chosen a.ranges Solves) q
