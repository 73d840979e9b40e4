-- ROOM: a statement for each of its sentences, of a setup that was called with `a` and left the world w₀, and of the finished steps and moves after it.
-- proofs/Promises proves them of every accepted setup; proofs/ExampleRoom computes what they say of small charts.
use Rattle.std.specs.Prelude.{◌≡◌, Bool, List, ℕ, ◌+◌, ◌≤◌, ◌<◌, length}
use Rattle.implicit.specs.Room.{enough_bytes}
use Rattle.implicit.specs.Step.{World, step_with, step_answer}
use Rattle.implicit.specs.Run.{run_of, run_answer}
use Rattle.implicit.specs.Answers.{step_number, run_stop}
use Rattle.promises.specs.Steps.{Asked, Steps}

module _ (a : Asked) (w₀ : World) where
  -- with `enough_ring`'s bytes none of the first n steps from the setup is refused by 6, whatever the verdicts: neither single nor on a tape. The bytes are
  -- those of the ring that the step is made on: without moves it is as long as the setup's
  abbrev pub NeverSix : Type 0
  NeverSix =
      (n m : ℕ) (w : World) → Steps m w₀ w → m < n → enough_bytes a.chosen a.ranges n ≤ length w.ring
      → (tape : Bool) (vs : List ℕ) → ¬ (step_number (step_answer w.state (step_with tape w vs)) ≡ 6)

  -- and no run within these n steps is stopped by 6
  abbrev pub RunsPastSix : Type 0
  RunsPastSix =
      (n m : ℕ) (w : World) → Steps m w₀ w → (budget : ℕ) → m + budget ≤ n → enough_bytes a.chosen a.ranges n ≤ length w.ring
      → (tape : List ℕ) → ¬ (run_stop (run_answer w.state (run_of budget w tape)) ≡ 6)
