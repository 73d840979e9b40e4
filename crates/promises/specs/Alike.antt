-- TWO RINGS: the same chart on two rings, which may have come there by moves; and the statement that it goes on the same on both.
use Rattle.std.specs.Prelude.{◌≡◌, Bool, List, [], ◌∷◌, ℕ}
use Rattle.refusal.specs.declared.Refusal.TheVariants as R
use Rattle.queue.specs.Ring.{content}
use Rattle.implicit.specs.Step.{World, StepEnd, refused, finished, step_with}
use Rattle.implicit.specs.Move.{moved_record}
use Rattle.promises.specs.Steps.{Asked, Steps, no_steps, then_step, then_move}

-- the same, byte for byte, but for the ring: the cells, the record but for the ring's length and its head, and the bytes in use
pub record SameButRing (w v : World) : Type 0 where
  pub cells : w.cells ≡ v.cells
  pub state : moved_record w.state 0 ≡ moved_record v.state 0
  pub bytes : content w.ring w.state.head w.state.used ≡ content v.ring v.state.head v.state.used

-- two ends of a step are alike: the same refusal, or the same chart but for the ring, with the same evaluations and verdict bytes; or one ring was full
unfoldable pub EndsAlike : StepEnd → StepEnd → Type 0
EndsAlike (refused why) (refused also) = why ≡ also
EndsAlike (refused why) (finished v evals bytes) = why ≡ R.Room
EndsAlike (finished w evals bytes) (refused why) = why ≡ R.Room
EndsAlike (finished w evals bytes) (finished v evals' bytes') = SameButRing w v × (evals ≡ evals') × (bytes ≡ bytes')

-- the verdicts that each step was given, the last one first
unfoldable pub verdicts_by_step : {n : ℕ} {w w' : World} → Steps n w w' → List (List ℕ)
verdicts_by_step no_steps = []
verdicts_by_step (then_step r vs evals bytes e) = vs ∷ verdicts_by_step r
verdicts_by_step (then_move r m) = verdicts_by_step r

-- the same setup with another ring
abbrev pub on_ring : Asked → List ℕ → Asked
on_ring a ring = record { chosen = a.chosen; ranges = a.ranges; ring = ring; cells = a.cells }

module _ (a : Asked) (w₀ : World) (ring : List ℕ) (v₀ : World) where
  -- a chart that was moved equals one that was begun on the other ring, byte for byte but for the ring: of two charts begun alike on two rings, whatever
  -- moves were made on each, if their steps were given the same verdicts
  abbrev pub RingsAlike : Type 0
  RingsAlike = (n m : ℕ) (w v : World) (r : Steps n w₀ w) (s : Steps m v₀ v) → verdicts_by_step r ≡ verdicts_by_step s → SameButRing w v

  -- and goes on the same, until a ring is full
  abbrev pub StepsAlike : Type 0
  StepsAlike =
      (n m : ℕ) (w v : World) (r : Steps n w₀ w) (s : Steps m v₀ v) → verdicts_by_step r ≡ verdicts_by_step s
      → (tape : Bool) (vs : List ℕ) → EndsAlike (step_with tape w vs) (step_with tape v vs)
