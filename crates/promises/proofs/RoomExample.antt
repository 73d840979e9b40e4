-- The promises about room, of a chart: the one of ExampleRoom whose ring of nine bytes was full is spared once it was moved. Assumes nothing.
use mathlib.Core.Path.{◌≡◌}
use mathlib.Core.Bool.{Bool}
use mathlib.Core.List.{List, [], ◌∷◌}
use Prim.Native.Nat.{ℕ}
use native.Mathlib.Omega.{arith}
use lib.Dec.{lit<}
use Rattle.implicit.specs.Step.{step_with, step_of, step_answer}
use Rattle.implicit.specs.Answers.{step_number}
use Rattle.promises.specs.Steps.{Steps, no_steps, then_move, to_ring}
use Rattle.promises.proofs.Promises.{never_six}
use Rattle.promises.proofs.ExampleRoom.{nines, narrow, narrow_left, narrow_begun, narrow_full, wide, narrow_moves, enough_for_one}

-- before the move the first step is refused by 6; after it no first step is, whatever the verdicts
pub spared_by_moving : (step_number (step_answer narrow_left.state (step_of narrow_left (64 ∷ 64 ∷ []))) ≡ 6)
    × ((tape : Bool) (vs : List ℕ) → ¬ (step_number (step_answer wide.state (step_with tape wide vs)) ≡ 6))
spared_by_moving =
    let there : Steps 0 narrow_left wide = then_move no_steps (to_ring nines narrow_moves) in
    (narrow_full, never_six narrow narrow_begun 1 0 wide there (lit< tt) (omega (arith, enough_for_one)))
