-- What calls are given and leave, put together from their arguments and answers: as the promises name it.
use Rattle.std.specs.Prelude.{List, ℕ}
use Rattle.decide.specs.declared.Chosen.{Chosen}
use Rattle.implicit.specs.declared.state.Ranges.{Ranges}
use Rattle.implicit.specs.declared.state.State.{State}
use Rattle.implicit.specs.declared.state.Ending.{Ending}
use Rattle.implicit.specs.Setup.{cleared}
use Rattle.implicit.specs.Step.{world_of}
use Rattle.implicit.specs.Run.{RunEnd}
use Rattle.promises.specs.Steps.{Asked}

-- what a setup with these arguments is called with: of what was chosen it keeps all but the reserved bytes
abbrev pub asked_by : Chosen → Ranges → List ℕ → List ℕ → Asked
asked_by chosen ranges ring cells = record { chosen = cleared chosen; ranges = ranges; ring = ring; cells = cells }

-- the end of a run that answered this record, with the ring and the cells afterwards, so many steps, evaluations and tape bytes, and this ending
abbrev pub ran_to : State → List ℕ → List ℕ → ℕ → ℕ → ℕ → Ending → RunEnd
ran_to s ring cells steps evals bytes ending = record { world = world_of s ring cells; steps = steps; evaluations = evals; tape = bytes; ending = ending }
