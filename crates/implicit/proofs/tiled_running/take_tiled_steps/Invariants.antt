use mathlib.Core.Path.{◌≡◌}
use mathlib.Core.Bool.{true}
use mathlib.Core.List.{List}
use Prim.Native.Nat.{ℕ, ◌-◌}
use lib.Dec.{leb}
use lib.ListN.{length}
use Rattle.implicit.specs.Record.{pixel_count}
use Rattle.implicit.specs.Run.{RunEnd}
use Rattle.implicit.specs.RunComputed.{HowFar, going_on, SoundByUse, Bounded}
use Rattle.implicit.specs.Tiled.{tiled_tape_step_of, tiled_run_from}
use Rattle.implicit.specs.TiledComputed.{CleanIf}
use Rattle.implicit.proofs.RunLoop.{whole_run}
use Rattle.implicit.proofs.TiledRun.{table_to_come}
use Rattle.implicit.proofs.tiled_running.take_tiled_steps.Given as goal

-- all of the run from a place
abbrev pub whole : ℕ → ℕ → List ℕ → HowFar → List ℕ → List ℕ → RunEnd
whole room = whole_run (tiled_tape_step_of room) (tiled_run_from room)

abbrev pub invariant-loop-next : goal.invariant-loop-next
invariant-loop-next l =
    Bounded l.budget l.tape (going_on l.p) × (length l.ring ≡ length l.initial.ring) × (length l.cells ≡ length l.initial.cells) × (leb (pixel_count l.p.state.chosen) (length l.cells) ≡ true)
    × (whole (length l.initial.table) l.budget l.tape (going_on l.p) l.ring l.cells ≡ whole (length l.initial.table) l.budget l.tape (going_on l.initial.p) l.initial.ring l.initial.cells) × SoundByUse (length l.ring) l.p.state
    × (length l.table ≡ length l.initial.table) × CleanIf l.clean l.p.state.chosen l.cells
    × (table_to_come l.budget l.tape (going_on l.p) l.ring l.cells l.table ≡ table_to_come l.budget l.tape (going_on l.initial.p) l.initial.ring l.initial.cells l.initial.table)

abbrev pub decreases-loop-next : goal.decreases-loop-next
decreases-loop-next l = l.budget - l.p.steps
