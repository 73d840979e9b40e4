use mathlib.Core.Path.{◌≡◌}
use mathlib.Core.Bool.{true}
use mathlib.Core.List.{List}
use Prim.Native.Nat.{ℕ, ◌-◌}
use lib.Dec.{leb}
use lib.ListN.{length}
use Rattle.implicit.specs.Record.{pixel_count}
use Rattle.implicit.specs.RunComputed.{HowFar, going_on, SoundByUse, Bounded}
use Rattle.implicit.specs.Step.{tape_step_of}
use Rattle.implicit.specs.Run.{RunEnd, run_from}
use Rattle.implicit.proofs.RunLoop.{whole_run}
use Rattle.implicit.proofs.running.take_steps.Given as goal

-- all of the run from a place
abbrev pub whole : ℕ → List ℕ → HowFar → List ℕ → List ℕ → RunEnd
whole = whole_run tape_step_of run_from

abbrev pub invariant-loop-next : goal.invariant-loop-next
invariant-loop-next l =
    Bounded l.budget l.tape (going_on l.p) × (length l.ring ≡ length l.initial.ring) × (length l.cells ≡ length l.initial.cells) × (leb (pixel_count l.p.state.chosen) (length l.cells) ≡ true)
    × (whole l.budget l.tape (going_on l.p) l.ring l.cells ≡ whole l.budget l.tape (going_on l.initial.p) l.initial.ring l.initial.cells) × SoundByUse (length l.ring) l.p.state

abbrev pub decreases-loop-next : goal.decreases-loop-next
decreases-loop-next l = l.budget - l.p.steps
