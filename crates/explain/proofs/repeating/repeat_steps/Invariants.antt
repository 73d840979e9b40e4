use mathlib.Core.Path.{◌≡◌}
use mathlib.Core.Bool.{true}
use Prim.Native.Nat.{◌-◌}
use lib.Dec.{leb}
use lib.ListN.{length}
use Rattle.implicit.specs.Record.{pixel_count}
use Rattle.explain.specs.RepeatComputed.{BoundedBy}
use Rattle.explain.proofs.RepeatLoop.{whole_repeat, whole_notes}
use Rattle.explain.proofs.repeating.repeat_steps.Given as goal

abbrev pub invariant-loop-next : goal.invariant-loop-next
invariant-loop-next l =
    BoundedBy l.budget l.tape l.p × (length l.ring ≡ length l.initial.ring) × (length l.cells ≡ length l.initial.cells)
    × (leb (pixel_count l.p.state.chosen) (length l.cells) ≡ true)
    × (whole_repeat l.budget l.tape l.p l.ring l.cells ≡ whole_repeat l.budget l.tape l.initial.p l.initial.ring l.initial.cells)
    × (whole_notes l.pixel.column l.pixel.row l.budget l.tape l.p l.ring l.cells
    ≡ whole_notes l.pixel.column l.pixel.row l.budget l.tape l.initial.p l.initial.ring l.initial.cells)
    × (l.p.state.chosen ≡ l.initial.p.state.chosen)

abbrev pub decreases-loop-next : goal.decreases-loop-next
decreases-loop-next l = l.budget - l.p.steps
