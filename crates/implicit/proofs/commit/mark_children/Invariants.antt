use mathlib.Core.Path.{◌≡◌}
use Prim.Native.Nat.{◌-◌, ◌≤◌}
use lib.ListN.{length, drop}
use Rattle.plan.specs.AtOnce.{children_by}
use Rattle.implicit.specs.StepComputed.{marked_all}
use Rattle.implicit.proofs.commit.mark_children.Given as goal

abbrev pub invariant-loop-i : goal.invariant-loop-i
invariant-loop-i l =
    (l.i ≤ l.k.count) × (length l.cells ≡ length l.initial.cells)
    × (marked_all l.p l.cells (drop l.i (children_by l.k l.b)) (drop l.i l.j.at) ≡ marked_all l.p l.initial.cells (children_by l.k l.b) l.j.at)

abbrev pub decreases-loop-i : goal.decreases-loop-i
decreases-loop-i l = l.k.count - l.i
