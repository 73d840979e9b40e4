use mathlib.Core.Path.{◌≡◌}
use Prim.Native.Nat.{◌-◌, ◌≤◌}
use lib.ListN.{length}
use Rattle.image.proofs.PaintLaws.{paint_from}
use Rattle.image.proofs.rows.paint_rows.Given as goal

abbrev pub invariant-loop-row : goal.invariant-loop-row
invariant-loop-row l =
    (l.initial.row ≤ l.row) × (l.row ≤ l.bottom) × (length l.cells ≡ length l.initial.cells)
    × (paint_from l.width l.left l.right l.row l.bottom l.op l.cells ≡ paint_from l.width l.left l.right l.initial.row l.bottom l.op l.initial.cells)

abbrev pub decreases-loop-row : goal.decreases-loop-row
decreases-loop-row l = l.bottom - l.row
