use mathlib.Core.Path.{◌≡◌}
use Prim.Native.Nat.{◌-◌, ◌≤◌}
use lib.ListN.{length}
use Rattle.image.specs.Cell.{meanings}
use Rattle.image.specs.Range.{holds_cell}
use Rattle.image.proofs.RangeLaws.{band}
use Rattle.tiles.specs.Tiles.{tiles_along, recounted_where}
use Rattle.tiles.proofs.counting.recount_rows.Given as goal

abbrev pub invariant-loop-row : goal.invariant-loop-row
invariant-loop-row l =
    (l.row ≤ l.bottom) × (length l.table ≡ length l.initial.table)
    × (recounted_where (holds_cell (tiles_along l.width) (band l.left l.right l.row l.bottom)) l.width l.height l.taken (meanings l.cells) l.table
    ≡ recounted_where (holds_cell (tiles_along l.width) (band l.left l.right l.initial.row l.bottom)) l.width l.height l.taken (meanings l.cells) l.initial.table)

abbrev pub decreases-loop-row : goal.decreases-loop-row
decreases-loop-row l = l.bottom - l.row
