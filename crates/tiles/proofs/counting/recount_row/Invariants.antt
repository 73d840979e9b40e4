use mathlib.Core.Path.{◌≡◌}
use Prim.Native.Nat.{◌+◌, ◌-◌, ◌*◌, ◌≤◌}
use lib.ListN.{length}
use Rattle.image.specs.Cell.{meanings}
use Rattle.image.specs.Range.{in_stretch}
use Rattle.tiles.specs.Tiles.{tiles_along, recounted_where}
use Rattle.tiles.proofs.counting.recount_row.Given as goal

abbrev pub invariant-loop-column : goal.invariant-loop-column
invariant-loop-column l =
    (l.left ≤ l.column) × (l.column ≤ l.right) × (length l.table ≡ length l.initial.table)
    × (recounted_where (in_stretch (l.row * tiles_along l.width + l.column) (l.row * tiles_along l.width + l.right)) l.width l.height l.taken (meanings l.cells) l.table
    ≡ recounted_where (in_stretch (l.row * tiles_along l.width + l.left) (l.row * tiles_along l.width + l.right)) l.width l.height l.taken (meanings l.cells) l.initial.table)

abbrev pub decreases-loop-column : goal.decreases-loop-column
decreases-loop-column l = l.right - l.column
