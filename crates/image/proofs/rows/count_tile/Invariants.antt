use mathlib.Core.Path.{◌≡◌}
use Prim.Native.Nat.{◌+◌}
use Rattle.image.specs.Cell.{meanings, tallied}
use Rattle.image.specs.Painting.{held_cells}
use Rattle.image.specs.RowsComputed.{packed_tally}
use Rattle.image.proofs.RegionLaws.{rows_from}
use Rattle.image.proofs.rows.count_tile.Given as goal

abbrev pub invariant-loop-row : goal.invariant-loop-row
invariant-loop-row l =
    l.packed + packed_tally (tallied (l.last + 1) (rows_from l.v.width l.v.r l.v.cells.now l.row))
    ≡ packed_tally (tallied (l.last + 1) (held_cells l.v.width l.v.r (meanings l.v.cells.now)))
