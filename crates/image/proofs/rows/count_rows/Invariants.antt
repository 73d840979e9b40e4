use mathlib.Core.Path.{◌≡◌}
use Rattle.image.specs.Cell.{meanings, tallied}
use Rattle.image.specs.Painting.{held_cells}
use Rattle.image.specs.RowsComputed.{tally_sum}
use Rattle.image.proofs.RegionLaws.{rows_from}
use Rattle.image.proofs.rows.count_rows.Given as goal

abbrev pub invariant-loop-row : goal.invariant-loop-row
invariant-loop-row l =
    tally_sum l.tally (tallied l.taken (rows_from l.v.width l.v.r l.v.cells.now l.row)) ≡ tallied l.taken (held_cells l.v.width l.v.r (meanings l.v.cells.now))
