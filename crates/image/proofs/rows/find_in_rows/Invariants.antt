use mathlib.Core.Path.{◌≡◌}
use Rattle.image.specs.Cell.{meanings, of_kind}
use Rattle.image.specs.Painting.{held_cells, some_of}
use Rattle.image.proofs.RegionLaws.{rows_from}
use Rattle.image.proofs.rows.find_in_rows.Given as goal

abbrev pub invariant-loop-row : goal.invariant-loop-row
invariant-loop-row g l =
    some_of (of_kind l.kind) (rows_from l.v.width l.v.r l.v.cells.now l.row) ≡ some_of (of_kind l.kind) (held_cells l.v.width l.v.r (meanings l.v.cells.now))
