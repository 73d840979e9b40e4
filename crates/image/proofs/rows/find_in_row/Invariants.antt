use mathlib.Core.Path.{◌≡◌}
use lib.ListN.{drop}
use Rattle.image.specs.Cell.{meanings, of_kind}
use Rattle.image.specs.Painting.{some_of}
use Rattle.image.proofs.rows.find_in_row.Given as goal

abbrev pub invariant-loop-cell : goal.invariant-loop-cell
invariant-loop-cell l = some_of (of_kind l.kind) (meanings (drop l.cell-index l.row)) ≡ some_of (of_kind l.kind) (meanings l.row)
