use mathlib.Core.Path.{◌≡◌}
use lib.ListN.{drop}
use Rattle.image.specs.Cell.{meanings, tallied}
use Rattle.image.specs.RowsComputed.{tally_sum}
use Rattle.image.proofs.rows.count_cells.Given as goal

abbrev pub invariant-loop-cell : goal.invariant-loop-cell
invariant-loop-cell l = tally_sum l.tally (tallied l.taken (meanings (drop l.cell-index l.row))) ≡ tallied l.taken (meanings l.row)
