use mathlib.Core.Path.{◌≡◌}
use mathlib.Core.List.{map}
use Rattle.image.specs.declared.Op.TheVariants as O
use Rattle.image.specs.RowsComputed.{touched}
use Rattle.image.proofs.PaintLaws.{row_from}
use Rattle.image.proofs.rows.name_row.Given as goal

abbrev pub invariant-loop-cell : goal.invariant-loop-cell
invariant-loop-cell l = row_from (touched (O.Name l.from l.to)) l.cell-index l.row ≡ map (touched (O.Name l.from l.to)) l.initial.row
