use mathlib.Core.Path.{◌≡◌}
use mathlib.Core.List.{map}
use Rattle.image.proofs.PaintLaws.{row_from}
use Rattle.image.proofs.rows.fill_row.Given as goal

abbrev pub invariant-loop-cell : goal.invariant-loop-cell
invariant-loop-cell l = row_from (λ n. l.code) l.cell-index l.row ≡ map (λ n. l.code) l.initial.row
