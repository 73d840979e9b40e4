-- `name_row` meets its contract. Assumes nothing.
use mathlib.Core.Path.{sym, ◌∙◌}
use native.Mathlib.Omega.{arith}
use Rattle.image.specs.declared.Op.TheVariants as O
use Rattle.image.specs.RowsComputed.{touched}
use Rattle.image.proofs.PaintLaws.{row_start, row_end, row_pass}
use Rattle.image.proofs.rows.name_row.Goals as goal

pub loop-cell-init : goal.loop-cell-init
loop-cell-init c = let a = c.args in row_start (touched (O.Name a.from a.to)) a.row.now

pub loop-cell-preserved : goal.loop-cell-preserved
loop-cell-preserved c =
    let l = c.loop-cell in
    let a = c.args in
    row_pass (touched (O.Name a.from a.to)) l.cell-index c.name_cell.result l.row (omega arith) c.name_cell.ensures ∙ l.invariant

pub returns : goal.returns
returns c =
    let l = c.loop-cell in
    let a = c.args in
    sym (row_end (touched (O.Name a.from a.to)) l.cell-index l.row (omega arith)) ∙ l.invariant
