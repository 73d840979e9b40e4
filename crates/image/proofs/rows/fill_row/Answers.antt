-- `fill_row` meets its contract. Assumes nothing.
use mathlib.Core.Path.{refl, sym, ◌∙◌}
use native.Mathlib.Omega.{arith}
use Rattle.image.proofs.PaintLaws.{row_start, row_end, row_pass}
use Rattle.image.proofs.rows.fill_row.Goals as goal

pub loop-cell-init : goal.loop-cell-init
loop-cell-init c = let a = c.args in row_start (λ n. a.code) a.row.now

pub loop-cell-preserved : goal.loop-cell-preserved
loop-cell-preserved c =
    let l = c.loop-cell in
    let a = c.args in
    row_pass (λ n. a.code) l.cell-index a.code l.row (omega arith) refl ∙ l.invariant

pub returns : goal.returns
returns c =
    let l = c.loop-cell in
    let a = c.args in
    sym (row_end (λ n. a.code) l.cell-index l.row (omega arith)) ∙ l.invariant
