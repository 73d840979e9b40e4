-- `rectangle_holds` meets its contract. Assumes nothing.
use mathlib.Core.Path.{sym, ◌∙◌}
use Rattle.image.proofs.CountLaws.{seen_outside, seen_answered}
use Rattle.image.proofs.rectangle_holds.Goals as goal

pub returns-in_err-region : goal.returns-in_err-region
returns-in_err-region c =
    let a = c.args in
    c.from_residual.ensures ∙ sym (seen_outside a.width a.height a.r a.kind a.cells.now c.in_err-region.ensures)

pub returns : goal.returns
returns c =
    let a = c.args in
    let (ready, cells, width, r) = c.in_ok-region.ensures in
    sym (seen_answered a.width a.height a.r a.kind a.cells.now _ ready (rw (cells, width, r) at c.find_in_rows.ensures))
