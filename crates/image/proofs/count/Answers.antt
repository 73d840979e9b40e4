-- `count` meets its contract. Assumes nothing.
use mathlib.Core.Path.{sym, ap, ◌∙◌}
use Rattle.std.specs.Prelude.{Some}
use Rattle.image.proofs.CountLaws.{tally_outside, tally_answered}
use Rattle.image.proofs.count.Goals as goal

pub returns-in_err-region : goal.returns-in_err-region
returns-in_err-region c =
    let a = c.args in
    c.from_residual.ensures ∙ sym (tally_outside a.width a.height a.r a.taken a.cells.now c.in_err-region.ensures)

pub returns : goal.returns
returns c =
    let a = c.args in
    let (ready, cells, width, r) = c.in_ok-region.ensures in
    ap Some (rw (cells, width, r) at c.count_rectangle.ensures) ∙ sym (tally_answered a.width a.height a.r a.taken a.cells.now ready)
