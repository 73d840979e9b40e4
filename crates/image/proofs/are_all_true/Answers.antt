-- `are_all_true` meets its contract. Assumes nothing.
use mathlib.Core.Path.{sym, ap, ◌∙◌}
use Rattle.image.proofs.CountLaws.{opposite, all_opposite}
use Rattle.image.proofs.are_all_true.Goals as goal

pub returns-in_err-unmarked : goal.returns-in_err-unmarked
returns-in_err-unmarked c =
    let a = c.args in
    c.from_residual.ensures ∙ ap opposite c.in_err-unmarked.ensures ∙ sym (all_opposite a.width a.height a.r a.cells.now)

pub returns : goal.returns
returns c =
    let a = c.args in
    ap opposite c.in_ok-unmarked.ensures ∙ sym (all_opposite a.width a.height a.r a.cells.now)
