-- `read_cell` meets its contract. Assumes nothing.
use mathlib.Core.Path.{sym, ◌∙◌}
use native.Mathlib.Omega.{arith}
use borrow.Author.Tests.{le-leb, lt-leb}
use Rattle.base.proofs.Test.{cond_yes, cond_no}
use Rattle.image.proofs.CellLaws.{reads_true_lem, reads_beyond, reads_number}
use Rattle.image.proofs.read_cell.Goals as goal

pub returns-then-cell-eq-TRUE : goal.returns-then-cell-eq-TRUE
returns-then-cell-eq-TRUE c = let a = c.args in sym (reads_true_lem a.taken a.cell c.if-cell-eq-TRUE.true)

pub returns-then-cell-gt-TRUE : goal.returns-then-cell-gt-TRUE
returns-then-cell-gt-TRUE c = let a = c.args in sym (reads_beyond a.taken a.cell c.if-cell-gt-TRUE.true)

pub returns-then-taken-cell : goal.returns-then-taken-cell
returns-then-taken-cell c =
    let a = c.args in
    sym (reads_number a.taken a.cell (omega arith) ∙ cond_yes _ _ _ (le-leb _ _ c.if-taken-cell.true))

pub returns-else-taken-cell : goal.returns-else-taken-cell
returns-else-taken-cell c =
    let a = c.args in
    sym (reads_number a.taken a.cell (omega arith) ∙ cond_no _ _ _ (lt-leb _ _ c.if-taken-cell.false))
