-- `name_cell` meets its contract. Assumes nothing.
use mathlib.Core.Path.{sym, ◌∙◌}
use Rattle.base.proofs.Test.{cond_yes, cond_no}
use Rattle.image.proofs.CellLaws.{touched_name}
use Rattle.image.proofs.rows.name_cell.Goals as goal

pub returns-then-from-cell : goal.returns-then-from-cell
returns-then-from-cell c = let a = c.args in sym (touched_name a.from a.to a.cell ∙ cond_yes _ _ _ c.if-from-cell.true)

pub returns-else-from-cell : goal.returns-else-from-cell
returns-else-from-cell c = let a = c.args in sym (touched_name a.from a.to a.cell ∙ cond_no _ _ _ c.if-from-cell.false)
