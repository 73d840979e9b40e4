-- `find_in_row` meets its contract. Assumes nothing.
use mathlib.Core.Path.{refl, sym, ◌∙◌}
use native.Mathlib.Omega.{arith}
use Rattle.image.specs.Cell.{of_kind}
use Rattle.image.proofs.CountLaws.{find_next, find_end}
use Rattle.image.proofs.rows.find_in_row.Goals as goal

pub loop-cell-init : goal.loop-cell-init
loop-cell-init c = refl

pub returns-then-is_of : goal.returns-then-is_of
returns-then-is_of c =
    let l = c.loop-cell in
    let a = c.args in
    rw c.if-is_of.true at (find_next (of_kind a.kind) a.row.now l.cell-index _ (omega arith) c.is_of.ensures) ∙ l.invariant

pub loop-cell-preserved : goal.loop-cell-preserved
loop-cell-preserved c =
    let l = c.loop-cell in
    let a = c.args in
    rw c.if-is_of.false at (find_next (of_kind a.kind) a.row.now l.cell-index _ (omega arith) c.is_of.ensures) ∙ l.invariant

pub returns : goal.returns
returns c =
    let l = c.loop-cell in
    let a = c.args in
    sym (find_end (of_kind a.kind) a.row.now l.cell-index (omega arith)) ∙ l.invariant
