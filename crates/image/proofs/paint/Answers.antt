-- `paint` meets its contract. Assumes nothing.
use mathlib.Core.Path.{◌≡◌, refl, sym, ◌∙◌}
use mathlib.Core.Bool.{true, false}
use lib.ListN.{length}
use Rattle.image.specs.Cell.{nameable}
use Rattle.image.specs.Range.{picture_ready}
use Rattle.image.proofs.RangeLaws.{ready_rows}
use Rattle.image.proofs.PaintLaws.{paintable_as, painted_done, painted_not}
use Rattle.image.proofs.paint.Lts
use Rattle.image.proofs.paint.Reads
use Rattle.image.proofs.paint.Tie
use Rattle.image.proofs.paint.Goals as goal

-- the rectangle lies in the picture
ready : (c : Lts.After-is_nameable Tie.the-claims Reads.Pre Reads.Post Tie.handed_clauses)
    → let a = c.args in picture_ready a.width a.height a.r (length a.cells.now) ≡ true
ready c = sym c.is_ready.ensures ∙ c.if-not-is_ready.false

pub returns-then-not-is_ready : goal.returns-then-not-is_ready
returns-then-not-is_ready c =
    let a = c.args in
    let n = length a.cells.now in
    let t = paintable_as a.width a.height a.r a.op n false (nameable a.op) (sym c.is_ready.ensures ∙ c.if-not-is_ready.true) refl in
    record { value = sym t; cells_after = sym (painted_not a.width a.height a.r a.op a.cells.now t) }

pub paint_rows-requires : goal.paint_rows-requires
paint_rows-requires c =
    let a = c.args in
    ready_rows a.width a.height a.r (length a.cells.now) (ready c.before.before)

pub returns-then-is_nameable : goal.returns-then-is_nameable
returns-then-is_nameable c =
    let a = c.args in
    let can = ready c.before.before.before.before.before.before in
    let t = paintable_as a.width a.height a.r a.op (length a.cells.now) true true can (sym c.is_nameable.ensures ∙ c.if-is_nameable.true) in
    record { value = sym t; cells_after = c.paint_rows.ensures ∙ sym (painted_done a.width a.height a.r a.op a.cells.now t) }

pub returns : goal.returns
returns c =
    let a = c.args in
    let can = ready c.before.before in
    let t = paintable_as a.width a.height a.r a.op (length a.cells.now) true false can (sym c.is_nameable.ensures ∙ c.if-is_nameable.false) in
    record { value = sym t; cells_after = sym (painted_not a.width a.height a.r a.op a.cells.now t) }
