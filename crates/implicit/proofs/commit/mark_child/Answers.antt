-- `commit::mark_child` meets its contract. Assumes nothing.
use Rattle.decide.specs.ChildAt.{child_of}
use Rattle.implicit.proofs.StepLawsChildren.{marked_not, marked_as}
use mathlib.Core.Path.{ap}
use mathlib.Core.Bool.{not}
use Rattle.implicit.proofs.commit.mark_child.Goals as goal

pub returns-then-not-is_marking : goal.returns-then-not-is_marking
returns-then-not-is_marking c =
    let a = c.args in
    let t = c.is_marking in
    marked_not a.p a.cells.now (child_of a.k a.b a.i) a.o t.result t.ensures (ap not c.if-not-is_marking.true)

pub returns : goal.returns
returns c =
    let a = c.args in
    let t = c.is_marking in
    marked_as a.p a.cells.now (child_of a.k a.b a.i) a.o t.result t.ensures (ap not c.if-not-is_marking.false)
    c.child_of-c.result c.paint_at.new.cells c.child_of-c.ensures c.paint_at.ensures
