-- `commit::carry_child` meets its contract. Assumes nothing.
use mathlib.Core.Path.{refl}
use Rattle.decide.specs.ChildAt.{child_of}
use Rattle.implicit.proofs.StepLawsChildren.{carried_not, carried_nowhere, carried_queued}
use mathlib.Core.Path.{ap}
use mathlib.Core.Bool.{not}
use Rattle.implicit.proofs.commit.carry_child.Goals as goal

pub returns-then-not-is_incomplete : goal.returns-then-not-is_incomplete
returns-then-not-is_incomplete c =
    let a = c.args in
    let t = c.is_incomplete in
    carried_not a.p a.from a.start a.head a.b a.to a.used a.back a.ring.now a.cells.now
    (child_of a.k a.b a.i) a.o t.result t.ensures (ap not c.if-not-is_incomplete.true)

pub returns-in-Ok : goal.returns-in-Ok
returns-in-Ok c =
    let q = c.append in
    let a = c.args in
    let y = c.paint_at in
    carried_queued a.p a.from a.start a.head a.b a.to a.used a.back a.ring.now a.cells.now
    (child_of a.k a.b a.i) a.o c.is_incomplete.result c.is_incomplete.ensures (ap not c.if-not-is_incomplete.false)
    c.child_of-c.result c.child_of-c.ensures c.find_direction.result c.find_direction.ensures
    _ c.in-Some.is q.result q.new.ring q.ensures.0 q.ensures.1
    _ c.in-Ok.is _ (rw y.ensures)

pub returns-in-Err : goal.returns-in-Err
returns-in-Err c =
    let q = c.append in
    let a = c.args in
    carried_queued a.p a.from a.start a.head a.b a.to a.used a.back a.ring.now a.cells.now
    (child_of a.k a.b a.i) a.o c.is_incomplete.result c.is_incomplete.ensures (ap not c.if-not-is_incomplete.false)
    c.child_of-c.result c.child_of-c.ensures c.find_direction.result c.find_direction.ensures
    _ c.in-Some.is q.result q.new.ring q.ensures.0 q.ensures.1 _ c.in-Err.is _ refl

pub returns-in-None : goal.returns-in-None
returns-in-None c =
    let a = c.args in
    let y = c.paint_at-in-None in
    carried_nowhere a.p a.from a.start a.head a.b a.to a.used a.back a.ring.now a.cells.now
    (child_of a.k a.b a.i) a.o c.is_incomplete.result c.is_incomplete.ensures (ap not c.if-not-is_incomplete.false)
    c.child_of-c.result c.child_of-c.ensures c.find_direction.result c.find_direction.ensures
    y.new.cells c.in-None.is y.ensures
