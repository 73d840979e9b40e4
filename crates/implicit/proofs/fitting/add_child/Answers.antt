-- `fitting::add_child` meets its contract. Assumes nothing.
use native.Mathlib.Omega.{arith}
use Rattle.decide.specs.ChildAt.{child_of}
use Rattle.decide.specs.Turn.{turned_found}
use Rattle.implicit.proofs.StepLawsChildren.{sized_not, sized_as}
use mathlib.Core.Path.{ap}
use mathlib.Core.Bool.{not}
use Rattle.implicit.proofs.fitting.add_child.Goals as goal

pub returns-then-not-is_incomplete : goal.returns-then-not-is_incomplete
returns-then-not-is_incomplete c =
    let a = c.args in
    let t = c.is_incomplete in (
      sized_not a.p (turned_found a.p a.start) a.z (child_of a.k a.b a.i) a.o t.result t.ensures (ap not c.if-not-is_incomplete.true),
      omega arith,
      omega arith,
    )

pub returns : goal.returns
returns c =
    let a = c.args in
    let r = c.add_turned in (
      sized_as a.p (turned_found a.p a.start) a.z (child_of a.k a.b a.i) a.o c.is_incomplete.result c.is_incomplete.ensures
          (ap not c.if-not-is_incomplete.false) c.child_of.result r.result c.child_of.ensures r.ensures.0,
      r.ensures.1,
      r.ensures.2,
    )
