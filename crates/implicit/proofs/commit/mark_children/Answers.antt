-- `commit::mark_children` meets its contract. The loop's invariant: marking what is left makes what marking all makes. The measure is the number of
-- children left. Assumes nothing.
use mathlib.Core.Path.{refl, sym, ◌∙◌}
use native.Mathlib.Omega.{arith}
use Rattle.implicit.proofs.StepLawsChildren.{marked_on, marked_end}
use Rattle.implicit.proofs.commit.mark_children.Goals as goal

pub loop-i-init : goal.loop-i-init
loop-i-init c = (omega arith, refl, refl)

pub bounds-j-i : goal.bounds-j-i
bounds-j-i c = omega (arith, c.requires, c.loop-i-test.true)

pub loop-i-smaller : goal.loop-i-smaller
loop-i-smaller c = omega (arith, c.loop-i-test.true)

pub loop-i-preserved : goal.loop-i-preserved
loop-i-preserved c =
    let m = c.mark_child in
    let t = c.loop-i-test.true in
    let a = c.args in
    let v = c.loop-i.invariant in (
      omega (arith, t),
      m.auto.cells ∙ v.1,
      marked_on a.g.cut a.g.block a.g.judged.at c.loop-i.i c.requires t _ a.p c.loop-i.cells m.new.cells m.ensures ∙ v.2,
    )

pub returns : goal.returns
returns c =
    let a = c.args in
    sym (marked_end a.g.cut a.g.block a.g.judged.at c.loop-i.i a.p c.loop-i.cells c.loop-i-test.false) ∙ c.loop-i.invariant.2
