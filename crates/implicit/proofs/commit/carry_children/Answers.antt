-- `commit::carry_children` meets its contract. The loop's invariant: carrying out what is left makes what carrying out all makes. The measure is the
-- number of children left. Assumes nothing.
use mathlib.Core.Path.{◌≡◌, refl, sym, ap, ◌∙◌}
use native.Mathlib.Omega.{arith}
use Rattle.decide.specs.Turn.{turned_found}
use Rattle.implicit.specs.declared.commit.Behind.{Behind}
use Rattle.implicit.specs.StepComputed.{carrying_of, with_carried}
use Rattle.implicit.proofs.StepLawsChildren.{carried_join, carried_more, carried_on, carried_end, carried_begun}
use Rattle.implicit.proofs.commit.carry_children.Goals as goal
use Rattle.implicit.proofs.commit.carry_children.Goals.{in-Some, in-None}

pub loop-i-init : goal.loop-i-init
loop-i-init c = (omega arith, refl, refl, omega arith, refl)

pub bounds-j-i : goal.bounds-j-i
bounds-j-i c = omega (arith, c.requires.1, c.loop-i-test.true)

pub overflow_add-next : goal.overflow_add-next
overflow_add-next c =
    let t = c.loop-i-test.true in
    omega (arith, c.requires, c.loop-i.invariant.0, c.loop-i.invariant.3, t)

pub loop-i-smaller : goal.loop-i-smaller
loop-i-smaller c = omega (arith, c.loop-i-test.true)

pub loop-i-preserved : goal.loop-i-preserved
loop-i-preserved c =
    let r = c.carry_child in
    let ring = r.new.ring in
    let cells = r.new.cells in
    let t = c.loop-i-test.true in
    let u = c.loop-i.next in
    let v = c.loop-i.invariant in
    let a = c.args in
    let n : carrying_of c.match-carry_child.next ring cells ≡ with_carried u.queued u.used u.back r.result ring cells =
    (elim c.match-carry_child.branch [
      | in-Some w ↦ carried_join u c.match-carry_child.next ring cells r.result _ w.in-Some.is (ap (λ (x : Behind). carrying_of x ring cells) w.next-is)
      | in-None w ↦ carried_join u c.match-carry_child.next ring cells r.result _ w.in-None.is (ap (λ (x : Behind). carrying_of x ring cells) w.next-is)
    ]) in (
      omega (arith, t),
      r.auto.ring ∙ v.1,
      r.auto.cells ∙ v.2,
      omega (arith, v.3, carried_more u c.match-carry_child.next ring cells r.result n),
      carried_on a.g.cut a.g.block a.g.judged.at c.loop-i.i c.requires.1 t _ a.p a.from
          (turned_found a.p c.start_of-start.result) a.g.head (carrying_of u c.loop-i.ring c.loop-i.cells) _ (n ∙ r.ensures) ∙ v.4,
    )

pub returns : goal.returns
returns c =
    let a = c.args in
    sym (carried_end a.g.cut a.g.block a.g.judged.at c.loop-i.i a.p a.from (turned_found a.p c.start_of-start.result) a.g.head
    (carrying_of c.loop-i.next c.loop-i.ring c.loop-i.cells) c.loop-i-test.false)
    ∙ c.loop-i.invariant.4
    ∙ carried_begun a.p a.from a.queued a.back a.ring.now a.cells.now a.g c.start_of-start.result c.put_last.result
    c.start_of-start.ensures c.put_last.ensures
