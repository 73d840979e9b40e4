-- `fitting::size_of` meets its contract. The loop's invariant: measuring what is left makes what measuring all makes, and what is counted is
-- small. The measure is the number of children left. Assumes nothing.
use mathlib.Core.Path.{refl, sym, ap, ◌∙◌}
use Prim.Native.Nat.{ℕ}
use native.Mathlib.Omega.{arith}
use Rattle.decide.specs.Turn.{turned_found}
use Rattle.plan.specs.AtOnce.{children_by}
use Rattle.implicit.specs.StepComputed.{sized_all}
use Rattle.implicit.proofs.StepLawsChildren.{sized_on, sized_end}
use Rattle.implicit.proofs.fitting.size_of.Goals as goal

pub loop-i-init : goal.loop-i-init
loop-i-init c = (omega arith, omega arith, omega arith, refl)

pub bounds-j-i : goal.bounds-j-i
bounds-j-i c = omega (arith, c.requires, c.loop-i-test.true)

pub add_child-z-requires : goal.add_child-z-requires
add_child-z-requires c =
    (omega (arith, c.requires, c.loop-i.invariant), omega (arith, c.requires, c.loop-i.invariant))

pub loop-i-smaller : goal.loop-i-smaller
loop-i-smaller c = omega (arith, c.loop-i-test.true)

pub loop-i-preserved : goal.loop-i-preserved
loop-i-preserved c =
    let r = c.add_child-z in
    let t = c.loop-i-test.true in
    let a = c.args in
    let v = c.loop-i.invariant in (
      omega (arith, t),
      omega (arith, v.1, r.ensures.1),
      omega (arith, v.2, r.ensures.2),
      sized_on a.g.cut a.g.block a.g.judged.at c.loop-i.i c.requires t _ a.p (turned_found a.p c.start_of-start.result) c.loop-i.z r.result
          r.ensures.0 ∙ v.3,
    )

pub returns : goal.returns
returns c =
    let a = c.args in (
      sym (sized_end a.g.cut a.g.block a.g.judged.at c.loop-i.i a.p (turned_found a.p c.start_of-start.result) c.loop-i.z
          c.loop-i-test.false)
          ∙ c.loop-i.invariant.3
          ∙ ap
          (λ (n : ℕ). sized_all a.p (turned_found a.p n) (record { queued = 0; total = 0; last = a.back })
          (children_by a.g.cut a.g.block) a.g.judged.at) c.start_of-start.ensures,
      omega (arith, c.requires, c.loop-i.invariant),
    )
