-- `walking::block_behind` meets its contract. The loop's invariant: what comes out behind the rest of the way is what comes out
-- behind all of it. Assumes nothing.
use mathlib.Core.Path.{◌≡◌, ap, ◌∙◌}
use Prim.Native.Nat.{◌-◌}
use native.Mathlib.Omega.{arith}
use Rattle.explain.specs.Reasons.{block_behind}
use Rattle.explain.proofs.WalkLaws.{walk_on, walk_end}
use Rattle.explain.proofs.walking.block_behind.Goals as goal

pub loop-i-init : goal.loop-i-init
loop-i-init c =
    let n = c.args.before in
    let e : n - 0 ≡ n = omega arith in
    (omega arith, rw e)

pub loop-i-smaller : goal.loop-i-smaller
loop-i-smaller c = omega (arith, c.loop-i-test.true)

pub loop-i-preserved : goal.loop-i-preserved
loop-i-preserved c =
    let l = c.loop-i in
    let a = c.args in
    let t = c.take_behind-t in (
      omega (arith, c.loop-i-test.true),
      walk_on a.before l._i a.ring.now a.s.chosen.set l.t t.result c.loop-i-test.true t.ensures ∙ l.invariant.1,
    )

pub returns : goal.returns
returns c =
    let l = c.loop-i in
    let a = c.args in
    c.block_of.ensures ∙ walk_end a.before l._i a.ring.now a.s.chosen.set l.t c.loop-i-test.false
    ∙ l.invariant.1
    ∙ ap (block_behind a.before a.ring.now a.s.chosen.set) c.take-t.ensures
