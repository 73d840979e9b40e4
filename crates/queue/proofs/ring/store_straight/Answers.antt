-- `store_straight` meets its contract: what is left to store from here is what was to store at the start. Assumes
-- nothing.
use mathlib.Core.Path.{◌≡◌, refl, ◌∙◌}
use Prim.Native.Nat.{◌+◌, ◌-◌}
use native.Mathlib.Omega.{arith}
use native.Mathlib.Nat.{add-zero, add_assoc, sub-zero}
use lib.ListN.{length-set}
use Rattle.queue.proofs.RingLaws.{straight_step}
use Rattle.queue.proofs.ring.store_straight.Goals as goal

pub loop-i-init : goal.loop-i-init
loop-i-init c = (omega arith, refl, rw (add-zero, sub-zero))

pub loop-i-preserved : goal.loop-i-preserved
loop-i-preserved c =
    let l = c.loop-i in
    let a = c.args in (
      omega arith,
      simp length-set l.invariant.1,
      rw (← add_assoc a.from l.i 1)
          (straight_step l.ring a.source.now (a.from + l.i) l.i a.count (omega arith) (omega arith)
          ∙ l.invariant.2),
    )

pub shape_of-ring : goal.shape_of-ring
shape_of-ring c = c.loop-i.invariant.1

pub returns : goal.returns
returns c =
    let e : c.args.count - c.loop-i.i ≡ 0 = omega arith in rw e at c.loop-i.invariant.2
