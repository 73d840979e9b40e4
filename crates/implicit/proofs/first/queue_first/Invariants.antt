use Prim.Native.Nat.{◌-◌, ◌≤◌}
use Rattle.implicit.proofs.SetupLawsFirst.{product_list}
use Rattle.implicit.proofs.SetupLawsQueueing.{Queueing}
use Rattle.implicit.proofs.first.queue_first.Given as goal

abbrev pub invariant-loop-i : goal.invariant-loop-i
invariant-loop-i l = (l.i ≤ l.n) × Queueing l.p.set (product_list l.f) l.initial.ring l.i l.k l.ring

abbrev pub decreases-loop-i : goal.decreases-loop-i
decreases-loop-i l = l.n - l.i
