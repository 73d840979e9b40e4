use Prim.Native.Nat.{◌-◌, ◌≤◌}
use Rattle.implicit.proofs.SetupLawsFirst.{product_list}
use Rattle.implicit.proofs.SetupLawsWriting.{Measuring}
use Rattle.implicit.proofs.first.measure_first.Given as goal

abbrev pub invariant-loop-i : goal.invariant-loop-i
invariant-loop-i l = (l.i ≤ l.n) × Measuring l.p.set (product_list l.f) l.i l.k

abbrev pub decreases-loop-i : goal.decreases-loop-i
decreases-loop-i l = l.n - l.i
