use mathlib.Core.Path.{◌≡◌}
use Prim.Native.Nat.{◌-◌, ◌≤◌}
use Rattle.implicit.specs.Setup.{least_from}
use Rattle.implicit.proofs.first.start_level.Given as goal

abbrev pub invariant-loop-k : goal.invariant-loop-k
invariant-loop-k l = (l.k ≤ 15) × (least_from (15 - l.k) l.k l.side ≡ least_from 15 0 l.side)

abbrev pub decreases-loop-k : goal.decreases-loop-k
decreases-loop-k l = 15 - l.k
