use mathlib.Core.Path.{◌≡◌}
use Prim.Native.Nat.{◌+◌, ◌-◌, ◌≤◌}
use lib.ListN.{length, take, drop}
use lib.Seq.{sets}
use Rattle.queue.proofs.ring.store_straight.Given as goal

abbrev pub invariant-loop-i : goal.invariant-loop-i
invariant-loop-i l =
    (l.i ≤ l.count) × (length l.ring ≡ length l.initial.ring)
    × (sets l.ring (l.from + l.i) (take (l.count - l.i) (drop l.i l.source)) ≡ sets l.initial.ring l.from (take l.count l.source))

abbrev pub decreases-loop-i : goal.decreases-loop-i
decreases-loop-i l = l.count - l.i
