use mathlib.Core.Path.{◌≡◌}
use Prim.Native.Nat.{◌-◌, ◌*◌, ◌≤◌}
use lib.ListN.{drop}
use Rattle.decide.specs.Turn.{turned_found}
use Rattle.plan.specs.AtOnce.{children_by}
use Rattle.implicit.specs.StepComputed.{sized_all}
use Rattle.implicit.proofs.fitting.size_of.Given as goal

abbrev pub invariant-loop-i : goal.invariant-loop-i
invariant-loop-i l =
    (l.i ≤ l.k.count) × (l.z.total ≤ 83 * l.i) × (l.z.queued ≤ l.i)
    × (sized_all l.p (turned_found l.p l.start) l.z (drop l.i (children_by l.k l.b)) (drop l.i l.j.at) ≡ sized_all l.p (turned_found l.p l.start) l.initial.z (children_by l.k l.b) l.j.at)

abbrev pub decreases-loop-i : goal.decreases-loop-i
decreases-loop-i l = l.k.count - l.i
