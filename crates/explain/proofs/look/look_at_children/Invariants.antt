use mathlib.Core.Path.{◌≡◌}
use Prim.Native.Nat.{◌-◌, ◌≤◌}
use Rattle.explain.specs.Reasons.{covers_at}
use Rattle.explain.specs.LookComputed.{unlooked, looked_from}
use Rattle.plan.specs.AtOnce.{children_by}
use Rattle.explain.proofs.LookLaws.{looked_on}
use Rattle.explain.proofs.look.look_at_children.Given as goal

abbrev pub invariant-loop-i : goal.invariant-loop-i
invariant-loop-i l =
    (l.i ≤ l.n)
    × (looked_on l.p (covers_at l.p l.pixel.column l.pixel.row) l.b l.k l.j.at l.start l.l l.i
    ≡ looked_from l.p (covers_at l.p l.pixel.column l.pixel.row) l.start unlooked 1 (children_by l.k l.b) l.j.at)

abbrev pub decreases-loop-i : goal.decreases-loop-i
decreases-loop-i l = l.n - l.i
