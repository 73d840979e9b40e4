use mathlib.Core.Path.{◌≡◌}
use Prim.Native.Nat.{◌+◌, ◌-◌, ◌≤◌}
use lib.ListN.{length, drop}
use Rattle.decide.specs.Turn.{turned_found}
use Rattle.plan.specs.AtOnce.{children_by}
use Rattle.implicit.specs.StepComputed.{carrying_of, carried_all}
use Rattle.implicit.proofs.commit.carry_children.Given as goal

abbrev pub invariant-loop-i : goal.invariant-loop-i
invariant-loop-i l =
    (l.i ≤ l.k.count) × (length l.ring ≡ length l.initial.ring) × (length l.cells ≡ length l.initial.cells) × (l.next.queued ≤ l.initial.next.queued + l.i)
    × (carried_all l.p l.from (turned_found l.p l.start) l.head l.b (carrying_of l.next l.ring l.cells) (drop l.i (children_by l.k l.b)) (drop l.i l.j.at)
    ≡ carried_all l.p l.from (turned_found l.p l.start) l.head l.b (carrying_of l.initial.next l.initial.ring l.initial.cells) (children_by l.k l.b) l.j.at)

abbrev pub decreases-loop-i : goal.decreases-loop-i
decreases-loop-i l = l.k.count - l.i
