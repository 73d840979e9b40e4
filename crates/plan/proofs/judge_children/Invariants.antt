use mathlib.Core.Path.{◌≡◌}
use Prim.Native.Nat.{◌*◌, ◌≤◌}
use Rattle.plan.specs.AtOnce.{children_by}
use Rattle.plan.specs.PlanComputed.{unjudged}
use Rattle.plan.proofs.JudgeLaws.{judged_from, judged_on}
use Rattle.plan.proofs.judge_children.Given as goal

abbrev pub invariant-loop-i : goal.invariant-loop-i
invariant-loop-i l =
    (l.j.evaluations ≤ 6 * l.i) × (l.j.incomplete ≤ l.i)
    × (judged_on l.p l.same l.cells l.k l.fn.b l.verdicts l.j l.i ≡ judged_from l.p l.same l.cells unjudged 0 (children_by l.k l.fn.b) l.verdicts)
