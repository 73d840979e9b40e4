-- `plan::judge_children` meets its contract. The loop's invariant: judging the children from here on makes what judging all makes, and what is
-- counted is small. Assumes nothing.
use mathlib.Core.Path.{ap, ◌∙◌}
use Prim.Native.Nat.{ℕ, min, ◌<◌}
use native.Mathlib.Omega.{arith}
use lib.ListN.{length}
use Rattle.std.proofs.lemmas.List.{get_or-take, length-take}
use Rattle.plan.proofs.JudgeLaws.{judge_on, judge_end, judged_few}
use Rattle.plan.proofs.JudgedLaws.{judged_made}
use Rattle.plan.proofs.judge_children.Goals as goal

pub loop-i-preserved : goal.loop-i-preserved
loop-i-preserved c =
    let a = c.args in
    let s = c.is_alike-same.result in
    let v = c.loop-i.invariant in
    let r = c.judge_child-j in
    let f = judged_few a.p s a.cells.now c.loop-i.j r.result c.loop-i.i _ _ r.ensures v.0 v.1 in
    let n = c.min-n.ensures ∙ ap (λ (m : ℕ). min m (length a.verdicts.now)) c.min.ensures in
    let below : c.loop-i.i < c.min-n.result = omega (arith, c.loop-i-test.true, length-take c.min-n.result a.verdicts.now) in (
      f.0,
      f.1,
      judge_on a.p s a.cells.now a.k a.b a.verdicts.now c.loop-i.j c.loop-i.i c.min-n.result n
          c.place_of-c.result _ r.result below (get_or-take _ a.verdicts.now _ 0 below)
          c.place_of-c.ensures r.ensures ∙ v.2,
    )

pub returns : goal.returns
returns c =
    let a = c.args in
    let s = c.is_alike-same in
    let n = c.min-n.ensures ∙ ap (λ (m : ℕ). min m (length a.verdicts.now)) c.min.ensures in
    judged_made a.p a.b a.k a.verdicts.now a.cells.now s.result c.loop-i.j s.ensures
    (judge_end a.p s.result a.cells.now a.k a.b a.verdicts.now c.loop-i.j c.loop-i.i c.min-n.result n
    (omega (arith, n, length-take c.min-n.result a.verdicts.now, c.loop-i-test.false))
    ∙ c.loop-i.invariant.2)
