-- `deciding::judge` meets its contract. Assumes nothing.
use mathlib.Core.Path.{ap, ◌∙◌}
use Rattle.implicit.specs.StepComputed.{decision_judged}
use Rattle.implicit.proofs.StepLawsCode.{judged_refused, judged_gone}
use Rattle.implicit.proofs.deciding.judge.Goals as goal

pub returns-then-not-j : goal.returns-then-not-j
returns-then-not-j c =
    let j = c.judge_children-j in
    let a = c.args in
    judged_refused a.b a.head a.used a.k j.result c.if-not-j.true
    ∙ ap (decision_judged a.b a.head a.used a.k) j.ensures

pub returns : goal.returns
returns c =
    let j = c.judge_children-j in
    let a = c.args in
    judged_gone a.b a.head a.used a.k j.result c.if-not-j.false ∙ ap (decision_judged a.b a.head a.used a.k) j.ensures
