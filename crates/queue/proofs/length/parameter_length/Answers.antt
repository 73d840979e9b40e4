-- `parameter_length` meets its contract, case by case. Assumes nothing.
use mathlib.Core.Path.{sym, ◌∙◌}
use Rattle.queue.specs.Directions.{in_use}
use Rattle.queue.specs.Block.{parameter_of, recalled}
use Rattle.queue.proofs.LengthLaws.{unused_length, same_length, other_length}
use Rattle.queue.proofs.length.parameter_length.Goals as goal

pub returns-then-not-is_used : goal.returns-then-not-is_used
returns-then-not-is_used c =
    let a = c.args in
    unused_length (in_use a.set a.d) (recalled a.last a.d) (parameter_of a.b a.d)
    (sym c.is_used.ensures ∙ c.if-not-is_used.true)

pub returns-then-is_same : goal.returns-then-is_same
returns-then-is_same c =
    let a = c.args in
    let l = c.recall in
    let q = c.parameter_of in
    same_length (in_use a.set a.d) (recalled a.last a.d) (parameter_of a.b a.d) l.result q.result
    (sym c.is_used.ensures ∙ c.if-not-is_used.false) l.ensures q.ensures
    (sym c.is_same.ensures ∙ c.if-is_same.true)

pub returns-else-is_same : goal.returns-else-is_same
returns-else-is_same c =
    let a = c.args in
    let l = c.recall in
    let q = c.parameter_of in
    other_length (in_use a.set a.d) (recalled a.last a.d) (parameter_of a.b a.d) l.result q.result
    (sym c.is_used.ensures ∙ c.if-not-is_used.false) l.ensures q.ensures
    (sym c.is_same.ensures ∙ c.if-is_same.false)
