-- `explaining::begins` meets its contract. Assumes nothing.
use Rattle.image.proofs.RangeLaws.{product_fits}
use Rattle.explain.proofs.BeginLaws.{begins_few, begins_by}
use borrow.Author.Rules.{rules}
use Rattle.explain.proofs.explaining.begins.Goals as goal

pub overflow_mul-p : goal.overflow_mul-p
overflow_mul-p c = record { fits = product_fits _ _ (search rules) (search rules) }

pub returns-then-count-p : goal.returns-then-count-p
returns-then-count-p c =
    let a = c.args in
    begins_few a.p a.ranges a.len a.count c.if-count-p.true

pub returns : goal.returns
returns c =
    let a = c.args in
    begins_by a.p a.ranges a.len a.count c.if-count-p.false c.least_ring.result c.least_ring.ensures.value c.is_ok_and.result _
    (λ need h. search rules) c.is_ok_and.ensures
