-- `explaining::explain_from` meets its contract. Assumes nothing.
use Rattle.image.proofs.RangeLaws.{product_fits}
use Rattle.explain.proofs.ReasonLaws.{cell_there, index_fits}
use Rattle.explain.proofs.ExplainLaws.{answer_from}
use borrow.Author.Rules.{rules}
use Rattle.explain.proofs.explaining.explain_from.Goals as goal

pub repeat_steps-ending-requires : goal.repeat_steps-ending-requires
repeat_steps-ending-requires c = c.requires.2

pub overflow_mul-at : goal.overflow_mul-at
overflow_mul-at c = record { fits = product_fits _ _ (search rules) (search rules) }

pub overflow_add-at : goal.overflow_add-at
overflow_add-at c =
    let a = c.args in
    record { fits = index_fits a.s.chosen a.pixel.column a.pixel.row (search rules) (search rules) (search rules) }

pub reason_of-reason-requires : goal.reason_of-reason-requires
reason_of-reason-requires c =
    let a = c.args in
    rw c.repeat_steps-ending.auto.cells (cell_there a.s.chosen a.pixel.column a.pixel.row _ c.requires.0 c.requires.1 c.requires.2)

pub returns : goal.returns
returns c =
    let a = c.args in
    let s = c.repeat_steps-ending in
    let r = c.reason_of-reason in
    answer_from a.steps a.pixel.column a.pixel.row a.s a.ring.now a.cells.now a.tape.now c.requires.0 c.requires.1
    s.result.0 s.result.1 s.new.ring s.new.cells s.ensures.repeated_to s.ensures.notes s.ensures.chosen
    r.result r.ensures c.answer.result c.answer.ensures
