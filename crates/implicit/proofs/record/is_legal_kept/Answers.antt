-- `record::is_legal_kept` meets its contract. Assumes nothing.
use Rattle.implicit.proofs.RecordLaws.{line_kept}
use Rattle.implicit.proofs.record.is_legal_kept.Goals as goal

pub returns-then-is_same : goal.returns-then-is_same
returns-then-is_same c =
    let a = c.args in
    line_kept a.x c.whole_line.result a.integer c.is_same.result c.whole_line.ensures c.is_same.ensures c.if-is_same.true

pub returns : goal.returns
returns c = c.is_legal.ensures
