-- `decide::damage::is_legal_parameter` meets its contract. Assumes nothing.
use Rattle.decide.proofs.DamageLaws.{line_legal}
use Rattle.decide.proofs.damage.is_legal_parameter.Goals as goal

pub returns-then-is_same : goal.returns-then-is_same
returns-then-is_same c =
    let a = c.args in
    line_legal a.x c.whole_line.result a.integer c.is_same.result
    c.whole_line.ensures c.is_same.ensures c.if-is_same.true

pub returns : goal.returns
returns c = c.is_legal.ensures
