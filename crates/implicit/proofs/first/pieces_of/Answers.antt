-- `first::pieces_of` meets its contract. Assumes nothing.
use Rattle.implicit.proofs.SetupLawsProduct.{pieces_used, pieces_unused}
use Rattle.implicit.proofs.first.pieces_of.Goals as goal

pub returns-then-is_used : goal.returns-then-is_used
returns-then-is_used c =
    let a = c.args in
    pieces_used a.set a.d a.range c.is_used.result c.is_used.ensures c.is_integer.result c.first_cut.result
    c.if-is_used.true c.is_integer.ensures
    c.first_cut.ensures

pub returns-else-is_used : goal.returns-else-is_used
returns-else-is_used c =
    let a = c.args in
    pieces_unused a.set a.d a.range c.is_used.result c.is_used.ensures c.whole_line.result c.if-is_used.false c.whole_line.ensures
