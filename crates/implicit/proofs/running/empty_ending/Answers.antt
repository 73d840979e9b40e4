-- `running::empty_ending` meets its contract. Assumes nothing.
use Rattle.implicit.proofs.RunLaws.{ending_as}
use Rattle.implicit.proofs.running.empty_ending.Goals as goal

pub returns-then-unwrap_or : goal.returns-then-unwrap_or
returns-then-unwrap_or c =
    let a = c.args in
    rw c.if-unwrap_or.true at (ending_as a.p a.cells.now _ _ _ c.requires c.whole-all.ensures c.rectangle_holds-given_up.ensures c.unwrap_or.ensures)

pub returns-else-unwrap_or : goal.returns-else-unwrap_or
returns-else-unwrap_or c =
    let a = c.args in
    rw c.if-unwrap_or.false at (ending_as a.p a.cells.now _ _ _ c.requires c.whole-all.ensures c.rectangle_holds-given_up.ensures c.unwrap_or.ensures)
