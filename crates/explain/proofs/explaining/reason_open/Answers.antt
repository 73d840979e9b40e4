-- `explaining::reason_open` meets its contract. Assumes nothing.
use Rattle.explain.proofs.ReasonLaws.{open_up, open_waits}
use Rattle.explain.proofs.explaining.reason_open.Goals as goal

pub returns-then-up : goal.returns-then-up
returns-then-up c =
    let a = c.args in
    open_up a.s a.ring.now a.number a.up a.at c.if-up.true

pub returns : goal.returns
returns c =
    let a = c.args in
    let n = c.between-before in
    open_waits a.s a.ring.now a.number a.up a.at c.if-up.false n.result n.ensures
    c.block_behind-block.result c.block_behind-block.ensures
