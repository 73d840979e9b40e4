-- `read_rest` meets its contract. Assumes nothing.
use Rattle.std.proofs.Common.{◌∙◌}
use Rattle.queue.specs.RingComputed.{bytes}
use Rattle.queue.proofs.BlockReading.{direction_none, direction_some, plain_rest}
use Rattle.queue.proofs.read.read_rest.Goals as goal

pub returns-in_err-dir : goal.returns-in_err-dir
returns-in_err-dir c =
    let a = c.args in
    c.from_residual.ensures ∙ direction_none (bytes a.held) _ a.at c.in_err-dir.ensures
    ∙ plain_rest a.set a.last (bytes a.held) a.x a.y a.at c.if-set-ne0.false

pub returns : goal.returns
returns c =
    let a = c.args in
    rw c.whole_line-line.ensures
    (direction_some (bytes a.held) _ a.at _ c.in_ok-dir.ensures ∙ plain_rest a.set a.last (bytes a.held) a.x a.y a.at c.if-set-ne0.false)
