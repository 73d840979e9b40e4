-- `read_along` meets its contract. Assumes nothing.
use Rattle.std.proofs.Common.{arith, sym, ◌∙◌, drop, length-drop, length-append}
use Rattle.queue.specs.RingComputed.{bytes}
use Rattle.queue.proofs.BlockReading.{along_unused, along_used, used_inside}
use Rattle.queue.proofs.read.read_along.Goals as goal

pub returns-then-not-is_used : goal.returns-then-not-is_used
returns-then-not-is_used c =
    let a = c.args in
    rw c.whole_line.ensures (along_unused a.set a.last (bytes a.held) a.d a.at (sym c.is_used.ensures ∙ c.if-not-is_used.true))

pub returns-in_err-interval : goal.returns-in_err-interval
returns-in_err-interval c =
    let a = c.args in
    c.from_residual.ensures
    ∙ along_used a.set a.last (bytes a.held) a.d a.at _ (sym c.is_used.ensures ∙ c.if-not-is_used.false)
    (rw (c.is_integer.ensures, c.recall.ensures) at c.in_err-interval.ensures)

pub overflow_add-result : goal.overflow_add-result
overflow_add-result c =
    let a = c.args in
    omega (arith, used_inside _ _ (drop a.at (bytes a.held)) _ c.in_ok-interval.count c.in_ok-interval.ensures, length-drop a.at (bytes a.held), length-append a.held.older.now a.held.newer.now)

pub returns : goal.returns
returns c =
    let a = c.args in
    along_used a.set a.last (bytes a.held) a.d a.at _ (sym c.is_used.ensures ∙ c.if-not-is_used.false)
    (rw (c.is_integer.ensures, c.recall.ensures) at c.in_ok-interval.ensures)
