-- `read_used` meets its contract. Assumes nothing.
use Rattle.std.proofs.Common.{◌+◌, arith, ◌∙◌}
use Rattle.queue.specs.RingComputed.{bytes}
use Rattle.queue.proofs.ReadLaws.{get_none}
use Rattle.queue.proofs.BlockReading.{used_short, used_mark, used_other}
use Rattle.queue.proofs.read.read_used.Goals as goal

pub returns-in_err-first : goal.returns-in_err-first
returns-in_err-first c =
    let a = c.args in
    c.from_residual.ensures
    ∙ used_short (bytes a.held) a.at a.integer a.last (omega (arith, get_none (bytes a.held) a.at c.in_err-first.ensures))

pub returns-in_err-second : goal.returns-in_err-second
returns-in_err-second c =
    let a = c.args in
    c.from_residual-in_err-second.ensures
    ∙ used_short (bytes a.held) a.at a.integer a.last (omega (arith, get_none (bytes a.held) (a.at + 1) c.in_err-second.ensures))

pub returns-then-first-second : goal.returns-then-first-second
returns-then-first-second c =
    let a = c.args in
    used_mark (bytes a.held) a.at a.integer a.last _ _ c.in_ok-first.ensures c.in_ok-second.ensures _ c.if-first-second.true
    c.put.ensures

pub returns : goal.returns
returns c =
    let a = c.args in
    used_other (bytes a.held) a.at a.integer a.last _ _ c.in_ok-first.ensures c.in_ok-second.ensures _ c.if-first-second.false
    c.read_bounds.ensures
