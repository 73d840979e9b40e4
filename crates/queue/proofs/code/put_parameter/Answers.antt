-- `put_parameter` meets its contract, case by case. Assumes nothing.
use mathlib.Core.Path.{sym, ◌∙◌}
use Rattle.queue.proofs.WriteLaws.{unused_put, same_put, other_put}
use mathlib.Core.Path.{ap}
use mathlib.Core.Bool.{not}
use Rattle.queue.proofs.code.put_parameter.Goals as goal

pub returns-then-not-used : goal.returns-then-not-used
returns-then-not-used c =
    let a = c.args in unused_put a.out.now a.at a.used a.last a.p (ap not c.if-not-used.true)

pub returns-then-is_same : goal.returns-then-is_same
returns-then-is_same c =
    let a = c.args in
    let w = c.put_mark in
    same_put a.out.now w.new.out a.at w.result a.used a.last a.p (ap not c.if-not-used.false)
    (sym c.is_same.ensures ∙ c.if-is_same.true) w.ensures

pub returns : goal.returns
returns c =
    let a = c.args in
    let w = c.put_bounds in
    other_put a.out.now w.new.out a.at w.result a.used a.last a.p (ap not c.if-not-used.false)
    (sym c.is_same.ensures ∙ c.if-is_same.false) w.ensures
