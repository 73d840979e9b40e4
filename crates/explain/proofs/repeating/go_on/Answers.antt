-- `repeating::go_on` meets its contract. Assumes nothing.
use native.Mathlib.Omega.{arith}
use Rattle.explain.proofs.RepeatLoop.{gone_empty, gone_spent, gone_step}
use Rattle.explain.proofs.repeating.go_on.Goals as goal

pub returns-then-s : goal.returns-then-s
returns-then-s c =
    let a = c.args in
    let e = c.empty_ending in
    gone_empty a.pixel.column a.pixel.row a.p a.ring.now a.cells.now a.tape.now a.budget c.if-s.true e.result e.ensures

pub returns-then-budget-p : goal.returns-then-budget-p
returns-then-budget-p c =
    let a = c.args in
    gone_spent a.pixel.column a.pixel.row a.p a.ring.now a.cells.now a.tape.now a.budget c.if-s.false c.if-budget-p.true

pub go_step-requires : goal.go_step-requires
go_step-requires c =
    (c.requires.0.tape_used, omega (arith, c.if-budget-p.false, c.ranges), c.requires.0.evaluations)

pub returns : goal.returns
returns c =
    let a = c.args in
    let g = c.go_step in
    gone_step a.pixel.column a.pixel.row a.p a.ring.now a.cells.now a.tape.now a.budget c.if-s.false c.if-budget-p.false
    g.result g.new.ring g.new.cells g.ensures
