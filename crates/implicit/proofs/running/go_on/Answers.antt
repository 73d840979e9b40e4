-- `running::go_on` meets its contract. Assumes nothing.
use mathlib.Core.Path.{refl}
use native.Mathlib.Omega.{arith}
use Rattle.implicit.proofs.RunLoop.{once_empty, once_spent, once_step}
use Rattle.implicit.specs.RunComputed.{going_on, next_step}
use Rattle.implicit.proofs.running.go_on.Goals as goal

pub empty_ending-requires : goal.empty_ending-requires
empty_ending-requires c = c.requires.1

pub returns-then-is_empty : goal.returns-then-is_empty
returns-then-is_empty c =
    let a = c.args in
    once_empty a.budget (going_on a.p) a.ring.now a.cells.now (next_step (going_on a.p) a.ring.now a.cells.now a.tape.now) c.is_empty.result c.is_empty.ensures
    _ c.empty_ending.result c.if-is_empty.true c.empty_ending.ensures refl c.requires.2

pub returns-then-budget-p : goal.returns-then-budget-p
returns-then-budget-p c =
    let a = c.args in
    once_spent a.budget (going_on a.p) a.ring.now a.cells.now (next_step (going_on a.p) a.ring.now a.cells.now a.tape.now) c.is_empty.result c.is_empty.ensures
    _ c.if-is_empty.false c.if-budget-p.true refl c.requires.2

pub go_step-requires : goal.go_step-requires
go_step-requires c =
    (c.requires.0.tape_used, omega (arith, c.if-budget-p.false, c.ranges), c.requires.0.evaluations, c.requires.2)

pub returns : goal.returns
returns c =
    let a = c.args in
    once_step a.budget (going_on a.p) a.ring.now a.cells.now (next_step (going_on a.p) a.ring.now a.cells.now a.tape.now) c.is_empty.result c.is_empty.ensures
    _ c.go_step.new.ring c.go_step.new.cells c.if-is_empty.false c.if-budget-p.false
    c.go_step.ensures.0 c.go_step.ensures.1 c.go_step.ensures.2
