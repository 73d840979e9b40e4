-- `running::take_steps` meets its contract. The loop's invariant: what is left to do, with what was counted, is the run.
-- The measure: the steps left in the budget. Assumes nothing.
use mathlib.Core.Path.{refl, ◌∙◌}
use Rattle.implicit.specs.Step.{tape_step_of}
use Rattle.implicit.specs.Run.{run_from}
use Rattle.implicit.proofs.RunLoop.{pass_kept, pass_ended, run_start, start_bounded}
use Rattle.implicit.proofs.RunLaws.{runs_plainly}
use Rattle.implicit.proofs.running.take_steps.Goals as goal

pub loop-next-init : goal.loop-next-init
loop-next-init c =
    (start_bounded c.args.budget c.args.s c.args.tape.now, refl, refl, c.requires.0, refl, λ u. c.requires.1)

pub go_on-requires : goal.go_on-requires
go_on-requires c =
    let i = c.loop-next.invariant in
    (i.0, i.3, i.5)

pub loop-next-smaller : goal.loop-next-smaller
loop-next-smaller c =
    let l = c.loop-next in
    let a = c.args in
    let g = c.go_on in
    (pass_kept tape_step_of run_from runs_plainly a.budget a.tape.now l.p l.ring l.cells l.invariant.0 l.invariant.3
    c.in-Ok.next g.new.ring g.new.cells c.in-Ok.ensures.0 c.in-Ok.ensures.1).less

pub loop-next-preserved : goal.loop-next-preserved
loop-next-preserved c =
    let l = c.loop-next in
    let i = l.invariant in
    let a = c.args in
    let g = c.go_on in
    let k =
    pass_kept tape_step_of run_from runs_plainly a.budget a.tape.now l.p l.ring l.cells i.0 i.3
    c.in-Ok.next g.new.ring g.new.cells c.in-Ok.ensures.0 c.in-Ok.ensures.1 in
    (k.bounded, k.same_ring ∙ i.1, k.same_cells ∙ i.2, k.enough, k.same_whole ∙ i.4, c.in-Ok.ensures.2)

pub returns-in-Err : goal.returns-in-Err
returns-in-Err c =
    let l = c.loop-next in
    let i = l.invariant in
    let a = c.args in
    let g = c.go_on in
    pass_ended tape_step_of run_from runs_plainly a.budget a.tape.now l.p l.ring l.cells i.0 i.3
    c.in-Err.ending g.new.ring g.new.cells c.in-Err.ensures.0 c.in-Err.ensures.1 _
    (i.4 ∙ run_start tape_step_of run_from a.budget a.s a.ring.now a.cells.now a.tape.now)
