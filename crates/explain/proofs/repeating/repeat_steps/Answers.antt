-- `repeating::repeat_steps` meets its contract. The loop's invariant: what is left to do and to note, with what was counted and
-- noted, is all of it. The measure: the steps left in the budget. Assumes nothing.
use mathlib.Core.Path.{refl, ◌∙◌}
use Rattle.implicit.specs.Step.{tape_step_of}
use Rattle.implicit.specs.Run.{run_from}
use Rattle.implicit.proofs.RunLoop.{run_start, start_bounded}
use Rattle.explain.specs.declared.repeating.Repeated.{Repeated}
use Rattle.explain.proofs.NoteLaws.{no_notes_by}
use Rattle.explain.proofs.RepeatLoop.{pass_kept, pass_ended, notes_kept, notes_start}
use Rattle.explain.proofs.repeating.repeat_steps.Goals as goal

pub loop-next-init : goal.loop-next-init
loop-next-init c =
    (start_bounded c.args.budget c.args.s c.args.tape.now, refl, refl, c.requires, refl, refl, refl)

pub loop-next-smaller : goal.loop-next-smaller
loop-next-smaller c =
    let l = c.loop-next in
    let a = c.args in
    let g = c.go_on in
    (pass_kept a.budget a.tape.now a.pixel.column a.pixel.row l.p l.ring l.cells g.new.ring g.new.cells l.invariant.0 l.invariant.3
    c.in-Ok.next c.in-Ok.ensures).less

pub loop-next-preserved : goal.loop-next-preserved
loop-next-preserved c =
    let l = c.loop-next in
    let i = l.invariant in
    let a = c.args in
    let g = c.go_on in
    let k = pass_kept a.budget a.tape.now a.pixel.column a.pixel.row l.p l.ring l.cells g.new.ring g.new.cells i.0 i.3 c.in-Ok.next c.in-Ok.ensures in
    let n = notes_kept a.pixel.column a.pixel.row a.budget a.tape.now l.p l.ring l.cells _ g.new.ring g.new.cells c.in-Ok.ensures in
    (k.bounded, k.same_ring ∙ i.1, k.same_cells ∙ i.2, k.enough, k.same_whole ∙ i.4, n ∙ i.5, k.same_chosen ∙ i.6)

pub returns-in-Err : goal.returns-in-Err
returns-in-Err c =
    let l = c.loop-next in
    let i = l.invariant in
    let a = c.args in
    let g = c.go_on in
    let begun : Repeated = record { state = a.s; steps = 0; evaluations = 0; tape = 0; notes = c.default.result } in
    record {
      repeated_to = pass_ended a.budget a.tape.now a.pixel.column a.pixel.row l.p l.ring l.cells g.new.ring g.new.cells i.0 i.3 _ c.in-Err.ensures _
          (i.4 ∙ run_start tape_step_of run_from a.budget a.s a.ring.now a.cells.now a.tape.now);
      notes = notes_kept a.pixel.column a.pixel.row a.budget a.tape.now l.p l.ring l.cells _ g.new.ring g.new.cells c.in-Err.ensures ∙ i.5
          ∙ notes_start a.pixel.column a.pixel.row a.budget a.tape.now begun a.ring.now a.cells.now refl refl
          (no_notes_by c.default.result c.default.ensures);
      chosen = i.6;
    }
