-- `repeating::go_step` meets its contract. Assumes nothing.
use native.Mathlib.Omega.{arith}
use Rattle.explain.proofs.RepeatLoop.{finished_few, tried_finished, tried_refused}
use Rattle.explain.proofs.repeating.go_step.Goals as goal

pub add_step-requires : goal.add_step-requires
add_step-requires c =
    let a = c.args in
    let r = c.tape_step in
    let few = finished_few a.pixel.column a.pixel.row a.p a.ring.now a.cells.now a.tape.now c.in-Ok.f r.new.ring r.new.cells c.in-Ok.ensures
    c.requires.0 in
    (c.requires.1, omega (arith, c.requires.1, c.requires.2, few.1), omega (arith, c.requires.0, c.well_formed, few.0))

pub returns-in-Ok : goal.returns-in-Ok
returns-in-Ok c =
    let a = c.args in
    let r = c.tape_step in
    tried_finished a.pixel.column a.pixel.row a.p a.ring.now a.cells.now a.tape.now c.in-Ok.f r.new.ring r.new.cells c.in-Ok.ensures
    c.note_step-notes.result c.note_step-notes.ensures c.add_step.result c.add_step.ensures

pub returns-in-Err : goal.returns-in-Err
returns-in-Err c =
    let a = c.args in
    let r = c.tape_step in
    tried_refused a.pixel.column a.pixel.row a.p a.ring.now a.cells.now a.tape.now c.in-Err.f r.new.ring r.new.cells c.in-Err.ensures
