-- `running::run` meets its contract. Assumes nothing.
use Rattle.implicit.proofs.RunLaws.{run_damaged, run_short, may_begin, run_done}
use mathlib.Core.Path.{ap}
use mathlib.Core.Bool.{not}
use Rattle.implicit.proofs.running.run.Goals as goal

pub returns-then-not-is_sound : goal.returns-then-not-is_sound
returns-then-not-is_sound c =
    let a = c.args in
    run_damaged a.budget a.s a.ring.now a.cells.now a.tape.now c.is_sound.result c.is_sound.ensures (ap not c.if-not-is_sound.true)

pub returns-then-cells-pixel_count : goal.returns-then-cells-pixel_count
returns-then-cells-pixel_count c =
    let a = c.args in
    run_short a.budget a.s a.ring.now a.cells.now a.tape.now c.is_sound.result c.is_sound.ensures
    (ap not c.if-not-is_sound.false) c.pixel_count.result c.pixel_count.ensures c.if-cells-pixel_count.true

pub take_steps-ending-requires : goal.take_steps-ending-requires
take_steps-ending-requires c =
    let a = c.args in
    may_begin a.budget a.s a.ring.now a.cells.now a.tape.now c.is_sound.result c.is_sound.ensures
    (ap not c.if-not-is_sound.false) c.pixel_count.result c.pixel_count.ensures c.if-cells-pixel_count.false

pub returns : goal.returns
returns c =
    let a = c.args in
    run_done a.budget a.s a.ring.now a.cells.now a.tape.now c.is_sound.result c.is_sound.ensures
    (ap not c.if-not-is_sound.false) c.pixel_count.result c.pixel_count.ensures c.if-cells-pixel_count.false _ c.report.result
    c.take_steps-ending.new.ring c.take_steps-ending.new.cells c.take_steps-ending.ensures c.report.ensures
