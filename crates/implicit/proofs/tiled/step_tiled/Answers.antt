-- `tiled::step_tiled` meets its contract. Assumes nothing.
use mathlib.Core.Path.{sym, ◌∙◌}
use Rattle.implicit.specs.Step.{world_of}
use Rattle.implicit.proofs.TiledLaws.{step_tiled, step_tiled_refused, step_untouched}
use Rattle.implicit.proofs.tiled.step_tiled.Goals as goal

pub touch-requires : goal.touch-requires
touch-requires c = c.requires

pub step_known-answer-requires : goal.step_known-answer-requires
step_known-answer-requires c = c.requires.0

pub returns-in-Ok-answer : goal.returns-in-Ok-answer
returns-in-Ok-answer c =
    let a = c.args in
    step_tiled a.tape (world_of a.s a.ring.now a.cells.now) a.table.now a.verdicts.now _ _ _ _ _
    (sym c.touch.ensures ∙ c.in-Ok.is) c.in-Ok-answer.ensures c.recount_touched.ensures

pub returns-in_default : goal.returns-in_default
returns-in_default c =
    let a = c.args in
    rw c.in_default.is
    (step_tiled_refused a.tape (world_of a.s a.ring.now a.cells.now) a.table.now a.verdicts.now _ _ _ _ (sym c.touch.ensures ∙ c.in-Ok.is) c.in_default.ensures)

pub returns-in-Err : goal.returns-in-Err
returns-in-Err c =
    let a = c.args in
    step_untouched a.tape (world_of a.s a.ring.now a.cells.now) a.table.now a.verdicts.now _ (sym c.touch.ensures ∙ c.in-Err.is)
