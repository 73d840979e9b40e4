-- `tiled::touch_front` meets its contract. Assumes nothing.
use Rattle.std.proofs.Common.{Err, ap, sym}
use Rattle.std.proofs.lemmas.Result.{err_from_is_err_and}
use Rattle.queue.proofs.QueueAnswers.{take_refused}
use Rattle.implicit.specs.Step.{world_of}
use Rattle.implicit.proofs.TiledTests.{front_empty, front_touch}
use Rattle.implicit.proofs.tiled.touch_front.Goals as goal

pub returns-then-s : goal.returns-then-s
returns-then-s c = let a = c.args in front_empty (world_of a.s a.ring.now a.cells.now) c.if-s.true

pub touch_block-requires : goal.touch_block-requires
touch_block-requires c = c.requires

pub returns-in_err-read : goal.returns-in_err-read
returns-in_err-read c =
    let a = c.args in
    let s = a.s in
    let p = err_from_is_err_and c.from_residual.result c.from_residual.ensures.1 in
    rw (p.1, p.2)
    (front_touch (world_of s a.ring.now a.cells.now) _ _ c.if-s.false c.in_err-read.ensures
    (ap Err (take_refused a.ring.now s.head s.used s.chosen.set s.front _ (sym c.in_err-read.ensures))))

pub returns : goal.returns
returns c =
    let a = c.args in
    front_touch (world_of a.s a.ring.now a.cells.now) _ _ c.if-s.false c.in_ok-read.ensures c.touch_block.ensures
