-- `draw_part` meets its contract. Assumes nothing.
use mathlib.Core.Path.{◌∙◌}
use native.Mathlib.Omega.{arith}
use Rattle.image.proofs.DrawLaws.{draw_start, draw_pass, draw_end}
use Rattle.image.proofs.stretches.draw_part.Goals as goal

pub loop-i-init : goal.loop-i-init
loop-i-init c = draw_start _ _ _

pub loop-i-preserved : goal.loop-i-preserved
loop-i-preserved c =
    let l = c.loop-i in
    let a = c.args in
    draw_pass a.taken l.i c.byte_of.result a.cells.now a.out.now l.out (omega arith) (omega arith) l.invariant c.byte_of.ensures

pub returns : goal.returns
returns c = c.loop-i.invariant ∙ draw_end c.args.taken c.loop-i.i c.args.cells.now c.args.out.now (omega arith) c.requires.0
