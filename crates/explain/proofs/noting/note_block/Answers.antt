-- `noting::note_block` meets its contract. Assumes nothing.
use Rattle.explain.proofs.NoteLaws.{block_away, block_here}
use mathlib.Core.Path.{ap}
use mathlib.Core.Bool.{not}
use Rattle.explain.proofs.noting.note_block.Goals as goal

pub returns-then-not-is_covered : goal.returns-then-not-is_covered
returns-then-not-is_covered c =
    let a = c.args in
    block_away a.p a.pixel.column a.pixel.row a.cells.now a.tape.now a.step a.b a.k
    c.is_covered.result c.is_covered.ensures (ap not c.if-not-is_covered.true)

pub returns : goal.returns
returns c =
    let a = c.args in
    let cut = c.cut_of-cut in
    let j = c.judge_children-j in
    let l = c.look_at_children in
    block_here a.p a.pixel.column a.pixel.row a.cells.now a.tape.now a.step a.b a.k
    c.is_covered.result c.is_covered.ensures (ap not c.if-not-is_covered.false)
    cut.result cut.ensures j.result j.ensures l.result l.ensures c.add_look.result c.add_look.ensures
