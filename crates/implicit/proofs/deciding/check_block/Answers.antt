-- `deciding::check_block` meets its contract. Assumes nothing.
use Rattle.implicit.proofs.StepLawsCode.{check_damaged, check_few, check_passed}
use mathlib.Core.Path.{ap}
use mathlib.Core.Bool.{not}
use Rattle.implicit.proofs.deciding.check_block.Goals as goal

pub returns-then-not-is_sound_block : goal.returns-then-not-is_sound_block
returns-then-not-is_sound_block c =
    let a = c.args in
    let t = c.is_sound_block in
    check_damaged a.p a.b a.cells.now a.children a.verdicts a.tape t.result t.ensures (ap not c.if-not-is_sound_block.true)

pub returns-then-not-has_enough : goal.returns-then-not-has_enough
returns-then-not-has_enough c =
    let a = c.args in
    let t = c.is_sound_block in
    let e = c.has_enough in
    check_few a.p a.b a.cells.now a.children a.verdicts a.tape t.result t.ensures (ap not c.if-not-is_sound_block.false)
    e.result e.ensures (ap not c.if-not-has_enough.true)

pub returns : goal.returns
returns c =
    let a = c.args in
    let t = c.is_sound_block in
    let e = c.has_enough in
    check_passed a.p a.b a.cells.now a.children a.verdicts a.tape t.result t.ensures (ap not c.if-not-is_sound_block.false)
    e.result e.ensures (ap not c.if-not-has_enough.false)
