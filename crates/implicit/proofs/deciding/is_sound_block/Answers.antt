-- `deciding::is_sound_block` meets its contract. Assumes nothing.
use Rattle.implicit.proofs.StepLawsCode.{fine_as}
use Rattle.implicit.proofs.deciding.is_sound_block.Goals as goal

pub returns : goal.returns
returns c =
    let a = c.args in
    fine_as a.p a.b a.cells.now _ _ _ c.requires.0 c.has_damaged_cell.ensures c.unwrap_or.ensures c.requires.1 c.requires.2
