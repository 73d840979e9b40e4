-- `tiled::step_with_table` meets its contract. Assumes nothing.
use Rattle.implicit.proofs.TiledTests.{never_clean}
use Rattle.implicit.proofs.tiled.step_with_table.Goals as goal

pub step_tiled-requires : goal.step_tiled-requires
step_tiled-requires c =
    let a = c.args in
    (c.is_sound-sound.ensures, never_clean a.s.chosen a.cells.now)

pub returns : goal.returns
returns c = c.step_tiled.ensures
